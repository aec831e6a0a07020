use Rattle.std.proofs.Common.{arith, length, ap}
use Rattle.htl_parse.proofs.Standing.{length-at}
use Rattle.htl_parse.proofs.cursor.Cursor.remaining.Goals as goal

pub returns : goal.returns
returns c =
    let left = length-at c.self.inside.place c.self.inside.place c.self.inside.tokens.now.tokens in
    let seen = ap length c.self.view_is in
    let all = c.len.ensures.value in
    omega (arith, left, seen, all)
