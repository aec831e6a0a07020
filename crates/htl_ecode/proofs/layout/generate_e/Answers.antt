use Rattle.std.proofs.Common.{◌≡◌, IfOk, rules}
use Rattle.htl_ecode.specs.Layout.{layout}
use Rattle.htl_ecode.proofs.SpellingLaws.{made_spells}
use Rattle.htl_ecode.proofs.layout.generate_e.Goals as goal

pub returns-clause-spells : goal.returns-clause-spells
returns-clause-spells c =
    let made : IfOk c.map_err.result (λ code. code ≡ layout c.args.t.now) = search rules in
    made_spells c.args.t.now c.map_err.result made
