use Rattle.std.proofs.Common.{◌++◌}
use Rattle.htl_object.proofs.{Words.w16, Words.w32, Words.to_be_bytes, Words.name_bytes, Appends.appends}
use Rattle.htl_object.proofs.table_writer.ModeSpelled.put.Goals as goal

pub returns-clause-spelled : goal.returns-clause-spelled
returns-clause-spelled c =
    let n = c.args.self.now in
    let unit = to_be_bytes w16 n.«module» in
    let period = to_be_bytes w32 n.period in
    appends (name_bytes n.name) (unit ++ period) _ _ _ c.put_name.ensures.spelled (appends unit period _ _ _ c.put16.ensures.spelled c.put32.ensures.spelled)
