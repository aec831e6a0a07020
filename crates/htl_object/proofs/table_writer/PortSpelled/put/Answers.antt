use Rattle.std.proofs.Common.{◌++◌}
use Rattle.htl_object.proofs.{Words.w16, Words.to_be_bytes, Words.name_bytes, Words.type_bytes, Appends.appends}
use Rattle.htl_object.proofs.table_writer.PortSpelled.put.Goals as goal

pub returns-clause-spelled : goal.returns-clause-spelled
returns-clause-spelled c =
    let n = c.args.self.now in
    let mode = to_be_bytes w16 n.mode in
    let type = type_bytes n.ty in
    appends (name_bytes n.name) (mode ++ type) _ _ _ c.put_name.ensures.spelled (appends mode type _ _ _ c.put16.ensures.spelled c.put.ensures.spelled)
