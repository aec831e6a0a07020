use Rattle.std.proofs.Common.{◌++◌}
use Rattle.htl_object.proofs.{Words.w32, Words.to_be_bytes, Words.name_bytes, Words.type_bytes, Words.flag_bytes, Words.value_bytes, Appends.appends}
use Rattle.htl_object.proofs.table_writer.CommSpelled.put.Goals as goal

pub returns-clause-spelled : goal.returns-clause-spelled
returns-clause-spelled c =
    let n = c.args.self.now in
    let value = value_bytes n.init in
    let period = to_be_bytes w32 n.period in
    let flag = flag_bytes n.sensor in
    let type = type_bytes n.ty in
    appends (name_bytes n.name) (type ++ (flag ++ (period ++ value))) _ _ _ c.put_name.ensures.spelled
    (appends type (flag ++ (period ++ value)) _ _ _ c.put.ensures.spelled
    (appends flag (period ++ value) _ _ _ c.put_flag.ensures (appends period value _ _ _ c.put32.ensures.spelled c.put_value.ensures.spelled)))
