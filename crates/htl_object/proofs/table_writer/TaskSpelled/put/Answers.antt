use Rattle.std.proofs.Common.{◌++◌}
use Rattle.htl_object.proofs.{Words.w16, Words.w32, Words.to_be_bytes, Words.name_bytes, Words.flag_bytes, Words.types_bytes, Appends.appends}
use Rattle.htl_object.proofs.table_writer.TaskSpelled.put.Goals as goal

pub returns-clause-spelled : goal.returns-clause-spelled
returns-clause-spelled c =
    let n = c.args.self.now in
    let unit = to_be_bytes w16 n.«module» in
    let flag = flag_bytes n.is_abstract in
    let worst = to_be_bytes w32 n.worst in
    let inputs = types_bytes n.inputs in
    let outputs = types_bytes n.outputs in
    let ends = appends inputs outputs _ _ _ (rw c.as_slice.ensures at c.put_list.ensures.spelled) (rw c.as_slice-2.ensures at c.put_list-2.ensures.spelled) in
    appends (name_bytes n.name) (unit ++ (flag ++ (worst ++ (inputs ++ outputs)))) _ _ _ c.put_name.ensures.spelled
    (appends unit (flag ++ (worst ++ (inputs ++ outputs))) _ _ _ c.put16.ensures.spelled
    (appends flag (worst ++ (inputs ++ outputs)) _ _ _ c.put_flag.ensures (appends worst (inputs ++ outputs) _ _ _ c.put32.ensures.spelled ends)))
