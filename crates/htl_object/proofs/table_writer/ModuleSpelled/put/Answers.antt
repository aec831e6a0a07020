use Rattle.std.proofs.Common.{◌++◌}
use Rattle.htl_object.proofs.{Words.w16, Words.to_be_bytes, Words.name_bytes, Words.option_bytes, Appends.appends}
use Rattle.htl_object.proofs.table_writer.ModuleSpelled.put.Goals as goal

pub returns-clause-spelled : goal.returns-clause-spelled
returns-clause-spelled c =
    let n = c.args.self.now in
    let parent = option_bytes n.parent in
    let start = to_be_bytes w16 n.start in
    appends (name_bytes n.name) (parent ++ start) _ _ _ c.put_name.ensures.spelled (appends parent start _ _ _ c.put_option.ensures c.put16.ensures.spelled)
