use Rattle.htl_compile.proofs.Words.{tree_of, bounded_tree}
use Rattle.htl_part_tests.proofs.texts.tables_of_tree.Goals as goal

pub resolve-requires : goal.resolve-requires
resolve-requires c = record { bounds = bounded_tree (tree_of c.args.tree.now) c.requires }
