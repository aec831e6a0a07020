use Rattle.htl_refine.proofs.Words.{get_or, starts, path_places, known_few}
use Rattle.htl_compile.proofs.Words.{arith}
use Rattle.htl_part_tests.proofs.tables.accessors_tests.path_position.Goals as goal

pub path_position-requires-clause-position : goal.path_position-requires-clause-position
path_position-requires-clause-position c =
    omega (arith, known_few (get_or (starts c.args.t.now) c.args.j 0) (path_places c.args.t.now c.args.path), c.path_positions-known.ensures)
