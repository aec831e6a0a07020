use Rattle.std.proofs.Common.{◌≡◌, map, take, ℤ, Vec, Global}
use Rattle.htl_emach.specs.Contents.{output_row}
use Rattle.htl_emach.proofs.first_world.output_rows.Given as goal

abbrev pub invariant-loop-k : goal.invariant-loop-k
invariant-loop-k l = map (λ (r : Vec ℤ Global). r.items) l.rows.items ≡ map (output_row l.t) (take l.k l.invs)
