use Rattle.std.proofs.Common.{◌≡◌, map, take, ℤ, Vec, Global}
use Rattle.htl_emach.specs.Contents.{input_row}
use Rattle.htl_emach.proofs.first_world.input_rows.Given as goal

abbrev pub invariant-loop-k : goal.invariant-loop-k
invariant-loop-k l = map (λ (r : Vec ℤ Global). r.items) l.rows.items ≡ map (input_row l.t) (take l.k l.invs)
