-- Functions in memory are code where those of the tables are.
use Rattle.std.proofs.Common.{zero, suc, List, [], ◌∷◌, map, All, arith}
use Rattle.htl_model.proofs.Words.{Function, IsCode, HoldsCode, fun_of}

pub code_held : (fs : List Function) → All IsCode (map fun_of fs) → All HoldsCode fs
code_held [] h k d l = absurd (omega (arith, l))
code_held (f ∷ fs) h zero d l = h 0 (fun_of d) (omega arith)
code_held (f ∷ fs) h (suc k) d l = code_held fs (λ j e m. h (suc j) e (omega (arith, m))) k d (omega (arith, l))
