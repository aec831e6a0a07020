-- Worked example: tables with the same frame, starts, paths, nodes and jobs, of which not as many are known at the first start.
use Rattle.std.specs.Prelude.{◌≡◌, ℕ, List, [], ◌∷◌, None, false, refl, map, codes, pos}
use Rattle.htl_load.proofs.Words.{AreAlike, Leg, Tables}
use Rattle.htl_model.proofs.{Sources.call, Sources.formula, Sources.int_one, Sources.mode, Sources.module_named, Sources.plain, Sources.task, Words.Arg}
use Rattle.htl_model.specs.{Frames.hyper, Frames.starts, Frames.paths, Frames.nodes, Frames.node, declared.parts.Inv.Inv}
use Rattle.htl_model.specs.declared.parts.End.TheVariants as E
use Rattle.htl_walk.specs.PathJobs.{path_jobs, legs}

-- two root modules, A of period 10 and B of period 20, with these invocations
abbrev tables : List Inv → Tables
tables invs =
    record {
      comms = plain (codes "u") 10 (pos 0) ∷ plain (codes "w") 10 (pos 0) ∷ [];
      modes = mode (codes "m") 0 10 ∷ mode (codes "m") 1 20 ∷ [];
      modules = module_named (codes "A") None 0 ∷ module_named (codes "B") None 1 ∷ [];
      ports = [];
      tasks = task (codes "a") 0 false 5 int_one ∷ task (codes "b") 1 false 5 int_one ∷ [];
      invs = invs;
      switches = [];
      functions = formula (Arg 0 0) ∷ formula (Arg 0 0) ∷ [];
    }

-- one in each round of A
abbrev one_a_round : Tables
one_a_round = tables (call 0 0 None (E.Comm 0 0 ∷ []) (E.Comm 0 1 ∷ []) ∷ [])

-- two in the round of B, one behind the other
abbrev two_a_round : Tables
two_a_round = tables (call 1 1 None (E.Comm 0 0 ∷ []) (E.Comm 0 1 ∷ []) ∷ call 1 1 None (E.Comm 1 1 ∷ []) (E.Comm 1 2 ∷ []) ∷ [])

frame : (hyper one_a_round ≡ hyper two_a_round) × (starts one_a_round ≡ starts two_a_round)
frame = (refl, refl)

ways : (paths one_a_round ≡ paths two_a_round) × (nodes one_a_round ≡ nodes two_a_round) × (node one_a_round 0 1 ≡ node two_a_round 0 1)
ways = (refl, refl, refl)

jobs : AreAlike (path_jobs two_a_round 0) (path_jobs one_a_round 0)
jobs = refl

-- the second job of A is known at 10 alone, so a list from 0 may dispatch B's second and not A's
known : (map (λ (l : Leg). l.known) (legs one_a_round 0) ≡ 1 ∷ 2 ∷ []) × (map (λ (l : Leg). l.known) (legs two_a_round 0) ≡ 2 ∷ 2 ∷ [])
known = (refl, refl)
