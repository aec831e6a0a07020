-- The definitions compute: an object of two root modules of periods 10 and 20, which has a schedule for each of two nodes.
use Rattle.std.proofs.Common.{◌≡◌, ℕ, true, false, pos, List, [], ◌∷◌, Option, Some, None, Ok, refl}
use Rattle.htl_object.proofs.Words.{codes, Int, nodes, selection_count, Tables, Compiled, first_bad, is_node_count, object_bytes, object_in, Index, Object, Schedule}
use Rattle.htl_model.specs.declared.function.FInstr.TheVariants as F
use Rattle.htl_model.specs.declared.parts.End.TheVariants as E
use Rattle.htl_walk.specs.declared.schedule.SInstr.TheVariants as S

-- module F computes u anew in each of its rounds, of so many ticks, and module G w in each of its own
abbrev two : ℕ → ℕ → Tables
two p q =
    record {
      comms = record { name = codes "u"; ty = Int; sensor = false; period = 10; init = pos 1 } ∷ record { name = codes "w"; ty = Int; sensor = false; period = 10; init = pos 0 } ∷ [];
      modes = record { name = codes "m"; «module» = 0; period = p } ∷ record { name = codes "m"; «module» = 1; period = q } ∷ [];
      modules = record { name = codes "F"; parent = None; start = 0 } ∷ record { name = codes "G"; parent = None; start = 1 } ∷ [];
      ports = [];
      tasks = record { name = codes "a"; «module» = 0; is_abstract = false; worst = 3; inputs = Int ∷ []; outputs = Int ∷ [] }
          ∷ record { name = codes "b"; «module» = 1; is_abstract = false; worst = 9; inputs = Int ∷ []; outputs = Int ∷ [] } ∷ [];
      invs = record { mode = 0; task = 0; parent = None; reads = E.Comm 0 0 ∷ []; writes = E.Comm 0 1 ∷ [] } ∷ record { mode = 1; task = 1; parent = None; reads = E.Comm 0 0 ∷ []; writes = E.Comm 1 2 ∷ [] } ∷ [];
      switches = [];
      functions = Compiled (record { args = Int ∷ []; want = Int; instrs = F.Arg 0 ∷ F.Int (pos 1) ∷ F.Add ∷ [] }) ∷ Compiled (record { args = Int ∷ []; want = Int; instrs = F.Arg 0 ∷ F.Int (pos 10) ∷ F.Mul ∷ [] }) ∷ [];
    }

abbrev first : Schedule
first = record { instrs = S.Dispatch 0 3 ∷ S.Dispatch 1 10 ∷ S.End ∷ [] }

abbrev second : Schedule
second = record { instrs = S.Dispatch 1 12 ∷ S.Dispatch 2 15 ∷ S.End ∷ [] }

abbrev with : Option (List ℕ) → List Schedule → Object
with platform schedules = record { tables = two 10 20; ecode = record { enter = 0 ∷ 0 ∷ []; begin = 0 ∷ 0 ∷ []; decide = 0 ∷ 0 ∷ []; instrs = [] }; schedules = schedules; platform = platform }

two_nodes : nodes (two 10 20) ≡ 2
two_nodes = refl

one_selection : selection_count (two 10 20) ≡ 1
one_selection = refl

-- ---- both versions, read and written again

abbrev both : List Schedule
both = first ∷ second ∷ []

said : object_in (object_bytes (with None both)) ≡ Ok (with None both)
said = refl

said_for_platform : object_in (object_bytes (with (Some (codes "fast")) both)) ≡ Ok (with (Some (codes "fast")) both)
said_for_platform = refl

-- a schedule for the one root selection is too few
abbrev alone : List ℕ
alone = object_bytes (with None (first ∷ []))

too_few : first_bad alone ≡ Some (record { offset = 224; kind = Index })
too_few = refl

-- ---- the limits of frames

as_many_starts_as_there_may_be : is_node_count (two 10 320) 32 ≡ true
as_many_starts_as_there_may_be = refl

-- no count is in range
one_start_more : is_node_count (two 10 330) 33 ≡ false
one_start_more = refl
