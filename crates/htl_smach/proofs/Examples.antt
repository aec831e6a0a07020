-- A machine that goes through two lists: two positions with 3 and 9 ticks begin at 0, a third with 3 at 10.
use Rattle.std.specs.Prelude.{◌≡◌, ℕ, Bool, true, false, List, [], ◌∷◌, ◌++◌, Option, Some, None, refl}
use Rattle.htl_smach.proofs.Words.{Job, SInstr, Dispatch, Left, PathRun, list_begun, answers_before, told_path, Round}
use Rattle.htl_walk.specs.declared.schedule.SInstr.TheVariants.{End}

abbrev job : ℕ → ℕ → ℕ → ℕ → Job
job i from to worst = record { present = true; inv = i; release = from; end = to; worst = worst; preds = 0 }

abbrev run : List (List ℕ) → PathRun
run untils =
    record {
      start = 100;
      jobs = job 0 0 10 3 ∷ job 1 0 20 9 ∷ job 0 10 20 3 ∷ [];
      lengths = 3 ∷ 9 ∷ 3 ∷ [];
      lists = (Dispatch 0 3 ∷ Dispatch 1 10 ∷ End ∷ []) ∷ (Dispatch 1 12 ∷ Dispatch 2 15 ∷ End ∷ []) ∷ [];
      legs = record { from = 0; to = 10; known = 2 } ∷ record { from = 10; to = 20; known = 3 } ∷ [];
      untils = untils;
    }

abbrev left : ℕ → ℕ → ℕ → ℕ → Bool → Left
left k p from to done = record { at = to; instr = k; position = Some p; slice = Some (from, to); finished = done }

abbrev over : ℕ → Left
over at = record { at = at; instr = 2; position = None; slice = None; finished = false }

records : told_path (run []) ≡ (left 0 0 100 103 true ∷ left 1 1 103 110 false ∷ over 110 ∷ []) ∷ (left 0 1 110 112 true ∷ left 1 2 112 115 true ∷ over 115 ∷ []) ∷ []
records = refl

-- asked four times up to 110, and up to 114 behind that
asked : answers_before (run ((110 ∷ 110 ∷ 110 ∷ 110 ∷ []) ∷ (114 ∷ []) ∷ [])) 2 ≡ left 0 0 100 103 true ∷ left 1 1 103 110 false ∷ over 110 ∷ left 0 1 110 112 true ∷ []
asked = refl

-- the second list begins with what the first left, and with the new position
second : (list_begun (run ((110 ∷ 110 ∷ 110 ∷ []) ∷ [])) 1).point ≡ record { time = 10; left = 0 ∷ 2 ∷ 3 ∷ [] }
second = refl
