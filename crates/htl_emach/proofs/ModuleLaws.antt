-- What holds of one module in a phase of an instant.
use Rattle.std.specs.Prelude.{◌≡◌, ℕ, suc, cond, eqb, List, [], Option, Some, None}
use Rattle.htl_emach.proofs.Words.{Event, Tables, ECode, on, Trigger, Calendar, with_trigger, target_at, Entry, Between, entry_before, entry_after, old_stay, new_stay, phase_blocks, BlockRuns}

abbrev pub trigger_in : ℕ → Entry → Option Trigger
trigger_in phase e = cond (eqb phase 1) e.write (cond (eqb phase 2) e.switch e.read)

-- the target of the trigger of module j, where it is due, and the blocks of the modules below j are done
abbrev pub due_target : Tables → ECode → List Event → ℕ → ℕ → ℕ → Option ℕ
due_target t code es now phase j =
    target_at now (trigger_in phase (entry_before t code now phase j j (old_stay t es now j) (new_stay t es now j)))

-- what holds of module j in a phase of an instant
pub record ModuleLaws (t : Tables) (code : ECode) (es : List Event) (now phase j : ℕ) : Type 0 where
  -- once its block is done its trigger isn't due again
  pub passed : target_at now (trigger_in phase (entry_after t code now phase j (old_stay t es now j) (new_stay t es now j))) ≡ None
  -- where it isn't due there is no block, and nothing changes
  pub idle : due_target t code es now phase j ≡ None → (phase_blocks t code es now phase j ≡ []) × ((c : Calendar) → Between t code es now phase c j → Between t code es now phase c (suc j))
  -- where it is due its target begins the block
  pub busy : (a : ℕ) → due_target t code es now phase j ≡ Some a →
      (xs : List ℕ) × (phase_blocks t code es now phase j ≡ on j xs) × ((c : Calendar) → Between t code es now phase c j → BlockRuns t code es now phase (with_trigger phase j None c) j a xs)
