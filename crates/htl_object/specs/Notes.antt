-- What is noted of the items before the next.
use Rattle.std.specs.Prelude.{◌≡◌, ◌<◌, ◌≤◌, ◌==◌, ◌&&◌, ◌||◌, ◌+◌, ℕ, Bool, false, List, get_or, slice_get, Some, count_by}
use Rattle.htl_object.specs.{Common.MAX_COMMUNICATORS, Common.MAX_TASKS, Common.list_any, Common.Inv, Invocations.last_inv_mode, declared.notes.InvNotes.InvNotes}

-- a mark for each communicator that a switch reads
abbrev pub MarksRead : List Bool → List ℕ → Type 0
MarksRead marks before = (c : ℕ) → c < MAX_COMMUNICATORS → get_or marks c false ≡ list_any (λ d. d == c) before

-- the invocations of one mode, behind which there are none: how many, and a mark for each task that they invoke
pub record CountsMode (notes : InvNotes) (before : List Inv) : Type 0 where
  pub most : (k : ℕ) (i : Inv) → slice_get before k ≡ Some i → i.mode ≤ notes.mode
  pub count : count_by (λ i. i.mode == notes.mode) before ≡ notes.count
  pub invoked : (t : ℕ) → t < MAX_TASKS → get_or notes.invoked t false ≡ list_any (λ i. (i.mode == notes.mode) && (i.task == t)) before

-- those of the last mode
pub record IsNoted (notes : InvNotes) (before : List Inv) : Type 0 where
  pub last : last_inv_mode before ≡ notes.mode
  pub counts : CountsMode notes before

-- one invocation more of the mode
pub record IsAdded (old new : InvNotes) (task : ℕ) : Type 0 where
  pub mode : new.mode ≡ old.mode
  pub count : new.count ≡ old.count + 1
  pub invoked : (t : ℕ) → t < MAX_TASKS → get_or new.invoked t false ≡ (get_or old.invoked t false || (task == t))
