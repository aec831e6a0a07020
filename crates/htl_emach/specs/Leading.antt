-- Where instructions lead, and what may stand in a block.
use Rattle.std.specs.Prelude.{◌≡◌, ℕ, ◌<◌, true, eqb, List, [], ◌∷◌, ◌++◌, length, slice_get, Option, Some, None}
use Rattle.htl_model.specs.{declared.event.Event.Event, declared.parts.Inv.Inv, Tables.Tables, Tables.mode_module, Meaning.state, Meaning.runs}
use Rattle.htl_ecode.specs.{declared.instr.EInstr.EInstr, Paths.holds_in}
use Rattle.htl_ecode.specs.declared.instr.EInstr.TheVariants as I
use Rattle.htl_emach.specs.Calendars.{goes}

-- these addresses are passed on the way from a to b
abbrev pub Leads : List EInstr → (ℕ → EInstr → Option ℕ) → ℕ → List ℕ → ℕ → Type 0
Leads code go a [] b = a ≡ b
Leads code go a (x ∷ xs) b = (x ≡ a) × ((i : EInstr) × (slice_get code a ≡ Some i) × ((c : ℕ) × (go a i ≡ Some c) × Leads code go c xs b))

-- these addresses are passed from a to the end of the block
abbrev pub Ends : List EInstr → (ℕ → EInstr → Option ℕ) → ℕ → List ℕ → Type 0
Ends code go a path =
    (front : List ℕ) × (b : ℕ) × (i : EInstr) × (path ≡ front ++ b ∷ []) × Leads code go a front b × (slice_get code b ≡ Some i) × (go b i ≡ None)

-- where an instruction leads at an instant, by the switches that hold then and the modes that run then
abbrev pub goes_at : Tables → List Event → ℕ → ℕ → EInstr → Option ℕ
goes_at t es now = goes (holds_in t (state t es now).values) (runs t (state t es now).stays)

-- an output, and an input, that an invocation has
abbrev pub HasOutput : Tables → ℕ → ℕ → Type 0
HasOutput t i k = (x : Inv) × (slice_get t.invs i ≡ Some x) × (k < length x.writes)

abbrev pub HasInput : Tables → ℕ → ℕ → Type 0
HasInput t i k = (x : Inv) × (slice_get t.invs i ≡ Some x) × (k < length x.reads)

-- what may stand in a block of module k: operands are in range; copies stand in their own phases; tests stand in the switch phase alone, and ask for modes of
-- modules below k
abbrev pub IsAllowed : Tables → ℕ → ℕ → EInstr → Type 0
IsAllowed t phase k (I.CallWrite i o) = (eqb phase 1 ≡ true) × HasOutput t i o
IsAllowed t phase k (I.CallRead i o) = (eqb phase 3 ≡ true) × HasInput t i o
IsAllowed t phase k (I.JumpIf j x) = (eqb phase 2 ≡ true) × (j < length t.switches)
IsAllowed t phase k (I.IfMode q x) = (eqb phase 2 ≡ true) × (mode_module t q < k)
IsAllowed t phase k (I.Fork j) = j < length t.modules
IsAllowed t phase k _ = Unit {0}

abbrev pub AreAllowed : Tables → List EInstr → ℕ → ℕ → List ℕ → Type 0
AreAllowed t code phase k [] = Unit {0}
AreAllowed t code phase k (x ∷ xs) = ((i : EInstr) → slice_get code x ≡ Some i → IsAllowed t phase k i) × AreAllowed t code phase k xs
