-- What was noted of values and modes before an instant, and the marks of what may be another since.
use Rattle.std.specs.Prelude.{◌≡◌, ℕ, Bool, true, false, eqb, List, length, get_or, slice_get, Option, Some, None, ℤ, pos}
use Rattle.htl_machine.specs.{Common.Tables, Common.EInstr, Common.list_at, declared.noted.Noted.Noted, Marks.is_marked}
use Rattle.htl_ecode.specs.declared.instr.EInstr.TheVariants as I
use Rattle.htl_emach.specs.Contents.{comm_of, writes_at}

-- the communicator that an instruction writes
abbrev pub written_comm : Tables → EInstr → Option ℕ
written_comm t (I.CallWrite i k) = comm_of (slice_get (writes_at t i) k)
written_comm t _ = None

abbrev pub is_written : Tables → EInstr → ℕ → Bool
is_written t i c = elim (written_comm t i) [ Some w ↦ eqb c w | None ↦ false ]

-- an instruction enters or leaves a mode
abbrev pub decides : EInstr → Bool
decides (I.Enter m) = true
decides I.Leave = true
decides _ = false

-- where these values and modes are others than those that were noted, there is a mark
pub record MarksChanges (n : Noted) (values : List ℤ) (modes : List (Option ℕ)) : Type 0 where
  pub comms : length n.values ≡ length values
  pub values_are : (c : ℕ) → is_marked n.written c ≡ false → get_or n.values c (pos 0) ≡ get_or values c (pos 0)
  pub modules : length n.modes ≡ length modes
  pub modes_are : (k : ℕ) → is_marked n.decided k ≡ false → list_at n.modes k ≡ list_at modes k

-- what was noted stays
pub record KeepsNoted (old new : Noted) : Type 0 where
  pub values : new.values ≡ old.values
  pub modes : new.modes ≡ old.modes
