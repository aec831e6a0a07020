-- Two tables of which one has a part of the other under other numbers.
use Rattle.std.proofs.Common.{◌≡◌, subst, sym, ℕ, ◌<◌, true, eqb, List, length, get_or, slice_get, Some, ℤ, pos, option_map}
use Rattle.htl_exchange.proofs.{Words.Inv, Words.Mode, Words.Module, Words.Stay, Words.out, Words.target, Cones.Cone}
use Rattle.htl_model.proofs.{Words.Tables, Words.is_concrete, Words.mode_module, Words.mode_period, Stays.module_is}
use Rattle.htl_model.specs.declared.parts.End.TheVariants as E
use Rattle.htl_model.specs.Lines.{mode_name, module_name}

-- a mode of a module of the cone
pub record IsModeIn (t : Tables) (s : Cone) (m : ℕ) : Type 0 where
  pub mode : Mode
  pub there : slice_get t.modes m ≡ Some mode
  pub owner : s.modules mode.«module»

pub owner_in : (t : Tables) (s : Cone) (m : ℕ) → IsModeIn t s m → s.modules (mode_module t m)
owner_in t s m is = subst s.modules (sym (module_is t m is.mode is.there)) is.owner

-- a round under its new number
abbrev pub moved : (ℕ → ℕ) → Stay → Stay
moved mode y = record { mode = mode y.mode; start = y.start }

-- the values are the same on the cone
abbrev pub SameOn : Cone → List ℤ → List ℤ → Type 0
SameOn s v w = (c : ℕ) → s.comms c → get_or w c (pos 0) ≡ get_or v c (pos 0)

-- and those that reads find
abbrev pub SeenSame : Cone → (ℕ → ℕ → ℤ) → (ℕ → ℕ → ℤ) → Type 0
SeenSame s f h = (c at : ℕ) → s.comms c → h c at ≡ f c at

pub record SameModule (t u : Tables) (s : Cone) (unit mode : ℕ → ℕ) (x : ℕ) : Type 0 where
  pub here : Module
  pub there : slice_get t.modules x ≡ Some here
  pub other : Module
  pub elsewhere : slice_get u.modules (unit x) ≡ Some other
  pub start : other.start ≡ mode here.start
  pub parent : other.parent ≡ option_map mode here.parent
  pub above : (p : ℕ) → here.parent ≡ Some p → IsModeIn t s p

pub record SameInv (t u : Tables) (s : Cone) (mode invocation : ℕ → ℕ) (k : ℕ) : Type 0 where
  pub inv : Inv
  pub there : slice_get t.invs k ≡ Some inv
  pub concrete : is_concrete t inv ≡ true
  pub owner : IsModeIn t s inv.mode
  pub other : Inv
  pub elsewhere : slice_get u.invs (invocation k) ≡ Some other
  pub also : is_concrete u other ≡ true
  pub mode_is : other.mode ≡ mode inv.mode
  pub writes : (j c n : ℕ) → slice_get inv.writes j ≡ Some (E.Comm c n) → slice_get other.writes j ≡ Some (E.Comm c n)

-- who writes a communicator of the cone in the other tables
pub record IsWrittenBy (t : Tables) (s : Cone) (invocation : ℕ → ℕ) (l j c n : ℕ) : Type 0 where
  pub number : ℕ
  pub inside : s.invs number
  pub is : l ≡ invocation number
  pub inv : Inv
  pub there : slice_get t.invs number ≡ Some inv
  pub end : slice_get inv.writes j ≡ Some (E.Comm c n)

pub record Matches (t u : Tables) (s : Cone) (unit mode invocation : ℕ → ℕ) : Type 0 where
  pub comms : u.comms ≡ t.comms
  pub modules : (x : ℕ) → s.modules x → SameModule t u s unit mode x
  pub owners : (m : ℕ) → IsModeIn t s m → mode_module u (mode m) ≡ unit (mode_module t m)
  pub periods : (m : ℕ) → IsModeIn t s m → mode_period u (mode m) ≡ mode_period t m
  pub module_names : (x : ℕ) → s.modules x → module_name u (unit x) ≡ module_name t x
  pub mode_names : (m : ℕ) → IsModeIn t s m → mode_name u (mode m) ≡ mode_name t m
  pub tests : (m k : ℕ) → IsModeIn t s m → IsModeIn t s k → eqb (mode m) (mode k) ≡ eqb m k
  pub targets : (v w : List ℤ) (m : ℕ) → SameOn s v w → IsModeIn t s m → target u w (mode m) ≡ mode (target t v m)
  pub invs : (k : ℕ) → s.invs k → SameInv t u s mode invocation k
  pub outs : (f h : ℕ → ℕ → ℤ) → SeenSame s f h → (steps k start o : ℕ) (x : Inv) → s.invs k → slice_get t.invs k ≡ Some x → o < length x.writes
      → out steps u h (invocation k) start o ≡ out steps t f k start o
  pub writers : (k j c n : ℕ) (x : Inv) → slice_get t.invs k ≡ Some x → is_concrete t x ≡ true → slice_get x.writes j ≡ Some (E.Comm c n) → s.comms c → s.invs k
  pub others : (l j c n : ℕ) (y : Inv) → slice_get u.invs l ≡ Some y → is_concrete u y ≡ true → slice_get y.writes j ≡ Some (E.Comm c n) → s.comms c → IsWrittenBy t s invocation l j c n
