-- Which invocations write nothing that an earlier concrete invocation writes.
use Rattle.std.specs.Prelude.{◌≡◌, ◌<◌, ◌≤◌, ℕ, zero, suc, ◌+◌, ◌*◌, Bool, true, false, cond, eqb, ◌&&◌, ◌||◌, List, [], ◌∷◌, ◌++◌, length, get_or, slice_get, take, All, Option, Some, None}
use Rattle.std.specs.List.{flat_map, list_any}
use Rattle.htl_model.specs.{declared.parts.Inv.Inv, declared.parts.End.End, Tables.Tables, Tables.is_concrete}
use Rattle.htl_model.specs.declared.parts.End.TheVariants as E
use Rattle.htl_form.specs.WriterFaults.{stand_together, first_writer}

-- ---- the instances that are written in one mode

-- an instance as one number
abbrev pub key : ℕ → ℕ → ℕ
key c n = n * 1024 + c

-- the number of the instance that an end is
abbrev pub instance_of : End → ℕ
instance_of (E.Comm c n) = n
instance_of (E.Port p) = 0

-- all instances have numbers up to a million
abbrev pub AreNear : List End → Type 0
AreNear ends = All (λ e. instance_of e ≤ 1000000) ends

abbrev pub end_keys : End → List ℕ
end_keys (E.Comm c n) = key c n ∷ []
end_keys (E.Port p) = []

abbrev pub keys_in : List End → List ℕ
keys_in ends = flat_map end_keys ends

-- the instances that an invocation writes, where it is concrete
abbrev pub inv_keys : Tables → Option Inv → List ℕ
inv_keys t (Some x) = cond (is_concrete t x) (keys_in x.writes) []
inv_keys t None = []

-- what the n invocations from `base` on write, where they are concrete
abbrev pub keys_from : Tables → ℕ → ℕ → List ℕ
keys_from t base zero = []
keys_from t base (suc n) = keys_from t base n ++ inv_keys t (slice_get t.invs (base + n))

-- numbers are added behind the first `len` of a buffer, which then has n
pub record IsFilled (old : List ℕ) (len : ℕ) (new : List ℕ) (n : ℕ) (added : List ℕ) : Type 0 where
  pub room : n ≤ length old
  pub front : take n new ≡ take len old ++ added

-- ---- the communicators that other modes write

abbrev pub is_comm : ℕ → End → Bool
is_comm c (E.Comm d n) = eqb d c
is_comm c (E.Port p) = false

-- whether a concrete invocation of a mode that can stand together with mode m writes the communicator
abbrev pub takes : Tables → ℕ → ℕ → Option Inv → Bool
takes t m c (Some x) = is_concrete t x && (stand_together t x.mode m && list_any (is_comm c) x.writes)
takes t m c None = false

-- whether some invocation below a number is such
abbrev pub is_taken : Tables → ℕ → ℕ → ℕ → Bool
is_taken t m zero c = false
is_taken t m (suc l) c = is_taken t m l c || takes t m c (slice_get t.invs l)

abbrev pub AreTaken : Tables → ℕ → ℕ → List Bool → Type 0
AreTaken t m base taken = (c : ℕ) → c < length taken → get_or taken c false ≡ is_taken t m base c

-- the end is an instance of a communicator that is taken
abbrev pub is_taken_end : List Bool → End → Bool
is_taken_end taken (E.Comm c n) = get_or taken c false
is_taken_end taken (E.Port p) = false

-- ---- the marks

-- where it is concrete, the invocation writes nothing that an earlier concrete invocation writes
abbrev pub IsApart : Tables → ℕ → Type 0
IsApart t k =
    (i : Inv) (j c n : ℕ) → slice_get t.invs k ≡ Some i → slice_get i.writes j ≡ Some (E.Comm c n) → is_concrete t i ≡ true → first_writer t k i j c n ≡ None

-- each marked invocation is such
abbrev pub AreApart : Tables → List Bool → Type 0
AreApart t marks = (k : ℕ) → get_or marks k false ≡ true → IsApart t k
