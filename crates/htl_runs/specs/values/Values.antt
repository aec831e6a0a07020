-- When values and buffers follow the meaning of tables and events.
use Rattle.std.specs.Prelude.{◌≡◌, ℕ, zero, suc, ◌+◌, ◌*◌, ◌<◌, Bool, true, false, ◌||◌, eqb, List, [], length, get_or, slice_get, map, Some, ℤ, Option}
use Rattle.htl_runs.specs.Common.{Event, Inv, Stay}
use Rattle.htl_model.specs.{declared.parts.End.End, Tables.Tables, Tables.comm_period, Tables.mode_module, Tables.is_concrete, Meaning.state, Meaning.before, Meaning.stay_of, Meaning.val, Meaning.out, Meaning.writer_from}
use Rattle.htl_model.specs.declared.parts.End.TheVariants as E
use Rattle.htl_emach.specs.Contents.{Content, buffer}

-- invocation i is x, concrete, and stands in the round from s, where the modules are as `stays` says
pub record InvStands (t : Tables) (stays : List (Option Stay)) (i : ℕ) (x : Inv) (s : ℕ) : Type 0 where
  pub known : slice_get t.invs i ≡ Some x
  pub concrete : is_concrete t x ≡ true
  pub in_round : stay_of stays (mode_module t x.mode) ≡ Some (record { mode = x.mode; start = s })

-- the end at place k of invocation i, of the ends that are named, meets c at `now`
pub record EndIsMet (ends : Inv → List End) (t : Tables) (stays : List (Option Stay)) (now i k c : ℕ) : Type 0 where
  pub inv : Inv
  pub start : ℕ
  pub instance : ℕ
  pub stands : InvStands t stays i inv start
  pub end : slice_get (ends inv) k ≡ Some (E.Comm c instance)
  pub at : start + instance * comm_period t c ≡ now

-- output k of invocation i goes to c at `now`
abbrev pub IsDue : Tables → List (Option Stay) → ℕ → ℕ → ℕ → ℕ → Type 0
IsDue t stays now i k c = EndIsMet (λ x. x.writes) t stays now i k c

-- input k of invocation i reads c at `now`
abbrev pub IsRead : Tables → List (Option Stay) → ℕ → ℕ → ℕ → ℕ → Type 0
IsRead t stays now i k c = EndIsMet (λ x. x.reads) t stays now i k c

-- no communicator is written twice at once
abbrev pub AreDistinct : Tables → List (Option Stay) → ℕ → Type 0
AreDistinct t stays now = (i k j l c : ℕ) → IsDue t stays now i k c → IsDue t stays now j l c → (i ≡ j) × (k ≡ l)

-- what an output of the round that began at s is
abbrev pub out_val : Tables → List Event → ℕ → ℕ → ℕ → ℤ
out_val t es i s k = out (length t.invs) t (val t es) i s k

-- the values before instant `now`
abbrev pub values_before : Tables → List Event → ℕ → List ℤ
values_before t es zero = map (λ c. c.init) t.comms
values_before t es (suc n) = (state t es n).values

-- the world before the instant `now`, where these jobs of the present rounds are finished
pub record ValuesFollow (t : Tables) (es : List Event) (now : ℕ) (finished : ℕ → Bool) (w : Content) : Type 0 where
  pub values : w.values ≡ values_before t es now
  pub inputs : (i : ℕ) (x : Inv) (s k c n : ℕ) → InvStands t (before t es now).stays i x s → finished i ≡ false → slice_get x.reads k ≡ Some (E.Comm c n)
      → s + n * comm_period t c < now → buffer w.inputs i k ≡ val t es c (s + n * comm_period t c)
  pub outputs : (i : ℕ) (x : Inv) (s k : ℕ) → InvStands t (before t es now).stays i x s → finished i ≡ true → k < length x.writes
      → buffer w.outputs i k ≡ out_val t es i s k

-- a world has a place for each communicator, each input and each invocation's outputs
pub record HasPlaces (t : Tables) (w : Content) : Type 0 where
  pub values : length w.values ≡ length t.comms
  pub inputs : (i : ℕ) (x : Inv) → slice_get t.invs i ≡ Some x → (i < length w.inputs) × (length (get_or w.inputs i []) ≡ length x.reads)
  pub outputs : (i : ℕ) (x : Inv) → slice_get t.invs i ≡ Some x → i < length w.outputs

-- ---- what the processor owes at an instant, where these jobs are finished

-- the reads of an end are past
abbrev pub IsPast : Tables → ℕ → ℕ → End → Type 0
IsPast t s now (E.Comm c n) = s + n * comm_period t c < now
IsPast t s now (E.Port p) = Unit {0}

-- a finished job has read all its inputs, and what it reads from is finished
pub record HasReadInputs (t : Tables) (now : ℕ) (finished : ℕ → Bool) (x : Inv) (s : ℕ) : Type 0 where
  pub comms : (k : ℕ) (e : End) → slice_get x.reads k ≡ Some e → IsPast t s now e
  pub ports : (k p w o : ℕ) → slice_get x.reads k ≡ Some (E.Port p) → writer_from x.mode p 0 t.invs ≡ Some (w, o) → finished w ≡ true

pub record Ready (t : Tables) (es : List Event) (now : ℕ) (finished : ℕ → Bool) : Type 0 where
  -- a job is finished when an output of it is due
  pub in_time : (i k c : ℕ) → IsDue t (before t es now).stays now i k c → finished i ≡ true
  pub after_reads : (i : ℕ) (x : Inv) (s : ℕ) → InvStands t (before t es now).stays i x s → finished i ≡ true → HasReadInputs t now finished x s

-- who writes a port that a concrete invocation of mode m reads comes before it, by numbers that r gives
abbrev pub Orders : Tables → ℕ → (ℕ → ℕ) → Type 0
Orders t m r = (i : ℕ) (x : Inv) (k p w o : ℕ) → slice_get t.invs i ≡ Some x → is_concrete t x ≡ true → x.mode ≡ m → slice_get x.reads k ≡ Some (E.Port p)
    → writer_from m p 0 t.invs ≡ Some (w, o) → r w < r i

-- the jobs that are finished, with one more
abbrev pub and_also : ℕ → (ℕ → Bool) → ℕ → Bool
and_also i finished j = eqb j i || finished j

-- the jobs that are finished before an instant and, of the rounds that then stand, after it: none of a round that began at it
pub record AreCarried (t : Tables) (es : List Event) (now : ℕ) (finished later : ℕ → Bool) : Type 0 where
  pub kept : (i : ℕ) (x : Inv) (s : ℕ) → InvStands t (before t es now).stays i x s → InvStands t (state t es now).stays i x s → later i ≡ finished i
  pub fresh : (i : ℕ) (x : Inv) → InvStands t (state t es now).stays i x now → later i ≡ false
