-- What an auditor keeps of a log, by invocation, and how it judges the next line.
use Rattle.std.specs.Prelude.{zero, ℕ, suc, ◌+◌, ◌-◌, ◌%◌, Bool, true, false, cond, not, ◌&&◌, ◌||◌, eqb, leb, ltb, List, [], ◌∷◌, get_or, length, replicate, slice_get, set, Option, Some, None}
use Rattle.htl_model.specs.{declared.parts.Inv.Inv, Functions.of_bool, PortOrder.feeds, Selected.is_at, Tables.Tables, Tables.is_concrete, Tables.mode_module, Tables.mode_period, Tables.release, Tables.window_end}
use Rattle.htl_emach.specs.Calendars.{list_at}
use Rattle.htl_audit.specs.{declared.slice.Slice.Slice, declared.slice.LogKind.LogKind, declared.slice.LogFault.LogFault, Legal.fault_at}
use Rattle.htl_audit.specs.declared.slice.LogKind.TheVariants as kind

-- By invocation: whether it has a job in the round that began last, when this round began, and how long the job takes.
pub record Roster : Type 0 where
  pub stands : List Bool
  pub starts : List ℕ
  pub lengths : List ℕ

pub record Kept : Type 0 where
  -- the lines that were judged, the first fault among them, and where the last of them ends
  pub place : ℕ
  pub fault : Option LogFault
  pub end : ℕ
  -- the jobs of the rounds that began last, and the ticks of their slices
  pub roster : Roster
  pub sums : List ℕ
  -- the jobs whose slices add up to what they take, and whether some job fell short
  pub done : ℕ
  pub short : Bool

-- ---- one job

abbrev pub has_job : Roster → ℕ → Bool
has_job o i = get_or o.stands i false

abbrev pub length_at : Roster → ℕ → ℕ
length_at o i = get_or o.lengths i 0

abbrev pub start_at : Roster → ℕ → ℕ
start_at o i = get_or o.starts i 0

abbrev pub release_at : Tables → ℕ → ℕ
release_at t i = elim (slice_get t.invs i) [ Some x ↦ release t x | None ↦ 0 ]

abbrev pub end_at : Tables → ℕ → ℕ
end_at t i = elim (slice_get t.invs i) [ Some x ↦ window_end t x | None ↦ 0 ]

abbrev pub sum_at : List ℕ → ℕ → ℕ
sum_at sums i = get_or sums i 0

-- the slice lies between these offsets of a round
abbrev pub is_between : ℕ → ℕ → ℕ → Slice → Bool
is_between start release end x = leb (start + release) x.from && leb x.to (start + end)

-- the slice lies in the window of its invocation's job
abbrev pub is_inside : Tables → Roster → Slice → Bool
is_inside t o x = has_job o x.inv && leb (start_at o x.inv + release_at t x.inv) x.from && leb x.to (start_at o x.inv + end_at t x.inv)

abbrev pub is_full : Roster → List ℕ → ℕ → Bool
is_full o sums i = eqb (sum_at sums i) (length_at o i)

-- invocation n has no job that feeds that of invocation i, or it has all its ticks
abbrev pub is_clear_of : Tables → Roster → List ℕ → ℕ → ℕ → Bool
is_clear_of t o sums i n = not (has_job o n && feeds t n i) || is_full o sums n

-- that is so of the invocations from number n on
abbrev pub is_free_from : Tables → Roster → List ℕ → ℕ → ℕ → List Inv → Bool
is_free_from t o sums i n [] = true
is_free_from t o sums i n (x ∷ xs) = is_clear_of t o sums i n && is_free_from t o sums i (suc n) xs

-- each job that precedes that of the invocation has all its ticks
abbrev pub is_free_at : Tables → Roster → List ℕ → ℕ → Bool
is_free_at t o sums i = is_free_from t o sums i 0 t.invs

-- ---- the next line

abbrev pub ticks_of : Slice → ℕ
ticks_of x = x.to - x.from

abbrev pub kind_of : Tables → ℕ → Kept → Slice → Option LogKind
kind_of t now k x =
    cond (leb x.to x.from || ltb x.from k.end || leb now x.to) (Some kind.Order)
    (cond (not (is_inside t k.roster x)) (Some kind.Outside)
    (cond (ltb (length_at k.roster x.inv) (sum_at k.sums x.inv + ticks_of x)) (Some kind.Over)
    (cond (not (is_free_at t k.roster k.sums x.inv)) (Some kind.Before) None)))

-- a line that keeps the rules
abbrev pub with_slice : Slice → Kept → Kept
with_slice x k =
    let sum = sum_at k.sums x.inv + ticks_of x in
    record k {
      place = suc k.place;
      end = x.to;
      sums = set k.sums x.inv sum;
      done = k.done + of_bool (eqb sum (length_at k.roster x.inv));
    }

abbrev pub with_kind : Slice → Option LogKind → Kept → Kept
with_kind x (Some c) k = record k { fault = Some (fault_at (suc k.place) c) }
with_kind x None k = with_slice x k

abbrev pub judged : Tables → ℕ → Slice → Kept → Kept
judged t now x k = with_kind x (kind_of t now k x) k

-- ---- lines up to an instant: those that end before it, up to the first fault

abbrev pub judged_to : Tables → ℕ → List Slice → Kept → Kept
judged_to t now [] k = k
judged_to t now (x ∷ xs) k =
    elim k.fault [
      | Some f ↦ k
      | None ↦ cond (ltb x.to now) (judged_to t now xs (judged t now x k)) k
    ]

-- ---- windows that end, and rounds that begin

-- the window of the invocation's job ended before the instant, and the job has fewer ticks than it takes
abbrev pub fell_short : Tables → ℕ → Kept → ℕ → Bool
fell_short t now k i = has_job k.roster i && ltb (start_at k.roster i + end_at t i) now && ltb (sum_at k.sums i) (length_at k.roster i)

-- that is so of some of the invocations from number n on
abbrev pub any_fell_short_from : Tables → ℕ → Kept → ℕ → List Inv → Bool
any_fell_short_from t now k n [] = false
any_fell_short_from t now k n (x ∷ xs) = fell_short t now k n || any_fell_short_from t now k (suc n) xs

abbrev pub any_fell_short : Tables → ℕ → Kept → Bool
any_fell_short t now k = any_fell_short_from t now k 0 t.invs

abbrev pub settled : Tables → ℕ → Kept → Kept
settled t now k = record k { short = k.short || any_fell_short t now k }

-- the lines are judged that end before the instant, and so are the jobs whose windows ended before it
abbrev pub passed : Tables → ℕ → List Slice → Kept → Kept
passed t now lines k = settled t now (judged_to t now lines k)

-- the invocation is concrete and its mode runs, where the modules are in these modes
abbrev pub inv_runs_in : Tables → List (Option ℕ) → ℕ → Bool
inv_runs_in t modes i = elim (slice_get t.invs i) [ Some x ↦ is_concrete t x && is_at (list_at modes (mode_module t x.mode)) x.mode | None ↦ false ]

-- a round of the invocation begins at s, in which a job takes n ticks
abbrev pub renewed : Tables → List (Option ℕ) → ℕ → ℕ → ℕ → Kept → Kept
renewed t modes s n i k =
    record k {
      roster = record { stands = set k.roster.stands i (inv_runs_in t modes i); starts = set k.roster.starts i s; lengths = set k.roster.lengths i n };
      sums = set k.sums i 0;
    }

-- a round of the invocation begins at s, where it stands: its mode's period divides it
abbrev pub begins_round : Tables → ℕ → ℕ → Bool
begins_round t s i = elim (slice_get t.invs i) [ Some x ↦ eqb (s % mode_period t x.mode) 0 | None ↦ false ]

-- of the invocations below number n those begin of which a round does
abbrev pub renewed_to : Tables → List (Option ℕ) → List ℕ → ℕ → ℕ → Kept → Kept
renewed_to t modes takes s zero k = k
renewed_to t modes takes s (suc n) k =
    let z = renewed_to t modes takes s n k in
    cond (begins_round t s n) (renewed t modes s (get_or takes n 0) n z) z

abbrev pub lengths_begun : Tables → List (Option ℕ) → List ℕ → ℕ → Kept → Kept
lengths_begun t modes takes s k = renewed_to t modes takes s (length t.invs) k

-- the job of the invocation takes n ticks, where it is released at `now` or later
abbrev pub inv_takes : Tables → ℕ → ℕ → ℕ → Kept → Kept
inv_takes t now i n k =
    cond (leb now (start_at k.roster i + release_at t i))
    (record k { roster = record { stands = k.roster.stands; starts = k.roster.starts; lengths = set k.roster.lengths i n } }) k

-- before any round, of so many invocations
abbrev pub first_kept : ℕ → Kept
first_kept n =
    record {
      place = 0;
      fault = None;
      end = 0;
      roster = record { stands = replicate n false; starts = replicate n 0; lengths = replicate n 0 };
      sums = replicate n 0;
      done = 0;
      short = false;
    }
