-- The writes that are due and then the sensors give the values of the instant.
use Rattle.std.proofs.Common.{◌≡◌, ℕ, zero, suc, ◌+◌, ◌*◌, ◌/◌, ◌≤◌, ◌<◌, cond, List, [], ◌∷◌, ◌++◌, length, get_or, slice_get, map, Option, Some, None, ℤ, pos, refl, sym, ap, ◌∙◌, subst, arith, inl, inr}
use mathlib.Core.Path.{fun_ext}
use Rattle.htl_runs.proofs.Words.{slice_get_within, Event, Comm, Inv, Stay, State, Write, list_to, up_to, Tables, AreInRange, state, before, stay_of, sense, out, next_value, next_values, written, written_by, write_from, first_value, first_values, state_step, seen_before, Requirement, Content, buffer, comm_of, effects, wanted_writes, all_writes, want_effect, shown, shown_at, IsDue, AreDistinct, values_before, IsStanding, standing_at, not_some, length-list_to, length_mapped, zero_down}
use Rattle.htl_emach.specs.Contents as contents
use Rattle.htl_runs.proofs.{values.BlockContents.due_of, values.BlockContents.due_asks, values.WantEffects.Written, values.WantEffects.are_written, values.DueWrites.found_write, values.DueWrites.no_due}

-- the communicator at an output that is due
due_comm : (t : Tables) (stays : List (Option Stay)) (now i k c : ℕ) → IsDue t stays now i k c → comm_of (slice_get (contents.writes_at t i) k) ≡ Some c
due_comm t stays now i k c d = grind arith

-- what goes to a communicator is due to it
due_to : (t : Tables) (stays : List (Option Stay)) (now i k c : ℕ) → ((d : ℕ) × IsDue t stays now i k d) → comm_of (slice_get (contents.writes_at t i) k) ≡ Some c → IsDue t stays now i k c
due_to t stays now i k c r e = subst (IsDue t stays now i k) (let z : r.0 ≡ c = (let y : Some r.0 ≡ Some c = sym (due_comm t stays now i k r.0 r.1) ∙ e in cc) in z) r.1

-- the buffers of the writes that are due hold what is due
abbrev pub HoldDue : Tables → (ℕ → ℕ → ℤ) → List (Option Stay) → ℕ → Content → Type 0
HoldDue t seen stays now w = (i k c : ℕ) (d : IsDue t stays now i k c) → buffer w.outputs i k ≡ out (length t.invs) t seen i d.start k

module _ (t : Tables) (stays : List (Option Stay)) (n now : ℕ) (standing : IsStanding t stays n) (past : n ≤ now) (distinct : AreDistinct t stays now) where
  pub values_are : (seen : ℕ → ℕ → ℤ) (w : Content) (c : ℕ) → HoldDue t seen stays now w → c < length w.values
      → get_or (effects t (all_writes t now stays) w).values c (pos 0) ≡ written t seen stays w.values now c
  values_are seen w c hold room = by_found (write_from t stays c now 0 t.invs) refl (are_written t c (all_writes t now stays) w room)
    where
      by_found : (o : Option Write) → write_from t stays c now 0 t.invs ≡ o → Written t c (all_writes t now stays) w
          → get_or (effects t (all_writes t now stays) w).values c (pos 0) ≡ written_by t seen w.values c o
      by_found None e (inl r) = r.1
      by_found None e (inr r) = absurd (no_due t stays c now e r.0 r.1 (due_to t stays now r.0 r.1 c (due_of t stays n now standing past r.0 r.1 r.2) r.3))
      by_found (Some x) e (inl r) =
          let d = found_write t stays c now 0 t.invs x (λ j. ap (slice_get t.invs) (let z : 0 + j ≡ j = omega arith in z)) e in
          absurd (r.0 x.inv x.output (due_asks t stays n now standing past x.inv x.output c d.0) (due_comm t stays now x.inv x.output c d.0))
      by_found (Some x) e (inr r) =
          let d = found_write t stays c now 0 t.invs x (λ j. ap (slice_get t.invs) (let z : 0 + j ≡ j = omega arith in z)) e in
          let same = distinct r.0 r.1 x.inv x.output c (due_to t stays now r.0 r.1 c (due_of t stays n now standing past r.0 r.1 r.2) r.3) d.0 in
          r.4 ∙ ap (λ z. buffer w.outputs z r.1) same.0 ∙ ap (buffer w.outputs x.inv) same.1
          ∙ hold x.inv x.output c d.0 ∙ ap (λ z. out (length t.invs) t seen x.inv z x.output) d.1

  pub next_are : (sensed seen : ℕ → ℕ → ℤ) (w : Content) → HoldDue t seen stays now w → length w.values ≡ length t.comms
      → shown t sensed now (effects t (all_writes t now stays) w).values ≡ next_values t sensed seen stays w.values now
  next_are sensed seen w hold len = grind (arith, values_are, slice_get_within)

-- ---- the first instant

map_at : {A B : Type 0} (f : A → B) (xs : List A) (k : ℕ) (d : B) (x : A) → slice_get xs k ≡ Some x → get_or (map f xs) k d ≡ f x
map_at f [] k d x e = not_some x e
map_at f (y ∷ xs) zero d x e = ap f (let z : y ≡ x = cc in z)
map_at f (y ∷ xs) (suc k) d x e = map_at f xs k d x e

first_are : (t : Tables) (sensed : ℕ → ℕ → ℤ) → shown t sensed 0 (map (λ c. c.init) t.comms) ≡ first_values t sensed
first_are t sensed = grind (arith, pos, zero_down, map_at)

-- as many values as communicators
pub length-values : (t : Tables) (es : List Event) (now : ℕ) → length (values_before t es now) ≡ length t.comms
length-values t es zero = length_mapped (λ c. c.init) t.comms
length-values t es (suc zero) = length-list_to _ (length t.comms)
length-values t es (suc (suc n)) = length-list_to _ (length t.comms)

pub effects_more : (t : Tables) (xs ys : List Requirement) (w : Content) → effects t (xs ++ ys) w ≡ effects t ys (effects t xs w)
effects_more t [] ys w = refl
effects_more t (x ∷ xs) ys w = effects_more t xs ys (want_effect t x w)

no_writes : (t : Tables) (k : ℕ) (w : Content) → effects t (all_writes t 0 []) w ≡ w
no_writes t k w = by_count (length t.modules)
  where
    by_count : (n : ℕ) → effects t (up_to (λ k. wanted_writes t 0 (stay_of [] k)) n) w ≡ w
    by_count zero = refl
    by_count (suc n) = effects_more t (up_to (λ k. wanted_writes t 0 (stay_of [] k)) n) [] w ∙ by_count n

-- the values of every instant, from those before it
pub values_step : (t : Tables) (range : AreInRange t) (es : List Event) (now : ℕ) (w : Content)
    → AreDistinct t (before t es now).stays now → HoldDue t (seen_before t es now) (before t es now).stays now w → w.values ≡ values_before t es now
    → shown t (sense t es) now (effects t (all_writes t now (before t es now).stays) w).values ≡ (state t es now).values
values_step t range es zero w distinct hold is =
    ap (λ (z : Content). shown t (sense t es) 0 z.values) (no_writes t 0 w) ∙ ap (shown t (sense t es) 0) is ∙ first_are t (sense t es)
values_step t range es (suc n) w distinct hold is =
    next_are t (state t es n).stays n (suc n) (standing_at t range es n) (omega arith) distinct (sense t es) (seen_before t es (suc n)) w hold
    (ap (λ (z : List ℤ). length z) is ∙ length-values t es (suc n))
    ∙ ap (λ v. next_values t (sense t es) (seen_before t es (suc n)) (state t es n).stays v (suc n)) is
    ∙ sym (ap (λ (z : State). z.values) (state_step t es n))

pub length-shown : (t : Tables) (sensed : ℕ → ℕ → ℤ) (now : ℕ) (values : List ℤ) → length (shown t sensed now values) ≡ length t.comms
length-shown t sensed now values = length-list_to (λ c. shown_at sensed now values c (slice_get t.comms c)) (length t.comms)
