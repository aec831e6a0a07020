-- Where no trigger is due, the E machine does nothing at an instant and stands before the next.
use Rattle.std.proofs.Common.{◌≡◌, ℕ, suc, ◌+◌, ◌<◌, Bool, true, false, cond, eqb, List, [], ◌∷◌, ◌++◌, length, slice_get, Option, Some, None, refl, ap, ◌∙◌, subst, arith, inl, inr}
use Rattle.htl_runs.proofs.Words.{eqb-true, Event, Stay, Tables, mode_period, state, ECode, Done, e_path, Trigger, Block, EDone, Standing, list_at, triggers_of, target_at, first_due, block_from, done_at, done_in, standing_after, IsDueAt, Midway, Onward, FollowsCode, phase_path, Entry, old_stay, new_stay, ending, turning, IsPhase, call_onward, follows_writes, writes_switches, switches_reads, reads_follows, whole_path, Sound}

none_due : (at k : ℕ) (xs : List (Option Trigger)) → ((j : ℕ) (x : Trigger) → list_at xs j ≡ Some x → at < x.at) → first_due at k xs ≡ None
none_due at k [] h = refl
none_due at k (None ∷ xs) h = none_due at (suc k) xs (λ j x e. h (suc j) x e)
none_due at k (Some y ∷ xs) h =
    ap (λ (o : Option ℕ). elim o as (λ _. Option (ℕ × ℕ)) [ Some a ↦ Some (k, a) | None ↦ first_due at (suc k) xs ]) (not_yet (h 0 y refl))
    ∙ none_due at (suc k) xs (λ j x e. h (suc j) x e)
  where
    differ : (b : Bool) → eqb y.at at ≡ b → at < y.at → cond b (Some y.target) None ≡ None
    differ false e less = refl
    differ true e less = absurd (omega (arith, less, eqb-true y.at at e))

    not_yet : at < y.at → target_at at (Some y) ≡ None
    not_yet less = differ (eqb y.at at) refl less

-- no instruction is due in a phase
done_none : (code : ECode) (phase at : ℕ) (m : Standing) → m.running ≡ None → first_due at 0 (triggers_of phase m.calendar) ≡ None → done_in code phase at m ≡ None
done_none code phase at m idle none = grind arith

-- what an instant at which no trigger is due leaves
pub record IsIdle (t : Tables) (code : ECode) (es : List Event) (now : ℕ) (m : Standing) : Type 0 where
  pub writes : phase_path t code es now 1 ≡ []
  pub switches : phase_path t code es now 2 ≡ []
  pub reads : phase_path t code es now 3 ≡ []
  pub path : e_path t code es now ≡ []
  pub ends : Onward t code es now 3 m (phase_path t code es now 3) [] None
  pub later : FollowsCode t code es (suc now) m

module _ (t : Tables) (code : ECode) (es : List Event) (now : ℕ) (m : Standing) (sound : Sound t code) (follows : FollowsCode t code es now m)
    (none : (other : ℕ) → IsDueAt m.calendar other → now < other) where
  quiet : (phase : ℕ) → first_due now 0 (triggers_of phase m.calendar) ≡ None
  quiet phase = none_due now 0 (triggers_of phase m.calendar) (λ j x e. none x.at (phase, j, x, e, refl))

  ends_with : (phase : ℕ) → IsPhase phase → Midway t code es now phase m [] (phase_path t code es now phase) → Onward t code es now phase m [] (phase_path t code es now phase) None
  ends_with phase is mid =
      subst (λ (o : Option EDone). Onward t code es now phase (standing_after t code (state t es now).values phase now m o) [] (phase_path t code es now phase) o)
      (done_none code phase now m follows.idle (quiet phase))
      (call_onward t code es now phase (state t es now).values m [] (phase_path t code es now phase) sound is (λ e. refl) mid)

  wrote : Onward t code es now 1 m [] (phase_path t code es now 1) None
  wrote = ends_with 1 (inl refl) (follows_writes t code es now m follows)

  switched : Onward t code es now 2 m [] (phase_path t code es now 2) None
  switched = ends_with 2 (inr (inl refl)) (writes_switches t code es now m [] (phase_path t code es now 1) wrote)

  read : Onward t code es now 3 m [] (phase_path t code es now 3) None
  read = ends_with 3 (inr (inr refl)) (switches_reads t code es now m [] (phase_path t code es now 2) switched)

  pub idle : IsIdle t code es now m
  idle =
      record {
        writes = wrote.0;
        switches = switched.0;
        reads = read.0;
        path = whole_path t code es now ∙ ap (λ (z : List Done). z ++ (phase_path t code es now 2 ++ phase_path t code es now 3)) wrote.0 ∙ ap (λ (z : List Done). z ++ phase_path t code es now 3) switched.0 ∙ read.0;
        ends = (refl, read.1, read.2);
        later = reads_follows t code es now m [] (phase_path t code es now 3) sound read;
      }

-- a module's round ends with a trigger
pub round_ends : (t : Tables) (code : ECode) (es : List Event) (now : ℕ) (m : Standing) → FollowsCode t code es now m → (j : ℕ) (x : Stay) → j < length t.modules → old_stay t es now j ≡ Some x
    → IsDueAt m.calendar (x.start + mode_period t x.mode)
round_ends t code es now m follows j x inside is =
    let there : list_at m.calendar.switches j ≡ turning t code now 0 j (old_stay t es now j) (new_stay t es now j) = ap (λ (e : Entry). e.switch) (follows.calendar.above j (omega arith) inside) in
    (2, j, ending t code x, there ∙ ap (λ (o : Option Stay). turning t code now 0 j o (new_stay t es now j)) is, refl)
