-- The lists of a loaded program: at each instant one stands, and the code knows where one begins.
use Rattle.std.proofs.Common.{◌≡◌, ℕ, ◌+◌, ◌<◌, eqb, List, [], ◌∷◌, length, map, get_or, Option, Some, None, IfSome, refl, sym, ap, ◌∙◌, subst, arith, inr, true}
use Rattle.htl_runs.proofs.Words.{slice_get_within, Event, Inv, Module, hyper, unit_period, multiple_of, state, root_modules, Tables, is_concrete, frame_some, SInstr, AreTookWithin, IsFeasibleRun, roots_some, AreJobsSoFar, IsLoaded, Turn, AreTurns, AreListed, AreOf, no_turn, turn_by, turn_at, list_turn, some_round_begins, not_some, standing_at}
use Rattle.htl_runs.proofs.{lists.NextLists.lists_begin, lists.RunLists.are_turns, lists.RunLists.are_listed, lists.RunLists.code_is, lists.RunLists.job_is_of}

-- ---- without modules

no_hyper : (t : Tables) → root_modules t ≡ [] → hyper t ≡ None
no_hyper t e = ap (λ (us : List ℕ). elim (map (unit_period t) us) as (λ _. Option ℕ) [ [] ↦ None | p ∷ ps ↦ Some (multiple_of p ps) ]) e

nothing : {A : Type 0} (xs : List A) → (0 < length xs → ⊥) → xs ≡ []
nothing [] h = refl
nothing (x ∷ xs) h = absurd (h (omega arith))

some_hyper : (t : Tables) (u : ℕ) (us : List ℕ) → root_modules t ≡ u ∷ us → (h : ℕ) × (hyper t ≡ Some h)
some_hyper t u us e = (
  multiple_of (unit_period t u) (map (unit_period t) us),
  ap (λ (vs : List ℕ). elim (map (unit_period t) vs) as (λ _. Option ℕ) [ [] ↦ None | p ∷ ps ↦ Some (multiple_of p ps) ]) e,
)

pub some_roots : (t : Tables) (h : ℕ) → hyper t ≡ Some h → 0 < length (root_modules t)
some_roots t h e = by (root_modules t) refl
  where
    by : (us : List ℕ) → root_modules t ≡ us → 0 < length (root_modules t)
    by [] is = not_some h (sym (no_hyper t is) ∙ e)
    by (u ∷ us) is = omega (arith, ap (λ (vs : List ℕ). length vs) is)

module _ (t : Tables) (schedules : List (List SInstr)) (loaded : IsLoaded t schedules) where
  pub loaded_empty : hyper t ≡ None → t.modules ≡ []
  loaded_empty e = grind (arith, nothing, roots_some, some_hyper, not_some)

  module _ (es : List Event) (within : AreTookWithin t es) where
    -- where there is a root module
    pub run_of : 0 < length (root_modules t) → IsFeasibleRun t schedules es
    run_of some = grind (arith, frame_some)

    pub loaded_run : (h : ℕ) → hyper t ≡ Some h → IsFeasibleRun t schedules es
    loaded_run h e = run_of (some_roots t h e)

    -- nobody stands where there is no module
    no_jobs_so_far : t.modules ≡ [] → (n : ℕ) → AreJobsSoFar t (state t es n).stays 0 n []
    no_jobs_so_far e n = grind (arith, standing_at, not_some)

    no_turns : t.modules ≡ [] → AreTurns t es (λ n. no_turn)
    no_turns e =
        record {
          walk = λ n. [];
          frames =
              record {
                past = λ n. omega arith;
                jobs_so_far = λ n. no_jobs_so_far e n;
                runs = λ n. record { rises = tt; meets = λ p j at here. not_some j at; late = λ p f less fin. absurd (omega (arith, less)); open_yet = λ k p l at o fin. not_some l at; known = λ k p l at o fin early. not_some l at };
                on = λ n. inr (refl, refl, λ p j at. at);
              };
          each = λ n. record { past = omega arith; rest = []; front = refl; count = refl; upto = λ p. refl };
        }

    turn_is : (h : ℕ) → hyper t ≡ Some h → turn_at t schedules es ≡ list_turn t schedules es
    turn_is h e = ap (λ o. turn_by o t schedules es) e

    pub loaded_turns : AreTurns t es (turn_at t schedules es)
    loaded_turns = grind (arith, no_turns, loaded_empty, turn_is, are_turns, loaded_run)

    pub loaded_listed : (h : ℕ) → hyper t ≡ Some h → AreListed (turn_at t schedules es)
    loaded_listed h e = subst AreListed (sym (turn_is h e)) (are_listed t schedules es (loaded_run h e))

    -- each job is of a concrete invocation
    pub loaded_of : (h : ℕ) → hyper t ≡ Some h → (n : ℕ) → AreOf t (turn_at t schedules es n).plan.jobs
    loaded_of h e n = subst (λ (turn : ℕ → Turn). AreOf t (turn n).plan.jobs) (sym (turn_is h e)) listed
      where
        listed : AreOf t (list_turn t schedules es n).plan.jobs
        listed p j at here =
            let x = job_is_of t schedules es (loaded_run h e) n p j at here in
            (slice_get_within t.invs j.inv x.0 x.1, subst (λ (o : Option Inv). IfSome o (λ y. is_concrete t y ≡ true)) (sym x.1) x.2)

    -- its instructions are those of its node's list
    pub loaded_code : (h : ℕ) → hyper t ≡ Some h → (n : ℕ) → (turn_at t schedules es n).plan.schedule ≡ get_or schedules (turn_at t schedules es n).node []
    loaded_code h e n = subst (λ (turn : ℕ → Turn). (turn n).plan.schedule ≡ get_or schedules (turn n).node []) (sym (turn_is h e)) (code_is t schedules es (loaded_run h e) n)

    -- the code knows where a list begins
    pub loaded_begins : (q : ℕ) → hyper t ≡ Some q → (now : ℕ) → some_round_begins t now ≡ eqb ((turn_at t schedules es now).frame + (turn_at t schedules es now).from) now
    loaded_begins q e now =
        subst (λ (turn : ℕ → Turn). some_round_begins t now ≡ eqb ((turn now).frame + (turn now).from) now) (sym (turn_is q e)) (lists_begin t schedules es (loaded_run q e) now).0
