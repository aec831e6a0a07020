-- The runs of an accepted object.
use Rattle.std.proofs.Common.{◌≡◌, ℕ, ◌<◌, List, [], ◌∷◌, length, get_or, map, slice_get, Option, Some, None, refl, sym, ap, ◌∙◌, subst, arith, inl, inr}
use Rattle.std.specs.List.{flat_map}
use Rattle.htl_times.proofs.Words.{none-some, cases_lt, get_or_past, Round, rounds, rounds_of, starts_below, unit_period, multiple_of, root_modules, Tables, frame_some, kept_apart, instrs_of, place, frame_modes, frame_places, running_places, IsAccepted, Object, Schedule}
use Rattle.htl_times.specs.{declared.greatest.Greatest.Greatest, Accepted.AcceptedIsFeasible, Laws.AreNoLater, Response.IsLatest, Response.IsLatestOf}
use Rattle.htl_times.proofs.NoLater.{finishes_no_later}

pub accepted_is_feasible : AcceptedIsFeasible
accepted_is_feasible o es accepted within some =
    let formed = accepted.spelled.formed in
    let range = formed.ranges.tables in
    record {
      range = range;
      kept = kept_apart o.tables 16 (λ r s have need small broken. formed.formed r s have need broken);
      within = within;
      modules = some;
      ticks = frame_some o.tables range some;
      accepted = accepted.feasible;
    }

-- where something stands there is a root module
module _ (t : Tables) where
  rounds_for : List ℕ → List Round
  rounds_for us =
      flat_map (λ a. rounds_of t a us)
      (starts_below (map (unit_period t) us) (elim (elim (map (unit_period t) us) as (λ _. Option ℕ) [ [] ↦ None | p ∷ ps ↦ Some (multiple_of p ps) ]) [ Some h ↦ h | None ↦ 0 ]))

  no_rounds : root_modules t ≡ [] → rounds t ≡ []
  unfolding rounds_for
  no_rounds e = ap rounds_for e

  pub some_root : (modes : ℕ → List (Option ℕ)) (q i at : ℕ) → slice_get (frame_places t modes) q ≡ Some (place i at) → 0 < length (root_modules t)
  some_root modes q i at placed = by (root_modules t) refl
    where
      by : (us : List ℕ) → root_modules t ≡ us → 0 < length us
      by (u ∷ us) e = omega arith
      by [] e = absurd (none-some (place i at) (sym (ap (λ rs. slice_get (running_places t modes rs) q) (no_rounds e)) ∙ placed))

pub all_no_later : (o : Object) (rows : List (Option Greatest)) → IsAccepted o → ((i : ℕ) → i < length rows → IsLatestOf o.tables (instrs_of o.schedules) i (get_or rows i None)) → AreNoLater o.tables (instrs_of o.schedules) rows
all_no_later o rows accepted latest es f q i at j l within placed there here row =
    let t = o.tables in
    let lists = instrs_of o.schedules in
    let run = accepted_is_feasible o es accepted within (some_root t (frame_modes t es f) q i at placed) in
    let is : IsLatest t lists i l = elim (cases_lt i (length rows)) [
      | inl below ↦ subst (IsLatestOf t lists i) row (latest i below)
      | inr past ↦ absurd (none-some l (sym (get_or_past rows i None past) ∙ row))
    ] in
    finishes_no_later t lists es f q i at j l run placed there here is

-- what is said of tables and lists that are those of an object
pub of_object : (o : Object) (t : Tables) (ss : List Schedule) (n : ℕ) (rows : List (Option Greatest)) → t ≡ o.tables → ss ≡ o.schedules
    → ((i : ℕ) → i < n → IsLatestOf t (instrs_of ss) i (get_or rows i None)) → (i : ℕ) → i < n → IsLatestOf o.tables (instrs_of o.schedules) i (get_or rows i None)
of_object o t ss n rows same lists latest i below =
    subst (λ (u : Tables). IsLatestOf u (instrs_of o.schedules) i (get_or rows i None)) same
    (subst (λ (us : List Schedule). IsLatestOf t (instrs_of us) i (get_or rows i None)) lists (latest i below))
