-- What the lists of starts, rounds and positions of a frame hold.
use Rattle.std.proofs.Common.{◌≡◌, ◌<◌, ◌⊎◌, ℕ, zero, suc, ◌+◌, ◌%◌, Bool, true, false, cond, eqb, List, [], ◌∷◌, ◌++◌, length, slice_get, Option, Some, sym, ◌∙◌, ap, subst, arith, inl, inr}
use Rattle.htl_runs.proofs.Words.{eq-eqb, unit_period, root_periods, frame_of, begins, starts_below, starts, rounds_of, rounds_at, rounds, places_of, root_modules, Tables, running_invs, place, running_places, map_at, begins_by, in_flat, not_some, get_front, into_back, same_Some, cases_below}
use Rattle.htl_model.specs.declared.frame.Round.{Round}

-- ---- starts

pub below_start : (ps : List ℕ) (h a : ℕ) → a < h → begins ps a ≡ true → (j : ℕ) × (slice_get (starts_below ps h) j ≡ Some a)
below_start ps zero a l e = absurd (omega arith)
below_start ps (suc h) a l e = by (cases_below a h l) (λ less. below_start ps h a less e)
  where
    by : (a < h) ⊎ (a ≡ h) → (a < h → (j : ℕ) × (slice_get (starts_below ps h) j ≡ Some a)) → (j : ℕ) × (slice_get (starts_below ps h ++ cond (begins ps h) (h ∷ []) []) j ≡ Some a)
    by (inl less) ih = let r = ih less in (r.0, get_front (starts_below ps h) (cond (begins ps h) (h ∷ []) []) r.0 a r.1)
    by (inr same) ih =
        let test : begins ps h ≡ true = ap (begins ps) (sym same) ∙ e in
        (length (starts_below ps h) + 0, into_back (starts_below ps h) (cond (begins ps h) (h ∷ []) []) 0 a (ap (λ b. slice_get (cond b (h ∷ []) []) 0) test ∙ ap (λ z. Some z) (sym same)))

-- ---- rounds

in_rounds : (t : Tables) (a : ℕ) (us : List ℕ) (j u : ℕ) → slice_get us j ≡ Some u → a % unit_period t u ≡ 0 → (q : ℕ) × (slice_get (rounds_of t a us) q ≡ Some (record { at = a; unit = u }))
in_rounds t a [] j u e g = not_some u e
in_rounds t a (v ∷ us) zero u e g = grind (arith, same_Some, eq-eqb)
in_rounds t a (v ∷ us) (suc j) u e g = by (eqb (a % unit_period t v) 0) (in_rounds t a us j u e g)
  where
    by : (b : Bool) → (q : ℕ) × (slice_get (rounds_of t a us) q ≡ Some (record { at = a; unit = u }))
        → (q : ℕ) × (slice_get (cond b (record { at = a; unit = v } ∷ rounds_of t a us) (rounds_of t a us)) q ≡ Some (record { at = a; unit = u }))
    by true r = (suc r.0, r.1)
    by false r = r

-- a round of a root module begins at each multiple of its period
pub round_in : (t : Tables) (j u a : ℕ) → slice_get (root_modules t) j ≡ Some u → a < frame_of t → a % unit_period t u ≡ 0 → (q : ℕ) × (slice_get (rounds t) q ≡ Some (record { at = a; unit = u }))
round_in t j u a e l g =
    let s = below_start (root_periods t) (frame_of t) a l (begins_by t (root_modules t) j u a e g) in
    let r = in_rounds t a (root_modules t) j u e g in
    in_flat (rounds_at t) (starts t) s.0 r.0 a (record { at = a; unit = u }) s.1 r.1

-- ---- positions

pub in_run : (t : Tables) (modes : ℕ → List (Option ℕ)) (rs : List Round) (q j k : ℕ) (r : Round) → slice_get rs q ≡ Some r → slice_get (running_invs t (modes r.at) r.unit) j ≡ Some k
    → (p : ℕ) × (slice_get (running_places t modes rs) p ≡ Some (place k r.at))
in_run t modes [] q j k r e g = not_some r e
in_run t modes (s ∷ rs) zero j k r e g =
    let same : s ≡ r = same_Some s r e in (
      j,
      get_front (places_of s.at (running_invs t (modes s.at) s.unit)) (running_places t modes rs) j (place k r.at)
          (subst (λ (z : Round). slice_get (places_of z.at (running_invs t (modes z.at) z.unit)) j ≡ Some (place k r.at)) (sym same) (map_at (λ z. place z r.at) (running_invs t (modes r.at) r.unit) j k g)),
    )
in_run t modes (s ∷ rs) (suc q) j k r e g =
    let m = in_run t modes rs q j k r e g in
    let here = places_of s.at (running_invs t (modes s.at) s.unit) in
    (length here + m.0, into_back here (running_places t modes rs) m.0 (place k r.at) m.1)
