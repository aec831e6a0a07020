-- Instants of what stands at the positions that have begun.
use Rattle.std.proofs.Common.{◌≡◌, ℕ, zero, suc, ◌≤◌, ◌<◌, Bool, true, false, cond, List, [], ◌∷◌, map, get_or, Option, Some, None, refl, sym, ◌∙◌, ap, subst, arith, inl, inr}
use Rattle.htl_refine.proofs.Words.{slice_get, All, All-from_get_or, slice_get-get_or, none-some, Place, Inv, begins, starts_below, starts, root_periods, frame_of, places_of, KeptApart, AreInRange, root_modules, invs_of, Tables, absent_job, job_in, placed, placed_job, placed_jobs, HasTimes, window_small, nowhere, new_places, begun_mode, round_places, start_places, standing_place, begun_places, begun_jobs, from_map}
use Rattle.htl_refine.proofs.Members.{of_joined, of_flat}

-- a start is before the frame's end
pub start_below : (ps : List ℕ) (n p a : ℕ) → slice_get (starts_below ps n) p ≡ Some a → a < n
start_below ps zero p a e = absurd (none-some a e)
start_below ps (suc n) p a e = elim (of_joined (starts_below ps n) (cond (begins ps n) (n ∷ []) []) p a e) [
  | inl f ↦ let less = start_below ps n p a f in omega (arith, less)
  | inr f ↦ by (begins ps n) f.0 f.1
]
  where
    by : (b : Bool) (q : ℕ) → slice_get (cond b (n ∷ []) []) q ≡ Some a → a < suc n
    by true zero f = let same : n ≡ a = cc in omega (arith, same)
    by _ _ f = absurd (none-some a f)

module _ (t : Tables) where
  -- a root invocation of a round that begins at a
  pub started_at : (m : List (Option ℕ)) (a : ℕ) (us : List ℕ) (p : ℕ) (x : Place) → slice_get (start_places t m a us) p ≡ Some x → x.at ≡ a
  started_at m a us p x e = grind (arith, of_flat, from_map, none-some)

  pub begun_at : (sels : List (List (Option ℕ))) (as' : List ℕ) (p : ℕ) (x : Place) → slice_get (begun_places t sels as') p ≡ Some x → (j : ℕ) × (slice_get as' j ≡ Some x.at)
  begun_at (m ∷ ms) (a ∷ as') p x e = elim (of_joined (map (standing_place t m) (start_places t m a (root_modules t))) (begun_places t ms as') p x e) [
    | inl f ↦
        let y = from_map (standing_place t m) (start_places t m a (root_modules t)) p x f in
        (0, ap (λ (n : ℕ). Some n) (sym (started_at m a (root_modules t) p y.0 y.1) ∙ ap (λ (z : Place). z.at) y.2))
    | inr f ↦ let j = begun_at ms as' f.0 x f.1 in (suc j.0, j.1)
  ]
  begun_at _ _ p x e = absurd (none-some x e)

  module _ (range : AreInRange t) (kept : KeptApart t 12) where
    placed_times : (all : List Place) (a : ℕ) (o : Option ℕ) → a ≤ 1000000 → HasTimes (placed t all a o)
    placed_times all a None l = (omega arith, omega arith)
    placed_times all a (Some k) l = grind (arith, window_small)

    pub begun_times : (sels : List (List (Option ℕ))) → frame_of t ≤ 1000000 → All HasTimes (begun_jobs t sels)
    begun_times sels short =
        let ys = begun_places t sels (starts t) in
        All-from_get_or HasTimes (begun_jobs t sels) absent_job (λ p l.
        let y = from_map (placed_job t ys) ys p (get_or (begun_jobs t sels) p absent_job) (slice_get-get_or (begun_jobs t sels) p absent_job l) in
        let j = begun_at sels (starts t) p y.0 y.1 in
        subst HasTimes y.2 (placed_times ys y.0.at y.0.inv (omega (arith, start_below (root_periods t) (frame_of t) j.0 y.0.at j.1, short))))

    -- those of one start, behind any number of positions
    pub new_times : (m : List (Option ℕ)) (a n : ℕ) → a ≤ 1000000 → All HasTimes (placed_jobs t (new_places t m a n))
    new_times m a n short =
        let ys = new_places t m a n in
        All-from_get_or HasTimes (placed_jobs t ys) absent_job (λ p l.
        let y = from_map (placed_job t ys) ys p (get_or (placed_jobs t ys) p absent_job) (slice_get-get_or (placed_jobs t ys) p absent_job l) in
        subst HasTimes y.2 (placed_times ys y.0.at y.0.inv (at_most n p y.0 y.1)))
      where
        at_most : (n p : ℕ) (x : Place) → slice_get (new_places t m a n) p ≡ Some x → x.at ≤ 1000000
        at_most zero p x e =
            let y = from_map (standing_place t m) (start_places t m a (root_modules t)) p x e in
            omega (arith, ap (λ (z : Place). z.at) (sym y.2) ∙ started_at m a (root_modules t) p y.0 y.1, short)
        at_most (suc n) zero x e = let same : nowhere ≡ x = cc in omega (arith, ap (λ (z : Place). z.at) same)
        at_most (suc n) (suc p) x e = at_most n p x e
