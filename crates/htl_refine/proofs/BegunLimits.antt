-- What begins at one start of a frame keeps within the limits of frames.
use Rattle.std.proofs.Common.{◌≡◌, ℕ, zero, suc, ◌≤◌, ◌<◌, List, [], ◌∷◌, length, get_or, Option, None, refl, arith}
use Rattle.htl_refine.proofs.Words.{flat_map, slice_get-get_or, frame_limit, frame_of, root_periods, starts, rounds_at, most_positions, AreInRange, IsSelection, root_modules, Tables, radix_few, roots_have, limits_kept, new_jobs, choice_of, start_places}
use Rattle.htl_refine.proofs.{BegunPlaces.most_append, BegunPlaces.one_few, BegunTimes.start_below, NewJobs.new_many, NewJobs.end_is, NodeRead.at_roots, PathRead.below}

-- the positions of one start are among those of all
most_one : (t : Tables) (from : List ℕ) (j : ℕ) → j < length from → most_positions t (rounds_at t (get_or from j 0)) ≤ most_positions t (flat_map (rounds_at t) from)
most_one t [] j l = absurd (omega (arith, l))
most_one t (a ∷ from) zero l = omega (arith, most_append t (rounds_at t a) (flat_map (rounds_at t) from))
most_one t (a ∷ from) (suc j) l = omega (arith, most_append t (rounds_at t a) (flat_map (rounds_at t) from), most_one t from j (omega (arith, l)))

module _ (t : Tables) (range : AreInRange t) (limit : frame_limit t ≡ None) (j : ℕ) (there : j < length (starts t)) where
  pub start_early : get_or (starts t) j 0 ≤ 1000000
  start_early = grind (arith, start_below, slice_get-get_or, limits_kept)

  module _ (m : List (Option ℕ)) (s : IsSelection t m) where
    pub choice_few : choice_of t m (get_or (starts t) j 0) < 1024
    choice_few = grind (arith, below, at_roots, radix_few, roots_have, limits_kept)

    pub new_few : length (new_jobs t m (get_or (starts t) j 0) 0) ≤ 128
    new_few =
        let a = get_or (starts t) j 0 in
        let size = end_is t m m a 0 (length (start_places t m a (root_modules t))) (root_modules t) (omega arith) refl refl in
        omega (arith, new_many t m a 0, size, one_few t m a s, most_one t (starts t) j there, (limits_kept t range limit).most)
