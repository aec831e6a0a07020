-- The numbers of a frame from its parts.
use Rattle.std.proofs.Common.{◌≡◌, ℕ, zero, suc, ◌+◌, ◌*◌, ◌/◌, ◌≤◌, ◌<◌, List, [], ◌∷◌, ◌++◌, length, map, add-one, take, get_or, slice_get, Option, Some, None, refl, sym, ap, ◌∙◌, arith, inl, inr}
use Rattle.htl_model.proofs.Words.{flat_map, pos_of_dvd_of_pos, le-div, le_of_dvd, slice_get_cases, Mode, Module, unit_start, unit_period, root_periods, gcd_in, common_multiple, multiple_of, hyper, frame_of, starts_below, starts, rounds_at, rounds, choices, paths, radices, ways, frame_limit, too_long, AreInRange, IsModeInRange, is_root, root_modules, Tables, mode_period, each_at}
use Rattle.htl_model.proofs.{Divisors.greatest_divisor, SelectionLaws.all_places_below}
use Rattle.htl_model.proofs.FrameLimits.{limits_kept, one_divides, frame_is, too_short, radix_few, roots_have, rounds_have, choices_some, choices_starts}

-- ---- periods are some

pub unit_period_some : (t : Tables) (u : ℕ) → AreInRange t → u < length t.modules → 0 < unit_period t u
unit_period_some t u r l = elim (slice_get_cases t.modules u).1 [
  | inl c ↦
      let x : Module = c.0 in
      let at : slice_get t.modules u ≡ Some x = c.2 in
      let begin = (r.modules u x at).start in
      let m : Mode = begin.0 in
      let range : IsModeInRange t m = each_at (IsModeInRange t) t.modes r.modes x.start m begin.1 in
      let first : unit_start t u ≡ x.start = ap (λ (o : Option Module). elim o as (λ _. ℕ) [ Some y ↦ y.start | None ↦ 0 ]) at in
      let period : mode_period t x.start ≡ m.period = ap (λ (o : Option Mode). elim o as (λ _. ℕ) [ Some y ↦ y.period | None ↦ 0 ]) begin.1 in
      omega (arith, range.period.some, ap (mode_period t) first ∙ period)
  | inr c ↦ absurd (omega (arith, c.0, l))
]

common_some : (a b : ℕ) → 0 < a → 0 < b → 0 < common_multiple a b
common_some a b l m =
    let g = gcd_in (suc b) a b in
    let d = greatest_divisor a b in
    let some : 0 < g = pos_of_dvd_of_pos d.0 l in
    let small : g ≤ a = le_of_dvd l d.0 in
    let one : 1 ≤ a / g = le-div 1 a g some (omega (arith, small)) in
    product (a / g) b one m
  where
    product : (a b : ℕ) → 1 ≤ a → 0 < b → 0 < a * b
    product zero b l m = absurd (omega (arith, l))
    product (suc a) zero l m = absurd (omega (arith, m))
    product (suc a) (suc b) l m = omega arith

multiple_some : (m : ℕ) (f : ℕ → ℕ) (us : List ℕ) → 0 < m → ((j : ℕ) → j < length us → 0 < f (get_or us j 0)) → 0 < multiple_of m (map f us)
multiple_some m f [] l h = l
multiple_some m f (u ∷ us) l h = multiple_some (common_multiple m (f u)) f us (common_some m (f u) l (h 0 (omega arith))) (λ j k. h (suc j) (omega (arith, k)))

pub roots_some : (t : Tables) → AreInRange t → (j : ℕ) → j < length (root_modules t) → 0 < unit_period t (get_or (root_modules t) j 0)
roots_some t r j l = unit_period_some t (get_or (root_modules t) j 0) r (all_places_below is_root t.modules j 0 l)

-- ---- the frame

pub frame_is_multiple : (t : Tables) → 0 < length (root_modules t) → frame_of t ≡ multiple_of 1 (map (unit_period t) (root_modules t))
frame_is_multiple t some = by (root_modules t) refl some
  where
    by : (us : List ℕ) → root_modules t ≡ us → 0 < length us → frame_of t ≡ multiple_of 1 (map (unit_period t) (root_modules t))
    by [] e l = absurd (omega (arith, l))
    by (u ∷ us) e l = frame_is t u us e ∙ sym (ap (λ vs. multiple_of 1 (map (unit_period t) vs)) e)

pub frame_some : (t : Tables) → AreInRange t → 0 < length (root_modules t) → 0 < frame_of t
frame_some t r some = omega (arith, frame_is_multiple t some, multiple_some 1 (unit_period t) (root_modules t) (omega arith) (roots_some t r))

pub front_is : (xs : List ℕ) (out : List ℕ) (n h : ℕ) → n ≡ length xs → take (n + 1) out ≡ xs ++ h ∷ [] → take n out ≡ xs
front_is xs out n h e f =
    let a : take n (take (n + 1) out) ≡ take n out = ap (λ m. take n (take m out)) (add-one n) ∙ shorter n out in
    sym a ∙ ap (take n) f ∙ ap (λ m. take m (xs ++ h ∷ [])) e ∙ take_front xs (h ∷ [])
  where
    shorter : (n : ℕ) (out : List ℕ) → take n (take (suc n) out) ≡ take n out
    shorter zero out = refl
    shorter (suc n) [] = refl
    shorter (suc n) (x ∷ out) = ap (λ ys. x ∷ ys) (shorter n out)

    take_front : (xs ys : List ℕ) → take (length xs) (xs ++ ys) ≡ xs
    take_front [] ys = refl
    take_front (x ∷ xs) ys = ap (λ zs. x ∷ zs) (take_front xs ys)

-- ---- what the code's parts need

module _ (t : Tables) (r : AreInRange t) (limit : frame_limit t ≡ None) (some : 0 < length (root_modules t)) where
  pub no_longer : (us : List ℕ) → us ≡ root_modules t → too_long t 1 us ≡ None
  no_longer us e = ap (too_long t 1) e ∙ too_short t limit

  pub end_is : (us : List ℕ) (end : ℕ) → us ≡ root_modules t → end ≡ multiple_of 1 (map (unit_period t) us) → end ≡ frame_of t
  end_is us end e m = m ∙ ap (λ vs. multiple_of 1 (map (unit_period t) vs)) e ∙ sym (frame_is_multiple t some)

  pub starts_are : (us : List ℕ) (end : ℕ) → us ≡ root_modules t → end ≡ frame_of t → starts_below (map (unit_period t) us) end ≡ starts t
  starts_are us end e m = ap (λ vs. starts_below (map (unit_period t) vs) end) e ∙ ap (starts_below (root_periods t)) m

  pub radices_few : (xs : List ℕ) → xs ≡ starts t → (j : ℕ) → j < length xs → choices t (rounds_at t (get_or xs j 0)) ≤ 1024
  radices_few xs e j l =
      omega (arith, radix_few t xs j (roots_have t r) l, ap (λ ys. choices t (flat_map (rounds_at t) ys)) e, (limits_kept t r limit).choices)

  pub paths_are : paths t ≡ choices t (rounds t)
  paths_are = grind arith

  pub ways_are : (cs : List ℕ) → cs ≡ radices t → ways cs ≡ choices t (rounds t)
  ways_are cs e = ap ways e ∙ sym (choices_starts t (starts t))

  pub ways_some : (cs : List ℕ) → cs ≡ radices t → 0 < ways cs
  ways_some cs e = omega (arith, ways_are cs e, choices_some t (rounds t) (rounds_have t r))

  pub ways_few : (cs : List ℕ) → cs ≡ radices t → ways cs ≤ 1024
  ways_few cs e = omega (arith, ways_are cs e, (limits_kept t r limit).choices)

  pub starts_told : (us : List ℕ) (end count : ℕ) (out : List ℕ) → us ≡ root_modules t → end ≡ frame_of t → take (count + 1) out ≡ starts_below (map (unit_period t) us) end ++ end ∷ []
      → count ≡ length (starts_below (map (unit_period t) us) end) → (take (count + 1) out ≡ starts t ++ frame_of t ∷ []) × (count ≡ length (starts t)) × (take count out ≡ starts t)
  starts_told us end count out e m f n = grind (arith, starts_are, front_is)

pub hyper_is : (t : Tables) (m : ℕ) (us : List ℕ) → us ≡ root_modules t → 0 < length (root_modules t) → m ≡ multiple_of 1 (map (unit_period t) us) → Some m ≡ hyper t
hyper_is t m us e some f = by (root_modules t) refl some
  where
    by : (vs : List ℕ) → root_modules t ≡ vs → 0 < length vs → Some m ≡ hyper t
    by [] g l = absurd (omega (arith, l))
    by (v ∷ vs) g l = grind (arith, one_divides)

-- where there is a path the radices give the number of paths
pub paths_ways : (t : Tables) (p : ℕ) → p < paths t → paths t ≡ ways (radices t)
paths_ways t p h = grind (arith, choices_starts)

-- ---- no root modules

module _ (t : Tables) (none : root_modules t ≡ []) where
  no_hyper : hyper t ≡ None
  no_hyper = ap (λ (us : List ℕ). elim (map (unit_period t) us) as (λ _. Option ℕ) [ [] ↦ None | p ∷ ps ↦ Some (multiple_of p ps) ]) none

  pub no_frame : frame_of t ≡ 0
  no_frame = ap (λ (h : Option ℕ). elim h as (λ _. ℕ) [ Some n ↦ n | None ↦ 0 ]) no_hyper

  pub no_starts : starts t ≡ []
  no_starts = ap (starts_below (root_periods t)) no_frame

  pub no_rounds : rounds t ≡ []
  no_rounds = ap (flat_map (rounds_at t)) no_starts

  pub no_radices : radices t ≡ []
  no_radices = ap (map (λ (a : ℕ). choices t (rounds_at t a))) no_starts

  pub no_paths : paths t ≡ 0
  no_paths = ap (λ (us : List ℕ). elim us as (λ _. ℕ) [ [] ↦ 0 | u ∷ vs ↦ choices t (rounds t) ]) none

pub some_roots : (t : Tables) (n : ℕ) → n ≡ length (root_modules t) → (n ≡ 0 → ⊥) → 0 < length (root_modules t)
some_roots t n e some = omega (arith, e, some)
