-- The greatest number of positions of a path is that of the path which takes in each round a mode with the most invocations.
use Rattle.std.proofs.Common.{◌≡◌, ℕ, zero, suc, ◌+◌, ◌*◌, ◌/◌, ◌%◌, ◌≤◌, ◌<◌, List, [], ◌∷◌, ◌++◌, length, get_or, map, Option, Some, None, refl, sym, ap, ◌∙◌, arith, inl, inr}
use Rattle.htl_top.proofs.Vocabulary.{flat_map, cases_lt, div-mul-add, add-mul-mod_self_left, mod-eq_of_lt, mul-add-div_right, HaveModes, choices_some, rounds_have, multiple_of, unit_period, starts_below, rounds, rounds_at, choices, paths, mode_in, places_of, places_in, path_places, most_invs, AreInRange, root_modules, modes_of, invs_of, Tables, Round, most_positions_below, grow_times, length-append, length-map}
use Rattle.htl_model.specs.Frames as frames
use Rattle.htl_model.specs.declared.frame.Place.{Place}

-- ---- paths through some rounds

regroup : (d l c q : ℕ) → d * (l * c) + q ≡ d * l * c + q
regroup d l c q = grind arith

module _ (t : Tables) where
  placed_count : (a m : ℕ) (rest : List Place) → length (places_of a (invs_of t m) ++ rest) ≡ length (invs_of t m) + length rest
  placed_count a m rest =
      let shown = length-map (invs_of t m) (λ (k : ℕ). let x : Place = record { inv = Some k; at = a } in x) in
      omega (arith, length-append (places_of a (invs_of t m)) rest, shown)

  most_at : (ms : List ℕ) (i : ℕ) → i < length ms → length (invs_of t (get_or ms i 0)) ≤ most_invs t ms
  most_at [] i l = absurd (omega (arith, l))
  most_at (m ∷ ms) zero l = omega arith
  most_at (m ∷ ms) (suc i) l = omega (arith, most_at ms i (omega (arith, l)))

  -- no path has more
  few_places : (path : ℕ) (rs : List Round) → HaveModes t rs → length (places_in t path rs) ≤ frames.most_positions t rs
  few_places path [] h = omega arith
  few_places path (r ∷ rs) h =
      let i = path / choices t rs % length (modes_of t r.unit) in
      let within : i < length (modes_of t r.unit) = omega (arith, h.0) in
      omega (arith, placed_count r.at (mode_in t path r rs) (places_in t path rs), most_at (modes_of t r.unit) i within, few_places path rs h.1)

  -- one of the modes has as many invocations as any
  widest : (ms : List ℕ) → 0 < length ms → (i : ℕ) × (i < length ms) × (length (invs_of t (get_or ms i 0)) ≡ most_invs t ms)
  widest [] l = absurd (omega (arith, l))
  widest (m ∷ []) l = (0, omega arith, omega arith)
  widest (m ∷ n ∷ ms) l =
      let later = widest (n ∷ ms) (omega arith) in
      elim (cases_lt (length (invs_of t m)) (most_invs t (n ∷ ms))) [
        | inl less ↦ (suc later.0, omega (arith, later.1), omega (arith, later.2, less))
        | inr most ↦ (0, omega arith, omega (arith, most))
      ]

  -- the choices for rounds before these change nothing in them
  places_behind : (rs : List Round) (d q : ℕ) → HaveModes t rs → places_in t (d * choices t rs + q) rs ≡ places_in t q rs
  places_behind [] d q h = refl
  places_behind (r ∷ rs) d q h =
      let l = length (modes_of t r.unit) in
      let c = choices t rs in
      let whole : d * (l * c) + q ≡ d * l * c + q = regroup d l c q in
      let digit : (d * (l * c) + q) / c % l ≡ q / c % l =
      ap (λ n. n / c % l) whole ∙ ap (λ n. n % l) (mul-add-div_right (choices_some t rs h.1) (d * l) q) ∙ ap (λ n. n % l) (turn (d * l) (q / c) d l refl) ∙ add-mul-mod_self_left (q / c) l d in
      ap (λ m. places_of r.at (invs_of t (get_or (modes_of t r.unit) m 0)) ++ places_in t (d * (l * c) + q) rs) digit
      ∙ ap (λ n. places_of r.at (invs_of t (mode_in t q r rs)) ++ places_in t n rs) whole
      ∙ ap (λ xs. places_of r.at (invs_of t (mode_in t q r rs)) ++ xs) (places_behind rs (d * l) q h.1)
    where
      turn : (a b d l : ℕ) → a ≡ d * l → a + b ≡ b + l * d
      turn a b d l e = let z : d * l ≡ l * d = grind arith in omega (arith, e, z)

  -- some path has as many
  widest_path : (rs : List Round) → HaveModes t rs → (p : ℕ) × (p < choices t rs) × (length (places_in t p rs) ≡ frames.most_positions t rs)
  widest_path [] h = (0, omega arith, refl)
  widest_path (r ∷ rs) h =
      let later = widest_path rs h.1 in
      let wide = widest (modes_of t r.unit) h.0 in
      let l = length (modes_of t r.unit) in
      let c = choices t rs in
      let q = later.0 in
      let d = wide.0 in
      let digit : (d * c + q) / c % l ≡ d = ap (λ n. n % l) (div-mul-add d c q later.1) ∙ mod-eq_of_lt wide.1 in
      let here : length (invs_of t (mode_in t (d * c + q) r rs)) ≡ most_invs t (modes_of t r.unit) = ap (λ i. length (invs_of t (get_or (modes_of t r.unit) i 0))) digit ∙ wide.2 in
      let rest : length (places_in t (d * c + q) rs) ≡ frames.most_positions t rs = ap (λ (xs : List Place). length xs) (places_behind rs d q h.1) ∙ later.2 in (
        d * c + q,
        digits d c l q wide.1 later.1,
        omega (arith, placed_count r.at (mode_in t (d * c + q) r rs) (places_in t (d * c + q) rs), here, rest),
      )
    where
      digits : (d c l q : ℕ) → d < l → q < c → d * c + q < l * c
      digits d c l q a b =
          let most : suc d * c ≤ l * c = grow_times (suc d) l c a in
          let one : suc d * c ≡ d * c + c = omega arith in
          omega (arith, most, one, b)

  -- ---- the greatest of some paths

  no_more : (n most : ℕ) → ((p : ℕ) → p < n → length (path_places t p) ≤ most) → most_positions_below t n ≤ most
  no_more zero most h = omega arith
  no_more (suc n) most h = omega (arith, no_more n most (λ p l. h p (omega (arith, l))), h n (omega arith))

  as_many : (n p : ℕ) → p < n → length (path_places t p) ≤ most_positions_below t n
  as_many zero p l = absurd (omega (arith, l))
  as_many (suc n) p l = elim (cases_lt p n) [
    | inl less ↦ omega (arith, as_many n p less)
    | inr last ↦ let same : p ≡ n = omega (arith, l, last) in omega (arith, ap (λ q. length (path_places t q)) same)
  ]

  no_rounds : root_modules t ≡ [] → rounds t ≡ []
  no_rounds e =
      ap (flat_map (rounds_at t)) (ap (λ (us : List ℕ). starts_below (map (unit_period t) us) (elim (elim (map (unit_period t) us) as (λ _. Option ℕ) [ [] ↦ None | p ∷ ps ↦ Some (multiple_of p ps) ]) as (λ _. ℕ) [ Some h ↦ h | None ↦ 0 ])) e)

  -- of all paths it is that of the rounds, each in its widest mode
  pub most_is : AreInRange t → most_positions_below t (paths t) ≡ frames.most_positions t (rounds t)
  most_is range = by (root_modules t) refl
    where
      all : most_positions_below t (choices t (rounds t)) ≡ frames.most_positions t (rounds t)
      all =
          let wide = widest_path (rounds t) (rounds_have t range) in
          let above = no_more (choices t (rounds t)) (frames.most_positions t (rounds t)) (λ p l. few_places p (rounds t) (rounds_have t range)) in
          let below = as_many (choices t (rounds t)) wide.0 wide.1 in
          omega (arith, above, below, wide.2)

      by : (us : List ℕ) → root_modules t ≡ us → most_positions_below t (elim us as (λ _. ℕ) [ [] ↦ 0 | u ∷ vs ↦ choices t (rounds t) ]) ≡ frames.most_positions t (rounds t)
      by [] e = sym (ap (frames.most_positions t) (no_rounds e))
      by (u ∷ us) e = all
