-- The limits of frames, and what is kept where none is exceeded.
use Rattle.std.proofs.Common.{◌≡◌, ℕ, zero, suc, ◌+◌, ◌*◌, ◌/◌, ◌%◌, ◌≤◌, ◌<◌, Bool, true, false, cond, eqb, ltb, min, List, [], ◌∷◌, ◌++◌, length, map, drop, drop-cons, add-one, get_or, Option, Some, None, option_map, refl, sym, ap, ◌∙◌, arith, inl, inr}
use Rattle.htl_model.proofs.Words.{flat_map, cases_Bool, cases_lt, nat_tests, length-append, length-map, Round, Place, unit_period, root_periods, gcd_in, common_multiple, multiple_of, frame_of, starts_below, starts, rounds_of, rounds_at, rounds, choices, mode_in, places_of, places_in, most_invs, most_positions, ways, too_long, last_of, exceeds, or_else, other_limit, frame_limit, KeepsFrames, AreInRange, is_root, root_modules, modes_of, invs_of, Tables, mod-eq_of_lt, mul_assoc, le-mul_of_pos_right}
use Rattle.htl_model.proofs.{ChoiceLaws.capped, FirstLaws.or_else_none, SelectionLaws.modes_some, SelectionLaws.all_places_below}

-- ---- limits one after another

within_need : (have need : ℕ) → exceeds have need ≡ None → have ≤ need
within_need have need e = grind (arith, cases_lt)

-- ---- the least common multiple

pub one_divides : (p : ℕ) → common_multiple 1 p ≡ p
one_divides p = ap (λ g. 1 / g * p) (gcd_one p) ∙ omega arith
  where
    last_step : (n : ℕ) (a : ℕ) → gcd_in (suc n) a 0 ≡ a
    last_step n a = refl

    gcd_one : (p : ℕ) → gcd_in (suc p) 1 p ≡ 1
    gcd_one zero = refl
    gcd_one (suc zero) = refl
    gcd_one (suc (suc q)) = grind (arith, mod-eq_of_lt)

pub not_too_long : (t : Tables) (m : ℕ) (us : List ℕ) → m ≤ 1000000 → too_long t m us ≡ None → multiple_of m (map (unit_period t) us) ≤ 1000000
not_too_long t m [] l e = l
not_too_long t m (u ∷ us) l e =
    let n = common_multiple m (unit_period t u) in
    let rest = too_long t n us in
    elim (cases_Bool (ltb 1000000 n)) [
      | inl b ↦ absurd (let no : Some (u, n) ≡ None = sym (ap (λ c. cond c (Some (u, n)) rest) b) ∙ e in cc)
      | inr b ↦ not_too_long t n us (grind (arith, nat_tests)) (sym (ap (λ c. cond c (Some (u, n)) rest) b) ∙ e)
    ]

-- ---- positions

-- each of the rounds' modules has modes
abbrev pub HaveModes : Tables → List Round → Type 0
HaveModes t [] = Unit {0}
HaveModes t (r ∷ rs) = (0 < length (modes_of t r.unit)) × HaveModes t rs

most_at : (t : Tables) (ms : List ℕ) (i : ℕ) → i < length ms → length (invs_of t (get_or ms i 0)) ≤ most_invs t ms
most_at t [] i l = absurd (omega (arith, l))
most_at t (m ∷ ms) zero l = omega arith
most_at t (m ∷ ms) (suc i) l = omega (arith, most_at t ms i (omega (arith, l)))

few_places : (t : Tables) (path : ℕ) (rs : List Round) → HaveModes t rs → length (places_in t path rs) ≤ most_positions t rs
few_places t path [] h = omega arith
few_places t path (r ∷ rs) h =
    let m = mode_in t path r rs in
    let i = path / choices t rs % length (modes_of t r.unit) in
    let within : i < length (modes_of t r.unit) = omega (arith, h.0) in
    omega (
      arith,
      length-append (places_of r.at (invs_of t m)) (places_in t path rs),
      length-map (invs_of t m) (λ (k : ℕ). let x : Place = record { inv = Some k; at = r.at } in x),
      most_at t (modes_of t r.unit) i within,
      few_places t path rs h.1,
    )

abbrev pub EachHas : Tables → List ℕ → Type 0
EachHas t [] = Unit {0}
EachHas t (u ∷ us) = (0 < length (modes_of t u)) × EachHas t us

modes_append : (t : Tables) (rs ss : List Round) → HaveModes t rs → HaveModes t ss → HaveModes t (rs ++ ss)
modes_append t [] ss a b = b
modes_append t (r ∷ rs) ss a b = (a.0, modes_append t rs ss a.1 b)

modes_at : (t : Tables) (a : ℕ) (us : List ℕ) → EachHas t us → HaveModes t (rounds_of t a us)
modes_at t a [] h = tt
modes_at t a (u ∷ us) h = grind (arith, modes_at t a us h.1)

modes_all : (t : Tables) (xs : List ℕ) → EachHas t (root_modules t) → HaveModes t (flat_map (rounds_at t) xs)
modes_all t [] h = tt
modes_all t (a ∷ xs) h = modes_append t (rounds_at t a) (flat_map (rounds_at t) xs) (modes_at t a (root_modules t) h) (modes_all t xs h)

each_has : (t : Tables) (us : List ℕ) → ((j : ℕ) → j < length us → 0 < length (modes_of t (get_or us j 0))) → EachHas t us
each_has t [] h = tt
each_has t (u ∷ us) h = (h 0 (omega arith), each_has t us (λ j l. h (suc j) (omega (arith, l))))

pub roots_have : (t : Tables) → AreInRange t → EachHas t (root_modules t)
roots_have t r = each_has t (root_modules t) (λ j l. modes_some t (get_or (root_modules t) j 0) r (all_places_below is_root t.modules j 0 l))

pub rounds_have : (t : Tables) → AreInRange t → HaveModes t (rounds t)
rounds_have t r = modes_all t (starts t) (roots_have t r)

-- ---- the law

no_roots : (t : Tables) → root_modules t ≡ [] → KeepsFrames t
no_roots t e = record {
  frame = omega (arith, zero_frame);
  starts = omega (arith, ap (λ (xs : List ℕ). length xs) no_starts);
  paths = omega (arith, ap (λ (us : List ℕ). elim us as (λ _. ℕ) [ [] ↦ 0 | u ∷ vs ↦ choices t (rounds t) ]) e);
  choices = omega (arith, ap (choices t) no_rounds);
  most = omega (arith, ap (most_positions t) no_rounds);
  positions = λ path. omega (arith, ap (λ rs. length (places_in t path rs)) no_rounds);
}
  where
    zero_frame : frame_of t ≡ 0
    zero_frame = ap (λ (us : List ℕ). elim (elim (map (unit_period t) us) as (λ _. Option ℕ) [ [] ↦ None | p ∷ ps ↦ Some (multiple_of p ps) ]) as (λ _. ℕ) [ Some h ↦ h | None ↦ 0 ]) e

    no_starts : starts t ≡ []
    no_starts = ap (starts_below (root_periods t)) zero_frame

    no_rounds : rounds t ≡ []
    no_rounds = ap (flat_map (rounds_at t)) no_starts

pub frame_is : (t : Tables) (u : ℕ) (us : List ℕ) → root_modules t ≡ u ∷ us → frame_of t ≡ multiple_of 1 (map (unit_period t) (u ∷ us))
frame_is t u us e = grind (arith, one_divides)

abbrev pub with_unit : ℕ → ℕ × ℕ → ℕ × (ℕ × ℕ)
with_unit v o = (v, o)

-- the first limit that is exceeded, of the one on ticks and the others, where this is the last module
abbrev pub limit_by : ℕ → Option (ℕ × ℕ) → Option (ℕ × ℕ) → Option (ℕ × (ℕ × ℕ))
limit_by last long other = elim long as (λ _. Option (ℕ × (ℕ × ℕ))) [ Some x ↦ Some (x.0, (x.1, 1000000)) | None ↦ option_map (with_unit last) other ]

-- that of frames with these root modules
abbrev pub limit_of : Tables → List ℕ → Option (ℕ × (ℕ × ℕ))
limit_of t us = elim us as (λ _. Option (ℕ × (ℕ × ℕ))) [ [] ↦ None | u ∷ vs ↦ limit_by (last_of u vs) (too_long t 1 (u ∷ vs)) (other_limit t) ]

pub too_short : (t : Tables) → frame_limit t ≡ None → too_long t 1 (root_modules t) ≡ None
too_short t e = grind arith

pub limits_kept : (t : Tables) → AreInRange t → frame_limit t ≡ None → KeepsFrames t
limits_kept t r e = by (root_modules t) refl e
  where
    none_mapped : (v : ℕ) (o : Option (ℕ × ℕ)) → option_map (with_unit v) o ≡ None → o ≡ None
    none_mapped v None f = refl
    none_mapped v (Some p) f = absurd (let no : Some (v, p) ≡ None = f in cc)

    kept : (u : ℕ) (us : List ℕ) → root_modules t ≡ u ∷ us → (o : Option (ℕ × ℕ)) → too_long t 1 (u ∷ us) ≡ o → limit_by (last_of u us) o (other_limit t) ≡ None → KeepsFrames t
    kept u us roots (Some x) is f = absurd (let no : Some (x.0, (x.1, 1000000)) ≡ None = f in cc)
    kept u us roots None is f =
        let paths : Option (ℕ × ℕ) = exceeds (min (choices t (rounds t)) 4294967295) 1024 in
        let a = or_else_none (exceeds (length (starts t)) 32) (or_else paths (exceeds (most_positions t (rounds t)) 128)) (none_mapped (last_of u us) (other_limit t) f) in
        let b = or_else_none paths (exceeds (most_positions t (rounds t)) 128) a.1 in
        let few : min (choices t (rounds t)) 4294967295 ≤ 1024 = within_need (min (choices t (rounds t)) 4294967295) 1024 b.0 in
        let most : most_positions t (rounds t) ≤ 128 = within_need (most_positions t (rounds t)) 128 b.1 in
        record {
          frame = omega (arith, frame_is t u us roots, not_too_long t 1 (u ∷ us) (omega arith) is);
          starts = within_need (length (starts t)) 32 a.0;
          paths = omega (arith, few, ap (λ (ws : List ℕ). elim ws as (λ _. ℕ) [ [] ↦ 0 | w ∷ vs ↦ choices t (rounds t) ]) roots);
          choices = omega (arith, few);
          most = most;
          positions = λ path. omega (arith, most, few_places t path (rounds t) (rounds_have t r));
        }

    by : (us : List ℕ) → root_modules t ≡ us → limit_of t us ≡ None → KeepsFrames t
    by [] roots f = no_roots t roots
    by (u ∷ us) roots f = kept u us roots (too_long t 1 (u ∷ us)) refl f

-- ---- one module more

-- the multiple goes on where it is small
pub longer_none : (t : Tables) (m : ℕ) (us : List ℕ) (k : ℕ) → k < length us → too_long t m (drop k us) ≡ None
    → (common_multiple m (unit_period t (get_or us k 0)) ≤ 1000000) × (too_long t (common_multiple m (unit_period t (get_or us k 0))) (drop (k + 1) us) ≡ None)
longer_none t m us k l e = grind (arith, add-one, drop-cons, cases_Bool)

pub multiple_next : (t : Tables) (m : ℕ) (us : List ℕ) (k : ℕ) → k < length us
    → multiple_of m (map (unit_period t) (drop k us)) ≡ multiple_of (common_multiple m (unit_period t (get_or us k 0))) (map (unit_period t) (drop (k + 1) us))
multiple_next t m us k l = grind (arith, drop-cons, add-one)

-- the choices of the rounds of one module more
pub starting_more : (cap : ℕ) (t : Tables) (a : ℕ) (us : List ℕ) (k n m count whole : ℕ) → k < length us → eqb (a % unit_period t (get_or us k 0)) 0 ≡ true → count ≡ length (modes_of t (get_or us k 0)) → m ≡ min (n * count) cap
    → min (n * choices t (rounds_of t a (drop k us))) cap ≡ whole → min (m * choices t (rounds_of t a (drop (k + 1) us))) cap ≡ whole
starting_more cap t a us k n m count whole l here c e going =
    let u = get_or us k 0 in
    let rest = rounds_of t a (drop (k + 1) us) in
    let cut : rounds_of t a (drop k us) ≡ record { at = a; unit = u } ∷ rest =
    ap (rounds_of t a) (drop-cons us k 0 l) ∙ ap (λ b. cond b (record { at = a; unit = u } ∷ rounds_of t a (drop (suc k) us)) (rounds_of t a (drop (suc k) us))) here
    ∙ sym (ap (λ i. let rs : List Round = record { at = a; unit = u } ∷ rounds_of t a (drop i us) in rs) (add-one k)) in
    ap (λ y. min (y * choices t rest) cap) e ∙ capped (n * count) cap (choices t rest)
    ∙ ap (λ y. min y cap) (mul_assoc n count (choices t rest) ∙ ap (λ y. n * (y * choices t rest)) c ∙ sym (ap (λ rs. n * choices t rs) cut)) ∙ going

pub starting_same : (t : Tables) (a : ℕ) (us : List ℕ) (k : ℕ) → k < length us → eqb (a % unit_period t (get_or us k 0)) 0 ≡ false → rounds_of t a (drop k us) ≡ rounds_of t a (drop (k + 1) us)
starting_same t a us k l none = grind (arith, drop-cons, add-one)

-- ---- choices are some

pub choices_some : (t : Tables) (rs : List Round) → HaveModes t rs → 0 < choices t rs
choices_some t [] h = omega arith
choices_some t (r ∷ rs) h = both (length (modes_of t r.unit)) (choices t rs) h.0 (choices_some t rs h.1)
  where
    both : (a b : ℕ) → 0 < a → 0 < b → 0 < a * b
    both zero b l m = absurd (omega (arith, l))
    both (suc a) zero l m = absurd (omega (arith, m))
    both (suc a) (suc b) l m = omega arith

pub choices_append : (t : Tables) (rs ss : List Round) → choices t (rs ++ ss) ≡ choices t rs * choices t ss
choices_append t [] ss = omega arith
choices_append t (r ∷ rs) ss = ap (λ n. length (modes_of t r.unit) * n) (choices_append t rs ss) ∙ sym (mul_assoc (length (modes_of t r.unit)) (choices t rs) (choices t ss))

pub choices_starts : (t : Tables) (xs : List ℕ) → choices t (flat_map (rounds_at t) xs) ≡ ways (map (λ a. choices t (rounds_at t a)) xs)
choices_starts t [] = refl
choices_starts t (a ∷ xs) = choices_append t (rounds_at t a) (flat_map (rounds_at t) xs) ∙ ap (λ n. choices t (rounds_at t a) * n) (choices_starts t xs)

pub radix_few : (t : Tables) (xs : List ℕ) (j : ℕ) → EachHas t (root_modules t) → j < length xs → choices t (rounds_at t (get_or xs j 0)) ≤ choices t (flat_map (rounds_at t) xs)
radix_few t [] j h l = absurd (omega (arith, l))
radix_few t (a ∷ xs) zero h l =
    omega (arith, choices_append t (rounds_at t a) (flat_map (rounds_at t) xs), le-mul_of_pos_right (choices t (rounds_at t a)) (choices_some t (flat_map (rounds_at t) xs) (modes_all t xs h)))
radix_few t (a ∷ xs) (suc j) h l =
    omega (
      arith,
      choices_append t (rounds_at t a) (flat_map (rounds_at t) xs),
      radix_few t xs j h (omega (arith, l)),
      times (choices t (rounds_at t a)) (choices t (flat_map (rounds_at t) xs)) (choices_some t (rounds_at t a) (modes_at t a (root_modules t) h)),
    )
  where
    times : (a b : ℕ) → 0 < a → b ≤ a * b
    times zero b l = absurd (omega (arith, l))
    times (suc a) b l = let e : suc a * b ≡ b + a * b = grind arith in omega (arith, e)
