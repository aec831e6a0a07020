-- One round more of a path, by where the modes of its module and the invocations of its mode begin.
use Rattle.std.proofs.Common.{◌≡◌, ℕ, zero, suc, ◌+◌, ◌-◌, ◌*◌, ◌/◌, ◌%◌, ◌≤◌, ◌<◌, List, ◌++◌, length, drop, set, get_or, refl, sym, ap, ◌∙◌, subst, arith, inl, inr}
use Rattle.std.proofs.{lemmas.Grind.same_number_lists, lemmas.List.get_or-map, lemmas.List.get_or-take, lemmas.List.get_or-set_other, lemmas.List.get_or-set_same, lemmas.List.length-append, lemmas.List.length-map, Math.Nat.mod-lt}
use Rattle.htl_model.proofs.{Listed.length-list_to, Listed.get_list_to, PlaceSteps.place_next, PlaceSteps.round_at, PlaceSteps.no_round, PlaceSteps.choices_cut, RootModeLaws.modes_between, RootModeLaws.mode_between, RootModeLaws.modes_most}
use Rattle.htl_model.proofs.RisingKeys.{rises, run_length, run_at, most_below, none_below}
use Rattle.htl_model.specs.RootModes.{below}
use Rattle.htl_times.proofs.Words.{cases_lt, Inv, Place, Round, AreInRange, Tables, choices, invs_of, list_to, modes_below, modes_of, places_in, places_of, rounds}
use Rattle.htl_times.specs.{PathPlaces.round_modes, PathPlaces.AreBegins, PathPlaces.IsSurvey, PathPlaces.run_places, declared.path_places.RoundModes.RoundModes, declared.path_places.Survey.Survey}

-- ---- where the invocations of each mode begin

abbrev mode_below : Tables → ℕ → ℕ
mode_below t m = below (λ (i : Inv). i.mode) m t.invs

pub none_begin : (t : Tables) (begins : List ℕ) → get_or begins 0 0 ≡ 0 → AreBegins t begins 0
none_begin t begins e m l =
    let z : m ≡ 0 = omega (arith, l) in
    ap (λ n. get_or begins n 0) z ∙ e ∙ sym (none_below (λ (i : Inv). i.mode) 0 t.invs (λ p x at. omega arith)) ∙ ap (mode_below t) (sym z)

pub few_begin : (t : Tables) (begins : List ℕ) (m n : ℕ) → AreInRange t → AreBegins t begins n → m ≤ n → get_or begins m 0 ≤ 2048
few_begin t begins m n range b l = omega (arith, b m l, most_below (λ (i : Inv). i.mode) m t.invs, range.few_invs)

pub one_begins : (t : Tables) (begins : List ℕ) (n more : ℕ) → n + 1 < length begins → AreBegins t begins n → more ≡ length (invs_of t n) → AreBegins t (set begins (n + 1) (get_or begins n 0 + more)) (n + 1)
one_begins t begins n more room b is m l = elim (cases_lt n m) [
  | inl h ↦
      let e : n + 1 ≡ m = omega (arith, l, h) in
      let new = get_or begins n 0 + more in
      subst (λ k. get_or (set begins (n + 1) new) k 0 ≡ mode_below t k) e
      (get_or-set_same begins (n + 1) new 0 room ∙ omega (arith, b n (omega arith), is, run_length (λ (i : Inv). i.mode) n 0 t.invs))
  | inr h ↦ get_or-set_other begins (n + 1) m (get_or begins n 0 + more) 0 (λ e. omega (arith, e, h)) ∙ b m (omega (arith, h))
]

-- ---- one round more

run_count : (first count a : ℕ) → length (run_places first count a) ≡ count
run_count first count a = length-map (list_to (λ j. first + j) count) _ ∙ length-list_to (λ j. first + j) count

abbrev pub no_modes : RoundModes
no_modes = record { at = 0; first = 0; count = 0 }

some_count : (c r b : ℕ) → b ≡ c * r → 0 < b → 0 < c
some_count zero r b e l = let z : 0 * r ≡ 0 = omega arith in absurd (omega (arith, e, l, z))
some_count (suc c) r b e l = omega arith

module _ (t : Tables) (range : AreInRange t) (s : Survey) (survey : IsSurvey t s) where
  -- the invocations of a mode stand together
  invs_are : (m : ℕ) → m < length t.modes → invs_of t m ≡ list_to (λ j. get_or s.begins m 0 + j) (get_or s.begins (m + 1) 0 - get_or s.begins m 0)
  invs_are m l =
      let key : Inv → ℕ = λ i. i.mode in
      let first : get_or s.begins m 0 ≡ below key m t.invs = survey.begins m (omega (arith, l)) in
      let end : get_or s.begins (m + 1) 0 ≡ below key (m + 1) t.invs = survey.begins (m + 1) (omega (arith, l)) in
      let n = get_or s.begins (m + 1) 0 - get_or s.begins m 0 in
      let count : length (invs_of t m) ≡ n = omega (arith, first, end, run_length key m 0 t.invs) in
      same_number_lists (invs_of t m) (list_to (λ j. get_or s.begins m 0 + j) n) (count ∙ sym (length-list_to (λ j. get_or s.begins m 0 + j) n))
      (λ j b.
      run_at key m 0 j t.invs (rises key t.invs range.invs_by_mode) b ∙ omega (arith, first)
      ∙ sym (get_list_to (λ j. get_or s.begins m 0 + j) n j 0 (omega (arith, b, count))))

  module _ (k path behind : ℕ) (within : k < length (rounds t)) (is_behind : behind ≡ choices t (drop k (rounds t))) (some : 0 < behind) where
    abbrev r : Round
    r = round_at (rounds t) k

    abbrev x : RoundModes
    x = get_or s.rounds k no_modes

    is : x ≡ round_modes t r
    is =
        sym (get_or-take (length (rounds t)) s.rounds k no_modes within) ∙ ap (λ (zs : List RoundModes). get_or zs k no_modes) survey.each
        ∙ get_or-map (round_modes t) (rounds t) k no_round no_modes within

    count_is : x.count ≡ length (modes_of t r.unit)
    count_is = ap (λ (z : RoundModes). z.count) is

    pub count_some : 0 < x.count
    count_some = some_count x.count (choices t (drop (k + 1) (rounds t))) behind (is_behind ∙ choices_cut t (rounds t) k within ∙ ap (λ n. n * choices t (drop (k + 1) (rounds t))) (sym count_is)) some

    -- the choice at the round, and its mode
    abbrev digit : ℕ
    digit = path / (behind / x.count) % x.count

    small : digit < x.count
    small = mod-lt (path / (behind / x.count)) count_some

    abbrev low : ℕ
    low = modes_below t.modes r.unit

    first_is : x.first ≡ low
    first_is = ap (λ (z : RoundModes). z.first) is ∙ mode_between t r.unit 0 low range refl (omega (arith, count_some, count_is)) ∙ omega arith

    mode_is : x.first + digit ≡ get_or (modes_of t r.unit) digit 0
    mode_is = omega (arith, first_is, mode_between t r.unit digit low range refl (omega (arith, small, count_is)))

    pub mode_within : x.first + path / (behind / x.count) % x.count < length t.modes
    mode_within =
        let high = modes_below t.modes (r.unit + 1) in
        let between : length (modes_of t r.unit) ≡ high - low = modes_between t r.unit low high refl refl in
        omega (arith, first_is, small, count_is, between, modes_most t.modes (r.unit + 1))

    abbrev mode : ℕ
    mode = x.first + path / (behind / x.count) % x.count

    pub begins_rise : get_or s.begins (x.first + path / (behind / x.count) % x.count) 0 ≤ get_or s.begins (x.first + path / (behind / x.count) % x.count + 1) 0
    begins_rise =
        let key : Inv → ℕ = λ i. i.mode in
        omega (arith, survey.begins mode (omega (arith, mode_within)), survey.begins (mode + 1) (omega (arith, mode_within)), run_length key mode 0 t.invs)

    pub ends_within : get_or s.begins (x.first + path / (behind / x.count) % x.count + 1) 0 ≤ 2048
    ends_within = few_begin t s.begins (mode + 1) (length t.modes) range survey.begins (omega (arith, mode_within))

    pub next_round : (places_in t path (drop k (rounds t))
        ≡ run_places (get_or s.begins (x.first + path / (behind / x.count) % x.count) 0)
        (get_or s.begins (x.first + path / (behind / x.count) % x.count + 1) 0 - get_or s.begins (x.first + path / (behind / x.count) % x.count) 0) x.at ++ places_in t path (drop (k + 1) (rounds t)))
        × (behind / x.count ≡ choices t (drop (k + 1) (rounds t))) × (0 < behind / x.count)
    next_round =
        let n = place_next t (rounds t) k path behind x.count mode within is_behind some count_is mode_is in
        let rest = places_in t path (drop (k + 1) (rounds t)) in (
          n.0 ∙ ap (λ a. places_of a (invs_of t mode) ++ rest) (sym (ap (λ (z : RoundModes). z.at) is)) ∙ ap (λ ks. places_of x.at ks ++ rest) (invs_are mode mode_within),
          n.1,
          n.2,
        )

    pub round_length : get_or s.begins (x.first + path / (behind / x.count) % x.count + 1) 0 - get_or s.begins (x.first + path / (behind / x.count) % x.count) 0 + length (places_in t path (drop (k + 1) (rounds t)))
        ≡ length (places_in t path (drop k (rounds t)))
    round_length =
        let begin = get_or s.begins mode 0 in
        let many = get_or s.begins (mode + 1) 0 - begin in
        let rest = places_in t path (drop (k + 1) (rounds t)) in
        omega (arith, ap (λ (xs : List Place). length xs) next_round.0, length-append (run_places begin many x.at) rest, run_count begin many x.at)
