-- One round more of a path, and one choice more.
use Rattle.std.proofs.Common.{◌≡◌, ℕ, zero, suc, ◌+◌, ◌*◌, ◌/◌, ◌%◌, ◌<◌, cond, ◌&&◌, eqb, min, List, ◌++◌, length, drop, drop-cons, get_or, add-one, refl, sym, ap, ◌∙◌, arith}
use Rattle.htl_model.proofs.{Words.mul_assoc, Words.Round, Words.choices, Words.mode_in, Words.mode_from, Words.places_of, Words.places_in, Words.modes_of, Words.invs_of, Words.Tables, ChoiceLaws.capped}

abbrev pub no_round : Round
no_round = record { at = 0; unit = 0 }

abbrev pub round_at : List Round → ℕ → Round
round_at rounds k = get_or rounds k no_round

quotient : (b c r : ℕ) → b ≡ c * r → 0 < b → (b / c ≡ r) × (0 < b / c)
quotient b zero r e l = absurd (omega (arith, e, l))
quotient b (suc c) r e l = by e
  where
    by : b ≡ suc c * r → (b / suc c ≡ r) × (0 < b / suc c)
    by e = grind arith

pub choices_cut : (t : Tables) (rounds : List Round) (k : ℕ) → k < length rounds → choices t (drop k rounds) ≡ length (modes_of t (round_at rounds k).unit) * choices t (drop (k + 1) rounds)
choices_cut t rounds k l = rw add-one (ap (choices t) (drop-cons rounds k no_round l))

-- the choices behind the round, and what stands in front of the rest
pub place_next : (t : Tables) (rounds : List Round) (k path behind count mode : ℕ) → k < length rounds → behind ≡ choices t (drop k rounds) → 0 < behind
    → count ≡ length (modes_of t (round_at rounds k).unit) → mode ≡ get_or (modes_of t (round_at rounds k).unit) (path / (behind / count) % count) 0
    → (places_in t path (drop k rounds) ≡ places_of (round_at rounds k).at (invs_of t mode) ++ places_in t path (drop (k + 1) rounds)) × (behind / count ≡ choices t (drop (k + 1) rounds)) × (0 < behind / count)
place_next t rounds k path behind count mode l b some c m =
    let r = round_at rounds k in
    let rest = choices t (drop (k + 1) rounds) in
    let q = quotient behind count rest (b ∙ choices_cut t rounds k l ∙ ap (λ n. n * rest) (sym c)) some in
    let same : mode ≡ mode_in t path r (drop (k + 1) rounds) =
    m ∙ ap (λ n. get_or (modes_of t r.unit) (path / n % count) 0) q.0 ∙ ap (λ n. get_or (modes_of t r.unit) (path / rest % n) 0) c in (
      ap (places_in t path) (drop-cons rounds k no_round l)
          ∙ sym (ap (λ n. places_of r.at (invs_of t (mode_in t path r (drop n rounds))) ++ places_in t path (drop n rounds)) (add-one k))
          ∙ sym (ap (λ n. places_of r.at (invs_of t n) ++ places_in t path (drop (k + 1) rounds)) same),
      q.0,
      q.1,
    )

-- one round more of a product that is capped
pub choices_more : (cap : ℕ) (t : Tables) (rounds : List Round) (k n m count whole : ℕ) → k < length rounds → count ≡ length (modes_of t (round_at rounds k).unit) → m ≡ min (n * count) cap
    → min (n * choices t (drop k rounds)) cap ≡ whole → min (m * choices t (drop (k + 1) rounds)) cap ≡ whole
choices_more cap t rounds k n m count whole l c e going = grind (arith, capped, mul_assoc, choices_cut)

-- one round more in the search for a module's mode
pub mode_next : (t : Tables) (rounds : List Round) (k path u a behind count : ℕ) → k < length rounds → behind ≡ choices t (drop k rounds) → 0 < behind → count ≡ length (modes_of t (round_at rounds k).unit)
    → (mode_from t path u a (drop k rounds)
    ≡ cond (eqb (round_at rounds k).unit u && eqb (round_at rounds k).at a) (get_or (modes_of t (round_at rounds k).unit) (path / (behind / count) % count) 0) (mode_from t path u a (drop (k + 1) rounds)))
    × (behind / count ≡ choices t (drop (k + 1) rounds)) × (0 < behind / count)
mode_next t rounds k path u a behind count l b some c =
    let r = round_at rounds k in
    let n = place_next t rounds k path behind count (get_or (modes_of t r.unit) (path / (behind / count) % count) 0) l b some c refl in
    let test = eqb r.unit u && eqb r.at a in
    let same : get_or (modes_of t r.unit) (path / (behind / count) % count) 0 ≡ mode_in t path r (drop (k + 1) rounds) =
    ap (λ m. get_or (modes_of t r.unit) (path / m % count) 0) n.1 ∙ ap (λ m. get_or (modes_of t r.unit) (path / choices t (drop (k + 1) rounds) % m) 0) c in (
      ap (mode_from t path u a) (drop-cons rounds k no_round l)
          ∙ sym (ap (λ i. cond test (mode_in t path r (drop i rounds)) (mode_from t path u a (drop i rounds))) (add-one k))
          ∙ sym (ap (λ m. cond test m (mode_from t path u a (drop (k + 1) rounds))) same),
      n.1,
      n.2,
    )
