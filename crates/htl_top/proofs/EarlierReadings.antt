-- What is read later changes nothing before it.
use Rattle.std.proofs.Common.{arith, ◌≡◌, ◌≤◌, ◌<◌, ◌⊎◌, inl, inr, ◌&&◌, ℕ, zero, suc, Bool, true, false, cond, eqb, leb, ℤ, List, [], ◌∷◌, refl, sym, ap, ◌∙◌}
use Rattle.htl_top.proofs.Vocabulary.{true≢false, nat_tests, Agree, history_local, not_yet, run_lines_same, lines_text, History, initial, last_sense, newest, sense, Event, Line, Tables, read_where, EarlierReadingsDecideValues, EarlierReadingsDecideTexts, get_or, pos, nat_le, nat_lt}
use Rattle.htl_model.specs.declared.event.Event.TheVariants as event

kept_or_dropped : (P : List Event → Type 0) (b : Bool) (with_it without : List Event) → (b ≡ true → P with_it) → (b ≡ false → P without) → P (cond b with_it without)
kept_or_dropped P true with_it without kept dropped = kept refl
kept_or_dropped P false with_it without kept dropped = dropped refl

-- a rule that keeps every reading up to u
module _ (keeps : ℕ → Bool) (c u : ℕ) (early : (r : ℕ) → r ≤ u → keeps r ≡ true) where
  either : (r : ℕ) → (r ≤ u) ⊎ (u < r)
  either r = grind arith

  late : (r : ℕ) → keeps r ≡ false → u < r
  late r dropped = elim (either r) [ inl before ↦ absurd (true≢false (sym (early r before) ∙ dropped)) | inr after ↦ after ]

  -- the reading, or any other where the events that follow are dropped
  abbrev Stands : ℕ → ℕ → Type 0
  Stands r r' = (r ≡ r') ⊎ (keeps r ≡ false)

  same_reading : (r r' : ℕ) → Stands r r' → keeps r ≡ true → r ≡ r'
  same_reading r r' (inl same) kept = same
  same_reading r r' (inr dropped) kept = absurd (true≢false (sym kept ∙ dropped))

  last_sense-where : (r r' : ℕ) (x : ℤ) (es : List Event) → Stands r r' → last_sense c u r x es ≡ last_sense c u r' x (read_where keeps r es)
  last_sense-where r r' x [] stands = refl
  last_sense-where r r' x (event.At t ∷ es) stands =
      kept_or_dropped (λ (fs : List Event). last_sense c u t x es ≡ last_sense c u r' x fs) (keeps t) (event.At t ∷ read_where keeps t es) (read_where keeps t es)
      (λ is. last_sense-where t t x es (inl refl)) (λ is. last_sense-where t r' x es (inr is))
  last_sense-where r r' x (event.Sense d y ∷ es) stands =
      let taken : ℕ → ℤ = λ z. cond (eqb c d && leb z u) y x in
      kept_or_dropped (λ (fs : List Event). last_sense c u r (taken r) es ≡ last_sense c u r' x fs) (keeps r) (event.Sense d y ∷ read_where keeps r es) (read_where keeps r es)
      (λ is.
      last_sense-where r r' (taken r) es stands ∙ ap (λ (z : ℕ). last_sense c u r' (taken z) (read_where keeps r es)) (same_reading r r' stands is))
      (λ is.
      last_sense-where r r' (taken r) es stands ∙ ap (λ (z : ℤ). last_sense c u r' z (read_where keeps r es)) (not_yet c d r u y x (late r is)))
  last_sense-where r r' x (event.Took i n ∷ es) stands =
      kept_or_dropped (λ (fs : List Event). last_sense c u r x es ≡ last_sense c u r' x fs) (keeps r) (event.Took i n ∷ read_where keeps r es) (read_where keeps r es)
      (λ is. last_sense-where r r' x es stands) (λ is. last_sense-where r r' x es stands)
  last_sense-where r r' x (event.End t ∷ es) stands =
      kept_or_dropped (λ (fs : List Event). last_sense c u r x es ≡ last_sense c u r' x fs) (keeps r) (event.End t ∷ read_where keeps r es) (read_where keeps r es)
      (λ is. last_sense-where r r' x es stands) (λ is. last_sense-where r r' x es stands)

-- scripts with the same events among those that the rule keeps, which keeps every reading up to n
agree : (keeps : ℕ → Bool) (t : Tables) (es fs : List Event) (n : ℕ) → ((r : ℕ) → r ≤ n → keeps r ≡ true)
    → read_where keeps 0 es ≡ read_where keeps 0 fs → Agree (sense t es) (sense t fs) n
agree keeps t es fs n early same c u within =
    let sooner : (r : ℕ) → r ≤ u → keeps r ≡ true = λ r h. early r (omega (arith, h, within)) in
    last_sense-where keeps c u sooner 0 0 (initial t c) es (inl refl)
    ∙ ap (λ (gs : List Event). last_sense c u 0 (initial t c) gs) same
    ∙ sym (last_sense-where keeps c u sooner 0 0 (initial t c) fs (inl refl))

kept_by : (now r : ℕ) → r ≤ now → nat_le r now ≡ true
kept_by now r h = grind (arith, nat_tests)

kept_before : (n r : ℕ) → r ≤ n → nat_lt r (suc n) ≡ true
kept_before n r h = grind (arith, nat_tests)

pub earlier_values : EarlierReadingsDecideValues
earlier_values t es fs now same c =
    ap (λ (h : History). get_or (newest h).values c (pos 0))
    (history_local t (sense t es) (sense t fs) now (agree (λ r. nat_le r now) t es fs now (kept_by now) same))

pub earlier_texts : EarlierReadingsDecideTexts
earlier_texts t es fs zero same = refl
earlier_texts t es fs (suc n) same =
    ap (λ (ls : List Line). lines_text t ls) (run_lines_same t es fs n (agree (λ r. nat_lt r (suc n)) t es fs n (kept_before n) same))
