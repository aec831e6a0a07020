-- Whether all that feeds a job is done, by the list of those that do.
use Rattle.std.proofs.Common.{◌≡◌, ◌<◌, ◌≤◌, ℕ, zero, suc, ◌+◌, Bool, true, false, cond, not, ◌&&◌, ◌||◌, leb, ltb, List, [], ◌∷◌, ◌++◌, length, drop, get_or, Option, Some, None, All, refl, sym, ◌∙◌, ap, ap₂, arith}
use Rattle.htl_audit.proofs.Words.{le-ltb, lt-leb, append_assoc, Inv, feeds, Tables, get_list_to, Slice, LogKind, feeders_from, feeders_of, all_feeders, is_done_at, are_done, Roster, Kept, has_job, sum_at, length_at, ticks_of, is_inside, is_full, is_clear_of, is_free_from, is_free_at, kind_of}
use Rattle.htl_audit.specs.declared.slice.LogKind.TheVariants as kind
use Rattle.htl_audit.proofs.Steps.{drop_at}

-- ---- the list

next_feeders : (t : Tables) (i n : ℕ) (xs : List Inv) → n < length xs → feeders_from t i n (drop n xs) ≡ cond (feeds t n i) (n ∷ feeders_from t i (n + 1) (drop (n + 1) xs)) (feeders_from t i (n + 1) (drop (n + 1) xs))
next_feeders t i n [] h = absurd (omega (arith, h))
next_feeders t i n (x ∷ xs) h =
    ap (feeders_from t i n) (drop_at x (x ∷ xs) n h)
    ∙ ap (λ m. cond (feeds t n i) (n ∷ feeders_from t i m (drop (n + 1) (x ∷ xs))) (feeders_from t i m (drop (n + 1) (x ∷ xs)))) (let z : suc n ≡ n + 1 = omega arith in z)

pub feeders_more : (t : Tables) (i n : ℕ) (xs : List Inv) (found whole : List ℕ) → n < length xs → feeds t n i ≡ true → found ++ feeders_from t i n (drop n xs) ≡ whole
    → (found ++ n ∷ []) ++ feeders_from t i (n + 1) (drop (n + 1) xs) ≡ whole
feeders_more t i n xs found whole h yes_fed e =
    let rest = feeders_from t i (n + 1) (drop (n + 1) xs) in
    append_assoc found (n ∷ []) rest ∙ sym (ap (λ ns. found ++ ns) (next_feeders t i n xs h ∙ ap (λ b. cond b (n ∷ rest) rest) yes_fed)) ∙ e

pub feeders_same : (t : Tables) (i n : ℕ) (xs : List Inv) (found whole : List ℕ) → n < length xs → feeds t n i ≡ false → found ++ feeders_from t i n (drop n xs) ≡ whole
    → found ++ feeders_from t i (n + 1) (drop (n + 1) xs) ≡ whole
feeders_same t i n xs found whole h not_fed e =
    let rest = feeders_from t i (n + 1) (drop (n + 1) xs) in
    sym (ap (λ ns. found ++ ns) (next_feeders t i n xs h ∙ ap (λ b. cond b (n ∷ rest) rest) not_fed)) ∙ e

within_from : (t : Tables) (i n : ℕ) (xs : List Inv) → All (λ k. k < n + length xs) (feeders_from t i n xs)
within_from t i n [] = λ k d h. absurd (omega (arith, h))
within_from t i n (x ∷ xs) = by (feeds t n i) (λ k d h. omega (arith, within_from t i (suc n) xs k d h))
  where
    by : (b : Bool) → ((k d : ℕ) → k < length (feeders_from t i (suc n) xs) → get_or (feeders_from t i (suc n) xs) k d < n + suc (length xs))
        → All (λ k. k < n + suc (length xs)) (cond b (n ∷ feeders_from t i (suc n) xs) (feeders_from t i (suc n) xs))
    by true later zero d h = omega arith
    by true later (suc k) d h = later k d (omega (arith, h))
    by false later k d h = later k d h

pub feeders_within : (t : Tables) (i : ℕ) → All (λ k. k < length t.invs) (feeders_of t i)
feeders_within t i k d h = omega (arith, within_from t i 0 t.invs k d h)

pub row_is : (t : Tables) (i : ℕ) → i < length t.invs → get_or (all_feeders t) i [] ≡ feeders_of t i
row_is t i h = get_list_to (feeders_of t) (length t.invs) i [] h

-- ---- the test

free_of : (t : Tables) (o : Roster) (sums : List ℕ) (i n : ℕ) (xs : List Inv) → is_free_from t o sums i n xs ≡ are_done o sums (feeders_from t i n xs)
free_of t o sums i n [] = refl
free_of t o sums i n (x ∷ xs) = by (feeds t n i) refl (free_of t o sums i (suc n) xs)
  where
    alone : (a b c : Bool) → (not (a && false) || c) ≡ true
    alone true b c = refl
    alone false b c = refl

    with_it : (a c : Bool) → (not (a && true) || c) ≡ (not a || c)
    with_it true c = refl
    with_it false c = refl

    by : (b : Bool) → feeds t n i ≡ b → is_free_from t o sums i (suc n) xs ≡ are_done o sums (feeders_from t i (suc n) xs)
        → (is_clear_of t o sums i n && is_free_from t o sums i (suc n) xs) ≡ are_done o sums (cond b (n ∷ feeders_from t i (suc n) xs) (feeders_from t i (suc n) xs))
    by true e later = ap₂ (λ a b. a && b) (ap (λ b. not (has_job o n && b) || is_full o sums n) e ∙ with_it (has_job o n) (is_full o sums n)) later
    by false e later = ap₂ (λ a b. a && b) (ap (λ b. not (has_job o n && b) || is_full o sums n) e ∙ alone (has_job o n) true (is_full o sums n)) later

pub free_is : (t : Tables) (o : Roster) (sums : List ℕ) (i : ℕ) → is_free_at t o sums i ≡ are_done o sums (feeders_of t i)
free_is t o sums i = free_of t o sums i 0 t.invs

next_done : (o : Roster) (sums ns : List ℕ) (d n : ℕ) → n < length ns → are_done o sums (drop n ns) ≡ (is_done_at o sums (get_or ns n d) && are_done o sums (drop (n + 1) ns))
next_done o sums ns d n h = ap (are_done o sums) (drop_at d ns n h)

pub done_stop : (o : Roster) (sums ns : List ℕ) (d n : ℕ) (whole : Bool) → n < length ns → is_done_at o sums (get_or ns n d) ≡ false → are_done o sums (drop n ns) ≡ whole → false ≡ whole
done_stop o sums ns d n whole h off e = sym (ap (λ b. b && are_done o sums (drop (n + 1) ns)) off) ∙ sym (next_done o sums ns d n h) ∙ e

pub done_go : (o : Roster) (sums ns : List ℕ) (d n : ℕ) (whole : Bool) → n < length ns → is_done_at o sums (get_or ns n d) ≡ true → are_done o sums (drop n ns) ≡ whole
    → are_done o sums (drop (n + 1) ns) ≡ whole
done_go o sums ns d n whole h on e = sym (ap (λ b. b && are_done o sums (drop (n + 1) ns)) on) ∙ sym (next_done o sums ns d n h) ∙ e

-- the last test of a line, by the list of those that feed its job
pub kind_last : (t : Tables) (now : ℕ) (k : Kept) (x : Slice) (b : Bool) → x.from < x.to → k.end ≤ x.from → x.to < now → is_inside t k.roster x ≡ true → sum_at k.sums x.inv + ticks_of x ≤ length_at k.roster x.inv
    → are_done k.roster k.sums (feeders_of t x.inv) ≡ b → kind_of t now k x ≡ cond (not b) (Some kind.Before) None
kind_last t now k x b some order soon inside room done =
    let sorted : (leb x.to x.from || ltb x.from k.end || leb now x.to) ≡ false = ap₂ (λ a b. a || b || leb now x.to) (lt-leb x.to x.from some) (le-ltb x.from k.end order) ∙ lt-leb now x.to soon in
    let rest : Bool → Option LogKind = λ c. cond c (Some kind.Before) None in
    ap (λ a. cond a (Some kind.Order) (cond (not (is_inside t k.roster x)) (Some kind.Outside) (cond (ltb (length_at k.roster x.inv) (sum_at k.sums x.inv + ticks_of x)) (Some kind.Over) (rest (not (is_free_at t k.roster k.sums x.inv)))))) sorted
    ∙ ap (λ a. cond (not a) (Some kind.Outside) (cond (ltb (length_at k.roster x.inv) (sum_at k.sums x.inv + ticks_of x)) (Some kind.Over) (rest (not (is_free_at t k.roster k.sums x.inv))))) inside
    ∙ ap (λ a. cond a (Some kind.Over) (rest (not (is_free_at t k.roster k.sums x.inv)))) (le-ltb (length_at k.roster x.inv) (sum_at k.sums x.inv + ticks_of x) room)
    ∙ ap (λ a. rest (not a)) (free_is t k.roster k.sums x.inv ∙ done)
