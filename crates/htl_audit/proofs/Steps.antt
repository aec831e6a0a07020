-- One step of the loops over invocations and lines.
use Rattle.std.proofs.Common.{◌≡◌, ℕ, zero, suc, ◌+◌, ◌≤◌, ◌<◌, Bool, true, false, cond, ltb, List, [], ◌∷◌, length, drop, get_or, Option, Some, None, is_some, refl, sym, ◌∙◌, ap, arith, ◌||◌}
use Rattle.htl_audit.proofs.Words.{Inv, Tables, Slice, LogFault, LogKind, Kept, kind_of, with_kind, judged, judged_to, fell_short, any_fell_short_from, le-ltb, lt-ltb}
use Rattle.std.proofs.Math.Seq.{drop-cons}

pub drop_at : {A : Type 0} (d : A) (xs : List A) (n : ℕ) → n < length xs → drop n xs ≡ get_or xs n d ∷ drop (n + 1) xs
drop_at d xs n h = drop-cons xs n d h ∙ ap (λ m. get_or xs n d ∷ drop m xs) (let z : suc n ≡ n + 1 = omega arith in z)

-- ---- lines

-- behind a fault nothing is judged
pub judged_stopped : (t : Tables) (now : ℕ) (xs : List Slice) (k : Kept) → is_some k.fault ≡ true → judged_to t now xs k ≡ k
judged_stopped t now [] k e = refl
judged_stopped t now (x ∷ xs) k e = by k.fault e
  where
    by : (o : Option LogFault) → is_some o ≡ true → elim o as (λ _. Kept) [ Some g ↦ k | None ↦ cond (ltb x.to now) (judged_to t now xs (judged t now x k)) k ] ≡ k
    by (Some f) e = refl
    by None e = absurd (let z : ⊥ = cc in z)

-- nor where the next line doesn't end before the instant
pub judged_late : (t : Tables) (now n : ℕ) (d : Slice) (log : List Slice) (k : Kept) → n < length log → now ≤ (get_or log n d).to → judged_to t now (drop n log) k ≡ k
judged_late t now n d log k h late = ap (λ xs. judged_to t now xs k) (drop_at d log n h) ∙ by k.fault
  where
    x : Slice
    x = get_or log n d

    by : (o : Option LogFault) → elim o as (λ _. Kept) [ Some g ↦ k | None ↦ cond (ltb (get_or log n d).to now) (judged_to t now (drop (n + 1) log) (judged t now (get_or log n d) k)) k ] ≡ k
    by (Some f) = refl
    by None = ap (λ b. cond b (judged_to t now (drop (n + 1) log) (judged t now (get_or log n d) k)) k) (le-ltb (get_or log n d).to now late)

pub judged_next : (t : Tables) (now n : ℕ) (d : Slice) (log : List Slice) (k : Kept) → n < length log → is_some k.fault ≡ false → (get_or log n d).to < now
    → judged_to t now (drop n log) k ≡ judged_to t now (drop (n + 1) log) (judged t now (get_or log n d) k)
judged_next t now n d log k h fresh early = ap (λ xs. judged_to t now xs k) (drop_at d log n h) ∙ by k.fault fresh
  where
    by : (o : Option LogFault) → is_some o ≡ false
        → elim o as (λ _. Kept) [ Some g ↦ k | None ↦ cond (ltb (get_or log n d).to now) (judged_to t now (drop (n + 1) log) (judged t now (get_or log n d) k)) k ] ≡ judged_to t now (drop (n + 1) log) (judged t now (get_or log n d) k)
    by (Some f) e = absurd (let z : ⊥ = cc in z)
    by None e = ap (λ b. cond b (judged_to t now (drop (n + 1) log) (judged t now (get_or log n d) k)) k) (lt-ltb (get_or log n d).to now early)

-- judging a line leaves the roster, and passes one line at most
pub judged_roster : (t : Tables) (now : ℕ) (x : Slice) (k : Kept) → (judged t now x k).roster ≡ k.roster
judged_roster t now x k = by (kind_of t now k x)
  where
    by : (o : Option LogKind) → (with_kind x o k).roster ≡ k.roster
    by (Some c) = refl
    by None = refl

pub judged_place : (t : Tables) (now : ℕ) (x : Slice) (k : Kept) → (judged t now x k).place ≤ k.place + 1
judged_place t now x k = by (kind_of t now k x)
  where
    by : (o : Option LogKind) → (with_kind x o k).place ≤ k.place + 1
    by (Some c) = omega arith
    by None = omega arith

-- ---- jobs that fell short

next_short : (t : Tables) (now : ℕ) (k : Kept) (n : ℕ) (xs : List Inv) → n < length xs → any_fell_short_from t now k n (drop n xs) ≡ (fell_short t now k n || any_fell_short_from t now k (n + 1) (drop (n + 1) xs))
next_short t now k n [] h = absurd (omega arith)
next_short t now k n (x ∷ xs) h =
    ap (any_fell_short_from t now k n) (drop_at x (x ∷ xs) n h) ∙ ap (λ m. fell_short t now k n || any_fell_short_from t now k m (drop (n + 1) (x ∷ xs))) (let z : suc n ≡ n + 1 = omega arith in z)

pub short_stop : (t : Tables) (now : ℕ) (k : Kept) (n : ℕ) (xs : List Inv) (whole : Bool) → n < length xs → fell_short t now k n ≡ true → any_fell_short_from t now k n (drop n xs) ≡ whole → true ≡ whole
short_stop t now k n xs whole h on e = sym (ap (λ b. b || any_fell_short_from t now k (n + 1) (drop (n + 1) xs)) on) ∙ sym (next_short t now k n xs h) ∙ e

pub short_go : (t : Tables) (now : ℕ) (k : Kept) (n : ℕ) (xs : List Inv) (whole : Bool) → n < length xs → fell_short t now k n ≡ false → any_fell_short_from t now k n (drop n xs) ≡ whole
    → any_fell_short_from t now k (n + 1) (drop (n + 1) xs) ≡ whole
short_go t now k n xs whole h off e = sym (ap (λ b. b || any_fell_short_from t now k (n + 1) (drop (n + 1) xs)) off) ∙ sym (next_short t now k n xs h) ∙ e

-- ---- where a judged line leaves the place

pub judged_within : (t : Tables) (now : ℕ) (xs : List Slice) (k : Kept) → (judged_to t now xs k).place ≤ k.place + length xs
judged_within t now [] k = omega arith
judged_within t now (x ∷ xs) k = by k.fault (ltb x.to now) (judged_within t now xs (judged t now x k))
  where
    by : (o : Option LogFault) (b : Bool) → (judged_to t now xs (judged t now x k)).place ≤ (judged t now x k).place + length xs
        → (elim o as (λ _. Kept) [ Some f ↦ k | None ↦ cond b (judged_to t now xs (judged t now x k)) k ]).place ≤ k.place + length (x ∷ xs)
    by (Some f) b h = omega arith
    by None false h = omega arith
    by None true h = omega (arith, h, judged_place t now x k)
