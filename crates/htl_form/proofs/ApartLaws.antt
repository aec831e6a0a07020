-- Which invocations write nothing that an earlier concrete invocation writes.
use Rattle.std.proofs.Common.{◌≡◌, ◌≢◌, ◌<◌, ◌≤◌, ◌⊎◌, ℕ, zero, suc, ◌+◌, ◌-◌, Bool, true, false, ◌&&◌, cond, eqb, List, [], ◌∷◌, ◌++◌, get_or, replicate, Option, Some, None, refl, sym, ◌∙◌, ap, subst, arith, inl, inr}
use Rattle.htl_form.proofs.Words.{slice_get, list_any, IsDistinct, AllByRecursion, nat_tests, list_any-append, IsPermutation, IsSorted, IsStrictlyIncreasing, nat_cmp, IsPermutation-sym, IsNonDecreasingBy-from_sort, IsDistinct-head, IsDistinct-tail, IsDistinct-cons, IsDistinct-from_apart, IsDistinct-IsPermutation, any_passes_from_place, below_from_sorted, sorted_from_strictly_increasing, IsStrictlyIncreasing-from_distinct, Inv, End, OutputBefore, AreInRange, IsInvInRange, IsEndInRange, StandTogether, AreSameWrite, WritesBefore, Tables, is_concrete, key, instance_of, AreNear, end_keys, keys_in, inv_keys, keys_from, is_comm, takes, is_taken, is_taken_end, IsApart, AreApart, AreNoted, IsRangeOf, stand_together, rivals, outputs_before, writer_before, all_at, eq-eqb, or_cases, or_left, or_right, eqb_flips, true_not_false, eqb_less, cases_below, nothing_from}
use Rattle.htl_model.specs.declared.parts.End.TheVariants as E
use Rattle.htl_form.proofs.{PathLaws.true_together, Places.filled_at, WriterLaws.writes_before}

-- ---- two parts of a list without repetitions

all_front : (P : ℕ → Type 0) (xs ys : List ℕ) → AllByRecursion P (xs ++ ys) → AllByRecursion P xs
all_front P [] ys h = tt
all_front P (x ∷ xs) ys h = (h.0, all_front P xs ys h.1)

pub distinct_front : (xs ys : List ℕ) → IsDistinct eqb (xs ++ ys) → IsDistinct eqb xs
distinct_front [] ys h = IsDistinct-from_apart eqb [] (λ i j d a b. absurd (omega arith))
distinct_front (x ∷ xs) ys h =
    IsDistinct-cons eqb x xs (all_front (λ y. eqb x y ≡ false) xs ys (IsDistinct-head eqb x (xs ++ ys) h)) (distinct_front xs ys (IsDistinct-tail eqb x (xs ++ ys) h))

pub distinct_back : (xs ys : List ℕ) → IsDistinct eqb (xs ++ ys) → IsDistinct eqb ys
distinct_back [] ys h = h
distinct_back (x ∷ xs) ys h = distinct_back xs ys (IsDistinct-tail eqb x (xs ++ ys) h)

none_passes : (x : ℕ) (ys : List ℕ) → AllByRecursion (λ y. eqb x y ≡ false) ys → list_any (eqb x) ys ≡ true → ⊥
none_passes x [] h e = cc
none_passes x (y ∷ ys) h e = elim (or_cases (eqb x y) _ e) [ inl here ↦ true_not_false (eqb x y) here h.0 | inr later ↦ none_passes x ys h.1 later ]

-- no number is in both
pub clash : (xs ys : List ℕ) (q : ℕ) → IsDistinct eqb (xs ++ ys) → list_any (eqb q) xs ≡ true → list_any (eqb q) ys ≡ true → ⊥
clash [] ys q h a b = cc
clash (x ∷ xs) ys q h a b =
    elim (or_cases (eqb q x) _ a) [
      | inl here ↦
          let is : q ≡ x = grind (arith, nat_tests) in
          let far : list_any (eqb x) ys ≡ true = subst (λ z. list_any (eqb z) ys ≡ true) is b in
          none_passes x (xs ++ ys) (IsDistinct-head eqb x (xs ++ ys) h) (list_any-append (eqb x) xs ys ∙ or_right (list_any (eqb x) xs) (list_any (eqb x) ys) far)
      | inr later ↦ clash xs ys q (IsDistinct-tail eqb x (xs ++ ys) h) later b
    ]

-- numbers that rise once they are sorted are without repetitions
pub distinct_once_sorted : (old new : List ℕ) → IsPermutation old new → IsStrictlyIncreasing new → IsDistinct eqb old
distinct_once_sorted old new moved rising =
    IsDistinct-IsPermutation eqb eqb_flips new old (IsPermutation-sym old new moved)
    (IsDistinct-from_apart eqb new (λ i j d less within. eqb_less (get_or new i d) (get_or new j d) (below_from_sorted new i j d (sorted_from_strictly_increasing new rising) less within)))

-- and the other way round
pub rising_once_sorted : (old new : List ℕ) → IsPermutation old new → IsSorted nat_cmp new → IsDistinct eqb old → IsStrictlyIncreasing new
rising_once_sorted old new moved sorted once =
    IsStrictlyIncreasing-from_distinct new (IsNonDecreasingBy-from_sort (λ (x : ℕ). x) new sorted) (IsDistinct-IsPermutation eqb eqb_flips old new moved once)

-- ---- one mode

-- what an invocation writes has numbers up to a million
pub near : (t : Tables) (k : ℕ) (x : Inv) → AreInRange t → slice_get t.invs k ≡ Some x → AreNear x.writes
near t k x range at = λ j d within. by (get_or x.writes j d) ((all_at (IsInvInRange t) t.invs k x range.invs at).writes j d within)
  where
    by : (e : End) → IsEndInRange t x.mode e → instance_of e ≤ 1000000
    by (E.Comm c n) h = h.1
    by (E.Port p) h = omega arith

key_here : (c n : ℕ) → list_any (eqb (key c n)) (end_keys (E.Comm c n)) ≡ true
key_here c n = or_left (eqb (key c n) (key c n)) false (eq-eqb (key c n) (key c n) refl)

-- an instance that is written has its key among the keys
pub key_in : (ends : List End) (place c n : ℕ) → slice_get ends place ≡ Some (E.Comm c n) → list_any (eqb (key c n)) (keys_in ends) ≡ true
key_in [] place c n h = cc
key_in (e ∷ ends) zero c n h =
    let is : e ≡ E.Comm c n = cc in
    list_any-append (eqb (key c n)) (end_keys e) (keys_in ends)
    ∙ or_left (list_any (eqb (key c n)) (end_keys e)) _ (ap (λ x. list_any (eqb (key c n)) (end_keys x)) is ∙ key_here c n)
key_in (e ∷ ends) (suc place) c n h =
    list_any-append (eqb (key c n)) (end_keys e) (keys_in ends) ∙ or_right (list_any (eqb (key c n)) (end_keys e)) _ (key_in ends place c n h)

-- no output repeats an earlier one of its invocation
pub own_apart : (ends : List End) (place j c n : ℕ) → IsDistinct eqb (keys_in ends) → place < j → slice_get ends place ≡ Some (E.Comm c n) → slice_get ends j ≡ Some (E.Comm c n) → ⊥
own_apart [] place j c n d less p q = cc
own_apart (e ∷ ends) place zero c n d less p q = absurd (omega arith)
own_apart (e ∷ ends) zero (suc j) c n d less p q =
    let is : e ≡ E.Comm c n = cc in
    clash (end_keys e) (keys_in ends) (key c n) d (ap (λ x. list_any (eqb (key c n)) (end_keys x)) is ∙ key_here c n) (key_in ends j c n q)
own_apart (e ∷ ends) (suc place) (suc j) c n d less p q = own_apart ends place j c n (distinct_back (end_keys e) (keys_in ends) d) (omega arith) p q

concrete_keys : (t : Tables) (x : Inv) → is_concrete t x ≡ true → inv_keys t (Some x) ≡ keys_in x.writes
concrete_keys t x h = ap (λ b. cond b (keys_in x.writes) []) h

-- the key of an instance that invocation base + a writes is among those of the first n
keys_has : (t : Tables) (base n a q : ℕ) → a < n → list_any (eqb q) (inv_keys t (slice_get t.invs (base + a))) ≡ true → list_any (eqb q) (keys_from t base n) ≡ true
keys_has t base zero a q less h = absurd (omega arith)
keys_has t base (suc n) a q less h =
    list_any-append (eqb q) (keys_from t base n) (inv_keys t (slice_get t.invs (base + n)))
    ∙ elim (cases_below a n less) [
      | inl below ↦ or_left (list_any (eqb q) (keys_from t base n)) _ (keys_has t base n a q below h)
      | inr is ↦ or_right (list_any (eqb q) (keys_from t base n)) _ (subst (λ z. list_any (eqb q) (inv_keys t (slice_get t.invs (base + z))) ≡ true) is h)
    ]

-- the keys of one invocation among them are without repetitions
one_distinct : (t : Tables) (base n b : ℕ) → IsDistinct eqb (keys_from t base n) → b < n → IsDistinct eqb (inv_keys t (slice_get t.invs (base + b)))
one_distinct t base zero b d less = absurd (omega arith)
one_distinct t base (suc n) b d less =
    elim (cases_below b n less) [
      | inl below ↦ one_distinct t base n b (distinct_front (keys_from t base n) _ d) below
      | inr is ↦ subst (λ z. IsDistinct eqb (inv_keys t (slice_get t.invs (base + z)))) (sym is) (distinct_back (keys_from t base n) _ d)
    ]

-- and two of them share none
two_apart : (t : Tables) (base n a b q : ℕ) → IsDistinct eqb (keys_from t base n) → b < n → a < b → list_any (eqb q) (inv_keys t (slice_get t.invs (base + a))) ≡ true
    → list_any (eqb q) (inv_keys t (slice_get t.invs (base + b))) ≡ true → ⊥
two_apart t base zero a b q d less before p r = absurd (omega arith)
two_apart t base (suc n) a b q d less before p r =
    elim (cases_below b n less) [
      | inl below ↦ two_apart t base n a b q (distinct_front (keys_from t base n) _ d) below before p r
      | inr is ↦
          clash (keys_from t base n) _ q d (keys_has t base n a q (omega arith) p)
          (subst (λ z. list_any (eqb q) (inv_keys t (slice_get t.invs (base + z))) ≡ true) is r)
    ]

-- ---- other modes

taken_below : (t : Tables) (m base c l : ℕ) → l < base → takes t m c (slice_get t.invs l) ≡ true → is_taken t m base c ≡ true
taken_below t m zero c l less h = absurd (omega arith)
taken_below t m (suc base) c l less h =
    elim (cases_below l base less) [
      | inl below ↦ or_left (is_taken t m base c) _ (taken_below t m base c l below h)
      | inr is ↦ or_right (is_taken t m base c) _ (subst (λ z. takes t m c (slice_get t.invs z) ≡ true) is h)
    ]

takes_true : (t : Tables) (m c l place o : ℕ) (x : Inv) → slice_get t.invs l ≡ Some x → is_concrete t x ≡ true → stand_together t x.mode m ≡ true
    → slice_get x.writes place ≡ Some (E.Comm c o) → takes t m c (slice_get t.invs l) ≡ true
takes_true t m c l place o x at p q h =
    ap (takes t m c) at ∙ join (is_concrete t x) (stand_together t x.mode m) (list_any (is_comm c) x.writes) p q
    (any_passes_from_place (is_comm c) x.writes place (E.Comm c o) h (eq-eqb c c refl))
  where
    join : (a b d : Bool) → a ≡ true → b ≡ true → d ≡ true → (a && (b && d)) ≡ true
    join a b d p q r = grind (arith, nat_tests)

-- ---- an invocation that is apart

-- invocation base + q of mode m repeats no instance of its mode, and writes no communicator that is taken
pub apart_is : (t : Tables) (m base n upto q : ℕ) (taken : List Bool) → AreInRange t → IsRangeOf t m base n → q < n → q < upto → IsDistinct eqb (keys_from t base upto)
    → AreNoted t m base n taken → (i : Inv) → slice_get t.invs (base + q) ≡ Some i → list_any (is_taken_end taken) i.writes ≡ false → IsApart t (base + q)
apart_is t m base n upto q taken r w is_q upto_q d noted i at free = λ y j c o at_y out conc.
    nothing_from (writer_before t (base + q) y j c o) 0 t.invs
    (λ l x at_x. (let start : l ≡ 0 + l = omega arith in subst (λ z. writer_before t (base + q) y j c o z x ≡ None) start (each y j c o at_y out conc l x at_x (rivals t y c o x (outputs_before (base + q) j l x)) refl)))
  where
    same_mode : (y : Inv) → slice_get t.invs (base + q) ≡ Some y → y.mode ≡ m
    same_mode y at_y = w.inside q y is_q at_y

    -- an earlier output of the same mode
    own : (y : Inv) (j c o : ℕ) → slice_get t.invs (base + q) ≡ Some y → slice_get y.writes j ≡ Some (E.Comm c o) → is_concrete t y ≡ true
        → (l place : ℕ) (x : Inv) → slice_get t.invs l ≡ Some x → is_concrete t x ≡ true → OutputBefore l place (base + q) j → slice_get x.writes place ≡ Some (E.Comm c o) → x.mode ≡ m → ⊥
    own y j c o at_y out conc l place x at_x conc_x (inl less) wrote mode =
        let range = w.outside l x at_x mode in
        let a : ℕ = l - base in
        let is : l ≡ base + a = omega (arith, range.0) in
        let at_a : slice_get t.invs (base + a) ≡ Some x = ap (slice_get t.invs) (sym is) ∙ at_x in
        two_apart t base upto a q (key c o) d upto_q (omega (arith, range.0))
        (ap (λ z. list_any (eqb (key c o)) (inv_keys t z)) at_a ∙ ap (list_any (eqb (key c o))) (concrete_keys t x conc_x) ∙ key_in x.writes place c o wrote)
        (ap (λ z. list_any (eqb (key c o)) (inv_keys t z)) at_y ∙ ap (list_any (eqb (key c o))) (concrete_keys t y conc) ∙ key_in y.writes j c o out)
    own y j c o at_y out conc l place x at_x conc_x (inr same) wrote mode =
        let item : Some x ≡ Some y = sym at_x ∙ ap (slice_get t.invs) same.0 ∙ at_y in
        let is : x ≡ y = cc in
        let keys : inv_keys t (slice_get t.invs (base + q)) ≡ keys_in y.writes = ap (inv_keys t) at_y ∙ concrete_keys t y conc in
        own_apart y.writes place j c o (subst (λ ks. IsDistinct eqb ks) keys (one_distinct t base upto q d upto_q)) same.1
        (subst (λ (z : Inv). slice_get z.writes place ≡ Some (E.Comm c o)) is wrote) out

    -- an output of an earlier mode
    other : (y : Inv) (j c o : ℕ) → slice_get t.invs (base + q) ≡ Some y → slice_get y.writes j ≡ Some (E.Comm c o) → is_concrete t y ≡ true
        → (l place p : ℕ) (x : Inv) → slice_get t.invs l ≡ Some x → is_concrete t x ≡ true → OutputBefore l place (base + q) j → slice_get x.writes place ≡ Some (E.Comm c p)
        → x.mode ≢ m → StandTogether t x.mode m → ⊥
    other y j c o at_y out conc l place p x at_x conc_x (inr same) wrote apart stand =
        apart (same_mode x (ap (slice_get t.invs) (sym same.0) ∙ at_x))
    other y j c o at_y out conc l place p x at_x conc_x (inl less) wrote apart stand =
        let item : Some y ≡ Some i = sym at_y ∙ at in
        let is : y ≡ i = cc in
        let few = r.few_comms in
        let within = all_at (IsEndInRange t y.mode) y.writes j (E.Comm c o) (all_at (IsInvInRange t) t.invs (base + q) y r.invs at_y).writes out in
        let taken_c : get_or taken c false ≡ true =
        noted q c y is_q (omega (arith, within.0)) at_y conc (any_passes_from_place (is_comm c) y.writes j (E.Comm c o) out (eq-eqb c c refl))
        (taken_below t m base c l (before l x at_x less apart) (takes_true t m c l place p x at_x conc_x (true_together t x.mode m stand) wrote)) in
        let hit : list_any (is_taken_end taken) y.writes ≡ true = any_passes_from_place (is_taken_end taken) y.writes j (E.Comm c o) out taken_c in
        true_not_false (list_any (is_taken_end taken) i.writes) (subst (λ (z : Inv). list_any (is_taken_end taken) z.writes ≡ true) is hit) free
      where
        before : (l : ℕ) (x : Inv) → slice_get t.invs l ≡ Some x → l < base + q → x.mode ≢ m → l < base
        before l x at_x less apart =
            elim (order l) [
              | inl h ↦ h
              | inr h ↦
                  let shift : base + (l - base) ≡ l = omega arith in
                  absurd (apart (w.inside (l - base) x (omega arith) (ap (slice_get t.invs) shift ∙ at_x)))
            ]
          where
            order : (l : ℕ) → (l < base) ⊎ (base ≤ l)
            order l = grind arith

    each : (y : Inv) (j c o : ℕ) → slice_get t.invs (base + q) ≡ Some y → slice_get y.writes j ≡ Some (E.Comm c o) → is_concrete t y ≡ true
        → (l : ℕ) (x : Inv) → slice_get t.invs l ≡ Some x → (b : Bool) → rivals t y c o x (outputs_before (base + q) j l x) ≡ b → ◌≡◌ {A = Option ℕ} (cond b (Some l) None) None
    each y j c o at_y out conc l x at_x false e = refl
    each y j c o at_y out conc l x at_x true e = absurd (against (writes_before t (base + q) y j c o l x r at_x e))
      where
        against : WritesBefore t (base + q) y j c o l → ⊥
        against b = by b.7
          where
            by : AreSameWrite t b.0.mode b.4 y.mode o → ⊥
            by (inl s) =
                own y j c o at_y out conc l b.3 b.0 b.1 b.2 b.5 (subst (λ (z : ℕ). slice_get b.0.writes b.3 ≡ Some (E.Comm c z)) s.1 b.6) (s.0 ∙ same_mode y at_y)
            by (inr s) =
                let is : y.mode ≡ m = same_mode y at_y in
                other y j c o at_y out conc l b.3 b.4 b.0 b.1 b.2 b.5 b.6 (λ e. s.0 (e ∙ sym is)) (subst (λ z. StandTogether t b.0.mode z) is s.1)

-- where nothing is marked, each marked invocation is apart
pub none_marked : (t : Tables) (n : ℕ) → AreApart t (replicate n false)
none_marked t n = λ k marked. absurd (true_not_false (get_or (replicate n false) k false) marked (filled_at false n k))
