-- Numbers in the order of their names: a search by halves, and a number that is put in its place.
use Rattle.htl_script.proofs.Words.{take-append_seam, option_map, Ordering, Less, Equal, Greater, ordering_reverse, nat_cmp, is_eq, slice_cmp, nat_list_cmp_total, tied_itself, is_eq-slice_cmp, bytes_eq-Decides, same_Some, AreRising, AreOrdered, IsPlace, IsOrder, Keyed, key_of, keyed, keyed_name, compared, cases_lt, cases_below_next, length-append, length-take, length-drop}
use Rattle.std.proofs.Common.{inl, inr, ◌≡◌, ◌≢◌, ◌⊎◌, ◌+◌, ◌-◌, ◌<◌, ◌≤◌, ℕ, zero, suc, List, [], ◌∷◌, ◌++◌, length, get_or, set, take, drop, Option, Some, None, IsSome, Ok, Err, refl, sym, ap, ap₂, ◌∙◌, subst, arith, append_assoc}

there : (o : Option (List ℕ)) → IsSome o → (a : List ℕ) × (o ≡ Some a)
there (Some a) h = (a, refl)
there None h = absurd (let z : ⊥ = cc in z)

same_order : (x y : Ordering) → Some x ≡ Some y → x ≡ y
same_order x y e = cc

-- the other way round
turned : (a b : List ℕ) (x : Ordering) → slice_cmp nat_cmp a b ≡ x → slice_cmp nat_cmp b a ≡ ordering_reverse x
turned a b x e = nat_list_cmp_total.antisymm b a ∙ ap ordering_reverse e

not_less : (a : List ℕ) → slice_cmp nat_cmp a a ≡ Less → ⊥
not_less a e = let tied : slice_cmp nat_cmp a a ≡ Equal = tied_itself nat_list_cmp_total a in let z : Equal ≡ Less = sym tied ∙ e in cc

-- ---- comparing by halves

module _ (name : ℕ → Option (List ℕ)) (xs text : List ℕ) where
  pub compared_is : (i : ℕ) (a : List ℕ) → name (get_or xs i 0) ≡ Some a → compared name xs text i ≡ Some (slice_cmp nat_cmp a text)
  compared_is i a e = ap (option_map (λ own. slice_cmp nat_cmp own text)) e

  pub told : (i : ℕ) (a : List ℕ) (x : Ordering) → name (get_or xs i 0) ≡ Some a → compared name xs text i ≡ Some x → slice_cmp nat_cmp a text ≡ x
  told i a x e c = same_order (slice_cmp nat_cmp a text) x (sym (compared_is i a e) ∙ c)

  module _ (r : AreRising name xs) where
    pub less_before : (i j : ℕ) → i ≤ j → j < length xs → compared name xs text j ≡ Some Less → compared name xs text i ≡ Some Less
    less_before i j le below c = elim (order i j le) [
      | inl same ↦ ap (compared name xs text) same ∙ c
      | inr less ↦
          let a = there (name (get_or xs i 0)) (r.named i (omega arith)) in
          let b = there (name (get_or xs j 0)) (r.named j below) in
          compared_is i a.0 a.1 ∙ ap (λ x. Some x) (nat_list_cmp_total.trans a.0 b.0 text (r.rising i j a.0 b.0 less below a.1 b.1) (told j b.0 Less b.1 c))
    ]
      where
        order : (i j : ℕ) → i ≤ j → (i ≡ j) ⊎ (i < j)
        order i j h = grind arith

    pub greater_after : (i j : ℕ) → i ≤ j → j < length xs → compared name xs text i ≡ Some Greater → compared name xs text j ≡ Some Greater
    greater_after i j le below c = elim (order i j le) [
      | inl same ↦ ap (compared name xs text) (sym same) ∙ c
      | inr less ↦
          let a = there (name (get_or xs i 0)) (r.named i (omega arith)) in
          let b = there (name (get_or xs j 0)) (r.named j below) in
          let behind : slice_cmp nat_cmp text b.0 ≡ Less =
          nat_list_cmp_total.trans text a.0 b.0 (turned a.0 text Greater (told i a.0 Greater a.1 c)) (r.rising i j a.0 b.0 less below a.1 b.1) in
          compared_is j b.0 b.1 ∙ ap (λ x. Some x) (turned text b.0 Less behind)
    ]
      where
        order : (i j : ℕ) → i ≤ j → (i ≡ j) ⊎ (i < j)
        order i j h = grind arith

-- a name that compares equal is the text
pub equal_name : (o : Option (List ℕ)) (text : List ℕ) → option_map (λ own. slice_cmp nat_cmp own text) o ≡ Some Equal → o ≡ Some text
equal_name None text e = absurd (let z : ⊥ = cc in z)
equal_name (Some a) text e =
    let tied : slice_cmp nat_cmp a text ≡ Equal = same_order (slice_cmp nat_cmp a text) Equal e in
    ap (λ z. Some z) ((bytes_eq-Decides a text).0 (sym (is_eq-slice_cmp a text) ∙ ap is_eq tied))

-- ---- keys before names

-- a name with the key of a text is the text
pub unkeyed : (o : Option (List ℕ)) (text : List ℕ) → option_map keyed o ≡ Some (keyed text) → o ≡ Some text
unkeyed None text e = absurd (let z : ⊥ = cc in z)
unkeyed (Some a) text e = ap (λ (k : List ℕ). Some (drop 1 k)) (same_Some (keyed a) (keyed text) e)

-- ---- a number that is put at a place

abbrev pub put : List ℕ → ℕ → ℕ → List ℕ
put xs p n = take p xs ++ n ∷ drop p xs

pub put_length : (xs : List ℕ) (p n : ℕ) → p ≤ length xs → length (put xs p n) ≡ suc (length xs)
put_length xs zero n h = refl
put_length [] (suc p) n h = absurd (omega arith)
put_length (x ∷ xs) (suc p) n h = ap suc (put_length xs p n (omega arith))

put_before : (xs : List ℕ) (p n i : ℕ) → p ≤ length xs → i < p → get_or (put xs p n) i 0 ≡ get_or xs i 0
put_before xs zero n i h l = absurd (omega arith)
put_before [] (suc p) n i h l = absurd (omega arith)
put_before (x ∷ xs) (suc p) n zero h l = refl
put_before (x ∷ xs) (suc p) n (suc i) h l = put_before xs p n i (omega arith) (omega arith)

put_here : (xs : List ℕ) (p n : ℕ) → p ≤ length xs → get_or (put xs p n) p 0 ≡ n
put_here xs zero n h = refl
put_here [] (suc p) n h = absurd (omega arith)
put_here (x ∷ xs) (suc p) n h = put_here xs p n (omega arith)

put_after : (xs : List ℕ) (p n i : ℕ) → p ≤ length xs → p ≤ i → get_or (put xs p n) (suc i) 0 ≡ get_or xs i 0
put_after xs zero n i h l = refl
put_after [] (suc p) n i h l = absurd (omega arith)
put_after (x ∷ xs) (suc p) n zero h l = absurd (omega arith)
put_after (x ∷ xs) (suc p) n (suc i) h l = put_after xs p n i (omega arith) (omega arith)

-- ---- the same in an array, whose part behind the place is turned

front_same : (xs : List ℕ) (p c n : ℕ) → p ≤ c → take p (set xs c n) ≡ take p (take c xs)
front_same xs zero c n h = refl
front_same [] (suc p) zero n h = refl
front_same [] (suc p) (suc c) n h = refl
front_same (x ∷ xs) (suc p) zero n h = absurd (omega arith)
front_same (x ∷ xs) (suc p) (suc c) n h = ap (λ z. x ∷ z) (front_same xs p c n (omega arith))

front_more : (xs : List ℕ) (c n : ℕ) → c < length xs → take (suc c) (set xs c n) ≡ take c xs ++ n ∷ []
front_more [] c n h = absurd (omega arith)
front_more (x ∷ xs) zero n h = refl
front_more (x ∷ xs) (suc c) n h = ap (λ z. x ∷ z) (front_more xs c n (omega arith))

part_is : (xs : List ℕ) (p c n : ℕ) → p ≤ c → c < length xs → take (c + 1 - p) (drop p (set xs c n)) ≡ drop p (take c xs) ++ n ∷ []
part_is [] p c n h l = absurd (omega arith)
part_is (x ∷ xs) zero c n h l = ap (λ k. take k (set (x ∷ xs) c n)) (let e : c + 1 - 0 ≡ suc c = omega arith in e) ∙ front_more (x ∷ xs) c n l
part_is (x ∷ xs) (suc p) zero n h l = absurd (omega arith)
part_is (x ∷ xs) (suc p) (suc c) n h l =
    ap (λ k. take k (drop p (set xs c n))) (let e : suc c + 1 - suc p ≡ c + 1 - p = omega arith in e) ∙ part_is xs p c n (omega arith) (omega arith)

drop_front : (xs ys : List ℕ) → drop (length xs) (xs ++ ys) ≡ ys
drop_front [] ys = refl
drop_front (x ∷ xs) ys = drop_front xs ys

-- the last of a part comes first
turned_part : (xs : List ℕ) (n : ℕ) (part : List ℕ) → part ≡ xs ++ n ∷ [] → drop (length part - 1) part ++ take (length part - 1) part ≡ n ∷ xs
turned_part xs n part e =
    ap (λ (z : List ℕ). drop (length z - 1) z ++ take (length z - 1) z) e
    ∙ ap (λ k. drop k (xs ++ n ∷ []) ++ take k (xs ++ n ∷ [])) (let l : length (xs ++ n ∷ []) - 1 ≡ length xs = omega (arith, length-append xs (n ∷ [])) in l)
    ∙ ap₂ (λ (y z : List ℕ). y ++ z) (drop_front xs (n ∷ [])) (take-append_seam xs (n ∷ []))

pub inserted : (xs : List ℕ) (c p n : ℕ) (new rest : List ℕ) → p ≤ c → c < length xs
    → new ≡ drop (length (take (c + 1 - p) (drop p (set xs c n))) - 1) (take (c + 1 - p) (drop p (set xs c n))) ++ take (length (take (c + 1 - p) (drop p (set xs c n))) - 1) (take (c + 1 - p) (drop p (set xs c n)))
    → take (c + 1) (take p (set xs c n) ++ (new ++ rest)) ≡ put (take c xs) p n
inserted xs c p n new rest h l e =
    let back : List ℕ = drop p (take c xs) in
    let new_is : new ≡ n ∷ back = e ∙ turned_part back n (take (c + 1 - p) (drop p (set xs c n))) (part_is xs p c n h l) in
    let all : List ℕ = take p (take c xs) ++ n ∷ back in
    let long : c + 1 ≡ length all =
    omega (arith, length-append (take p (take c xs)) (n ∷ back), length-take p (take c xs), length-take c xs, length-drop p (take c xs)) in
    ap₂ (λ (y z : List ℕ). take (c + 1) (y ++ (z ++ rest))) (front_same xs p c n h) new_is
    ∙ ap (take (c + 1)) (sym (append_assoc (take p (take c xs)) (n ∷ back) rest))
    ∙ ap (λ k. take k (all ++ rest)) long ∙ take-append_seam all rest

-- where a place lies: before p, at p, or behind it
data Lies (p : ℕ) (i : ℕ) : Type 0 where
  is_before : i < p → Lies p i
  is_at : i ≡ p → Lies p i
  is_behind : (k : ℕ) → i ≡ suc k → p ≤ k → Lies p i

lies : (p i : ℕ) → Lies p i
lies zero zero = is_at refl
lies zero (suc i) = is_behind i refl (omega arith)
lies (suc p) zero = is_before (omega arith)
lies (suc p) (suc i) = elim (lies p i) [
  | is_before h ↦ is_before (omega arith)
  | is_at e ↦ is_at (ap suc e)
  | is_behind k e h ↦ is_behind (suc k) (ap suc e) (omega arith)
]

module _ (name : ℕ → Option (List ℕ)) (count : ℕ) (xs text : List ℕ) (p : ℕ) (o : AreOrdered name count xs) (place : IsPlace name xs text (Err p)) (here : name count ≡ Some text) where
  len : length (put xs p count) ≡ suc (length xs)
  len = put_length xs p count place.0

  -- the number at each place, as before or the new one
  before_is : (i : ℕ) → i < p → get_or (put xs p count) i 0 ≡ get_or xs i 0
  before_is i h = put_before xs p count i place.0 h

  at_is : (i : ℕ) → i ≡ p → get_or (put xs p count) i 0 ≡ count
  at_is i e = ap (λ k. get_or (put xs p count) k 0) e ∙ put_here xs p count place.0

  behind_is : (i k : ℕ) → i ≡ suc k → p ≤ k → get_or (put xs p count) i 0 ≡ get_or xs k 0
  behind_is i k e h = ap (λ j. get_or (put xs p count) j 0) e ∙ put_after xs p count k place.0 h

  named : (i : ℕ) → i < length (put xs p count) → IsSome (name (get_or (put xs p count) i 0))
  named i h = elim (lies p i) [
    | is_before l ↦ subst (λ n. IsSome (name n)) (sym (before_is i l)) (o.rising.named i (omega (arith, place.0)))
    | is_at e ↦ subst (λ x. IsSome x) (sym (ap name (at_is i e) ∙ here)) refl
    | is_behind k e l ↦ subst (λ n. IsSome (name n)) (sym (behind_is i k e l)) (o.rising.named k (omega (arith, len)))
  ]

  rising : (i j : ℕ) (a b : List ℕ) → i < j → j < length (put xs p count) → name (get_or (put xs p count) i 0) ≡ Some a → name (get_or (put xs p count) j 0) ≡ Some b → slice_cmp nat_cmp a b ≡ Less
  rising i j a b less h na nb = elim (lies p j) [
    | is_before l ↦ o.rising.rising i j a b less (omega (arith, place.0)) (ap name (sym (before_is i (omega arith))) ∙ na) (ap name (sym (before_is j l)) ∙ nb)
    | is_at e ↦
        let l : i < p = omega arith in
        let same : b ≡ text = same_Some b text (sym nb ∙ ap name (at_is j e) ∙ here) in
        let old : name (get_or xs i 0) ≡ Some a = ap name (sym (before_is i l)) ∙ na in
        ap (slice_cmp nat_cmp a) same ∙ told name xs text i a Less old (place.1 i l)
    | is_behind k e l ↦
        let old_b : name (get_or xs k 0) ≡ Some b = ap name (sym (behind_is j k e l)) ∙ nb in
        let below : k < length xs = omega (arith, len) in
        elim (lies p i) [
          | is_before m ↦ o.rising.rising i k a b (omega arith) below (ap name (sym (before_is i m)) ∙ na) old_b
          | is_at f ↦
              let same : a ≡ text = same_Some a text (sym na ∙ ap name (at_is i f) ∙ here) in
              ap (λ z. slice_cmp nat_cmp z b) same ∙ turned b text Greater (told name xs text k b Greater old_b (place.2 k l below))
          | is_behind q f m ↦ o.rising.rising q k a b (omega arith) below (ap name (sym (behind_is i q f m)) ∙ na) old_b
        ]
  ]

  below_more : (i : ℕ) → i < length (put xs p count) → get_or (put xs p count) i 0 < count + 1
  below_more i h = elim (lies p i) [
    | is_before l ↦ omega (arith, before_is i l, o.below i (omega (arith, place.0)))
    | is_at e ↦ omega (arith, at_is i e)
    | is_behind k e l ↦ omega (arith, behind_is i k e l, o.below k (omega (arith, len)))
  ]

  abbrev Found : ℕ → List ℕ → Type 0
  Found n a = (i : ℕ) × (i < length (put xs p count)) × (name (get_or (put xs p count) i 0) ≡ Some a) × (get_or (put xs p count) i 0 ≤ n)

  old_found : (n : ℕ) (a : List ℕ) → n < count → name n ≡ Some a → Found n a
  old_found n a h e =
      let w = o.whole n a h e in
      elim (cases_lt w.0 p) [
        | inl l ↦ (w.0, omega (arith, len, w.1), ap name (before_is w.0 l) ∙ w.2, omega (arith, before_is w.0 l, w.3))
        | inr l ↦ (suc w.0, omega (arith, len, w.1), ap name (behind_is (suc w.0) w.0 refl l) ∙ w.2, omega (arith, behind_is (suc w.0) w.0 refl l, w.3))
      ]

  whole : (n : ℕ) (a : List ℕ) → n < count + 1 → name n ≡ Some a → Found n a
  whole n a h e = elim (cases_below_next n count h) [
    | inl l ↦ old_found n a l e
    | inr same ↦ (p, omega (arith, len, place.0), ap name (at_is p refl ∙ sym same) ∙ e, omega (arith, at_is p refl))
  ]

  pub ordered_put : AreOrdered name (count + 1) (put xs p count)
  ordered_put = record { rising = record { named = named; rising = rising }; below = below_more; whole = whole }

-- the same with keys
module _ (name : ℕ → Option (List ℕ)) (count key : ℕ) (o : Keyed) (text : List ℕ) (p : ℕ) (h : IsOrder name count o) (place : IsPlace (keyed_name name) o.numbers (keyed text) (Err p)) (here : name count ≡ Some text) (is : key_of text ≡ key) where
  within : p ≤ length o.keys
  within = omega (arith, h.keys.many, place.0)

  keys_put : (i : ℕ) → i < length (put o.numbers p count) → option_map key_of (name (get_or (put o.numbers p count) i 0)) ≡ Some (get_or (put o.keys p key) i 0)
  keys_put i less = elim (lies p i) [
    | is_before l ↦
        ap (λ n. option_map key_of (name n)) (put_before o.numbers p count i place.0 l) ∙ h.keys.each i (omega (arith, place.0)) ∙ ap (λ n. Some n) (sym (put_before o.keys p key i within l))
    | is_at e ↦
        ap (λ n. option_map key_of (name n)) (ap (λ k. get_or (put o.numbers p count) k 0) e ∙ put_here o.numbers p count place.0) ∙ ap (option_map key_of) here ∙ ap (λ n. Some n) is
        ∙ ap (λ n. Some n) (sym (ap (λ k. get_or (put o.keys p key) k 0) e ∙ put_here o.keys p key within))
    | is_behind k e l ↦
        ap (λ n. option_map key_of (name n)) (ap (λ j. get_or (put o.numbers p count) j 0) e ∙ put_after o.numbers p count k place.0 l)
        ∙ h.keys.each k (omega (arith, put_length o.numbers p count place.0))
        ∙ ap (λ n. Some n) (sym (ap (λ j. get_or (put o.keys p key) j 0) e ∙ put_after o.keys p key k within l))
  ]

  pub order_put : IsOrder name (count + 1) (record { keys = put o.keys p key; numbers = put o.numbers p count })
  order_put = record {
    ordered = ordered_put (keyed_name name) count o.numbers (keyed text) p h.ordered place (ap (option_map keyed) here);
    keys = record { many = omega (arith, h.keys.many, put_length o.numbers p count place.0, put_length o.keys p key within); each = keys_put };
  }

-- ---- what is found is the first number with the name

module _ (name : ℕ → Option (List ℕ)) (count : ℕ) (xs text : List ℕ) (o : AreOrdered name count xs) where
  no_earlier_at : (i : ℕ) → IsPlace name xs text (Ok i) → (q : ℕ) → q < get_or xs i 0 → name q ≢ Some text
  no_earlier_at i at q less e =
      let w = o.whole q text (omega (arith, o.below i at.0)) e in
      elim (order w.0 i) [
        | inl l ↦ not_less text (o.rising.rising w.0 i text text l at.0 w.2 at.1)
        | inr r ↦ elim r [
          | inl same ↦ let z : ⊥ = omega (arith, w.3, ap (λ k. get_or xs k 0) same) in z
          | inr l ↦ not_less text (o.rising.rising i w.0 text text l w.1 at.1 w.2)
        ]
      ]
    where
      order : (a b : ℕ) → (a < b) ⊎ ((a ≡ b) ⊎ (b < a))
      order a b = grind arith

  none_at : (p : ℕ) → IsPlace name xs text (Err p) → (q : ℕ) → q < count → name q ≢ Some text
  none_at p at q less e =
      let w = o.whole q text less e in
      let tied : compared name xs text w.0 ≡ Some Equal = compared_is name xs text w.0 text w.2 ∙ ap (λ x. Some x) (tied_itself nat_list_cmp_total text) in
      elim (cases_lt w.0 p) [
        | inl l ↦ let z : Some Equal ≡ Some Less = sym tied ∙ at.1 w.0 l in cc
        | inr l ↦ let z : Some Equal ≡ Some Greater = sym tied ∙ at.2 w.0 l w.1 in cc
      ]

module _ (name : ℕ → Option (List ℕ)) (count : ℕ) (o : Keyed) (text : List ℕ) (h : IsOrder name count o) where
  pub no_earlier : (i : ℕ) → IsPlace (keyed_name name) o.numbers (keyed text) (Ok i) → (q : ℕ) → q < get_or o.numbers i 0 → name q ≢ Some text
  no_earlier i at q less e = no_earlier_at (keyed_name name) count o.numbers (keyed text) h.ordered i at q less (ap (option_map keyed) e)

  pub none_named : (p : ℕ) → IsPlace (keyed_name name) o.numbers (keyed text) (Err p) → (q : ℕ) → q < count → name q ≢ Some text
  none_named p at q less e = none_at (keyed_name name) count o.numbers (keyed text) h.ordered p at q less (ap (option_map keyed) e)
