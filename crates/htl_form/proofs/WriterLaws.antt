-- The test for concrete writers of the same finds what the rule says.
use Rattle.std.proofs.Common.{◌≡◌, ℕ, suc, ◌<◌, Bool, true, false, cond, not, ◌&&◌, ◌||◌, eqb, ltb, List, [], ◌∷◌, take, Option, Some, None, refl, sym, ◌∙◌, ap, subst, arith, inl, inr}
use Rattle.htl_form.proofs.Words.{slice_get, list_any, nat_tests, any_passes_from_place, first-unique, Inv, End, OutputBefore, AreInRange, AreSameWrite, WritesBefore, SecondWriter, Tables, is_concrete, found_at, none_at, stand_together, hits, outputs_before, rivals, writer_before, first_writer, told_writer, writer_fault, eq-eqb, eqb-true, or_cases, or_left, or_right, eqb_apart, from_take, into_take}
use Rattle.htl_model.specs.declared.parts.End.TheVariants as E
use Rattle.htl_form.proofs.{PortLaws.given, PortLaws.not_given, Finding.Finds, Finding.finds_nothing, PathLaws.together_true, PathLaws.true_together}

-- ---- an end that hits

hits_is : (same : Bool) (c n : ℕ) (e : End) → hits same c n e ≡ true → (o : ℕ) × (e ≡ E.Comm c o) × (same ≡ true → o ≡ n)
hits_is same c n (E.Comm d o) h =
    let is : d ≡ c = grind (arith, nat_tests) in
    (o, ap (λ (x : ℕ). E.Comm x o) is, λ on. eq-eqb same d o c n h on)
  where
    eq-eqb : (same : Bool) (d o c n : ℕ) → (eqb d c && (not same || eqb o n)) ≡ true → same ≡ true → o ≡ n
    eq-eqb same d o c n h on = grind (arith, nat_tests)
hits_is same c n (E.Port p) h = cc

hits_made : (same : Bool) (c n o : ℕ) → (same ≡ true → o ≡ n) → hits same c n (E.Comm c o) ≡ true
hits_made true c n o h = let e = h refl in grind (arith, nat_tests)
hits_made false c n o h = grind (arith, nat_tests)

hit_at : (same : Bool) (c n : ℕ) (ends : List End) → list_any (hits same c n) ends ≡ true → (place o : ℕ) × (slice_get ends place ≡ Some (E.Comm c o)) × (same ≡ true → o ≡ n)
hit_at same c n [] h = cc
hit_at same c n (e ∷ ends) h =
    elim (or_cases (hits same c n e) _ h) [
      | inl here ↦ let x = hits_is same c n e here in (0, x.0, ap (λ (y : End). Some y) x.1, x.2)
      | inr later ↦ let r = hit_at same c n ends later in (suc r.0, r.1, r.2, r.3)
    ]

-- ---- the outputs before an output

pub before_at : (k j l : ℕ) (x : Inv) (place : ℕ) (e : End) → slice_get (outputs_before k j l x) place ≡ Some e → OutputBefore l place k j × (slice_get x.writes place ≡ Some e)
before_at k j l x place e h = by (ltb l k) (eqb l k) refl refl h
  where
    by : (less eq-eqb : Bool) → ltb l k ≡ less → eqb l k ≡ eq-eqb → slice_get (cond less x.writes (cond eq-eqb (take j x.writes) [])) place ≡ Some e
        → OutputBefore l place k j × (slice_get x.writes place ≡ Some e)
    by true eq-eqb a b h = (inl (grind (arith, nat_tests)), h)
    by false true a b h = let r = from_take x.writes j place e h in let is : l ≡ k = grind (arith, nat_tests) in (inr (is, r.0), r.1)
    by false false a b h = cc

pub at_before : (k j l : ℕ) (x : Inv) (place : ℕ) (e : End) → OutputBefore l place k j → slice_get x.writes place ≡ Some e → slice_get (outputs_before k j l x) place ≡ Some e
at_before k j l x place e (inl less) h =
    let test : ltb l k ≡ true = grind (arith, nat_tests) in
    ap (λ b. slice_get (cond b x.writes (cond (eqb l k) (take j x.writes) [])) place) test ∙ h
at_before k j l x place e (inr same) h =
    let is = same.0 in
    let test : ltb l k ≡ false = grind (arith, nat_tests) in
    let eq-eqb : eqb l k ≡ true = grind (arith, nat_tests) in
    ap (λ b. slice_get (cond b x.writes (cond (eqb l k) (take j x.writes) [])) place) test ∙ ap (λ b. slice_get (cond b (take j x.writes) []) place) eq-eqb ∙ into_take x.writes j place e same.1 h

-- ---- an invocation that writes the same before

same_write : (t : Tables) (m o q n : ℕ) → AreInRange t → (b : Bool) → eqb m q ≡ b → (b || stand_together t m q) ≡ true → (b ≡ true → o ≡ n) → AreSameWrite t m o q n
same_write t m o q n r true e h same = inl (eqb-true m q e, same refl)
same_write t m o q n r false e h same = inr (eqb_apart m q e, together_true t m q r h)

pub writes_before : (t : Tables) (k : ℕ) (i : Inv) (j c n l : ℕ) (x : Inv) → AreInRange t → slice_get t.invs l ≡ Some x → rivals t i c n x (outputs_before k j l x) ≡ true → WritesBefore t k i j c n l
writes_before t k i j c n l x r at h =
    let p = split (is_concrete t x) _ _ h in
    let hit = hit_at (eqb x.mode i.mode) c n (outputs_before k j l x) p.2 in
    let where_is = before_at k j l x hit.0 (E.Comm c hit.1) hit.2 in
    (x, at, p.0, hit.0, hit.1, where_is.0, where_is.1, same_write t x.mode hit.1 i.mode n r (eqb x.mode i.mode) refl p.1 hit.3)
  where
    split : (a b d : Bool) → (a && b && d) ≡ true → (a ≡ true) × (b ≡ true) × (d ≡ true)
    split true true d e = (refl, refl, e)
    split true false d e = cc
    split false b d e = cc

pub before_writes : (t : Tables) (k : ℕ) (i : Inv) (j c n l : ℕ) (x : Inv) → slice_get t.invs l ≡ Some x → WritesBefore t k i j c n l → rivals t i c n x (outputs_before k j l x) ≡ true
before_writes t k i j c n l x at w =
    let item : Some w.0 ≡ Some x = sym w.1 ∙ at in
    let is : w.0 ≡ x = cc in
    subst (λ (y : Inv). rivals t i c n y (outputs_before k j l y) ≡ true) is
    (join (is_concrete t w.0) _ _ w.2 (both w.0.mode w.4 i.mode n w.7)
    (any_passes_from_place (hits (eqb w.0.mode i.mode) c n) (outputs_before k j l w.0) w.3 (E.Comm c w.4)
    (at_before k j l w.0 w.3 (E.Comm c w.4) w.5 w.6)
    (hits_made (eqb w.0.mode i.mode) c n w.4 (same w.0.mode w.4 i.mode n w.7))))
  where
    join : (a b d : Bool) → a ≡ true → b ≡ true → d ≡ true → (a && b && d) ≡ true
    join a b d p q r = grind (arith, nat_tests)

    both : (m o q n : ℕ) → AreSameWrite t m o q n → (eqb m q || stand_together t m q) ≡ true
    both m o q n (inl e) = or_left (eqb m q) (stand_together t m q) (eq-eqb m q e.0)
    both m o q n (inr e) = or_right (eqb m q) (stand_together t m q) (true_together t m q e.1)

    same : (m o q n : ℕ) → AreSameWrite t m o q n → eqb m q ≡ true → o ≡ n
    same m o q n (inl e) h = e.1
    same m o q n (inr e) h = absurd (e.0 (eqb-true m q h))

told_is : (c : ℕ) (o : Option ℕ) (h m : ℕ) → told_writer c o ≡ Some (h, m) → (o ≡ Some h) × (m ≡ c)
told_is c (Some l) h m e =
    let pair : ◌≡◌ {A = ℕ × ℕ} (l, c) (h, m) = cc in
    (ap (λ (q : ℕ × ℕ). Some q.0) pair, ap (λ (q : ℕ × ℕ). q.1) (sym pair))
told_is c None h m e = cc

concrete_writer : (t : Tables) (k : ℕ) (i : Inv) (j c n : ℕ) → AreInRange t → (b : Bool) → is_concrete t i ≡ b
    → Finds (cond b (told_writer c (first_writer t k i j c n)) None) (SecondWriter t k i j (E.Comm c n))
concrete_writer t k i j c n r false is =
    record { says = λ h m e. (let no : None ≡ Some (h, m) = e in cc); finds = λ h m p. absurd (let no : false ≡ true = sym is ∙ p.1 in cc) }
concrete_writer t k i j c n r true is =
    record {
      says = λ h m e.
          let told = told_is c (first_writer t k i j c n) h m e in
          let g = found_at (writer_before t k i j c n) t.invs h told.0 in
          let here = given (rivals t i c n g.item (outputs_before k j g.place g.item)) g.place h g.gives in (
            told.1,
            is,
            subst (λ (l : ℕ). WritesBefore t k i j c n l) here.1 (writes_before t k i j c n g.place g.item r g.at here.0),
            λ l less w. not_given _ l (before_writes t k i j c n l w.0 w.1 w) (g.before l w.0 (subst (λ (z : ℕ). l < z) (sym here.1) less) w.1),
          );
      finds = λ h m p. found h m p (first_writer t k i j c n) refl;
    }
  where
    found : (h m : ℕ) → SecondWriter t k i j (E.Comm c n) h m → (o : Option ℕ) → first_writer t k i j c n ≡ o → told_writer c o ≡ Some (h, m)
    found h m p None e =
        let w = p.2 in
        absurd (not_given _ h (before_writes t k i j c n h w.0 w.1 w) (none_at (writer_before t k i j c n) t.invs e h w.0 w.1))
    found h m p (Some l) e =
        let w = p.2 in
        let g = found_at (writer_before t k i j c n) t.invs l e in
        let here = given (rivals t i c n g.item (outputs_before k j g.place g.item)) g.place l g.gives in
        let same : g.place ≡ h =
        first-unique (WritesBefore t k i j c n) g.place h (writes_before t k i j c n g.place g.item r g.at here.0) w
        (λ x less y. not_given _ x (before_writes t k i j c n x y.0 y.1 y) (g.before x y.0 less y.1)) p.3 in
        let first : l ≡ h = sym here.1 ∙ same in
        let second : m ≡ c = p.0 in
        cc

pub writer_is : (t : Tables) (k : ℕ) (i : Inv) (j : ℕ) (e : End) → AreInRange t → slice_get t.invs k ≡ Some i → slice_get i.writes j ≡ Some e
    → Finds (writer_fault t k i j e) (SecondWriter t k i j e)
writer_is t k i j (E.Comm c n) r at out = concrete_writer t k i j c n r (is_concrete t i) refl
writer_is t k i j (E.Port p) r at out = finds_nothing
