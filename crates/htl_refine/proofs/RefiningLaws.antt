-- The tests of the rules not-true refinement find exactly what the words say.
use Rattle.std.proofs.Common.{◌≡◌, ◌≢◌, ◌≤◌, ◌<◌, ◌⊎◌, ℕ, Bool, true, false, not, ◌&&◌, ◌||◌, cond, eqb, ltb, length, Option, Some, None, refl, sym, ◌∙◌, ap, subst, arith, inl, inr}
use Rattle.htl_refine.proofs.Words.{ne_eqb, cases_less_same, slice_get, Decides, list_any, nat_tests, Inv, Tables, mode_module, is_concrete, task_worst, release, window_end, AreInRange, KeptTo, Leads, feeds, is_port, IsRefined, StandsUnrefined, IsAbstractIn, ParentFault, ParentWrong, SharesParent, SecondChild, AsksMore, Exceeds, IsWriterOf, Unordered, parent_mode, or_else, unless, finds_or_else, Finds, finds_nothing, finds_unless, none_at, found_at, to_none, to_found, taken, slice_get_within, none-some, is_at, refines, is_refined, place_fault, is_abstract_at, parent_fault_by, parent_fault, clashes, clash_before, first_clash, told_clash, shared_fault_by, shared_fault, unless_more, unless_less, excess, excess_at, excess_by, excess_fault, writers_parent, writer_parent, inv_precedes, order_fault_by, order_fault, and_parts, eq-eqb, eqb-true, false_from_ne_true, not-true, or_parts, le-ltb, lt-ltb, or_right, goes, true_not_false, eqb_apart, any_passes_from_place, some_place}
use Rattle.htl_model.specs.declared.parts.End.{End}
use Rattle.htl_model.specs.declared.parts.End.TheVariants as E
use Rattle.htl_refine.proofs.{Kept.one_writer, PrecedenceLaws.precedes_is, SelectedLaws.at_number, SelectedLaws.number_at}

-- ---- 13

refined_is : (t : Tables) (m : ℕ) → Decides (is_refined t m) (IsRefined t m)
refined_is t m = grind (arith, some_place, at_number, any_passes_from_place, number_at)

pub place_is : (t : Tables) (i : Inv) → Finds (place_fault t i) (StandsUnrefined t i)
place_is t i = grind (arith, finds_unless, or_parts, true_not_false, refined_is, false_from_ne_true)

-- ---- 14

abstract_is : (t : Tables) (m p : ℕ) → Decides (is_abstract_at t m (slice_get t.invs p)) (IsAbstractIn t m p)
abstract_is t m p = grind (arith, and_parts, not-true, eqb-true, eq-eqb, none-some)

parent_by_is : (t : Tables) (o q : Option ℕ) → Finds (parent_fault_by t o q) (ParentFault t o q)
parent_by_is t (Some m) (Some p) = grind (arith, finds_unless, true_not_false, abstract_is, false_from_ne_true)
parent_by_is t (Some m) None = finds_unless false 0 1 (ParentFault t (Some m) None) (λ e. (refl, refl)) (λ h n b. (refl, b.1, b.0))
parent_by_is t None (Some p) = finds_unless false 2 0 (ParentFault t None (Some p)) (λ e. (refl, refl)) (λ h n b. (refl, b.1, b.0))
parent_by_is t None None = finds_nothing

pub parent_is : (t : Tables) (i : Inv) → Finds (parent_fault t i) (ParentWrong t i)
parent_is t i = parent_by_is t (parent_mode t i.mode) i.parent

-- ---- 15

either_clash : (a b : Bool) → (not a || b) ≡ true → (a ≡ false) ⊎ (b ≡ true)
either_clash true b h = inr h
either_clash false b h = inl refl

module _ (t : Tables) (k : ℕ) (i : Inv) (p : ℕ) where
  clash_shares : (l : ℕ) (x : Inv) (y : ℕ) → slice_get t.invs l ≡ Some x → clash_before t k i p l x ≡ Some y → (l ≡ y) × SharesParent t k i p l
  clash_shares l x y at e = grind (arith, taken, and_parts, at_number, either_clash, eqb_apart, eqb-true)

  shares_clash : (l : ℕ) (s : SharesParent t k i p l) → clash_before t k i p l s.other ≡ Some l
  shares_clash l s = grind (arith, lt-ltb, number_at, ne_eqb, or_right, eq-eqb)

  told : (o : Option ℕ) (h n : ℕ) → told_clash p o ≡ Some (h, n) → (o ≡ Some h) × (p ≡ n)
  told (Some l) h n e = grind arith
  told None h n e = absurd (none-some (h, n) e)

  first_is : (l : ℕ) → SharesParent t k i p l → ((q : ℕ) → q < l → SharesParent t k i p q → ⊥) → first_clash t k i p ≡ Some l
  first_is l s least = by (first_clash t k i p) refl
    where
      by : (o : Option ℕ) → first_clash t k i p ≡ o → first_clash t k i p ≡ Some l
      by None e = absurd (none-some l (sym (none_at (clash_before t k i p) t.invs e l s.other s.at) ∙ shares_clash l s))
      by (Some y) e =
          let g = found_at (clash_before t k i p) t.invs y e in
          let c = clash_shares g.place g.item y g.at g.gives in
          elim (cases_less_same y l) [
            | inl less ↦ absurd (least y less (subst (SharesParent t k i p) c.0 c.1))
            | inr (inl same) ↦ e ∙ ap (λ (x : ℕ). Some x) same
            | inr (inr more) ↦ absurd (none-some l (sym (g.before l s.other (omega (arith, c.0)) s.at) ∙ shares_clash l s))
          ]

  shares_found : (h : ℕ) → first_clash t k i p ≡ Some h → SharesParent t k i p h × ((l : ℕ) → l < h → SharesParent t k i p l → ⊥)
  shares_found h e =
      let g = found_at (clash_before t k i p) t.invs h e in
      let c = clash_shares g.place g.item h g.at g.gives in (
        subst (SharesParent t k i p) c.0 c.1,
        λ l less s. none-some l (sym (g.before l s.other (omega (arith, c.0)) s.at) ∙ shares_clash l s),
      )

  -- of those that share the parent wrongly there is a first
  pub first_sharing : (l : ℕ) → SharesParent t k i p l → (h : ℕ) × SharesParent t k i p h × ((q : ℕ) → q < h → SharesParent t k i p q → ⊥)
  first_sharing l s = by (first_clash t k i p) refl
    where
      by : (o : Option ℕ) → first_clash t k i p ≡ o → (h : ℕ) × SharesParent t k i p h × ((q : ℕ) → q < h → SharesParent t k i p q → ⊥)
      by None e = absurd (none-some l (sym (none_at (clash_before t k i p) t.invs e l s.other s.at) ∙ shares_clash l s))
      by (Some h) e = let f = shares_found h e in (h, f.0, f.1)

shared_by_is : (t : Tables) (k : ℕ) (i : Inv) (o : Option ℕ) → i.parent ≡ o → Finds (shared_fault_by t k i o) (SecondChild t k i)
shared_by_is t k i (Some p) is =
    record {
      says = λ h n e.
          let two = told t k i p (first_clash t k i p) h n e in
          let s = shares_found t k i p h two.0 in
          subst (λ q. SecondChild t k i h q) two.1 (record { parent = is; shares = s.0; least = s.1 });
      finds = λ h n c.
          let item : Some p ≡ Some n = sym is ∙ c.parent in
          let same : n ≡ p = cc in
          let first : first_clash t k i p ≡ Some h =
          first_is t k i p h (subst (λ q. SharesParent t k i q h) same c.shares) (λ l less s. c.least l less (subst (λ q. SharesParent t k i q l) (sym same) s)) in
          ap (told_clash p) first ∙ ap (λ (q : ℕ). Some (h, q)) (sym same);
    }
shared_by_is t k i None is = grind (arith, none-some)

pub shared_is : (t : Tables) (k : ℕ) (i : Inv) → Finds (shared_fault t k i) (SecondChild t k i)
shared_is t k i = shared_by_is t k i i.parent refl

-- ---- 16, windows and worst cases

more_is : (x y : ℕ) → Finds (unless_more x y) (λ h n. (h ≡ x) × (n ≡ y) × (n < h))
more_is x y = grind (arith, finds_unless)

less_is : (x y : ℕ) → Finds (unless_less x y) (λ h n. (h ≡ x) × (n ≡ y) × (h < n))
less_is x y = grind (arith, finds_unless)

no_more : (x y : ℕ) → unless_more x y ≡ None → x ≤ y
no_more x y e = by (ltb y x) refl e
  where
    by : (b : Bool) → ltb y x ≡ b → unless (not b) x y ≡ None → x ≤ y
    by true h f = absurd (none-some (x, y) (sym f))
    by false h f = grind (arith, nat_tests)

more_none : (x y : ℕ) → x ≤ y → unless_more x y ≡ None
more_none x y h = ap (λ b. unless (not b) x y) (le-ltb y x h)

no_less : (x y : ℕ) → unless_less x y ≡ None → y ≤ x
no_less x y e = by (ltb x y) refl e
  where
    by : (b : Bool) → ltb x y ≡ b → unless (not b) x y ≡ None → y ≤ x
    by true h f = absurd (none-some (x, y) (sym f))
    by false h f = grind (arith, nat_tests)

less_none : (x y : ℕ) → y ≤ x → unless_less x y ≡ None
less_none x y h = ap (λ b. unless (not b) x y) (le-ltb x y h)

module _ (t : Tables) (i y : Inv) where
  abbrev Sooner : ℕ → ℕ → Type 0
  Sooner h n = (h ≡ window_end t i) × (n ≡ window_end t y) × (h < n)

  abbrev Longer : ℕ → ℕ → Type 0
  Longer h n = (h ≡ task_worst t i.task) × (n ≡ task_worst t y.task) × (n < h)

  abbrev Rest : ℕ → ℕ → Type 0
  Rest h n = Sooner h n ⊎ ((window_end t y ≤ window_end t i) × Longer h n)

  rest_is : Finds (or_else (unless_less (window_end t i) (window_end t y)) (unless_more (task_worst t i.task) (task_worst t y.task))) Rest
  rest_is = grind (arith, finds_or_else, less_is, more_is, no_less, less_none)

  excess_is : Finds (excess t i y) (AsksMore t i y)
  excess_is = grind (arith, finds_or_else, more_is, rest_is, no_more, more_none)

excess_by_is : (t : Tables) (i : Inv) (o : Option ℕ) → i.parent ≡ o → Finds (excess_by t i o) (Exceeds t i)
excess_by_is t i (Some p) is = by (slice_get t.invs p) refl
  where
    by : (o : Option Inv) → slice_get t.invs p ≡ o → Finds (excess_at t i o) (Exceeds t i)
    by (Some y) at = grind (arith, excess_is)
    by None at = grind (arith, none-some)
excess_by_is t i None is = grind (arith, none-some)

pub exceeds_is : (t : Tables) (i : Inv) → Finds (excess_fault t i) (Exceeds t i)
exceeds_is t i = excess_by_is t i i.parent refl

-- ---- 16, the order of ports

parent_found : (t : Tables) (p l a : ℕ) → writers_parent p (slice_get t.invs l) ≡ Some a → IsWriterOf t p a
parent_found t p l a e = by (slice_get t.invs l) refl e
  where
    by : (o : Option Inv) → slice_get t.invs l ≡ o → writers_parent p o ≡ Some a → IsWriterOf t p a
    by (Some x) at f = grind (arith, taken, some_place, goes)
    by None at f = absurd (none-some a f)

writer_found : (t : Tables) (p a : ℕ) (w : IsWriterOf t p a) → writers_parent p (slice_get t.invs w.number) ≡ Some a
writer_found t p a w = grind (arith, any_passes_from_place, eq-eqb)

-- where ports have one writer, the parent that is found is the writer's
pub writer_parent_is : (t : Tables) (last p a : ℕ) → AreInRange t → KeptTo t last → 8 ≤ last → IsWriterOf t p a → writer_parent t p ≡ Some a
writer_parent_is t last p a range kept few w = by (writer_parent t p) refl
  where
    f : ℕ → Option ℕ
    f l = writers_parent p (slice_get t.invs l)

    by : (o : Option ℕ) → writer_parent t p ≡ o → writer_parent t p ≡ Some a
    by None e = absurd (none-some a (sym (to_none f (length t.invs) e w.number (slice_get_within t.invs w.number w.writer w.at)) ∙ writer_found t p a w))
    by (Some b) e =
        let g = to_found f (length t.invs) b e in
        let v = parent_found t p g.0 b g.2 in
        let same : v.number ≡ w.number = one_writer t last p range kept few v.number v.place w.number w.place (v.writer, v.at, v.writes) (w.writer, w.at, w.writes) in
        let item : Some v.writer ≡ Some w.writer = sym v.at ∙ ap (slice_get t.invs) same ∙ w.at in
        let inv : v.writer ≡ w.writer = cc in
        e ∙ sym v.parent ∙ ap (λ (x : Inv). x.parent) inv ∙ w.parent

pub parent_writer : (t : Tables) (p a : ℕ) → writer_parent t p ≡ Some a → IsWriterOf t p a
parent_writer t p a e = grind (arith, to_found, parent_found)

pub order_is : (t : Tables) (last : ℕ) (i : Inv) (e : End) → AreInRange t → KeptTo t last → 8 ≤ last → Finds (order_fault t i e) (Unordered t i e)
order_is t last i (E.Comm c n) range kept few = finds_nothing
order_is t last i (E.Port p) range kept few = by (writer_parent t p) i.parent refl refl
  where
    by : (o q : Option ℕ) → writer_parent t p ≡ o → i.parent ≡ q → Finds (order_fault_by t o q) (Unordered t i (E.Port p))
    by (Some a) (Some b) w is =
        finds_unless (inv_precedes t a b) a b (Unordered t i (E.Port p))
        (λ e. (is, parent_writer t p a w, λ l. true_not_false (inv_precedes t a b) ((precedes_is t a b).1 l) e))
        (λ h n u.
        let writer : Some a ≡ Some h = sym w ∙ writer_parent_is t last p h range kept few u.1 in
        let h_is : h ≡ a = cc in
        let parent : Some b ≡ Some n = sym is ∙ u.0 in
        let n_is : n ≡ b = cc in
        (false_from_ne_true (inv_precedes t a b) (λ e. u.2 (subst (λ x. Leads (feeds t) x n) (sym h_is) (subst (λ y. Leads (feeds t) a y) (sym n_is) ((precedes_is t a b).0 e)))), h_is, n_is))
    by (Some a) None w is = record { says = λ h n e. absurd (none-some (h, n) e); finds = λ h n u. absurd (none-some n (sym is ∙ u.0)) }
    by None q w is =
        record { says = λ h n e. absurd (none-some (h, n) e); finds = λ h n u. absurd (none-some h (sym w ∙ writer_parent_is t last p h range kept few u.1)) }
