-- The rows of all modes say what precedes what, and the parents of writers are noted.
use Rattle.std.proofs.Common.{◌≡◌, ◌≢◌, ◌≤◌, ◌<◌, ◌⊎◌, ℕ, ◌+◌, ◌-◌, Bool, true, false, cond, ◌||◌, List, length, get_or, drop, drop-cons, add-one, replicate, ◌∷◌, Option, Some, None, refl, sym, ◌∙◌, ap, subst, arith, inl, inr}
use Rattle.htl_refine.proofs.Words.{slice_get, list_any, slice_get_within, Inv, AreInRange, IsInvInRange, IsEndInRange, Tables, or_else, IsRangeOf, through_all, AreSteps, follows, leads_same, filled_at, cell_below, way_out, way_in, unfold_follows, has_bit, cell, Leads, leads_below, leads_from, leads_within, AreRowsBelow, ArePlaces, IsPut, inv_precedes, writer_parent, same_truth, all_at, cases_below_next}
use Rattle.htl_model.specs.declared.parts.End.{End}
use Rattle.htl_model.specs.declared.parts.End.TheVariants as E
use Rattle.htl_refine.proofs.{PrecedenceLaws.precedes_is, PrecedenceLaws.strangers, RefiningLaws.parent_writer}

-- ---- closed rows

pub cell_is : (t : Tables) (m base n b a : ℕ) (rows : List ℕ) → IsRangeOf t m base n → n ≤ length rows → AreSteps t base n rows → b < n → a < n
    → cell (through_all n rows) b a ≡ inv_precedes t (base + a) (base + b)
cell_is t m base n b a rows w long steps is_b is_a =
    cell_below rows n b a long (omega arith) ∙ leads_same (cell rows) (follows t base n) n steps n b a (omega arith) is_b is_a
    ∙ same_truth (leads_below (follows t base n) n b a) (inv_precedes t (base + a) (base + b))
    (λ h. (precedes_is t (base + a) (base + b)).1 (way_out t base n b a (leads_from (follows t base n) n b a h)))
    (λ h. leads_within (follows t base n) n (λ x y e. (unfold_follows t base n x y e).1) b a (back (way_in t m base n w (base + a) (base + b) ((precedes_is t (base + a) (base + b)).0 h) b is_b refl)))
  where
    back : (c : ℕ) × (c < n) × (base + a ≡ base + c) × Leads (follows t base n) b c → Leads (follows t base n) b a
    back r = let is : r.0 ≡ a = omega (arith, r.2) in subst (λ c. Leads (follows t base n) b c) is r.3

-- ---- one mode more

-- an item from `base` on
put_at : (base n k : ℕ) (f : ℕ → ℕ) (old new : List ℕ) → IsPut base n f old new → base ≤ k → k < base + n → get_or new k 0 ≡ f (k - base)
put_at base n k f old new put low high = subst (λ z. get_or new z 0 ≡ f (k - base)) (omega arith) (put.inside (k - base) (omega arith))

-- an item elsewhere
put_off : (base n k : ℕ) (f : ℕ → ℕ) (old new : List ℕ) → IsPut base n f old new → (k < base) ⊎ (base + n ≤ k) → get_or new k 0 ≡ get_or old k 0
put_off base n k f old new put (inl h) = put.below k h
put_off base n k f old new put (inr h) = put.above k h

outside : (t : Tables) (m base n k : ℕ) (i : Inv) → IsRangeOf t m base n → slice_get t.invs k ≡ Some i → i.mode ≢ m → (k < base) ⊎ (base + n ≤ k)
outside t m base n k i w at other = elim (order k) [
  | inl h ↦ inl h
  | inr (inr h) ↦ inr h
  | inr (inl h) ↦
      absurd (other (w.inside (k - base) i (omega (arith, h.0, h.1)) (ap (slice_get t.invs) (omega (arith, h.0)) ∙ at)))
]
  where
    order : (k : ℕ) → (k < base) ⊎ (((base ≤ k) × (k < base + n)) ⊎ (base + n ≤ k))
    order k = grind arith

pub noted_more : (t : Tables) (m base n : ℕ) (closed rows new_rows places new_places : List ℕ) → IsRangeOf t m base n
    → ((b a : ℕ) → b < n → a < n → cell closed b a ≡ inv_precedes t (base + a) (base + b))
    → IsPut base n (λ q. get_or closed q 0) rows new_rows → IsPut base n (λ q. q) places new_places
    → AreRowsBelow t m rows places → AreRowsBelow t (m + 1) new_rows new_places
noted_more t m base n closed rows new_rows places new_places w is put_r put_p before a b x y at_a at_b same less = elim (cases_below_next y.mode m less) [
  | inl below ↦
      let off_a = outside t m base n a x w at_a (λ e. omega (arith, e, below, same)) in
      let off_b = outside t m base n b y w at_b (λ e. omega (arith, e, below)) in
      ap (λ r. has_bit r (get_or new_places a 0)) (put_off base n b (λ q. get_or closed q 0) rows new_rows put_r off_b)
      ∙ ap (λ p. has_bit (get_or rows b 0) p) (put_off base n a (λ q. q) places new_places put_p off_a)
      ∙ before a b x y at_a at_b same below
  | inr here ↦
      let in_a = w.outside a x at_a (same ∙ here) in
      let in_b = w.outside b y at_b here in
      ap (λ r. has_bit r (get_or new_places a 0)) (put_at base n b (λ q. get_or closed q 0) rows new_rows put_r in_b.0 in_b.1)
      ∙ ap (λ p. has_bit (get_or closed (b - base) 0) p) (put_at base n a (λ q. q) places new_places put_p in_a.0 in_a.1)
      ∙ is (b - base) (a - base) (omega (arith, in_b.0, in_b.1)) (omega (arith, in_a.0, in_a.1))
      ∙ ap (λ z. inv_precedes t z (base + (b - base))) (omega (arith, in_a.0)) ∙ ap (λ z. inv_precedes t a z) (omega (arith, in_b.0))
]

pub places_more : (base n : ℕ) (places new : List ℕ) → n ≤ 128 → IsPut base n (λ q. q) places new → ArePlaces places → ArePlaces new
places_more base n places new few put before a = grind (arith, put_at)

-- ---- at first

pub first_places : (n : ℕ) → ArePlaces (replicate n 0)
first_places n a = let none : get_or (replicate n 0) a 0 ≡ 0 = filled_at {A = ℕ} 0 n a in omega (arith, none)

pub nones_at : (n k : ℕ) → ◌≡◌ {A = Option ℕ} (get_or (replicate n None) k None) None
nones_at n k = filled_at {A = Option ℕ} None n k

-- ---- the test by the rows

pub past_first : (t : Tables) (a b : ℕ) → length t.invs ≤ a → inv_precedes t a b ≡ false
past_first t a b far = strangers t a b (λ m. let below : a < length t.invs = slice_get_within t.invs a m.first m.at_first in omega arith)

pub past_second : (t : Tables) (a b : ℕ) → length t.invs ≤ b → inv_precedes t a b ≡ false
past_second t a b far = strangers t a b (λ m. let below : b < length t.invs = slice_get_within t.invs b m.second m.at_second in omega arith)

pub other_modes : (t : Tables) (a b : ℕ) (x y : Inv) → slice_get t.invs a ≡ Some x → slice_get t.invs b ≡ Some y → x.mode ≢ y.mode → inv_precedes t a b ≡ false
other_modes t a b x y at_a at_b apart = grind (arith, strangers)

pub mode_below : (t : Tables) (k : ℕ) (i : Inv) → AreInRange t → slice_get t.invs k ≡ Some i → i.mode < 256
mode_below t k i r at = let few = r.few_modes in omega (arith, (all_at (IsInvInRange t) t.invs k i r.invs at).owner)

-- ---- parents of writers

pub joined : (o parent : Option ℕ) (b c : Bool) → or_else (or_else o (cond b parent None)) (cond c parent None) ≡ or_else o (cond (b || c) parent None)
joined (Some x) parent b c = refl
joined None (Some p) true c = refl
joined None None true true = refl
joined None None true false = refl
joined None parent false c = refl

-- tables in range have at most 4,096 ports
pub beyond : (t : Tables) (p : ℕ) → AreInRange t → 4096 ≤ p → writer_parent t p ≡ None
beyond t p r far = by (writer_parent t p) refl
  where
    by : (o : Option ℕ) → writer_parent t p ≡ o → o ≡ None
    by None e = refl
    by (Some a) e =
        let w = parent_writer t p a e in
        let inv = all_at (IsInvInRange t) t.invs w.number w.writer r.invs w.at in
        let port = all_at (IsEndInRange t w.writer.mode) w.writer.writes w.place (E.Port p) inv.writes w.writes in
        let below : p < length t.ports = slice_get_within t.ports p port.0 port.1 in
        let few = r.few_ports in absurd (omega arith)

-- one end more
pub one_end : (f : End → Bool) (ends : List End) (k : ℕ) (d : End) (old new start parent : Option ℕ) → k < length ends
    → or_else old (cond (list_any f (drop k ends)) parent None) ≡ start → new ≡ or_else old (cond (f (get_or ends k d)) parent None)
    → or_else new (cond (list_any f (drop (k + 1) ends)) parent None) ≡ start
one_end f ends k d old new start parent below before is =
    let e = get_or ends k d in
    ap (λ o. or_else o (cond (list_any f (drop (k + 1) ends)) parent None)) is
    ∙ joined old parent (f e) (list_any f (drop (k + 1) ends))
    ∙ ap (λ xs. or_else old (cond (list_any f xs) parent None)) (sym (drop-cons ends k d below ∙ ap (λ n. e ∷ drop n ends) (sym (add-one k)))) ∙ before
