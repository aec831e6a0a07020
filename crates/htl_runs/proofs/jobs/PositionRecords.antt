-- What the records of a walk show of one position: its slices and its end, as instants of a run in which the walk begins at s.
use Rattle.std.proofs.Common.{◌≡◌, ◌≤◌, ℕ, zero, suc, ◌+◌, Bool, true, false, cond, ◌&&◌, List, [], ◌∷◌, ◌++◌, map, slice_get, Option, Some, None, option_map, refl, ap, ap₂, ◌∙◌, subst, arith}
use Rattle.htl_runs.proofs.Words.{eqb-true, eq-eqb, and_parts, joined, Left, finish, slice_onto, slices, is_position, AllWithin, spent, Finishes, not_some, same_Some}

-- ---- its slices

abbrev pub shift : ℕ → ℕ × ℕ → ℕ × ℕ
shift s u = (s + u.0, s + u.1)

abbrev pub shifted_slice : ℕ → Option (ℕ × ℕ) → List (ℕ × ℕ)
shifted_slice s (Some u) = shift s u ∷ []
shifted_slice s None = []

abbrev pub position_slice : ℕ → ℕ → Left → List (ℕ × ℕ)
position_slice s q l = cond (is_position l.position q) (shifted_slice s l.slice) []

abbrev pub position_done : ℕ → ℕ → Left → List ℕ
position_done s q l = cond (is_position l.position q && l.finished) ((s + l.at) ∷ []) []

pub all_slices : (s q : ℕ) (ls : List Left) → joined (position_slice s q) ls ≡ map (shift s) (slices ls q)
all_slices s q [] = refl
all_slices s q (l ∷ ls) = grind (arith, all_slices s q ls)

pub shifted_within : (s a b : ℕ) (us : List (ℕ × ℕ)) → AllWithin a b us → AllWithin (s + a) (s + b) (map (shift s) us)
shifted_within s a b [] h = h
shifted_within s a b (u ∷ us) h = (omega (arith, h.0), omega (arith, h.1), shifted_within s a b us h.2)

pub shifted_spent : (s : ℕ) (us : List (ℕ × ℕ)) → spent (map (shift s) us) ≡ spent us
shifted_spent s [] = refl
shifted_spent s (u ∷ us) = let next = shifted_spent s us in omega (arith, next)

-- a slice of the position is one of those that lie within
pub within_at : (a b q : ℕ) (ls : List Left) (k : ℕ) (l : Left) (u : ℕ × ℕ) → AllWithin a b (slices ls q) → slice_get ls k ≡ Some l → l.position ≡ Some q → l.slice ≡ Some u → u.1 ≤ b
within_at a b q [] k l u all at is some = not_some l at
within_at a b q (m ∷ ls) zero l u all at is some = grind (arith, same_Some, eq-eqb)
within_at a b q (m ∷ ls) (suc k) l u all at is some = within_at a b q ls k l u (rest (is_position m.position q) m.slice all) at is some
  where
    rest : (c : Bool) (o : Option (ℕ × ℕ)) → AllWithin a b (cond c (slice_onto o (slices ls q)) (slices ls q)) → AllWithin a b (slices ls q)
    rest true (Some v) h = h.2
    rest true None h = h
    rest false o h = h

-- ---- its end

position_is : (o : Option ℕ) (q : ℕ) → is_position o q ≡ true → o ≡ Some q
position_is (Some p) q e = ap (λ (z : ℕ). Some z) (eqb-true p q e)
position_is None q e = cc

never_done : (s q : ℕ) (ls : List Left) → ((k f : ℕ) → Finishes ls q k f → ⊥) → joined (position_done s q) ls ≡ []
never_done s q [] none = refl
never_done s q (l ∷ ls) none = by (is_position l.position q && l.finished) refl (never_done s q ls (λ k f at. none (suc k) f at))
  where
    by : (b : Bool) → (is_position l.position q && l.finished) ≡ b → joined (position_done s q) ls ≡ [] → cond b ((s + l.at) ∷ []) [] ++ joined (position_done s q) ls ≡ []
    by false e next = next
    by true e next = let is = and_parts (is_position l.position q) l.finished e in absurd (none 0 l.at (l, refl, position_is l.position q is.0, is.1, refl))

pub done_once : (s q : ℕ) (ls : List Left) (k f : ℕ) → Finishes ls q k f → ((m g : ℕ) → Finishes ls q m g → m ≡ k) → joined (position_done s q) ls ≡ (s + f) ∷ []
done_once s q [] k f done once = not_some done.0 done.1
done_once s q (l ∷ ls) zero f done once =
    let same = same_Some _ _ done.1 in
    let here : (is_position l.position q && l.finished) ≡ true =
    ap₂ (λ (o : Option ℕ) (b : Bool). is_position o q && b) (ap (λ (x : Left). x.position) same ∙ done.2) (ap (λ (x : Left). x.finished) same ∙ done.3) ∙ ap (λ (b : Bool). b && true) (eq-eqb q q refl) in
    ap₂ (λ (b : Bool) (at : ℕ). cond b ((s + at) ∷ []) [] ++ joined (position_done s q) ls) here (ap (λ (x : Left). x.at) same ∙ done.4)
    ∙ ap (λ (xs : List ℕ). (s + f) ∷ xs) (never_done s q ls (λ m g at. absurd (let e = once (suc m) g at in omega (arith, e))))
done_once s q (l ∷ ls) (suc k) f done once = by (is_position l.position q && l.finished) refl (done_once s q ls k f done (λ m g at. let e = once (suc m) g at in omega (arith, e)))
  where
    by : (b : Bool) → (is_position l.position q && l.finished) ≡ b → joined (position_done s q) ls ≡ (s + f) ∷ [] → cond b ((s + l.at) ∷ []) [] ++ joined (position_done s q) ls ≡ (s + f) ∷ []
    by false e next = next
    by true e next = let is = and_parts (is_position l.position q) l.finished e in absurd (let z = once 0 l.at (l, refl, position_is l.position q is.0, is.1, refl) in omega (arith, z))

-- the first of its ends is when it finishes
pub first_done : (s q : ℕ) (ls : List Left) (n : ℕ) (rest : List ℕ) → joined (position_done s q) ls ≡ n ∷ rest → option_map (λ (g : ℕ). s + g) (finish ls q) ≡ Some n
first_done s q [] n rest e = absurd (let z : ⊥ = cc in z)
first_done s q (l ∷ ls) n rest e = by (is_position l.position q && l.finished) e (λ f. first_done s q ls n rest f)
  where
    by : (b : Bool) → cond b ((s + l.at) ∷ []) [] ++ joined (position_done s q) ls ≡ n ∷ rest
        → (joined (position_done s q) ls ≡ n ∷ rest → option_map (λ (g : ℕ). s + g) (finish ls q) ≡ Some n) → option_map (λ (g : ℕ). s + g) (cond b (Some l.at) (finish ls q)) ≡ Some n
    by true f next = let same : s + l.at ≡ n = cc in ap (λ (z : ℕ). Some z) same
    by false f next = next f
