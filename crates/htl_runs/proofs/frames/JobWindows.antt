-- Windows and offsets, and the last position of an invocation.
use Rattle.std.proofs.Common.{◌≡◌, ℕ, zero, suc, ◌+◌, ◌*◌, ◌≤◌, ◌<◌, max, Bool, true, false, cond, ◌&&◌, eqb, List, [], ◌∷◌, length, slice_get, Option, Some, None, refl, sym, ap, ◌∙◌, arith, get_or, map}
use Rattle.htl_runs.proofs.Words.{eqb-true, eq-eqb, and_from, and_parts, End, Stay, Tables, comm_period, offsets, greatest, least_or, Job, AreJobsSoFar, later_or, position_from, last_position_done, finished_in, not_some, same_Some}
use Rattle.htl_model.specs.declared.parts.End.TheVariants as E

-- what a function gives of an item
pub get_map : {A : Type 0} (f : Job → A) (js : List Job) (p : ℕ) (j : Job) (d : A) → slice_get js p ≡ Some j → get_or (map f js) p d ≡ f j
get_map f [] p j d e = not_some j e
get_map f (k ∷ js) zero j d e = ap f (same_Some _ _ e)
get_map f (k ∷ js) (suc p) j d e = get_map f js p j d e

-- ---- windows and offsets

greatest_is : (a : ℕ) (xs : List ℕ) → a ≤ greatest a xs
greatest_is a [] = omega arith
greatest_is a (x ∷ xs) = omega (arith, greatest_is (max a x) xs)

-- no read is later than the release
pub reads_before_release : (t : Tables) (a : ℕ) (ends : List End) (k c n : ℕ) → slice_get ends k ≡ Some (E.Comm c n) → n * comm_period t c ≤ greatest a (offsets t ends)
reads_before_release t a [] k c n e = not_some (E.Comm c n) e
reads_before_release t a (E.Port p ∷ ends) zero c n e = let z : E.Port p ≡ E.Comm c n = same_Some _ _ e in cc
reads_before_release t a (E.Port p ∷ ends) (suc k) c n e = reads_before_release t a ends k c n e
reads_before_release t a (E.Comm d m ∷ ends) zero c n e = grind (arith, same_Some, greatest_is)
reads_before_release t a (E.Comm d m ∷ ends) (suc k) c n e = reads_before_release t (max a (m * comm_period t d)) ends k c n e

least_first : (d y : ℕ) (ys : List ℕ) → least_or d (y ∷ ys) ≤ y
least_first d y [] = omega arith
least_first d y (z ∷ zs) = omega arith

least_more : (d y z : ℕ) (zs : List ℕ) → least_or d (y ∷ z ∷ zs) ≤ least_or d (z ∷ zs)
least_more d y z zs = omega arith

-- the window ends no later than any write
pub end_before_writes : (t : Tables) (d : ℕ) (ends : List End) (k c n : ℕ) → slice_get ends k ≡ Some (E.Comm c n) → least_or d (offsets t ends) ≤ n * comm_period t c
end_before_writes t d [] k c n e = not_some (E.Comm c n) e
end_before_writes t d (E.Port p ∷ ends) zero c n e = let z : E.Port p ≡ E.Comm c n = same_Some _ _ e in cc
end_before_writes t d (E.Port p ∷ ends) (suc k) c n e = end_before_writes t d ends k c n e
end_before_writes t d (E.Comm b m ∷ ends) zero c n e = grind (arith, same_Some, least_first)
end_before_writes t d (E.Comm b m ∷ ends) (suc k) c n e = by_rest (offsets t ends) (end_before_writes t d ends k c n e) (some_rest ends k c n e)
  where
    some_rest : (ends : List End) (k c n : ℕ) → slice_get ends k ≡ Some (E.Comm c n) → 0 < length (offsets t ends)
    some_rest [] k c n e = not_some (E.Comm c n) e
    some_rest (E.Port p ∷ ends) zero c n e = let z : E.Port p ≡ E.Comm c n = same_Some _ _ e in cc
    some_rest (E.Port p ∷ ends) (suc k) c n e = some_rest ends k c n e
    some_rest (E.Comm b m ∷ ends) k c n e = omega arith

    by_rest : (zs : List ℕ) → least_or d zs ≤ n * comm_period t c → 0 < length zs → least_or d (m * comm_period t b ∷ zs) ≤ n * comm_period t c
    by_rest [] h s = absurd (omega arith)
    by_rest (z ∷ zs) h s = omega (arith, h, least_more d (m * comm_period t b) z zs)

-- ---- by invocation and by position

pub position_some : (q : ℕ) (js : List Job) (i p : ℕ) → position_from q js i ≡ Some p → (d : ℕ) × (p ≡ q + d) × (j : Job) × (slice_get js d ≡ Some j) × (j.present ≡ true) × (j.inv ≡ i)
position_some q [] i p e = not_some p e
position_some q (j ∷ js) i p e = by_rest (position_from (suc q) js i) refl e (λ g. position_some (suc q) js i p g)
  where
    by_test : (b : Bool) → (j.present && eqb j.inv i) ≡ b → ◌≡◌ {A = Option ℕ} (cond b (Some q) None) (Some p)
        → (d : ℕ) × (p ≡ q + d) × (k : Job) × (slice_get (j ∷ js) d ≡ Some k) × (k.present ≡ true) × (k.inv ≡ i)
    by_test true is g = let b = and_parts j.present (eqb j.inv i) is in let same : q ≡ p = same_Some _ _ g in (0, omega (arith, same), j, refl, b.0, eqb-true j.inv i b.1)
    by_test false is g = not_some p g

    by_rest : (o : Option ℕ) → position_from (suc q) js i ≡ o → later_or o (cond (j.present && eqb j.inv i) (Some q) None) ≡ Some p
        → (position_from (suc q) js i ≡ Some p → (d : ℕ) × (p ≡ suc q + d) × (k : Job) × (slice_get js d ≡ Some k) × (k.present ≡ true) × (k.inv ≡ i))
        → (d : ℕ) × (p ≡ q + d) × (k : Job) × (slice_get (j ∷ js) d ≡ Some k) × (k.present ≡ true) × (k.inv ≡ i)
    by_rest (Some r) f g ih = let r = ih (f ∙ g) in (suc r.0, omega (arith, r.1), r.2, r.3, r.4, r.5)
    by_rest None f g ih = by_test (j.present && eqb j.inv i) refl g

pub position_none : (q : ℕ) (js : List Job) (i d : ℕ) (j : Job) → position_from q js i ≡ None → slice_get js d ≡ Some j → j.present ≡ true → j.inv ≡ i → ⊥
position_none q [] i d j e at here is = not_some j at
position_none q (k ∷ js) i d j e at here is = by_rest (position_from (suc q) js i) refl e d at (λ g m f. position_none (suc q) js i m j g f here is)
  where
    by_test : (b : Bool) → (k.present && eqb k.inv i) ≡ b → ◌≡◌ {A = Option ℕ} (cond b (Some q) None) None → slice_get (k ∷ js) 0 ≡ Some j → ⊥
    by_test true b g at = not_some q (sym g)
    by_test false b g at = grind (arith, same_Some, and_from, eq-eqb)

    by_rest : (o : Option ℕ) → position_from (suc q) js i ≡ o → later_or o (cond (k.present && eqb k.inv i) (Some q) None) ≡ None → (d : ℕ) → slice_get (k ∷ js) d ≡ Some j
        → (position_from (suc q) js i ≡ None → (m : ℕ) → slice_get js m ≡ Some j → ⊥) → ⊥
    by_rest (Some r) f g d at ih = not_some r (sym g)
    by_rest None f g (suc d) at ih = ih f d at
    by_rest None f g zero at ih = by_test (k.present && eqb k.inv i) refl g at

-- a finished invocation's last position is done
pub finished_is : (jobs : List Job) (done : ℕ → Bool) (i : ℕ) → finished_in jobs done i ≡ true → (p : ℕ) × (position_from 0 jobs i ≡ Some p) × (done p ≡ true)
finished_is jobs done i e = grind arith

pub is_finished : (jobs : List Job) (done : ℕ → Bool) (i p : ℕ) → position_from 0 jobs i ≡ Some p → done p ≡ true → finished_in jobs done i ≡ true
is_finished jobs done i p at h = ap (last_position_done done) at ∙ h

-- ---- jobs that stand

-- a job whose window hasn't ended is at the last position of its invocation
pub last_open : (t : Tables) (stays : List (Option Stay)) (frame n : ℕ) (jobs : List Job) → AreJobsSoFar t stays frame n jobs → (p : ℕ) (j : Job) → slice_get jobs p ≡ Some j → j.present ≡ true → n < frame + j.end
    → position_from 0 jobs j.inv ≡ Some p
last_open t stays frame n jobs jobs_so_far p j at here late =
    let st = jobs_so_far.stands p j at here late in
    let h = jobs_so_far.has j.inv st.0 st.1 st.2 in
    h.2 ∙ ap (λ (q : ℕ). Some q) (jobs_so_far.once h.0 p j.inv st.1 st.0 h.1 st.3)
