-- The records of a walk in order of time: who is done by those before an offset.
use Rattle.std.proofs.Common.{◌≡◌, ℕ, zero, suc, ◌≤◌, ◌<◌, Bool, true, false, cond, ◌&&◌, ltb, is_some, List, [], ◌∷◌, slice_get, take, Some, refl, ap, arith}
use Rattle.htl_runs.proofs.Words.{ltb-true, ltb-false, Left, is_position, finish, Rises, count_left_before, done_by, not_some, same_Some}

-- ---- lists of records in order of time

finish_least : (a : ℕ) (ls : List Left) (p f : ℕ) → Rises a ls → finish ls p ≡ Some f → a ≤ f
finish_least a [] p f r e = not_some f e
finish_least a (l ∷ ls) p f r e = by_test (is_position l.position p && l.finished) e (λ g. finish_least l.at ls p f r.1 g)
  where
    by_test : (b : Bool) → cond b (Some l.at) (finish ls p) ≡ Some f → (finish ls p ≡ Some f → l.at ≤ f) → a ≤ f
    by_test true g ih = omega (arith, same_Some _ _ g, r.0)
    by_test false g ih = omega (arith, ih g, r.0)

-- who finishes before the record at place k is done by then
pub done_early : (a : ℕ) (ls : List Left) (k p f : ℕ) → Rises a ls → finish ls p ≡ Some f → ((l : Left) → slice_get ls k ≡ Some l → f < l.at) → finish (take k ls) p ≡ Some f
done_early a [] zero p f r e h = e
done_early a [] (suc k) p f r e h = e
done_early a (l ∷ ls) zero p f r e h =
    let later : l.at ≤ f = finish_least l.at (l ∷ ls) p f (omega arith, r.1) e in absurd (omega (arith, h l refl))
done_early a (l ∷ ls) (suc k) p f r e h = by_test (is_position l.position p && l.finished) e (λ g. done_early l.at ls k p f r.1 g (λ m at. h m at))
  where
    by_test : (b : Bool) → cond b (Some l.at) (finish ls p) ≡ Some f → (finish ls p ≡ Some f → finish (take k ls) p ≡ Some f) → cond b (Some l.at) (finish (take k ls) p) ≡ Some f
    by_test true g ih = g
    by_test false g ih = ih g

-- ---- the records before an offset

pub at_count : (e : ℕ) (ls : List Left) (l : Left) → slice_get ls (count_left_before e ls) ≡ Some l → e ≤ l.at
at_count e [] l h = not_some l h
at_count e (m ∷ ls) l h = by_test (ltb m.at e) refl h (λ g. at_count e ls l g)
  where
    by_test : (b : Bool) → ltb m.at e ≡ b → slice_get (m ∷ ls) (cond b (suc (count_left_before e ls)) 0) ≡ Some l → (slice_get ls (count_left_before e ls) ≡ Some l → e ≤ l.at) → e ≤ l.at
    by_test true is g ih = ih g
    by_test false is g ih = omega (arith, ltb-false m.at e is, ap (λ (z : Left). z.at) (same_Some _ _ g))

pub before_count : (e : ℕ) (ls : List Left) (k : ℕ) (l : Left) → k < count_left_before e ls → slice_get ls k ≡ Some l → l.at < e
before_count e [] k l h g = not_some l g
before_count e (m ∷ ls) k l h g = by_test (ltb m.at e) refl k h g (λ j a b. before_count e ls j l a b)
  where
    by_test : (b : Bool) → ltb m.at e ≡ b → (j : ℕ) → j < cond b (suc (count_left_before e ls)) 0 → slice_get (m ∷ ls) j ≡ Some l → ((j : ℕ) → j < count_left_before e ls → slice_get ls j ≡ Some l → l.at < e) → l.at < e
    by_test false is j h g ih = absurd (omega arith)
    by_test true is zero h g ih = omega (arith, ltb-true m.at e is, ap (λ (z : Left). z.at) (same_Some _ _ g))
    by_test true is (suc j) h g ih = ih j (omega arith) g

-- who is done by the records before an offset: exactly who finishes before it
pub done_exactly : (e a : ℕ) (ls : List Left) (p f : ℕ) → Rises a ls → finish ls p ≡ Some f → f < e → done_by ls (count_left_before e ls) p ≡ true
done_exactly e a ls p f r h g = ap is_some (done_early a ls (count_left_before e ls) p f r h (λ l at. omega (arith, at_count e ls l at)))
