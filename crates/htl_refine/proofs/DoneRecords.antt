-- Who is done by the records before an offset finishes before it.
use Rattle.std.proofs.Common.{◌≡◌, ℕ, zero, suc, ◌<◌, Bool, true, false, cond, ◌&&◌, ltb, is_some, List, [], ◌∷◌, take, Option, Some, None, refl, arith}
use Rattle.htl_refine.proofs.{Words.ltb-true, Words.Left, Words.is_position, Words.finish, Words.count_left_before, Words.done_by, Words.same_Some, RecordOrder.not_some}

-- who is done finishes then
pub done_finish : (ls : List Left) (k p f : ℕ) → finish (take k ls) p ≡ Some f → finish ls p ≡ Some f
done_finish [] zero p f e = e
done_finish [] (suc k) p f e = e
done_finish (l ∷ ls) zero p f e = not_some f e
done_finish (l ∷ ls) (suc k) p f e = by_test (is_position l.position p && l.finished) e (λ g. done_finish ls k p f g)
  where
    by_test : (b : Bool) → cond b (Some l.at) (finish (take k ls) p) ≡ Some f → (finish (take k ls) p ≡ Some f → finish ls p ≡ Some f) → cond b (Some l.at) (finish ls p) ≡ Some f
    by_test true g ih = g
    by_test false g ih = ih g

pub done_some : (ls : List Left) (k p : ℕ) → done_by ls k p ≡ true → (f : ℕ) × (finish (take k ls) p ≡ Some f)
done_some ls k p e = grind (arith, is_some)

-- who is done by the records before an offset finishes before it
done_before : (e : ℕ) (ls : List Left) (p f : ℕ) → finish (take (count_left_before e ls) ls) p ≡ Some f → f < e
done_before e [] p f h = not_some f h
done_before e (m ∷ ls) p f h = by_test (ltb m.at e) refl h (λ g. done_before e ls p f g)
  where
    by_test : (b : Bool) → ltb m.at e ≡ b → finish (take (cond b (suc (count_left_before e ls)) 0) (m ∷ ls)) p ≡ Some f → (finish (take (count_left_before e ls) ls) p ≡ Some f → f < e) → f < e
    by_test false is g ih = not_some f g
    by_test true is g ih = grind (arith, ltb-true, same_Some)

pub done_is : (e : ℕ) (ls : List Left) (p : ℕ) → done_by ls (count_left_before e ls) p ≡ true → (f : ℕ) × (finish ls p ≡ Some f) × (f < e)
done_is e ls p h = let d = done_some ls (count_left_before e ls) p h in (d.0, done_finish ls (count_left_before e ls) p d.0 d.1, done_before e ls p d.0 d.1)
