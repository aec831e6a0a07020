-- The first item that passes a test, found by a search.
use Rattle.std.proofs.Common.{◌≡◌, ◌+◌, ◌<◌, ℕ, zero, suc, Bool, true, false, cond, List, [], ◌∷◌, Option, Some, None, refl, sym, subst, ap, ◌∙◌, arith}
use Rattle.std.proofs.{lemmas.Bool.false_from_ne_true, lemmas.Option.slice_get-get_or, lemmas.Option.get_or_from_slice_get}
use Rattle.std.specs.Prelude.{slice_index}
use Rattle.memchr.specs.Find.{IsFirstByte}
use Rattle.htl_script.proofs.Words.{slice_get, position_from, none-some, same_Some, slice_get_within}

pub first_is : {A : Type 0} (test : A → Bool) (items : List A) (k i : ℕ) (x : A) → slice_get items i ≡ Some x → test x ≡ true
    → ((q : ℕ) (y : A) → q < i → slice_get items q ≡ Some y → test y ≡ false) → position_from test k items ≡ Some (k + i)
first_is test [] k i x at hit missed = absurd (none-some x at)
first_is test (y ∷ ys) k zero x at hit missed =
    ap (λ b. cond b (Some k) (position_from test (k + 1) ys)) (ap test (same_Some y x at) ∙ hit) ∙ ap (λ n. Some n) (let e : k ≡ k + 0 = omega arith in e)
first_is test (y ∷ ys) k (suc i) x at hit missed =
    ap (λ b. cond b (Some k) (position_from test (k + 1) ys)) (missed 0 y (omega arith) refl)
    ∙ first_is test ys (k + 1) i x at hit (λ q z less e. missed (suc q) z (omega arith) e) ∙ ap (λ n. Some n) (let e : k + 1 + i ≡ k + suc i = omega arith in e)

pub none_is : {A : Type 0} (test : A → Bool) (items : List A) (k : ℕ) → ((q : ℕ) (y : A) → slice_get items q ≡ Some y → test y ≡ false) → position_from test k items ≡ None
none_is test [] k missed = refl
none_is test (y ∷ ys) k missed =
    ap (λ b. cond b (Some k) (position_from test (k + 1) ys)) (missed 0 y refl) ∙ none_is test ys (k + 1) (λ q z e. missed (suc q) z e)

missed_byte : (test : ℕ → Bool) (bytes : List ℕ) (q y : ℕ) → slice_get bytes q ≡ Some y → (test (slice_index bytes q) ≡ true → ⊥) → test y ≡ false
missed_byte test bytes q y at fails = subst (λ z. test z ≡ false) (get_or_from_slice_get bytes q y 0 at) (false_from_ne_true (test (slice_index bytes q)) fails)

-- a search for a byte finds the first that passes the test
pub first_byte : (test : ℕ → Bool) (bytes : List ℕ) (r : Option ℕ) → IsFirstByte test bytes r → r ≡ position_from test 0 bytes
first_byte test bytes None h = sym (none_is test bytes 0 (λ q y at. missed_byte test bytes q y at (h q (omega arith) (slice_get_within bytes q y at))))
first_byte test bytes (Some k) h =
    sym (
    first_is test bytes 0 k (slice_index bytes k) (slice_get-get_or bytes k 0 h.0.high) h.1
    (λ q y less at. missed_byte test bytes q y at (h.0.before q (omega arith) less))
    ∙ ap (λ n. Some n) (let e : 0 + k ≡ k = omega arith in e)
    )
