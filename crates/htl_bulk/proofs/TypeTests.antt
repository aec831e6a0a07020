-- The functions of tables are typed, by a test.
use Rattle.std.proofs.Common.{◌≡◌, ◌&&◌, leb, leb-true, ℕ, zero, suc, Bool, true, false, List, [], ◌∷◌, refl, sym, ap, ◌∙◌, Some, slice_get, Option}
use Rattle.htl_bulk.proofs.Words.{Compiled, Formula, Fun, FunctionType, IsFunction, Ty, and_parts, held, type_of}
use Rattle.htl_base.specs.declared.Ty.TheVariants as ty

abbrev is_int : Option Ty → Bool
is_int (Some ty.Int) = true
is_int _ = false

int_is : (o : Option Ty) → is_int o ≡ true → o ≡ Some ty.Int
int_is (Some ty.Int) h = refl
int_is _ h = absurd (let z : ⊥ = cc in z)

-- an expression that gives an int and holds at most 64 values
abbrev is_typed : FunctionType → Fun → Bool
is_typed f (Formula first e) = is_int (Some f.want) && (is_int (type_of f.args e) && leb (held e) 64)
is_typed f (Compiled code) = false

abbrev pub are_typed : List FunctionType → List Fun → Bool
are_typed (f ∷ fs) (g ∷ gs) = is_typed f g && are_typed fs gs
are_typed _ _ = true

-- an expression with the types of its place
abbrev pub IsExpressionOf : FunctionType → Fun → Type 0
IsExpressionOf f (Formula first e) = IsFunction f.args f.want e
IsExpressionOf f (Compiled code) = ⊥

typed : (f : FunctionType) (g : Fun) → is_typed f g ≡ true → IsExpressionOf f g
typed f (Formula first e) h =
    let p = and_parts (is_int (Some f.want)) (is_int (type_of f.args e) && leb (held e) 64) h in
    let q = and_parts (is_int (type_of f.args e)) (leb (held e) 64) p.1 in
    record { typed = int_is (type_of f.args e) q.0 ∙ sym (int_is (Some f.want) p.0); fits = leb-true (held e) 64 q.1 }
typed f (Compiled code) h = cc

pub typed_at : (fs : List FunctionType) (gs : List Fun) (k : ℕ) (f : FunctionType) (g : Fun) → are_typed fs gs ≡ true → slice_get fs k ≡ Some f → slice_get gs k ≡ Some g → IsExpressionOf f g
typed_at [] gs k f g h a b = absurd (let z : ⊥ = cc in z)
typed_at (x ∷ fs) [] k f g h a b = absurd (let z : ⊥ = cc in z)
typed_at (x ∷ fs) (y ∷ gs) zero f g h a b =
    let one : x ≡ f = cc in
    let two : y ≡ g = cc in
    typed f g (sym (ap (is_typed f) two) ∙ sym (ap (λ (z : FunctionType). is_typed z y) one) ∙ (and_parts (is_typed x y) (are_typed fs gs) h).0)
typed_at (x ∷ fs) (y ∷ gs) (suc k) f g h a b = typed_at fs gs k f g (and_parts (is_typed x y) (are_typed fs gs) h).1 a b
