-- The last node of an expression, and what stands before it.
use Rattle.std.proofs.Common.{arith, ◌≡◌, ◌≤◌, ◌-◌, ◌++◌, ℕ, List, [], ◌∷◌, length, take, drop, refl, sym, subst, ap, ap₂, ◌∙◌, append_assoc, append-nil}
use Rattle.htl_text.proofs.Words.{take-append_seam, drop-append_seam, IsExpr, expr_in, nodes_of, front, back, names_in, expr_in-nodes_of, names_of, Id, Node, length-append}
use Rattle.htl_text.specs.Expressions.{Expr, Number, Flag, Variable, Prefix, Infix, Choice}
use Rattle.htl_text.specs.declared.expression.Node.TheVariants as node

abbrev last_of : Expr → Node
last_of (Number k x) = node.Int k x
last_of (Flag k x) = node.Bool k x
last_of (Variable id) = node.Named id
last_of (Prefix k op e) = node.Unary k op
last_of (Infix k op l r) = node.Binary k op (length (nodes_of r))
last_of (Choice k c a b) = node.Choose k (length (nodes_of a)) (length (nodes_of b))

abbrev before_of : Expr → List Node
before_of (Prefix k op e) = nodes_of e
before_of (Infix k op l r) = nodes_of l ++ nodes_of r
before_of (Choice k c a b) = (nodes_of c ++ nodes_of a) ++ nodes_of b
before_of _ = []

split_of : (e : Expr) → nodes_of e ≡ before_of e ++ last_of e ∷ []
split_of (Number k x) = refl
split_of _ = refl

-- what a last node says of what stands before it
abbrev pub Ends : Node → List Node → Expr → Type 0
Ends (node.Int k x) before e = Number k x ≡ e
Ends (node.Bool k x) before e = Flag k x ≡ e
Ends (node.Named id) before e = Variable id ≡ e
Ends (node.Unary k op) before e = IsExpr before × (Prefix k op (expr_in before) ≡ e)
Ends (node.Binary k op right) before e =
    (right ≤ length before) × IsExpr (back right before) × IsExpr (front right before)
    × (Infix k op (expr_in (front right before)) (expr_in (back right before)) ≡ e)
Ends (node.Choose k first second) before e =
    (second ≤ length before) × IsExpr (back second before) × (first ≤ length (front second before)) × IsExpr (back first (front second before))
    × IsExpr (front first (front second before))
    × (Choice k (expr_in (front first (front second before))) (expr_in (back first (front second before))) (expr_in (back second before)) ≡ e)

pub is_expr : (e : Expr) (ns : List Node) → ns ≡ nodes_of e → IsExpr ns
is_expr e ns same = ap (λ (l : List Node). nodes_of (expr_in l)) same ∙ ap nodes_of (expr_in-nodes_of e) ∙ sym same

pub in_expr : (e : Expr) (ns : List Node) → ns ≡ nodes_of e → expr_in ns ≡ e
in_expr e ns same = ap expr_in same ∙ expr_in-nodes_of e

left_alone : (xs ys : List Node) → length (xs ++ ys) - length ys ≡ length xs
left_alone xs ys = let long = length-append xs ys in omega (arith, long)

front_of : (xs ys : List Node) → front (length ys) (xs ++ ys) ≡ xs
front_of xs ys = ap (λ (n : ℕ). take n (xs ++ ys)) (left_alone xs ys) ∙ take-append_seam xs ys

back_of : (xs ys : List Node) → back (length ys) (xs ++ ys) ≡ ys
back_of xs ys = ap (λ (n : ℕ). drop n (xs ++ ys)) (left_alone xs ys) ∙ drop-append_seam xs ys

within : (xs ys : List Node) → length ys ≤ length (xs ++ ys)
within xs ys = let long = length-append xs ys in omega (arith, long)

pub choice_same : (k : ℕ) (c d a x b y : Expr) → c ≡ d → a ≡ x → b ≡ y → Choice k c a b ≡ Choice k d x y
choice_same k c d a x b y one two three = ap₂ (λ (e f : Expr). Choice k e f b) one two ∙ ap (λ (e : Expr). Choice k d x e) three

ends_own : (e : Expr) → Ends (last_of e) (before_of e) e
ends_own (Prefix k op e) = (is_expr e (nodes_of e) refl, ap (Prefix k op) (expr_in-nodes_of e))
ends_own (Infix k op l r) = grind (arith, front_of, back_of, within, is_expr, in_expr)
ends_own (Choice k c a b) = grind (arith, front_of, back_of, within, is_expr, choice_same, in_expr)
ends_own _ = refl

abbrev tail_of : List Node → List Node
tail_of [] = []
tail_of (n ∷ ns) = ns

snoc_same : (xs ys : List Node) (x y : Node) → xs ++ x ∷ [] ≡ ys ++ y ∷ [] → (xs ≡ ys) × (x ≡ y)
snoc_same [] [] x y same = (refl, cc)
snoc_same [] (z ∷ ys) x y same = let long = length-append ys (y ∷ []) in let e = ap length same in absurd (omega (arith, long, e))
snoc_same (w ∷ xs) [] x y same = let long = length-append xs (x ∷ []) in let e = ap length same in absurd (omega (arith, long, e))
snoc_same (w ∷ xs) (z ∷ ys) x y same = grind (arith, snoc_same xs ys x y (ap tail_of same))

pub ends : (before : List Node) (n : Node) → IsExpr (before ++ n ∷ []) → Ends n before (expr_in (before ++ n ∷ []))
ends before n is = grind (arith, snoc_same, split_of, ends_own)

pub some_node : (ns : List Node) → IsExpr ns → length ns ≡ 0 → ⊥
some_node ns is none = grind (arith, length-append, split_of)

pub ends_as : (before : List Node) (n m : Node) → n ≡ m → IsExpr (before ++ n ∷ []) → Ends m before (expr_in (before ++ n ∷ []))
ends_as before n m same is = subst (λ (l : Node). Ends l before (expr_in (before ++ n ∷ []))) same (ends before n is)

names_in-append : (xs ys : List Node) → names_in (xs ++ ys) ≡ names_in xs ++ names_in ys
names_in-append [] ys = refl
names_in-append (node.Int k x ∷ xs) ys = names_in-append xs ys
names_in-append (node.Bool k x ∷ xs) ys = names_in-append xs ys
names_in-append (node.Named id ∷ xs) ys = ap (λ (ids : List Id). id ∷ ids) (names_in-append xs ys)
names_in-append (node.Unary k op ∷ xs) ys = names_in-append xs ys
names_in-append (node.Binary k op right ∷ xs) ys = names_in-append xs ys
names_in-append (node.Choose k first second ∷ xs) ys = names_in-append xs ys

-- a last node without a name adds none
names_in-last : (xs : List Node) (n : Node) (ids : List Id) → names_in (n ∷ []) ≡ [] → names_in xs ≡ ids → names_in (xs ++ n ∷ []) ≡ ids
names_in-last xs n ids none same = names_in-append xs (n ∷ []) ∙ ap (λ (is : List Id). names_in xs ++ is) none ∙ append-nil (names_in xs) ∙ same

-- the names stand in the order of the expression
pub names_in-nodes_of : (e : Expr) → names_in (nodes_of e) ≡ names_of e
names_in-nodes_of (Prefix k op e) = names_in-last (nodes_of e) _ (names_of e) refl (names_in-nodes_of e)
names_in-nodes_of (Infix k op l r) = grind (arith, names_in-last, names_in-append, names_in-nodes_of l, names_in-nodes_of r)
names_in-nodes_of (Choice k c a b) =
    names_in-last ((nodes_of c ++ nodes_of a) ++ nodes_of b) _ (names_of c ++ (names_of a ++ names_of b)) refl
    (names_in-append (nodes_of c ++ nodes_of a) (nodes_of b) ∙ ap (λ (ids : List Id). ids ++ names_in (nodes_of b)) (names_in-append (nodes_of c) (nodes_of a))
    ∙ append_assoc (names_in (nodes_of c)) (names_in (nodes_of a)) (names_in (nodes_of b))
    ∙ ap₂ ◌++◌ (names_in-nodes_of c) (ap₂ ◌++◌ (names_in-nodes_of a) (names_in-nodes_of b)))
names_in-nodes_of _ = refl

pub names_in-is : (ns : List Node) → IsExpr ns → names_in ns ≡ names_of (expr_in ns)
names_in-is ns is = ap names_in (sym is) ∙ names_in-nodes_of (expr_in ns)
