-- The nodes of an expression are put behind those that stand.
use Rattle.std.proofs.Common.{arith, ◌≡◌, ◌-◌, ℕ, List, [], ◌∷◌, ◌++◌, length, Some, Result, Ok, ap, ◌∙◌, append_assoc}
use Rattle.htl_parse.proofs.Words.{UnOp, BinOp, Placed, Expr, Prefix, Infix, Choice, nodes_of, Node, prefix_of, PassesOperator, chosen, unary_by, length-append}
use Rattle.htl_text.specs.declared.expression.Node.TheVariants as node
use Rattle.htl_parse.proofs.Complete.{prefix-done}
use Rattle.htl_text.specs.declared.token.Sign.TheVariants as sign
use Rattle.htl_parse.specs.Reading.{Read, Reader, ◌>>=◌, after_sign}

-- what was put is as long as its nodes
pub put-long : (before after : List Node) (e : Expr) → after ≡ before ++ nodes_of e → length after - length before ≡ length (nodes_of e)
put-long before after e same = let long = ap length same ∙ length-append before (nodes_of e) in omega (arith, long)

-- a list, some behind it, and a last node
then-last : (start stand more last : List Node) (first second : List Node) (n m : Node) → stand ≡ start ++ first → more ≡ stand ++ second → n ≡ m
    → last ≡ more ++ n ∷ [] → last ≡ start ++ ((first ++ second) ++ m ∷ [])
then-last start stand more last first second n m one two same is =
    is ∙ ap (λ (x : Node). more ++ x ∷ []) same
    ∙ ap (λ (l : List Node). l ++ m ∷ []) (two ∙ ap (λ (l : List Node). l ++ second) one ∙ append_assoc start first second)
    ∙ append_assoc start (first ++ second) (m ∷ [])

pub put-prefix : (start stand last : List Node) (k : ℕ) (op : UnOp) (e : Expr) → stand ≡ start ++ nodes_of e
    → last ≡ stand ++ node.Unary k op ∷ [] → last ≡ start ++ nodes_of (Prefix k op e)
put-prefix start stand last k op e one is =
    is ∙ ap (λ (l : List Node). l ++ node.Unary k op ∷ []) one ∙ append_assoc start (nodes_of e) (node.Unary k op ∷ [])

pub put-infix : (start stand more last : List Node) (k right : ℕ) (op : BinOp) (e r : Expr) → stand ≡ start ++ nodes_of e → more ≡ stand ++ nodes_of r
    → right ≡ length more - length stand → last ≡ more ++ node.Binary k op right ∷ [] → last ≡ start ++ nodes_of (Infix k op e r)
put-infix start stand more last k right op e r one two count is =
    then-last start stand more last (nodes_of e) (nodes_of r) (node.Binary k op right) _ one two
    (ap (λ (n : ℕ). node.Binary k op n) (count ∙ put-long stand more r two)) is

pub put-choice : (start stand more most last : List Node) (k first second : ℕ) (c a b : Expr) → stand ≡ start ++ nodes_of c → more ≡ stand ++ nodes_of a → most ≡ more ++ nodes_of b
    → first ≡ length more - length stand → second ≡ length most - length more → last ≡ most ++ node.Choose k first second ∷ [] → last ≡ start ++ nodes_of (Choice k c a b)
put-choice start stand more most last k first second c a b one two three count other is =
    then-last start more most last (nodes_of c ++ nodes_of a) (nodes_of b) (node.Choose k first second) _
    (two ∙ ap (λ (l : List Node). l ++ nodes_of a) one ∙ append_assoc start (nodes_of c) (nodes_of a)) three
    (ap (λ (n : ℕ). node.Choose k n second) (count ∙ put-long stand more a two) ∙ ap (λ (n : ℕ). node.Choose k (length (nodes_of a)) n) (other ∙ put-long more most b three)) is

pub chosen-is : (nested : Reader Expr) (k : ℕ) (old us vs ws one two three new : List Placed) (c a b : Expr)
    → after_sign sign.OpenParen old ≡ Ok us → nested us ≡ Ok (c, one) → after_sign sign.Comma one ≡ Ok vs → nested vs ≡ Ok (a, two)
    → after_sign sign.Comma two ≡ Ok ws → nested ws ≡ Ok (b, three) → after_sign sign.CloseParen three ≡ Ok new → chosen nested k old ≡ Ok (Choice k c a b, new)
chosen-is nested k old us vs ws one two three new c a b opens is_c first is_a second is_b closes =
    ap (λ (q : Result (List Placed) (List Placed)). q >>= λ us. nested us >>= λ c. after_sign sign.Comma c.1 >>= λ vs. nested vs >>= λ a. after_sign sign.Comma a.1 >>= λ ws. nested ws >>= λ b. after_sign sign.CloseParen b.1 >>= λ rest. Ok (Choice k c.0 a.0 b.0, rest)) opens
    ∙ ap (λ (r : Read Expr). r >>= λ c. after_sign sign.Comma c.1 >>= λ vs. nested vs >>= λ a. after_sign sign.Comma a.1 >>= λ ws. nested ws >>= λ b. after_sign sign.CloseParen b.1 >>= λ rest. Ok (Choice k c.0 a.0 b.0, rest)) is_c
    ∙ ap (λ (q : Result (List Placed) (List Placed)). q >>= λ vs. nested vs >>= λ a. after_sign sign.Comma a.1 >>= λ ws. nested ws >>= λ b. after_sign sign.CloseParen b.1 >>= λ rest. Ok (Choice k c a.0 b.0, rest)) first
    ∙ ap (λ (r : Read Expr). r >>= λ a. after_sign sign.Comma a.1 >>= λ ws. nested ws >>= λ b. after_sign sign.CloseParen b.1 >>= λ rest. Ok (Choice k c a.0 b.0, rest)) is_a
    ∙ ap (λ (q : Result (List Placed) (List Placed)). q >>= λ ws. nested ws >>= λ b. after_sign sign.CloseParen b.1 >>= λ rest. Ok (Choice k c a b.0, rest)) second
    ∙ ap (λ (r : Read Expr). r >>= λ b. after_sign sign.CloseParen b.1 >>= λ rest. Ok (Choice k c a b.0, rest)) is_b
    ∙ ap (λ (q : Result (List Placed) (List Placed)). q >>= λ rest. Ok (Choice k c a b, rest)) closes

pub prefix-read : (nested : Reader Expr) (k : ℕ) (op : UnOp) (old mid new : List Placed) (e : Expr) → PassesOperator prefix_of old mid (Some (k, op))
    → unary_by nested mid ≡ Ok (e, new) → unary_by nested old ≡ Ok (Prefix k op e, new)
prefix-read nested k op old mid new e passes read =
    ap (unary_by nested) passes.2 ∙ prefix-done nested k mid e new op passes.0 passes.1 read
