-- The nodes of a generated task's expression, and lists one longer.
use Rattle.std.proofs.Common.{◌≡◌, ◌+◌, ◌++◌, ◌∷◌, ◌∙◌, ℕ, suc, List, [], None, map, ap, sym, arith}
use Rattle.htl_bulk.proofs.Words.{Id, InvokeNode, Node, Num, ParamNode, PlainMode, PlainSwitch, bulk_mode, codes, copying_invoke, int_named, list_to, map-append, named, nodes_of, number, pos, scaled_sum, scaling_invoke, ℤ}
use Rattle.htl_base.specs.declared.operator.BinOp.TheVariants as op
use Rattle.htl_text.specs.declared.expression.Node.TheVariants as node

-- ---- nodes

pub scaled_nodes : (k : ℕ) (x y : Id) (n : ℤ) → x ≡ named (codes "x") → y ≡ named (codes "y") → n ≡ pos (suc k)
    → node.Named x ∷ node.Int 0 n ∷ node.Binary 0 op.Mul 1 ∷ node.Named y ∷ node.Binary 0 op.Add 1 ∷ [] ≡ nodes_of (scaled_sum k)
scaled_nodes k x y n xs ys ns =
    let list : Id → ℤ → Id → List Node = λ a m b. node.Named a ∷ node.Int 0 m ∷ node.Binary 0 op.Mul 1 ∷ node.Named b ∷ node.Binary 0 op.Add 1 ∷ [] in
    ap (λ a. list a n y) xs ∙ ap (λ m. list (named (codes "x")) m y) ns ∙ ap (list (named (codes "x")) (pos (suc k))) ys

-- ---- lists

one_more : (k : ℕ) → k + 1 ≡ suc k
one_more k = omega arith

-- the list of the first k + 1
pub list_further : {A : Type 0} (f : ℕ → A) (k : ℕ) → list_to f (k + 1) ≡ list_to f k ++ f k ∷ []
list_further f k = ap (list_to f) (one_more k)

pub map_further : {A B : Type 0} (see : A → B) (f : ℕ → B) (xs : List A) (x : A) (k : ℕ)
    → map see xs ≡ list_to f k → see x ≡ f k → map see (xs ++ x ∷ []) ≡ list_to f (k + 1)
map_further see f xs x k before here =
    map-append see xs (x ∷ []) ∙ ap (λ ys. ys ++ see x ∷ []) before ∙ ap (λ y. list_to f k ++ y ∷ []) here ∙ sym (list_further f k)

-- ---- the mode of its parts

abbrev plain : Id → Num → List ParamNode → List InvokeNode → List PlainSwitch → PlainMode
plain name period ports invokes switches = record { name = name; period = period; program = None; ports = ports; invokes = invokes; switches = switches }

pub mode_made : (n k : ℕ) (name : Id) (period : Num) (ports : List ParamNode) (invokes : List InvokeNode) (switches : List PlainSwitch)
    → name ≡ named (codes "m") → period ≡ number (pos 1000) → ports ≡ int_named (codes "p") ∷ [] → invokes ≡ scaling_invoke n k ∷ copying_invoke k ∷ [] → switches ≡ []
    → plain name period ports invokes switches ≡ bulk_mode n k
mode_made n k name period ports invokes switches a b c d e =
    let m = named (codes "m") in
    let p = int_named (codes "p") ∷ [] in
    ap (λ x. plain x period ports invokes switches) a
    ∙ ap (λ x. plain m x ports invokes switches) b
    ∙ ap (λ x. plain m (number (pos 1000)) x invokes switches) c
    ∙ ap (λ x. plain m (number (pos 1000)) p x switches) d
    ∙ ap (plain m (number (pos 1000)) p (scaling_invoke n k ∷ copying_invoke k ∷ [])) e
