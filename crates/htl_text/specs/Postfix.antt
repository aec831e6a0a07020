-- Expressions as lists of nodes, each behind its operands.
use Rattle.std.specs.Prelude.{◌≡◌, ◌-◌, ◌++◌, ℕ, false, List, [], ◌∷◌, length, take, drop, refl}
use Rattle.std.specs.Coded.{Coded, code_by, coded_list}
use Rattle.std.proofs.Common.{ap, sym, ◌∙◌, append_assoc, append-nil}
use Rattle.htl_text.specs.{Expressions.Expr, Expressions.Number, Expressions.Flag, Expressions.Variable, Expressions.Prefix, Expressions.Infix, Expressions.Choice, declared.tree.Id.Id, declared.expression.Node.Node}
use Rattle.htl_text.specs.declared.expression.Node.TheVariants as node
use Rattle.htl_text.specs.contracts.expression.Node as node_row

-- the nodes of an expression, in order
abbrev pub nodes_of : Expr → List Node
nodes_of (Number k x) = node.Int k x ∷ []
nodes_of (Flag k x) = node.Bool k x ∷ []
nodes_of (Variable id) = node.Named id ∷ []
nodes_of (Prefix k op e) = nodes_of e ++ node.Unary k op ∷ []
nodes_of (Infix k op l r) = (nodes_of l ++ nodes_of r) ++ node.Binary k op (length (nodes_of r)) ∷ []
nodes_of (Choice k c a b) = ((nodes_of c ++ nodes_of a) ++ nodes_of b) ++ node.Choose k (length (nodes_of a)) (length (nodes_of b)) ∷ []

-- a node takes its operands from those that stand, the last of which is the first here
abbrev pub with_node : Node → List Expr → List Expr
with_node (node.Int k x) es = Number k x ∷ es
with_node (node.Bool k x) es = Flag k x ∷ es
with_node (node.Named id) es = Variable id ∷ es
with_node (node.Unary k op) (e ∷ es) = Prefix k op e ∷ es
with_node (node.Binary k op right) (r ∷ l ∷ es) = Infix k op l r ∷ es
with_node (node.Choose k first second) (b ∷ a ∷ c ∷ es) = Choice k c a b ∷ es
with_node n es = es

abbrev pub with_nodes : List Node → List Expr → List Expr
with_nodes [] es = es
with_nodes (n ∷ ns) es = with_nodes ns (with_node n es)

abbrev pub first_of : List Expr → Expr
first_of [] = Flag 0 false
first_of (e ∷ es) = e

-- the expression that nodes make
unfoldable pub expr_in : List Node → Expr
expr_in ns = first_of (with_nodes ns [])

with_nodes-of : (e : Expr) (ns : List Node) (es : List Expr) → with_nodes (nodes_of e ++ ns) es ≡ with_nodes ns (e ∷ es)
with_nodes-of (Prefix k op e) ns es =
    ap (λ (l : List Node). with_nodes l es) (append_assoc (nodes_of e) (node.Unary k op ∷ []) ns) ∙ with_nodes-of e (node.Unary k op ∷ ns) es
with_nodes-of (Infix k op l r) ns es =
    let last : Node = node.Binary k op (length (nodes_of r)) in
    ap (λ (l : List Node). with_nodes l es) (append_assoc (nodes_of l ++ nodes_of r) (last ∷ []) ns ∙ append_assoc (nodes_of l) (nodes_of r) (last ∷ ns))
    ∙ with_nodes-of l (nodes_of r ++ last ∷ ns) es ∙ with_nodes-of r (last ∷ ns) (l ∷ es)
with_nodes-of (Choice k c a b) ns es =
    let last : Node = node.Choose k (length (nodes_of a)) (length (nodes_of b)) in
    ap (λ (l : List Node). with_nodes l es)
    (append_assoc ((nodes_of c ++ nodes_of a) ++ nodes_of b) (last ∷ []) ns ∙ append_assoc (nodes_of c ++ nodes_of a) (nodes_of b) (last ∷ ns)
    ∙ append_assoc (nodes_of c) (nodes_of a) (nodes_of b ++ last ∷ ns))
    ∙ with_nodes-of c (nodes_of a ++ (nodes_of b ++ last ∷ ns)) es ∙ with_nodes-of a (nodes_of b ++ last ∷ ns) (c ∷ es) ∙ with_nodes-of b (last ∷ ns) (a ∷ c ∷ es)
with_nodes-of _ ns es = refl

pub expr_in-nodes_of : (e : Expr) → expr_in (nodes_of e) ≡ e
unfolding expr_in
expr_in-nodes_of e =
    ap (λ (l : List Node). first_of (with_nodes l [])) (sym (append-nil (nodes_of e))) ∙ ap first_of (with_nodes-of e [] [])

abbrev pub expr_code : Coded Expr
expr_code = code_by (List Node) (coded_list node_row.the_row.coded) nodes_of expr_in expr_in-nodes_of

-- nodes are those of an expression
abbrev pub IsExpr : List Node → Type 0
IsExpr ns = nodes_of (expr_in ns) ≡ ns

-- the last n nodes, and those before them
abbrev pub back : ℕ → List Node → List Node
back n ns = drop (length ns - n) ns

abbrev pub front : ℕ → List Node → List Node
front n ns = take (length ns - n) ns

-- the names among nodes, in order
abbrev pub names_in : List Node → List Id
names_in [] = []
names_in (node.Named id ∷ ns) = id ∷ names_in ns
names_in (n ∷ ns) = names_in ns
