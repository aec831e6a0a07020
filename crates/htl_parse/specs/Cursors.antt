-- What the steps of a reader say of the tokens that are left.
use Rattle.std.specs.Prelude.{Bool, true, false, ℕ, ℤ, ◌≡◌, ◌<◌, ◌≤◌, ◌⊎◌, Option, None, Some, Result, Ok, Err, List, [], ◌∷◌, ◌++◌, length}
use Rattle.htl_text.specs.{Placed.Placed, Placed.Put, Expressions.Expr, Expressions.Number, Expressions.Flag, Expressions.Variable, Postfix.nodes_of, Kinds.kind_of, declared.token.Kind.Kind, declared.token.Token.Token}
use Rattle.htl_base.specs.declared.operator.BinOp.{BinOp}
use Rattle.htl_text.specs.declared.token.Kind.TheVariants as kind
use Rattle.htl_parse.specs.{Levels.level_of, Levels.operator_at, Reading.Read, Reading.left_of, Reading.place_at, ReadingExpressions.simple_at, declared.stop.Stop.Stop}
use Rattle.htl_text.specs.declared.token.Token.TheVariants as token
use Rattle.htl_text.specs.{declared.token.Sign.Sign, declared.expression.Node.Node}
use Rattle.htl_text.specs.declared.expression.Node.TheVariants as node
use Rattle.htl_parse.specs.declared.stop.Stop.TheVariants as stop

-- the kind of the token that stands next
abbrev pub next_kind : List Placed → Option Kind
next_kind [] = None
next_kind (Put k t ∷ ts) = Some (kind_of t)

-- what stands behind the first token
abbrev pub behind : List Placed → List Placed
behind [] = []
behind (t ∷ ts) = ts

-- a token of this kind stands next, or none
abbrev pub NextIs : List Placed → Option Kind → Type 0
NextIs ts None = ts ≡ []
NextIs ts (Some kind.Ident) = (n : List ℕ) × (ts ≡ Put (place_at ts) (token.Ident n) ∷ behind ts)
NextIs ts (Some kind.Number) = (x : ℤ) × (ts ≡ Put (place_at ts) (token.Number x) ∷ behind ts)
NextIs ts (Some (kind.Word w)) = ts ≡ Put (place_at ts) (token.Word w) ∷ behind ts
NextIs ts (Some (kind.Sign s)) = ts ≡ Put (place_at ts) (token.Sign s) ∷ behind ts

-- this token was passed, with its number; or it doesn't stand next and nothing was passed
abbrev pub Passes : Token → List Placed → List Placed → Option ℕ → Type 0
Passes t old new (Some k) = old ≡ Put k t ∷ new
Passes t old new None = (new ≡ old) × ((k : ℕ) (rest : List Placed) → old ≡ Put k t ∷ rest → ⊥)

-- an operator of a level was passed, with its number; or none stands next
abbrev pub PassesOperator : {O : Type 0} → (Sign → Option O) → List Placed → List Placed → Option (ℕ × O) → Type 0
PassesOperator ops old new (Some x) = (s : Sign) × (ops s ≡ Some x.1) × (old ≡ Put x.0 (token.Sign s) ∷ new)
PassesOperator ops old new None = (new ≡ old) × ((k : ℕ) (s : Sign) (rest : List Placed) → old ≡ Put k (token.Sign s) ∷ rest → ops s ≡ None)

-- An operator between operands was passed, with its number and its level, which is from loosest on and below limit; or
-- none of these levels stands next.
abbrev pub PassesBinary : ℕ → ℕ → List Placed → List Placed → Option (ℕ × ℕ × BinOp) → Type 0
PassesBinary loosest limit old new (Some x) =
    (s : Sign) × (x.1 ≡ level_of s) × (operator_at x.1 s ≡ Some x.2) × (loosest ≤ x.1) × (x.1 < limit) × (old ≡ Put x.0 (token.Sign s) ∷ new)
PassesBinary loosest limit old new None =
    (new ≡ old) × ((k : ℕ) (s : Sign) (rest : List Placed) → old ≡ Put k (token.Sign s) ∷ rest → (level_of s < loosest) ⊎ (limit ≤ level_of s))

-- the expression of a node without operands
abbrev pub leaf_of : Node → Expr
leaf_of (node.Int k x) = Number k x
leaf_of (node.Bool k x) = Flag k x
leaf_of (node.Named id) = Variable id
leaf_of n = Flag 0 false

-- a number, a truth value or a name was passed, or none stands next
abbrev pub IsSimple : List Placed → List Placed → Option Node → Type 0
IsSimple old new (Some n) = (simple_at old ≡ Ok (leaf_of n, new)) × (nodes_of (leaf_of n) ≡ n ∷ [])
IsSimple old new None = simple_at old ≡ Err new

-- a token that must stand here
abbrev pub Stands : {X : Type 0} → Result X Stop → List Placed → Result (List Placed) (List Placed) → Type 0
Stands (Ok x) new read = read ≡ Ok new
Stands (Err stop.Memory) new read = Unit {0}
Stands (Err stop.Syntax) new read = read ≡ Err new

-- What a call answers, seen by view, is what reading gives, unless memory ran out. Where reading met a
-- token that doesn't fit, that token stands next.
abbrev pub Gives : {X Y : Type 0} → (X → Y) → Result X Stop → List Placed → Read Y → Type 0
Gives view (Ok x) new read = read ≡ Ok (view x, new)
Gives view (Err stop.Memory) new read = Unit {0}
Gives view (Err stop.Syntax) new read = read ≡ Err new

-- A call puts the nodes of the expression that reading gives behind those that stand, unless memory ran out. Where
-- reading met a token that doesn't fit, that token stands next.
abbrev pub Puts : Result (Unit {0}) Stop → List Node → List Node → List Placed → Read Expr → Type 0
Puts (Ok x) before after new read = (e : Expr) × (read ≡ Ok (e, new)) × (after ≡ before ++ nodes_of e)
Puts (Err stop.Memory) before after new read = Unit {0}
Puts (Err stop.Syntax) before after new read = read ≡ Err new

-- The same of a reader behind which nothing may stand.
abbrev pub GivesWhole : {X Y : Type 0} → (X → Y) → Result X Stop → List Placed → Read Y → Type 0
GivesWhole view (Ok x) new read = read ≡ Ok (view x, [])
GivesWhole view (Err stop.Memory) new read = Unit {0}
GivesWhole {X} {Y} view (Err stop.Syntax) new read = (left_of read ≡ new) × ((y : Y) → read ≡ Ok (y, []) → ⊥)

-- what was read is no longer left
abbrev pub Lessens : {X : Type 0} → Result X Stop → List Placed → List Placed → Type 0
Lessens (Ok x) old new = length new < length old
Lessens (Err e) old new = Unit {0}

-- nothing is left
abbrev pub IsDone : List Placed → Bool → Type 0
IsDone ts true = ts ≡ []
IsDone ts false = ts ≡ [] → ⊥
