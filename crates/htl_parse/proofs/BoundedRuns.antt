-- What stands within a run of tokens has at most as many parts as the run has tokens.
use Rattle.std.proofs.Common.{arith, ◌≡◌, ◌≤◌, ◌+◌, ◌*◌, ℕ, zero, suc, false, List, [], ◌∷◌, ◌++◌, length, take, drop, Option, None, Some, refl, sym, subst, ap, ◌∙◌, append_assoc, length-append, length-take-le}
use Rattle.std.specs.List.{All, sum_by}
use Rattle.htl_parse.proofs.Words.{take-append-drop, All-nil, All-cons, sum_by-cons, BinOp, tree_nodes, names_of, HasLiterals, IsBoundedExpr, IsBoundedEnd, Expr, Prefix, Infix, Choice, Level, Spells, prefix_of, or_of, and_of, compare_of, sum_of, product_of, conj, or, cmp, and, sum, compare, prod, add, unary, multiply, atom, prefix, number, brackets, choice, PlainOut, Placed, Put, tokens_numbered, AreSpellable, SpellsMore, no_more, comma, SpellsList, empty, items, int, bool, SpellsParam, param, SpellsOut, out, SpellsEnd, comm_end, port_end, Token, Sign, ParamNode, EndNode, ends_run, IsStatementRun, IsLong, AreShort}
use Rattle.htl_text.specs.declared.token.Token.TheVariants as token
use Rattle.htl_text.specs.declared.token.Sign.TheVariants as sign

-- ---- tokens that are left

-- tokens without their numbers
abbrev pub plain : List Placed → List Token
plain [] = []
plain (Put k t ∷ ts) = t ∷ plain ts

pub plain-numbered : (n : ℕ) (ts : List Token) → plain (tokens_numbered n ts) ≡ ts
plain-numbered n [] = refl
plain-numbered n (t ∷ ts) = ap (λ (us : List Token). t ∷ us) (plain-numbered (n + 1) ts)

pub length-plain : (ts : List Placed) → length (plain ts) ≡ length ts
length-plain [] = refl
length-plain (Put k t ∷ ts) = omega (arith, length-plain ts)

pub record AreFit (ts : List Placed) : Type 0 where
  pub few : length ts ≤ 1048576
  pub short : AreShort (plain ts)
  pub spellable : AreSpellable (plain ts)

pub behind : {k : ℕ} {t : Token} {ts : List Placed} → AreFit (Put k t ∷ ts) → AreFit ts
behind {k} {t} {ts} fit = record {
  few = omega (arith, fit.few);
  short = λ j long.
      fit.short (suc j) (record {
        front = t ∷ long.front;
        run = long.run;
        rest = long.rest;
        cut = ap (λ (us : List Token). t ∷ us) long.cut;
        is_run = long.is_run;
        long = long.long;
        last = omega (arith, long.last);
      });
  spellable = fit.spellable.1;
}

-- rest follows tokens none of which ends a run
pub data Runs : List Placed → List Placed → Type 0 where
  here : {ts : List Placed} → Runs ts ts
  next : {k : ℕ} {t : Token} {ts rest : List Placed} → ends_run t ≡ false → Runs ts rest → Runs (Put k t ∷ ts) rest

further : {ts us rest : List Placed} → Runs ts us → Runs us rest → Runs ts rest
further here more = more
further (next is run) more = next is (further run more)

pub run-fit : {ts rest : List Placed} → Runs ts rest → AreFit ts → AreFit rest
run-fit here fit = fit
run-fit (next is run) fit = run-fit run (behind fit)

-- the tokens of a run
pub record Passed (ts rest : List Placed) : Type 0 where
  pub front : List Token
  pub cut : plain ts ≡ front ++ plain rest
  pub is_run : IsStatementRun front
  pub long : length front + length rest ≡ length ts

passed : {ts rest : List Placed} → Runs ts rest → Passed ts rest
passed here = record { front = []; cut = refl; is_run = tt; long = omega arith }
passed (next {k} {t} {ts} {rest} is run) =
    let more = passed run in
    record { front = t ∷ more.front; cut = ap (λ (us : List Token). t ∷ us) more.cut; is_run = (is, more.is_run); long = omega (arith, more.long) }

run-take : (n : ℕ) (ts : List Token) → IsStatementRun ts → IsStatementRun (take n ts)
run-take zero ts is = tt
run-take (suc n) [] is = tt
run-take (suc n) (t ∷ ts) is = (is.0, run-take n ts is.1)

long-front : (front rest : List Token) → IsStatementRun front → 513 ≤ length front → IsLong (front ++ rest) 512
long-front front rest is long = record {
  front = [];
  run = take 513 front;
  rest = drop 513 front ++ rest;
  cut = ap (λ (ts : List Token). ts ++ rest) (sym (take-append-drop 513 front)) ∙ append_assoc (take 513 front) (drop 513 front) rest;
  is_run = run-take 513 front is;
  long = length-take-le 513 front long;
  last = refl;
}

-- a run has at most 512 tokens
run-short : {ts rest : List Placed} → Runs ts rest → AreShort (plain ts) → length ts ≤ 512 + length rest
run-short {ts} {rest} run short =
    let p = passed run in
    by p (λ long. short 512 (subst (λ (us : List Token). IsLong us 512) (sym p.cut) (long-front p.front (plain rest) p.is_run long)))
  where
    by : (p : Passed ts rest) → (513 ≤ length p.front → ⊥) → length ts ≤ 512 + length rest
    by p never = omega (arith, p.long, never)

-- ---- what stands within a run

-- x is spelled by tokens none of which ends a run, at least as many as its size
pub record Run {X : Type 0} (size : X → ℕ) (Good : X → Type 0) (ts : List Placed) (x : X) (rest : List Placed) : Type 0 where
  pub runs : Runs ts rest
  pub fits : size x + length rest ≤ length ts
  pub good : Good x

-- how many tokens spell an expression at least
abbrev pub weight : Expr → ℕ
weight (Prefix k op e) = weight e + 1
weight (Infix k op l r) = weight l + weight r + 1
weight (Choice k c a b) = weight c + weight a + weight b + 5
weight _ = 1

pub nodes-weight : (e : Expr) → tree_nodes e ≤ weight e
nodes-weight (Prefix k op e) = omega (arith, nodes-weight e)
nodes-weight (Infix k op l r) = omega (arith, nodes-weight l, nodes-weight r)
nodes-weight (Choice k c a b) = omega (arith, nodes-weight c, nodes-weight a, nodes-weight b)
nodes-weight _ = omega arith

-- between two names stands at least one token
pub names-weight : (e : Expr) → 2 * length (names_of e) ≤ weight e + 1
names-weight (Prefix k op e) = omega (arith, names-weight e)
names-weight (Infix k op l r) = omega (arith, names-weight l, names-weight r, length-append (names_of l) (names_of r))
names-weight (Choice k c a b) =
    omega (arith, names-weight c, names-weight a, names-weight b, length-append (names_of c) (names_of a ++ names_of b), length-append (names_of a) (names_of b))
names-weight _ = omega arith

abbrev pub IsExprRun : List Placed → Expr → List Placed → Type 0
IsExprRun = Run weight HasLiterals

-- operators end no run
no_end : {O : Type 0} (ops : Sign → Option O) → ops sign.Semicolon ≡ None → ops sign.OpenBrace ≡ None → ops sign.CloseBrace ≡ None → (s : Sign) (op : O) → ops s ≡ Some op
    → ends_run (token.Sign s) ≡ false
no_end ops semicolon opening closing sign.Semicolon op is = absurd cc
no_end ops semicolon opening closing sign.OpenBrace op is = absurd cc
no_end ops semicolon opening closing sign.CloseBrace op is = absurd cc
no_end ops semicolon opening closing s op is = refl

infix-run : {ts us rest : List Placed} {k : ℕ} {s : Sign} {op : BinOp} {l r : Expr} → ends_run (token.Sign s) ≡ false → AreFit ts → IsExprRun ts l (Put k (token.Sign s) ∷ us)
    → (AreFit us → IsExprRun us r rest) → IsExprRun ts (Infix k op l r) rest
infix-run is fit left more =
    let right = more (behind (run-fit left.runs fit)) in
    record { runs = further left.runs (next is right.runs); fits = omega (arith, left.fits, right.fits); good = (left.good, right.good) }

pub expr-run : {level : Level} {ts : List Placed} {e : Expr} {rest : List Placed} → Spells level ts e rest → AreFit ts → IsExprRun ts e rest
expr-run (conj e) fit = expr-run e fit
expr-run (or {s = s} {op = op} l is r) fit = infix-run (no_end or_of refl refl refl s op is) fit (expr-run l fit) (expr-run r)
expr-run (cmp e) fit = expr-run e fit
expr-run (and {s = s} {op = op} l is r) fit = infix-run (no_end and_of refl refl refl s op is) fit (expr-run l fit) (expr-run r)
expr-run (sum e) fit = expr-run e fit
expr-run (compare {s = s} {op = op} l is r) fit = infix-run (no_end compare_of refl refl refl s op is) fit (expr-run l fit) (expr-run r)
expr-run (prod e) fit = expr-run e fit
expr-run (add {s = s} {op = op} l is r) fit = infix-run (no_end sum_of refl refl refl s op is) fit (expr-run l fit) (expr-run r)
expr-run (unary e) fit = expr-run e fit
expr-run (multiply {s = s} {op = op} l is r) fit = infix-run (no_end product_of refl refl refl s op is) fit (expr-run l fit) (expr-run r)
expr-run (atom e) fit = expr-run e fit
expr-run (prefix {s = s} {op = op} is e) fit =
    let run = expr-run e (behind fit) in
    record { runs = next (no_end prefix_of refl refl refl s op is) run.runs; fits = omega (arith, run.fits); good = run.good }
expr-run number fit = record { runs = next refl here; fits = omega arith; good = fit.spellable.0 }
expr-run (brackets e) fit =
    let run = expr-run e (behind fit) in
    record { runs = next refl (further run.runs (next refl here)); fits = omega (arith, run.fits); good = run.good }
expr-run (choice c a b) fit =
    let at_c = behind (behind fit) in
    let cond = expr-run c at_c in
    let at_a = behind (run-fit cond.runs at_c) in
    let one = expr-run a at_a in
    let at_b = behind (run-fit one.runs at_a) in
    let other = expr-run b at_b in
    record {
      runs = next refl (next refl (further cond.runs (next refl (further one.runs (next refl (further other.runs (next refl here)))))));
      fits = omega (arith, cond.fits, one.fits, other.fits);
      good = (cond.good, one.good, other.good);
    }
expr-run _ fit = record { runs = next refl here; fits = omega arith; good = tt }

-- an expression of a run has few tokens
pub expr-short : {ts : List Placed} {e : Expr} {rest : List Placed} → AreFit ts → IsExprRun ts e rest → weight e ≤ 512
expr-short fit run = omega (arith, run.fits, run-short run.runs fit.short)

pub expr-bounded : {ts : List Placed} {e : Expr} {rest : List Placed} → AreFit ts → IsExprRun ts e rest → IsBoundedExpr e
expr-bounded {ts} {e} {rest} fit run = record { few_nodes = omega (arith, nodes-weight e, expr-short fit run); literals = run.good }

-- ---- lists in brackets

-- items and a token for each beside its own
abbrev pub listed : {X : Type 0} → (X → ℕ) → List X → ℕ
listed {X} size = sum_by (λ (x : X). size x + 1)

pub listed-few : {X : Type 0} (size : X → ℕ) → ((x : X) → 1 ≤ size x) → (xs : List X) → 2 * length xs ≤ listed size xs
listed-few size some [] = omega arith
listed-few {X} size some (x ∷ xs) = omega (arith, some x, listed-few size some xs, sum_by-cons (λ (y : X). size y + 1) x xs)

module _ {X : Type 0} (Item : List Placed → X → List Placed → Type 0) (size : X → ℕ) (Good : X → Type 0)
    (item : (ts : List Placed) (x : X) (rest : List Placed) → Item ts x rest → AreFit ts → Run size Good ts x rest) where
  more-run : {ts : List Placed} {xs : List X} {rest : List Placed} → SpellsMore Item ts xs rest → AreFit ts → Run (listed size) (All Good) ts xs rest
  more-run no_more fit = record { runs = here; fits = omega arith; good = All-nil Good }
  more-run (comma {ts} {us} {rest} {x} {xs} one more) fit =
      let first = item ts x us one (behind fit) in
      let others = more-run more (run-fit first.runs (behind fit)) in
      record {
        runs = next refl (further first.runs others.runs);
        fits = omega (arith, first.fits, others.fits, sum_by-cons (λ (y : X). size y + 1) x xs);
        good = All-cons Good x xs first.good others.good;
      }

  pub list-run : {ts : List Placed} {xs : List X} {rest : List Placed} → SpellsList Item ts xs rest → AreFit ts → Run (listed size) (All Good) ts xs rest
  list-run empty fit = record { runs = next refl (next refl here); fits = omega arith; good = All-nil Good }
  list-run (items {ts} {us} {rest} {x} {xs} one more) fit =
      let first = item ts x us one (behind fit) in
      let others = more-run more (run-fit first.runs (behind fit)) in
      record {
        runs = next refl (further first.runs (further others.runs (next refl here)));
        fits = omega (arith, first.fits, others.fits, sum_by-cons (λ (y : X). size y + 1) x xs);
        good = All-cons Good x xs first.good others.good;
      }

  -- such a list is short
  pub list-short : ((x : X) → 1 ≤ size x) → {ts : List Placed} {xs : List X} {rest : List Placed} → AreFit ts → Run (listed size) (All Good) ts xs rest → length xs ≤ 256
  list-short some {ts} {xs} {rest} fit run = omega (arith, run.fits, run-short run.runs fit.short, listed-few size some xs)

-- a type and a name
abbrev pub param_weight : ParamNode → ℕ
param_weight p = 2

abbrev pub IsAny : {X : Type 0} → X → Type 0
IsAny x = Unit {0}

pub param-run : (ts : List Placed) (p : ParamNode) (rest : List Placed) → SpellsParam ts p rest → AreFit ts → Run param_weight IsAny ts p rest
param-run _ _ _ (param int) fit = record { runs = next refl (next refl here); fits = omega arith; good = tt }
param-run _ _ _ (param bool) fit = record { runs = next refl (next refl here); fits = omega arith; good = tt }

-- a type, a name, `=` and an expression
abbrev pub out_weight : PlainOut → ℕ
out_weight o = weight o.value + 3

abbrev pub IsBoundedOut : PlainOut → Type 0
IsBoundedOut o = IsBoundedExpr o.value

pub out-run : (ts : List Placed) (o : PlainOut) (rest : List Placed) → SpellsOut ts o rest → AreFit ts → Run out_weight IsBoundedOut ts o rest
out-run _ _ _ (out {ts} {us} {rest} {p} {k} {first} {t} {e} one value) fit =
    let head = param-run ts p (Put k (token.Sign sign.Assign) ∷ Put first t ∷ us) one fit in
    let at = behind (run-fit head.runs fit) in
    let run = expr-run value at in
    record { runs = further head.runs (next refl run.runs); fits = omega (arith, head.fits, run.fits); good = expr-bounded at run }

abbrev pub end_weight : EndNode → ℕ
end_weight e = 1

pub end-run : (ts : List Placed) (e : EndNode) (rest : List Placed) → SpellsEnd ts e rest → AreFit ts → Run end_weight IsBoundedEnd ts e rest
end-run _ _ _ comm_end fit = record { runs = next refl (next refl (next refl (next refl (next refl here)))); fits = omega arith; good = fit.spellable.1.1.1.0 }
end-run _ _ _ port_end fit = record { runs = next refl here; fits = omega arith; good = tt }
