-- The postfix form of an expression is code that means it.
use Rattle.std.proofs.Common.{◌≡◌, ℕ, ◌≤◌, true, List, [], ◌∷◌, ◌++◌, length, Some, ℤ, refl, sym, ap, ◌∙◌, arith, append-nil, length-append}
use Rattle.std.proofs.lemmas.List.{map-append}
use Rattle.htl_base.specs.{declared.Ty.Ty, declared.operator.UnOp.UnOp, declared.operator.BinOp.BinOp}
use Rattle.htl_base.specs.declared.operator.UnOp.TheVariants as un
use Rattle.htl_base.specs.declared.operator.BinOp.TheVariants as bin
use Rattle.htl_model.specs.{declared.function.FInstr.FInstr, declared.function.Code.Code, TermCode.stack_of-spelled, Tables.fun, Tables.Compiled, Small.nodes}
use Rattle.htl_model.specs.declared.function.FInstr.TheVariants as I
use Rattle.htl_model.specs.Functions.{Term, Number, Truth, Unary, Binary, Choose, value, value_or, held, type_of, type_one, type_two, negate, combine, of_unary, of_binary, spelled, postfix, stack_of, tree, only, bools_fit}
use Rattle.htl_fcode.proofs.{Parses.BoolsFit-split, Parses.BoolsFit-join, Runs.zeros}
use Rattle.htl_func.specs.{Expressions.without_tokens, Compiled.IsFunction, Compiled.IsCompiled}

-- ---- the postfix form by parts

pub postfix-unary : (t : ℕ) (op : UnOp) (e : Term) → postfix (Unary t op e) ≡ postfix e ++ of_unary op ∷ []
postfix-unary t op e = map-append (λ (i : ℕ × FInstr). i.1) (spelled e) ((t, of_unary op) ∷ [])

pub postfix-binary : (t : ℕ) (op : BinOp) (l r : Term) → postfix (Binary t op l r) ≡ postfix l ++ (postfix r ++ of_binary op ∷ [])
postfix-binary t op l r =
    map-append (λ (i : ℕ × FInstr). i.1) (spelled l) (spelled r ++ (t, of_binary op) ∷ [])
    ∙ ap (λ is. postfix l ++ is) (map-append (λ (i : ℕ × FInstr). i.1) (spelled r) ((t, of_binary op) ∷ []))

pub postfix-choose : (t : ℕ) (c a b : Term) → postfix (Choose t c a b) ≡ postfix c ++ (postfix a ++ (postfix b ++ I.Choose ∷ []))
postfix-choose t c a b =
    map-append (λ (i : ℕ × FInstr). i.1) (spelled c) (spelled a ++ (spelled b ++ (t, I.Choose) ∷ []))
    ∙ ap (λ is. postfix c ++ is) (map-append (λ (i : ℕ × FInstr). i.1) (spelled a) (spelled b ++ (t, I.Choose) ∷ []))
    ∙ ap (λ is. postfix c ++ (postfix a ++ is)) (map-append (λ (i : ℕ × FInstr). i.1) (spelled b) ((t, I.Choose) ∷ []))

-- ---- its tree is the expression but for token numbers

zeros-append : (xs ys : List FInstr) → zeros (xs ++ ys) ≡ zeros xs ++ zeros ys
zeros-append xs ys = map-append (λ (i : FInstr). (0, i)) xs ys

zeros-postfix : (e : Term) → zeros (postfix e) ≡ spelled (without_tokens e)
zeros-postfix (Unary t op e) =
    ap zeros (postfix-unary t op e) ∙ zeros-append (postfix e) (of_unary op ∷ []) ∙ ap (λ is. is ++ (0, of_unary op) ∷ []) (zeros-postfix e)
zeros-postfix (Binary t op l r) =
    ap zeros (postfix-binary t op l r) ∙ zeros-append (postfix l) (postfix r ++ of_binary op ∷ [])
    ∙ ap (λ is. is ++ zeros (postfix r ++ of_binary op ∷ [])) (zeros-postfix l)
    ∙ ap (λ is. spelled (without_tokens l) ++ is)
    (zeros-append (postfix r) (of_binary op ∷ []) ∙ ap (λ is. is ++ (0, of_binary op) ∷ []) (zeros-postfix r))
zeros-postfix (Choose t c a b) =
    ap zeros (postfix-choose t c a b) ∙ zeros-append (postfix c) (postfix a ++ (postfix b ++ I.Choose ∷ []))
    ∙ ap (λ is. is ++ zeros (postfix a ++ (postfix b ++ I.Choose ∷ []))) (zeros-postfix c)
    ∙ ap (λ is. spelled (without_tokens c) ++ is)
    (zeros-append (postfix a) (postfix b ++ I.Choose ∷ []) ∙ ap (λ is. is ++ zeros (postfix b ++ I.Choose ∷ [])) (zeros-postfix a)
    ∙ ap (λ is. spelled (without_tokens a) ++ is)
    (zeros-append (postfix b) (I.Choose ∷ []) ∙ ap (λ is. is ++ (0, I.Choose) ∷ []) (zeros-postfix b)))
zeros-postfix _ = refl

pub tree-postfix : (e : Term) → tree (postfix e) ≡ Some (without_tokens e)
tree-postfix e =
    ap (λ is. only (stack_of is [])) (zeros-postfix e ∙ sym (append-nil (spelled (without_tokens e))))
    ∙ ap only (stack_of-spelled (without_tokens e) [] [])

-- ---- token numbers mean nothing

pub value-without_tokens : (values : List ℤ) (e : Term) → value values (without_tokens e) ≡ value values e
value-without_tokens values (Unary t op e) = ap (negate op) (value-without_tokens values e)
value-without_tokens values (Binary t op l r) =
    ap (λ x. combine op x (value values (without_tokens r))) (value-without_tokens values l)
    ∙ ap (combine op (value values l)) (value-without_tokens values r)
value-without_tokens values (Choose t c a b) =
    rw (value-without_tokens values c, value-without_tokens values a, value-without_tokens values b) refl
value-without_tokens values _ = refl

pub type_of-without_tokens : (args : List Ty) (e : Term) → type_of args (without_tokens e) ≡ type_of args e
type_of-without_tokens args (Unary t op e) = ap (type_one op) (type_of-without_tokens args e)
type_of-without_tokens args (Binary t op l r) =
    ap (λ x. type_two op x (type_of args (without_tokens r))) (type_of-without_tokens args l)
    ∙ ap (type_two op (type_of args l)) (type_of-without_tokens args r)
type_of-without_tokens args (Choose t c a b) =
    rw (type_of-without_tokens args c, type_of-without_tokens args a, type_of-without_tokens args b) refl
type_of-without_tokens args _ = refl

pub held-without_tokens : (e : Term) → held (without_tokens e) ≡ held e
held-without_tokens (Unary t op e) = held-without_tokens e
held-without_tokens (Binary t op l r) = rw (held-without_tokens l, held-without_tokens r) refl
held-without_tokens (Choose t c a b) = rw (held-without_tokens c, held-without_tokens a, held-without_tokens b) refl
held-without_tokens _ = refl

-- ---- its bools and its length

bools_fit-append : (xs ys : List FInstr) → bools_fit xs ≡ true → bools_fit ys ≡ true → bools_fit (xs ++ ys) ≡ true
bools_fit-append [] ys p q = q
bools_fit-append (x ∷ xs) ys p q =
    let b = BoolsFit-split x xs p in BoolsFit-join x (xs ++ ys) b.first (bools_fit-append xs ys b.rest q)

bools_fit-unary : (op : UnOp) → bools_fit (of_unary op ∷ []) ≡ true
bools_fit-unary un.Neg = refl
bools_fit-unary un.Not = refl

bools_fit-binary : (op : BinOp) → bools_fit (of_binary op ∷ []) ≡ true
bools_fit-binary bin.Add = refl
bools_fit-binary _ = refl

pub bools_fit-postfix : (e : Term) → bools_fit (postfix e) ≡ true
bools_fit-postfix (Truth t true) = refl
bools_fit-postfix (Unary t op e) =
    ap bools_fit (postfix-unary t op e) ∙ bools_fit-append (postfix e) (of_unary op ∷ []) (bools_fit-postfix e) (bools_fit-unary op)
bools_fit-postfix (Binary t op l r) =
    ap bools_fit (postfix-binary t op l r)
    ∙ bools_fit-append (postfix l) (postfix r ++ of_binary op ∷ []) (bools_fit-postfix l)
    (bools_fit-append (postfix r) (of_binary op ∷ []) (bools_fit-postfix r) (bools_fit-binary op))
bools_fit-postfix (Choose t c a b) =
    ap bools_fit (postfix-choose t c a b)
    ∙ bools_fit-append (postfix c) (postfix a ++ (postfix b ++ I.Choose ∷ [])) (bools_fit-postfix c)
    (bools_fit-append (postfix a) (postfix b ++ I.Choose ∷ []) (bools_fit-postfix a)
    (bools_fit-append (postfix b) (I.Choose ∷ []) (bools_fit-postfix b) refl))
bools_fit-postfix _ = refl

pub length-postfix : (e : Term) → length (postfix e) ≡ nodes e
length-postfix (Unary t op e) =
    omega (arith, ap length (postfix-unary t op e), length-append (postfix e) (of_unary op ∷ []), length-postfix e)
length-postfix (Binary t op l r) =
    omega (arith, ap length (postfix-binary t op l r), length-append (postfix l) (postfix r ++ of_binary op ∷ []), length-append (postfix r) (of_binary op ∷ []), length-postfix l, length-postfix r)
length-postfix (Choose t c a b) =
    omega (arith, ap length (postfix-choose t c a b), length-append (postfix c) (postfix a ++ (postfix b ++ I.Choose ∷ [])), length-append (postfix a) (postfix b ++ I.Choose ∷ []), length-append (postfix b) (I.Choose ∷ []), length-postfix c, length-postfix a, length-postfix b)
length-postfix _ = refl

nodes_some : (e : Term) → 1 ≤ nodes e
nodes_some (Number t x) = omega arith
nodes_some _ = omega arith

-- ---- code that is the postfix form

pub code_means : (code : Code) (e : Term) (values : List ℤ) → code.instrs ≡ postfix e → fun (Compiled code) values ≡ value values e
code_means code e values h =
    ap (λ is. value_or values (tree is)) h ∙ ap (value_or values) (tree-postfix e) ∙ value-without_tokens values e

pub IsCompiled-postfix : (types : List Ty) (result : Ty) (e : Term) (code : Code) → IsFunction types result e → nodes e ≤ 512
    → code.args ≡ types → code.want ≡ result → code.instrs ≡ postfix e → IsCompiled types result e code
IsCompiled-postfix types result e code f small args want instrs =
    let parse = ap tree instrs ∙ tree-postfix e in
    record {
      function = f;
      args = args;
      want = want;
      instrs = instrs;
      is_tree = parse;
      verified =
          record {
            tree_of = without_tokens e;
            is_tree = parse;
            typed = ap (λ ts. type_of ts (without_tokens e)) args ∙ type_of-without_tokens types e ∙ f.typed ∙ ap Some (sym want);
            bools = ap bools_fit instrs ∙ bools_fit-postfix e;
            some_code = omega (arith, ap length instrs, length-postfix e, nodes_some e);
            short = omega (arith, ap length instrs, length-postfix e, small);
            fits = omega (arith, held-without_tokens e, f.fits);
          };
      value = λ values. code_means code e values instrs;
    }
