-- A code for expressions: their postfix form, with the tokens.
use Rattle.std.specs.Prelude.{◌≡◌, ℕ, true, false, List, [], ◌∷◌, ◌++◌, Option, Some, None, refl}
use Rattle.std.specs.Coded.{Coded, code_by, coded_list, coded×, coded_ℕ}
use Rattle.std.proofs.Common.{ap, sym, ◌∙◌, append_assoc, append-nil}
use Rattle.htl_base.specs.{declared.operator.UnOp.UnOp, declared.operator.UnOp.TheVariants.Neg, declared.operator.UnOp.TheVariants.Not, declared.operator.BinOp.BinOp, declared.operator.BinOp.TheVariants.Add}
use Rattle.htl_model.specs.declared.function.FInstr.{FInstr}
use Rattle.htl_model.specs.declared.function.FInstr.TheVariants as I
use Rattle.htl_model.specs.contracts.function.FInstr as instr
use Rattle.htl_model.specs.Functions.{Term, Number, Truth, Arg, Unary, Binary, Choose, spelled, stack_of, stacked, only, of_unary, of_binary}

stacked_unary : (t : ℕ) (op : UnOp) (e : Term) (ts : List Term) → stacked t (of_unary op) (e ∷ ts) ≡ Some (Unary t op e ∷ ts)
stacked_unary t Neg e ts = refl
stacked_unary t Not e ts = refl

stacked_binary : (t : ℕ) (op : BinOp) (l r : Term) (ts : List Term) → stacked t (of_binary op) (r ∷ l ∷ ts) ≡ Some (Binary t op l r ∷ ts)
stacked_binary t Add l r ts = refl
stacked_binary t _ l r ts = refl

after_stacked : ℕ → FInstr → List (ℕ × FInstr) → Option (List Term) → Option (List Term)
after_stacked t i rest o = elim o [ Some us ↦ stack_of rest us | None ↦ None ]

-- the postfix form of an expression puts it on the stack
pub stack_of-spelled : (e : Term) (rest : List (ℕ × FInstr)) (ts : List Term) → stack_of (spelled e ++ rest) ts ≡ stack_of rest (e ∷ ts)
unfolding after_stacked
stack_of-spelled (Number t x) rest ts = refl
stack_of-spelled (Truth t true) rest ts = refl
stack_of-spelled (Truth t false) rest ts = refl
stack_of-spelled (Arg t k) rest ts = refl
stack_of-spelled (Unary t op e) rest ts =
    ap (λ l. stack_of l ts) (append_assoc (spelled e) ((t, of_unary op) ∷ []) rest)
    ∙ stack_of-spelled e ((t, of_unary op) ∷ rest) ts ∙ ap (after_stacked t (of_unary op) rest) (stacked_unary t op e ts)
stack_of-spelled (Binary t op l r) rest ts =
    ap (λ l. stack_of l ts) (append_assoc (spelled l) (spelled r ++ (t, of_binary op) ∷ []) rest)
    ∙ stack_of-spelled l ((spelled r ++ (t, of_binary op) ∷ []) ++ rest) ts
    ∙ ap (λ k. stack_of k (l ∷ ts)) (append_assoc (spelled r) ((t, of_binary op) ∷ []) rest)
    ∙ stack_of-spelled r ((t, of_binary op) ∷ rest) (l ∷ ts) ∙ ap (after_stacked t (of_binary op) rest) (stacked_binary t op l r ts)
stack_of-spelled (Choose t c a b) rest ts =
    ap (λ l. stack_of l ts) (append_assoc (spelled c) (spelled a ++ (spelled b ++ (t, I.Choose) ∷ [])) rest)
    ∙ stack_of-spelled c ((spelled a ++ (spelled b ++ (t, I.Choose) ∷ [])) ++ rest) ts
    ∙ ap (λ k. stack_of k (c ∷ ts)) (append_assoc (spelled a) (spelled b ++ (t, I.Choose) ∷ []) rest)
    ∙ stack_of-spelled a ((spelled b ++ (t, I.Choose) ∷ []) ++ rest) (c ∷ ts)
    ∙ ap (λ k. stack_of k (a ∷ c ∷ ts)) (append_assoc (spelled b) ((t, I.Choose) ∷ []) rest)
    ∙ stack_of-spelled b ((t, I.Choose) ∷ rest) (a ∷ c ∷ ts)

abbrev pub term_or : Option Term → Term
term_or (Some e) = e
term_or None = Arg 0 0

abbrev pub read_back : List (ℕ × FInstr) → Term
read_back l = term_or (only (stack_of l []))

pub read_back-spelled : (e : Term) → read_back (spelled e) ≡ e
read_back-spelled e =
    ap (λ l. term_or (only (stack_of l []))) (sym (append-nil (spelled e))) ∙ ap (λ o. term_or (only o)) (stack_of-spelled e [] [])

abbrev pub term_code : Coded Term
term_code = code_by (List (ℕ × FInstr)) (coded_list (coded× coded_ℕ instr.the_row.coded)) spelled read_back read_back-spelled
