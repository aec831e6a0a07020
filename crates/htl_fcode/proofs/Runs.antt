-- Code is verified exactly where its run over types ends with the declared one alone; its run over values then
-- ends with the function's value alone.
use Rattle.std.proofs.Common.{◌≡◌, ℕ, zero, suc, ◌≤◌, ◌<◌, true, option_map, List, [], ◌∷◌, length, drop, get_or, map, Option, Some, None, IsSome, ℤ, pos, negsuc, refl, sym, ap, ◌∙◌, subst, arith, inl, inr, drop-cons}
use Rattle.std.specs.Coded.{coded_option, coded_list, coded_ℤ}
use Rattle.std.proofs.{Math.Logic.∥∥₁_elim, Math.Logic.∥∥₁_map, lemmas.List.drop_all}
use base.Stored.{Coded-set}
use Rattle.htl_base.specs.{declared.Ty.Ty, declared.Ty.TheVariants.Int as IntTy, declared.Ty.TheVariants.Bool as BoolTy}
use Rattle.htl_model.specs.{declared.function.FInstr.FInstr, declared.function.Code.Code, Functions.Term, Functions.value_or, Functions.stack_of, Functions.only, Functions.bools_fit, Functions.Verified, Tables.fun, Tables.Compiled}
use Rattle.htl_model.specs.Ranges.{FitsType}
use Rattle.htl_fcode.specs.{Arguments.AreArguments, Stacks.operation_of, Stacks.values_after, Stacks.values_run, Stacks.types_after, Stacks.types_run}
use Rattle.htl_fcode.proofs.Operators.{FitsType-value}
use Rattle.htl_fcode.proofs.Parses.{parsed, stacked-operation, BoolsFit, BoolsFit-split, BoolsFit-join, Stands, StandsThere, before, after, all_values, values_parsed}

-- instructions with token 0
abbrev pub zeros : List FInstr → List (ℕ × FInstr)
zeros is = map (λ i. (0, i)) is

abbrev parse_on : List FInstr → Option (List Term) → Option (List Term)
parse_on is o = elim o [ Some us ↦ stack_of (zeros is) us | None ↦ None ]

abbrev types_on : List Ty → List FInstr → Option (List Ty) → Option (List Ty)
types_on args is o = elim o [ Some us ↦ types_run args is us | None ↦ None ]

abbrev values_on : List ℤ → List FInstr → Option (List ℤ) → Option (List ℤ)
values_on args is o = elim o [ Some us ↦ values_run args is us | None ↦ None ]

parse_on-operation : (i : FInstr) (is : List FInstr) (es : List Term) (p : Option (List Term)) → parsed (operation_of i) es ≡ p → stack_of (zeros (i ∷ is)) es ≡ parse_on is p
parse_on-operation i is es p e = ap (parse_on is) (stacked-operation i es ∙ e)

-- ---- backwards from the end of a parse

pub record Runs (args : List Ty) (is : List FInstr) (es : List Term) (us : List Ty) : Type 0 where
  pub types : List Ty
  pub stands : Stands args es types
  pub run : types_run args is types ≡ Some us
  pub values : (values : List ℤ) → AreArguments args values
      → values_run values is (all_values values es) ≡ option_map (all_values values) (stack_of (zeros is) es)

runs_by : (args : List Ty) (i : FInstr) (is : List FInstr) (es : List Term) (us : List Ty) → BoolsFit i is
    → ((fs : List Term) → StandsThere args (stack_of (zeros is) fs) us → Runs args is fs us)
    → (p : Option (List Term)) → parsed (operation_of i) es ≡ p → StandsThere args (parse_on is p) us → Runs args (i ∷ is) es us
runs_by args i is es us fit later None e h = absurd h
runs_by args i is es us fit later (Some fs) e h =
    let r = later fs h in
    let there = subst (λ q. StandsThere args q r.types) (sym e) r.stands in
    let b = before args (operation_of i) es r.types fit.first there in
    record {
      types = b.types;
      stands = b.stands;
      run = ap (types_on args is) b.step ∙ r.run;
      values =
          λ values a.
          ap (values_on values is)
          (values_parsed values args (operation_of i) es r.types a fit.first there ∙ ap (option_map (all_values values)) e)
          ∙ r.values values a ∙ ap (option_map (all_values values)) (sym (parse_on-operation i is es (Some fs) e));
    }

pub runs : (args : List Ty) (is : List FInstr) (es : List Term) (us : List Ty) → bools_fit is ≡ true
    → StandsThere args (stack_of (zeros is) es) us → Runs args is es us
runs args [] es us b h = record { types = us; stands = h; run = refl; values = λ values a. refl }
runs args (i ∷ is) es us b h =
    let fit = BoolsFit-split i is b in
    runs_by args i is es us fit (λ fs p. runs args is fs us fit.rest p) (parsed (operation_of i) es) refl
    (subst (λ q. StandsThere args q us) (parse_on-operation i is es (parsed (operation_of i) es) refl) h)

-- ---- forwards along a run over types

pub record Parses (args : List Ty) (is : List FInstr) (es : List Term) (us : List Ty) : Type 0 where
  pub exprs : List Term
  pub parse : stack_of (zeros is) es ≡ Some exprs
  pub stands : Stands args exprs us
  pub bools : bools_fit is ≡ true

parses_by : (args : List Ty) (i : FInstr) (is : List FInstr) (es : List Term) (ts us : List Ty) → Stands args es ts
    → ((fs : List Term) (vs : List Ty) → Stands args fs vs → types_run args is vs ≡ Some us → Parses args is fs us)
    → (o : Option (List Ty)) → types_after args (operation_of i) ts ≡ o → types_on args is o ≡ Some us → Parses args (i ∷ is) es us
parses_by args i is es ts us s later None e h = cc
parses_by args i is es ts us s later (Some vs) e h =
    let a = after args (operation_of i) es ts vs s e in
    let r = later a.exprs vs a.stands h in
    record {
      exprs = r.exprs;
      parse = parse_on-operation i is es (Some a.exprs) a.parse ∙ r.parse;
      stands = r.stands;
      bools = BoolsFit-join i is a.fits r.bools;
    }

pub parses : (args : List Ty) (is : List FInstr) (es : List Term) (ts us : List Ty) → Stands args es ts → types_run args is ts ≡ Some us → Parses args is es us
parses args [] es ts us s h =
    record { exprs = es; parse = refl; stands = let e : ts ≡ us = cc in subst (λ xs. Stands args es xs) e s; bools = refl }
parses args (i ∷ is) es ts us s h =
    parses_by args i is es ts us s (λ fs vs p q. parses args is fs vs us p q) (types_after args (operation_of i) ts) refl h

-- ---- whole code

only-is : (o : Option (List Term)) (e : Term) → only o ≡ Some e → o ≡ Some (e ∷ [])
only-is (Some (f ∷ [])) e h = let k : f ≡ e = cc in ap (λ x. Some (x ∷ [])) k
only-is _ e h = cc

parse_of : (code : Code) → (v : Verified code) → stack_of (zeros code.instrs) [] ≡ Some (v.tree_of ∷ [])
parse_of code v = only-is (stack_of (zeros code.instrs) []) v.tree_of v.is_tree

whole : (code : Code) (v : Verified code) → Runs code.args code.instrs [] (code.want ∷ [])
whole code v =
    runs code.args code.instrs [] (code.want ∷ []) v.bools
    (subst (λ q. StandsThere code.args q (code.want ∷ [])) (sym (parse_of code v)) (v.typed, omega (arith, v.fits), tt))

none_stand : (args : List Ty) (ts : List Ty) → Stands args [] ts → [] ≡ ts
none_stand args [] h = refl
none_stand args (t ∷ ts) h = absurd h

-- verified code's run over types ends with the declared type alone
pub types_run-Verified : (code : Code) → Verified code → types_run code.args code.instrs [] ≡ Some (code.want ∷ [])
types_run-Verified code v =
    let w = whole code v in
    ap (types_run code.args code.instrs) (none_stand code.args w.types w.stands) ∙ w.run

some_instrs : (args : List Ty) (is : List FInstr) (t : Ty) → types_run args is [] ≡ Some (t ∷ []) → 1 ≤ length is
some_instrs args [] t h = cc
some_instrs args (i ∷ is) t h = omega arith

verified_by : (code : Code) (es : List Term) → stack_of (zeros code.instrs) [] ≡ Some es → Stands code.args es (code.want ∷ []) → bools_fit code.instrs ≡ true
    → 1 ≤ length code.instrs → length code.instrs ≤ 512 → Verified code
verified_by code [] p s b one short = absurd s
verified_by code (e ∷ f ∷ es) p s b one short = absurd s.2
verified_by code (e ∷ []) p s b one short =
    record { tree_of = e; is_tree = ap only p; typed = s.0; bools = b; some_code = one; short = short; fits = omega (arith, s.1) }

-- code whose run over types ends so, and that isn't too long, is verified
pub Verified-types_run : (code : Code) → length code.instrs ≤ 512 → types_run code.args code.instrs [] ≡ Some (code.want ∷ []) → Verified code
Verified-types_run code short h =
    let p = parses code.args code.instrs [] [] (code.want ∷ []) tt h in
    verified_by code p.exprs p.parse p.stands p.bools (some_instrs code.args code.instrs code.want h) short

-- verified code's run over values ends with the function's value alone
pub values_run-Verified : (code : Code) (values : List ℤ) → Verified code → AreArguments code.args values
    → values_run values code.instrs [] ≡ Some (fun (Compiled code) values ∷ [])
values_run-Verified code values v a =
    (whole code v).values values a ∙ ap (option_map (all_values values)) (parse_of code v)
    ∙ ap (λ o. Some (value_or values o ∷ [])) (sym v.is_tree)

-- the function's value is of the declared type
pub FitsType-Verified : (code : Code) (values : List ℤ) → Verified code → AreArguments code.args values → FitsType code.want (fun (Compiled code) values)
FitsType-Verified code values v a =
    subst (λ o. FitsType code.want (value_or values o)) (sym v.is_tree) (FitsType-value code.args values v.tree_of code.want a v.typed)

-- ---- the same of code of which it is only known that it is verified

pub values_run-verified : (code : Code) (values : List ℤ) → ∥ Verified code ∥₁ → AreArguments code.args values
    → values_run values code.instrs [] ≡ Some (fun (Compiled code) values ∷ [])
values_run-verified code values h a =
    ∥∥₁_elim h (Coded-set (coded_option (coded_list coded_ℤ)) (values_run values code.instrs []) (Some (fun (Compiled code) values ∷ [])))
    (λ v. values_run-Verified code values v a)

neither : (n : ℕ) → FitsType BoolTy (pos (suc (suc n))) → ⊥
neither n (inl e) = cc
neither n (inr e) = cc

negative : (n : ℕ) → FitsType BoolTy (negsuc n) → ⊥
negative n (inl e) = cc
negative n (inr e) = cc

fits_once : (t : Ty) (x : ℤ) → ∥ FitsType t x ∥₁ → FitsType t x
fits_once IntTy x h = tt
fits_once BoolTy (pos zero) h = inl refl
fits_once BoolTy (pos (suc zero)) h = inr refl
fits_once BoolTy (pos (suc (suc n))) h = absurd (∥∥₁_elim h (hlevel) (neither n))
fits_once BoolTy (negsuc n) h = absurd (∥∥₁_elim h (hlevel) (negative n))

pub FitsType-verified : (code : Code) (values : List ℤ) → ∥ Verified code ∥₁ → AreArguments code.args values → FitsType code.want (fun (Compiled code) values)
FitsType-verified code values h a =
    fits_once code.want (fun (Compiled code) values) (∥∥₁_map h (λ v. FitsType-Verified code values v a))

-- ---- one instruction of a run

pub IsSome-values_after : (values : List ℤ) (is : List FInstr) (k : ℕ) (d : FInstr) (vs us : List ℤ) → k < length is
    → values_run values (drop k is) vs ≡ Some us → IsSome (values_after values (operation_of (get_or is k d)) vs)
IsSome-values_after values is k d vs us below h =
    goes_on (values_after values (operation_of (get_or is k d)) vs)
    (ap (λ l. values_run values l vs) (sym (drop-cons is k d below)) ∙ h)
  where
    goes_on : (o : Option (List ℤ)) → values_on values (drop (suc k) is) o ≡ Some us → IsSome o
    goes_on None e = cc
    goes_on (Some ws) e = refl

pub values_run-end : (values : List ℤ) (is : List FInstr) (k : ℕ) (vs : List ℤ) → length is ≤ k → values_run values (drop k is) vs ≡ Some vs
values_run-end values is k vs past = ap (λ l. values_run values l vs) (drop_all k is past)
