-- A code for tables.
use Rattle.std.specs.Prelude.{◌≡◌, ℕ, refl, ◌⊎◌}
use Rattle.std.specs.Coded.{Coded, code_by, coded×, coded⊎, coded_ℕ}
use Rattle.std.proofs.Common.{inl, inr}
use Rattle.htl_model.specs.{declared.function.Code.Code, Functions.Term, TermCode.term_code, Tables.Fun, Tables.Formula, Tables.Compiled}
use Rattle.htl_model.specs.contracts.function.Code as code_row

abbrev pub split_fun : Fun → (ℕ × Term) ⊎ Code
split_fun (Formula n e) = inl (n, e)
split_fun (Compiled c) = inr c

abbrev pub join_fun : (ℕ × Term) ⊎ Code → Fun
join_fun (inl p) = Formula p.0 p.1
join_fun (inr c) = Compiled c

pub join_split : (f : Fun) → join_fun (split_fun f) ≡ f
join_split (Formula n e) = refl
join_split (Compiled c) = refl

abbrev pub fun_code : Coded Fun
fun_code = code_by ((ℕ × Term) ⊎ Code) (coded⊎ (coded× coded_ℕ term_code) code_row.the_row.coded) split_fun join_fun join_split
