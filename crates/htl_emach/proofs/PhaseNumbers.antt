-- A phase and its number.
use Rattle.std.proofs.Common.{◌≡◌, ℕ, ◌≤◌, Bool, true, false, cond, eqb, refl, sym, ap, ◌∙◌, arith}
use Rattle.htl_ecode.specs.declared.phase.Phase.{Phase}
use Rattle.htl_ecode.specs.declared.phase.Phase.TheVariants as phase
use Rattle.htl_emach.proofs.Words.{eqb-true, nat_tests, number_of, phase_of}

pub number_range : (p : Phase) → (1 ≤ number_of p) × (number_of p ≤ 3)
number_range phase.Write = (omega arith, omega arith)
number_range phase.Switch = (omega arith, omega arith)
number_range phase.Read = (omega arith, omega arith)

pub number_of_phase : (n : ℕ) (p : Phase) → p ≡ phase_of n → (1 ≤ n) × (n ≤ 3) → number_of p ≡ n
number_of_phase n p is range = ap number_of is ∙ by (eqb n 1) refl (eqb n 2) refl
  where
    third : eqb n 1 ≡ false → eqb n 2 ≡ false → 3 ≡ n
    third e f = let low = range.0 in let high = range.1 in grind (arith, nat_tests)

    by : (a : Bool) → eqb n 1 ≡ a → (b : Bool) → eqb n 2 ≡ b → number_of (cond a phase.Write (cond b phase.Switch phase.Read)) ≡ n
    by true e b f = sym (eqb-true n 1 e)
    by false e true f = sym (eqb-true n 2 f)
    by false e false f = third e f
