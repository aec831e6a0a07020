-- The phases of an instant, and the numbers that E code has for them.
use Rattle.std.specs.Prelude.{ℕ, cond, eqb}
use Rattle.htl_ecode.specs.declared.phase.Phase.{Phase}
use Rattle.htl_ecode.specs.declared.phase.Phase.TheVariants as phase

abbrev pub number_of : Phase → ℕ
number_of phase.Write = 1
number_of phase.Switch = 2
number_of phase.Read = 3

abbrev pub phase_of : ℕ → Phase
phase_of n = cond (eqb n 1) phase.Write (cond (eqb n 2) phase.Switch phase.Read)
