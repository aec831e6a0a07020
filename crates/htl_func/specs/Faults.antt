-- Why an expression isn't compiled.
use Rattle.std.specs.Prelude.{◌≡◌, ◌<◌, ℕ, List, Some}
use Rattle.htl_base.specs.{declared.limits.TheConstants.MAX_STACK, declared.Ty.Ty}
use Rattle.htl_model.specs.Functions.{Term, type_of, held}
use Rattle.htl_func.specs.{declared.compiler.FnFault.FnFault, declared.compiler.FnFault.TheVariants.IllTyped, declared.compiler.FnFault.TheVariants.Deep, declared.compiler.FnFault.TheVariants.Memory, Expressions.ill_typed}

-- the cause of each fault of an expression
abbrev pub IsFault : ℕ → List Ty → Ty → Term → FnFault → Type 0
IsFault first args want e (IllTyped token) = ill_typed first args want e ≡ Some token
IsFault first args want e (Deep token) = (token ≡ first) × (type_of args e ≡ Some want) × (MAX_STACK < held e)
IsFault first args want e Memory = ⊥
