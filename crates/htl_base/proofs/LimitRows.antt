-- The limits as numbers. Contracts and definitions name them, so what they are is said here once more.
use Rattle.std.specs.Prelude.{◌≡◌, ◌^◌, [], ◌∷◌, refl}
use Rattle.htl_base.specs.declared.limits.TheConstants.{MAX_COMMUNICATORS, MAX_MODULES, MAX_MODES, MAX_PORTS, MAX_TASKS, MAX_INVOCATIONS, MAX_SWITCHES, MAX_MODE_INVOCATIONS, MAX_LEVELS, MAX_SELECTIONS, MAX_POSITIONS, MAX_SOURCE, MAX_OBJECT, MAX_NAME, MAX_STATEMENT, MAX_PERIOD, MAX_ENDS, MAX_ARGUMENTS, MAX_INSTRUCTIONS, MAX_STACK, MAX_LINE, MAX_SCRIPT, MAX_INSTANT}

numbered : MAX_COMMUNICATORS ∷ MAX_MODULES ∷ MAX_MODES ∷ MAX_PORTS ∷ MAX_TASKS ∷ MAX_INVOCATIONS ∷ MAX_SWITCHES ∷ MAX_MODE_INVOCATIONS ∷ MAX_LEVELS ∷ MAX_SELECTIONS ∷ MAX_POSITIONS ∷ []
    ≡ 1024 ∷ 64 ∷ 256 ∷ 4096 ∷ 4096 ∷ 2048 ∷ 4096 ∷ 128 ∷ 8 ∷ 1024 ∷ 128 ∷ []
numbered = refl

of_names_and_times : MAX_NAME ∷ MAX_STATEMENT ∷ MAX_LINE ∷ MAX_PERIOD ∷ MAX_INSTANT ∷ [] ≡ 48 ∷ 512 ∷ 255 ∷ 1000000 ∷ 1000000000 ∷ []
of_names_and_times = refl

of_functions : MAX_ENDS ∷ MAX_ARGUMENTS ∷ MAX_INSTRUCTIONS ∷ MAX_STACK ∷ [] ≡ 256 ∷ 256 ∷ 512 ∷ 64 ∷ []
of_functions = refl

-- in bytes
of_files : MAX_SOURCE ∷ MAX_OBJECT ∷ MAX_SCRIPT ∷ [] ≡ 2 ^ 20 ∷ 2 ^ 24 ∷ 2 ^ 30 ∷ []
of_files = refl
