-- Where a list begins: where a round of some root module does.
use Rattle.std.specs.Prelude.{◌%◌, ℕ, Bool, not, ◌&&◌, eqb, get_or}
use Rattle.std.specs.List.{list_any}
use Rattle.htl_model.specs.{Selections.root_modules, Selections.modes_of, Tables.Tables, Tables.mode_period}

-- the period of a module's first mode; 0 where it has none
abbrev pub first_period : Tables → ℕ → ℕ
first_period t u = mode_period t (get_or (modes_of t u) 0 0)

-- it divides the instant
abbrev pub opens : Tables → ℕ → ℕ → Bool
opens t at u = not (eqb (first_period t u) 0) && eqb (at % first_period t u) 0

-- that of some root module does
abbrev pub some_round_begins : Tables → ℕ → Bool
some_round_begins t at = list_any (opens t at) (root_modules t)
