-- Functions that are code.
use Rattle.std.specs.Prelude.{All}
use Rattle.htl_model.specs.{Tables.Tables, Tables.Fun, Tables.Formula, Tables.Compiled, Tables.fun_of, declared.function.Function.Function}

abbrev pub IsCode : Fun → Type 0
IsCode (Formula first e) = ⊥
IsCode (Compiled code) = Unit {0}

-- all functions of the tables are code
abbrev pub AreCode : Tables → Type 0
AreCode t = All IsCode t.functions

-- a function in memory is code
abbrev pub HoldsCode : Function → Type 0
HoldsCode f = IsCode (fun_of f)
