-- The words that the program is given.
use Rattle.std.specs.{Prelude.ℕ, Prelude.List, Prelude.[], Prelude.drop, Prelude.map, Prelude.string_bytes, Prelude.Ok, Prelude.Err, Vec.Iter.into_iter_items, declared.alloc.Global.Global, declared.io.Error.Error}
use Rattle.std.specs.{declared.result.Result.Result, declared.string.String.String, declared.vec.IntoIter.IntoIter}

-- the texts of the arguments that follow the program's name; no words where an argument isn't text
abbrev pub words_of : Result (IntoIter (String Global) Global) Error → List (List ℕ)
words_of (Ok args) = map string_bytes (drop 1 (into_iter_items args))
words_of (Err e) = []
