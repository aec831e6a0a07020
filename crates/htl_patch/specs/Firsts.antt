-- The numbers of the first functions of tasks.
use Rattle.std.specs.Prelude.{ℕ, List, length}
use Rattle.htl_model.specs.{Lists.list_to, Tables.Tables, Tables.count_before}

abbrev pub first_function : Tables → ℕ → ℕ
first_function t k = count_before k t.tasks

abbrev pub firsts_of : Tables → List ℕ
firsts_of t = list_to (first_function t) (length t.tasks)
