-- Tables with other worst cases.
use Rattle.std.specs.Prelude.{List, ℕ, [], ◌∷◌}
use Rattle.htl_model.specs.{Tables.Tables, declared.parts.Task.Task}

-- each task with the worst case of its place; without one it keeps its own
abbrev pub tasks_with : List Task → List ℕ → List Task
tasks_with [] ws = []
tasks_with (k ∷ ks) [] = k ∷ ks
tasks_with (k ∷ ks) (w ∷ ws) = record k { worst = w } ∷ tasks_with ks ws

-- these worst cases, and all else as it was
abbrev pub with_worst : Tables → List ℕ → Tables
with_worst t ws = record t { tasks = tasks_with t.tasks ws }
