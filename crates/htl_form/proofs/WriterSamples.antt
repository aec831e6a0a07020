-- Small tables that break one of the rules on writers and cycles, and tables that just keep it.
use Rattle.std.specs.Prelude.{ℕ, Bool, false, List, [], ◌∷◌, None, pos, codes, map}
use Rattle.htl_form.proofs.Words.{Ty, IntTy, module_named, Comm, Mode, Module, Port, Task, Inv, End, Tables}

-- an invocation in mode m of a task
abbrev pub call : ℕ → ℕ → List End → List End → Inv
call m k reads writes = record { mode = m; task = k; parent = None; reads = reads; writes = writes }

abbrev pub int_of : End → Ty
int_of e = IntTy

-- a task of module u, abstract or not, with as many inputs and outputs as an invocation has
abbrev pub task : List ℕ → ℕ → Bool → Inv → Task
task n u a i = record { name = n; «module» = u; is_abstract = a; worst = 1; inputs = map int_of i.reads; outputs = map int_of i.writes }

abbrev pub mode : List ℕ → ℕ → Mode
mode n u = record { name = n; «module» = u; period = 10 }

abbrev pub comm : Comm
comm = record { name = codes "u"; ty = IntTy; sensor = false; period = 1; init = pos 0 }

abbrev pub port : List ℕ → Port
port n = record { name = n; mode = 0; ty = IntTy }

abbrev pub three_names : List (List ℕ)
three_names = codes "a" ∷ codes "b" ∷ codes "c" ∷ []

-- a task for each invocation, with its module and whether it is abstract
abbrev pub tasks_of : List (List ℕ) → List (ℕ × Bool) → List Inv → List Task
tasks_of [] kinds invs = []
tasks_of (n ∷ ns) [] invs = []
tasks_of (n ∷ ns) (k ∷ ks) [] = []
tasks_of (n ∷ ns) (k ∷ ks) (i ∷ invs) = task n k.0 k.1 i ∷ tasks_of ns ks invs

abbrev pub concrete : List (ℕ × Bool)
concrete = (0, false) ∷ (0, false) ∷ (0, false) ∷ []

-- one module of one mode with three ports
abbrev pub one_mode : List Inv → Tables
one_mode invs =
    record {
      comms = comm ∷ [];
      modes = mode (codes "m") 0 ∷ [];
      modules = module_named (codes "M") None 0 ∷ [];
      ports = port (codes "p") ∷ port (codes "q") ∷ port (codes "r") ∷ [];
      tasks = tasks_of three_names concrete invs;
      invs = invs;
      switches = [];
      functions = [];
    }

-- modes by their modules, whose invocations are of tasks of these kinds
abbrev pub more_modes : List Module → List Mode → List (ℕ × Bool) → List Inv → Tables
more_modes modules modes kinds invs =
    record {
      comms = comm ∷ [];
      modes = modes;
      modules = modules;
      ports = [];
      tasks = tasks_of three_names kinds invs;
      invs = invs;
      switches = [];
      functions = [];
    }
