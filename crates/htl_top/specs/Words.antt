-- The words of a command.
use Rattle.std.specs.Prelude.{ℕ, zero, suc, ◌+◌, ◌≤◌, ◌==◌, Bool, cond, ◌&&◌, Option, None, Some, List, [], ◌∷◌, codes, map, take, drop, if◌then◌else◌}
use Rattle.std.specs.{Borrow.Bor, Fmt.decimal}
use Rattle.htl_top.specs.{Common.position_from, Common.option_map, Common.bytes_eq, Common.Shown, declared.words.Asked.Asked}
use Rattle.htl_base.specs.{Names.is_name, declared.limits.TheConstants.MAX_MODULES, declared.limits.TheConstants.MAX_SOURCE, declared.limits.TheConstants.MAX_SCRIPT}
use Rattle.htl_console.specs.declared.shown.Shown.TheVariants.{Values, Jobs, Code}
use Rattle.htl_top.specs.declared.words.Asked.TheVariants as ask

-- what the words ask for, with the names of the files that they name; `slack` asks for the task of a module, both by name, and `patch` for
-- the mode of a module, with the name of a second file
pub data Command : Type 0 where
  Go : (name : List ℕ) → Command
  Compile : Command
  CompileWith : (platform : List ℕ) → Command
  Run : (show : Shown) (name : List ℕ) → Command
  Check : (name : List ℕ) → Command
  Plan : (name : List ℕ) → Command
  Show : (name : List ℕ) → Command
  Bulk : (modules : ℕ) → Command
  Slack : (name owner task : List ℕ) → Command
  Audit : (name log : List ℕ) → Command
  Patch : (name unit mode donor : List ℕ) → Command

-- a verb and the name of a file: `run` shows values and modes, `jobs` the jobs too, `code` the instructions of both machines too
abbrev pub with_file : List ℕ → List ℕ → Option Command
with_file word name =
    if bytes_eq word (codes "go") then Some (Go name)
    else if bytes_eq word (codes "run") then Some (Run Values name)
    else if bytes_eq word (codes "jobs") then Some (Run Jobs name)
    else if bytes_eq word (codes "code") then Some (Run Code name)
    else if bytes_eq word (codes "check") then Some (Check name)
    else if bytes_eq word (codes "plan") then Some (Plan name)
    else if bytes_eq word (codes "show") then Some (Show name)
    else None

-- `compile with` and the name of a platform file
abbrev pub compile_with : List ℕ → List ℕ → List ℕ → Option Command
compile_with first second platform =
    if bytes_eq first (codes "compile") then (if bytes_eq second (codes "with") then Some (CompileWith platform) else None) else None

-- the number from 1 to a bound whose decimal digits a word is
abbrev pub decimal_to : ℕ → List ℕ → Option ℕ
decimal_to zero word = None
decimal_to (suc n) word =
    elim (decimal_to n word) [ Some k ↦ Some k | None ↦ if bytes_eq word (decimal (suc n)) then Some (suc n) else None ]

-- how many modules a word asks for, 1 to 64, by its decimal digits
unfoldable pub modules_in : List ℕ → Option ℕ
modules_in word = decimal_to 64 word

-- a verb and the name of a file, or `bulk` and a number of modules
abbrev pub of_two : List ℕ → List ℕ → Option Command
of_two word other =
    if bytes_eq word (codes "bulk") then option_map (λ (n : ℕ). Bulk n) (modules_in other) else with_file word other

abbrev pub is_dot : ℕ → Bool
is_dot b = b == 46

-- the names of a module and of a task or a mode
abbrev pub both_names : List ℕ → List ℕ → Option (List ℕ × List ℕ)
both_names owner task = cond (is_name owner && is_name task) (Some (owner, task)) None

-- `MODULE.TASK` or `MODULE.MODE`: two names, joined by one dot; no name has one
abbrev pub joined_names : List ℕ → Option (List ℕ × List ℕ)
joined_names word = elim (position_from is_dot 0 word) [ Some at ↦ both_names (take at word) (drop (at + 1) word) | None ↦ None ]

-- the slack of a task of an object
abbrev pub slack_of : List ℕ → List ℕ → Option Command
slack_of name word = option_map (λ (names : List ℕ × List ℕ). Slack name names.0 names.1) (joined_names word)

-- `slack`, the name of an object file and a task; `audit` and the names of an object file and a log; or `compile with` and the name of a
-- platform file
abbrev pub of_three : List ℕ → List ℕ → List ℕ → Option Command
of_three first second third =
    if bytes_eq first (codes "slack") then slack_of second third
    else if bytes_eq first (codes "audit") then Some (Audit second third)
    else compile_with first second third

-- an object with another's refinement of a mode
abbrev pub patch_of : List ℕ → List ℕ → List ℕ → Option Command
patch_of name word donor = option_map (λ (names : List ℕ × List ℕ). Patch name names.0 names.1 donor) (joined_names word)

-- `patch`, the name of an object file, a mode and the name of the donor's file
abbrev pub of_four : List ℕ → List ℕ → List ℕ → List ℕ → Option Command
of_four first second third fourth = if bytes_eq first (codes "patch") then patch_of second third fourth else None

-- a verb and the name of a file, `compile` alone, or that with a platform, `bulk` and a number of modules, `slack`, the name of a file
-- and a task, `audit` and the names of two files, or `patch`, the name of a file, a mode and the name of a second file; other words are
-- no command
abbrev pub command_of : List (List ℕ) → Option Command
command_of (word ∷ other ∷ []) = of_two word other
command_of (first ∷ second ∷ third ∷ []) = of_three first second third
command_of (first ∷ second ∷ third ∷ fourth ∷ []) = of_four first second third fourth
command_of (word ∷ []) = if bytes_eq word (codes "compile") then Some Compile else None
command_of _ = None

-- the same of words that are lent
abbrev pub command_in : List (Bor (List ℕ)) → Option Command
command_in words = command_of (map (λ (word : Bor (List ℕ)). word.now) words)

-- ---- the files

-- the source in a file that a command runs
abbrev pub source_of : Option Command → Option (List ℕ)
source_of (Some (Go name)) = Some name
source_of _ = None

-- the object that a command is about
abbrev pub command_object : Option Command → Option (List ℕ)
command_object (Some (Run show name)) = Some name
command_object (Some (Check name)) = Some name
command_object (Some (Plan name)) = Some name
command_object (Some (Show name)) = Some name
command_object (Some (Slack name owner task)) = Some name
command_object (Some (Audit name log)) = Some name
command_object (Some (Patch name unit mode donor)) = Some name
command_object _ = None

-- the platform file that a command compiles for
abbrev pub platform_file : Option Command → Option (List ℕ)
platform_file (Some (CompileWith platform)) = Some platform
platform_file _ = None

-- the file that a command needs beside an object: a log, or a donor
abbrev pub second_file : Option Command → Option (List ℕ)
second_file (Some (Audit name log)) = Some log
second_file (Some (Patch name unit mode donor)) = Some donor
second_file _ = None

-- the commands that run an object, or the audit of one
abbrev pub RunsObject : Option Command → Type 0
RunsObject (Some (Go name)) = Unit {0}
RunsObject (Some (Run show name)) = Unit {0}
RunsObject (Some (Audit name log)) = Unit {0}
RunsObject _ = ⊥

-- ---- the input

-- how many bytes of the input a command takes at most: those of the longest source, script or selection, and one piece: of 256 bytes of a
-- script or a selection, of 4,096 of a source
abbrev pub most_taken : Option Command → ℕ
most_taken (Some (Go name)) = MAX_SCRIPT + 256
most_taken (Some Compile) = MAX_SOURCE + 4096
most_taken (Some (CompileWith platform)) = MAX_SOURCE + 4096
most_taken (Some (Run show name)) = MAX_SCRIPT + 256
most_taken (Some (Plan name)) = MAX_SCRIPT + 256
most_taken (Some (Audit name log)) = MAX_SCRIPT + 256
most_taken _ = 0

-- ---- the words as they were read

-- what was asked for
abbrev pub asked_for : Asked → Command
asked_for (ask.Go name) = Go name.now
asked_for ask.Compile = Compile
asked_for (ask.CompileWith platform) = CompileWith platform.now
asked_for (ask.Run shown name) = Run shown name.now
asked_for (ask.Check name) = Check name.now
asked_for (ask.Plan name) = Plan name.now
asked_for (ask.Show name) = Show name.now
asked_for (ask.Bulk n) = Bulk n
asked_for (ask.Slack name owner task) = Slack name.now owner task
asked_for (ask.Audit name log) = Audit name.now log.now
asked_for (ask.Patch name unit mode donor) = Patch name.now unit mode donor.now

-- the modules that are asked for, where they are, are 1 to 64
abbrev pub AreFewModules : Asked → Type 0
AreFewModules (ask.Bulk n) = (1 ≤ n) × (n ≤ MAX_MODULES)
AreFewModules _ = Unit {0}
