-- The definitions compute: what platform files say of one module's two tasks, and their first faults.
use Rattle.std.proofs.Common.{◌≡◌, ◌++◌, ℕ, pos, false, List, [], ◌∷◌, Some, None, Ok, Err, refl}
use Rattle.htl_platform.proofs.Words.{codes, Result, Task, Tables, mode, module_named, platform_or, platform_of, with_worst, PlatformFault, Platform, Data, Members, string, integer, table, no_members, member, parse_document}
use Rattle.std.specs.Str.{is_utf8, chars}
use Rattle.htl_platform.specs.declared.fault.PlatformFault.TheVariants as fault
use Rattle.toml.proofs.OnLiterals.{toml_on_literals}

abbrev task_named : List ℕ → ℕ → Task
task_named name worst = record { name = name; «module» = 0; is_abstract = false; worst = worst; inputs = []; outputs = [] }

-- a module M with two tasks a and b of these worst cases
abbrev two_tasks : ℕ → ℕ → Tables
two_tasks a b =
    record {
      comms = [];
      modes = mode (codes "m") 0 10 ∷ [];
      modules = module_named (codes "M") None 0 ∷ [];
      ports = [];
      tasks = task_named (codes "a") a ∷ task_named (codes "b") b ∷ [];
      invs = [];
      switches = [];
      functions = [];
    }

abbrev tables : Tables
tables = two_tasks 7 3

-- ---- a file's bytes

abbrev line_feed : List ℕ
line_feed = 10 ∷ []

abbrev quote : List ℕ
quote = 34 ∷ []

abbrev fast : List ℕ → List ℕ
fast entry = codes "name = " ++ (quote ++ (codes "fast" ++ (quote ++ (line_feed ++ (codes "[worst]" ++ (line_feed ++ (entry ++ line_feed)))))))

abbrev worst_line : List ℕ → List ℕ → List ℕ
worst_line key number = quote ++ (key ++ (quote ++ (codes " = " ++ number)))

abbrev of_fast : Data → List ℕ → Members
of_fast x key = member (codes "name") (string (codes "fast")) (member (codes "worst") (table (member key x no_members)) no_members)

fast_file : parse_document (fast (worst_line (codes "M.a") (codes "6"))) ≡ Some (of_fast (integer (pos 6)) (codes "M.a"))
unfolding toml_on_literals
fast_file = refl

read_fast : platform_or tables (Some (of_fast (integer (pos 6)) (codes "M.a"))) ≡ Ok (record { name = codes "fast"; worst = 6 ∷ 3 ∷ [] })
read_fast = refl

applied_fast : with_worst tables (6 ∷ 3 ∷ []) ≡ two_tasks 6 3
applied_fast = refl

-- the same through the bytes
abbrev read : List ℕ → Result Platform PlatformFault
read = platform_of tables

unknown : read (fast (worst_line (codes "M.c") (codes "1"))) ≡ Err (fault.Unknown 2)
unfolding toml_on_literals is_utf8 chars
unknown = refl

range : read (fast (worst_line (codes "M.a") (codes "0"))) ≡ Err (fault.Range 2)
unfolding toml_on_literals is_utf8 chars
range = refl

number_name : read (codes "name = 3") ≡ Err (fault.Shape 0)
unfolding toml_on_literals is_utf8 chars
number_name = refl

empty_file : read [] ≡ Err (fault.Shape 0)
unfolding toml_on_literals is_utf8 chars
empty_file = refl

open_bracket : read (codes "[") ≡ Err fault.Text
unfolding toml_on_literals is_utf8 chars
open_bracket = refl

-- ---- the order of faults

-- an unknown key with a number out of range is unknown; a text in its place is a fault of shape
unknown_first : read (fast (worst_line (codes "M.c") (codes "0") ++ (line_feed ++ worst_line (codes "M.a") (codes "0")))) ≡ Err (fault.Unknown 3)
unfolding toml_on_literals is_utf8 chars
unknown_first = refl

-- keys go by their bytes, not by their lines
by_bytes : read (fast (worst_line (codes "M.b") (codes "0") ++ (line_feed ++ worst_line (codes "M.a") (codes "0")))) ≡ Err (fault.Range 2)
unfolding toml_on_literals is_utf8 chars
by_bytes = refl

-- a bad entry of `worst` comes before a name that isn't there, which is shown by the number of top entries
entry_first : read (codes "[worst]" ++ (line_feed ++ codes "x = 1.5")) ≡ Err (fault.Shape 1)
unfolding toml_on_literals is_utf8 chars
entry_first = refl

no_name : read (codes "[worst]") ≡ Err (fault.Shape 1)
unfolding toml_on_literals is_utf8 chars
no_name = refl

-- a key without quotes is two keys: `worst` then has a table `M`
two_keys : read (fast (codes "M.a = 6")) ≡ Err (fault.Shape 2)
unfolding toml_on_literals is_utf8 chars
two_keys = refl

other_key : read (codes "name = 'fast'" ++ (line_feed ++ codes "note = 1")) ≡ Err (fault.Shape 1)
unfolding toml_on_literals is_utf8 chars
other_key = refl

reserved : read (codes "name = 'mode'") ≡ Err (fault.Shape 0)
unfolding toml_on_literals is_utf8 chars
reserved = refl

-- ---- other spellings of the same table

abbrev of_a : Data → Members
of_a x = of_fast x (codes "M.a")

abbrev name_line : List ℕ
name_line = codes "name = 'fast'" ++ line_feed

dotted : read (name_line ++ codes "worst.'M.a' = 6") ≡ Ok (record { name = codes "fast"; worst = 6 ∷ 3 ∷ [] })
unfolding toml_on_literals is_utf8 chars
dotted = refl

inline : read (name_line ++ codes "worst = {'M.a' = 6}") ≡ Ok (record { name = codes "fast"; worst = 6 ∷ 3 ∷ [] })
unfolding toml_on_literals is_utf8 chars
inline = refl

no_entries : read name_line ≡ Ok (record { name = codes "fast"; worst = 7 ∷ 3 ∷ [] })
unfolding toml_on_literals is_utf8 chars
no_entries = refl

table_array : read (name_line ++ codes "[[worst]]") ≡ Err (fault.Shape 1)
unfolding toml_on_literals is_utf8 chars
table_array = refl

twice : read (name_line ++ name_line) ≡ Err fault.Text
unfolding toml_on_literals is_utf8 chars
twice = refl

too_large : read (name_line ++ codes "worst = {'M.a' = 9223372036854775808}") ≡ Err fault.Text
unfolding toml_on_literals is_utf8 chars
too_large = refl

negative : read (name_line ++ codes "worst = {'M.a' = -1}") ≡ Err (fault.Range 2)
unfolding toml_on_literals is_utf8 chars
negative = refl

no_text : read (255 ∷ []) ≡ Err fault.Text
unfolding toml_on_literals is_utf8 chars
no_text = refl
