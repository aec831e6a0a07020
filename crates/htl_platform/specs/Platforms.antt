-- The platform that a file says for the tasks of tables, or the file's first fault.
use Rattle.std.specs.Prelude.{ℕ, Bool, false, cond, List, [], map, option_and_then, Option, Some, None, Result, Ok, Err, codes}
use Rattle.std.specs.Str.{is_utf8}
use Rattle.htl_model.specs.{Tables.Tables, declared.parts.Module.Module, declared.parts.Task.Task}
use Rattle.toml.specs.{Data.Members, Data.get_member, Data.as_str, Parse.parse_document}
use Rattle.htl_platform.specs.{Entries.is_platform_name, Entries.worst_of, Entries.key_of, Entries.worst_or, Faults.fault_in, declared.fault.PlatformFault.PlatformFault, declared.platform.Platform.Platform}
use Rattle.htl_platform.specs.declared.fault.PlatformFault.TheVariants as fault

-- a `name` that is one
abbrev pub has_name : Members → Bool
has_name ms = elim (get_member (codes "name") ms) [ Some d ↦ is_platform_name d | None ↦ false ]

-- the text `name`
abbrev pub name_in : Members → List ℕ
name_in ms = elim (option_and_then as_str (get_member (codes "name") ms)) [ Some text ↦ text | None ↦ [] ]

-- the worst case of a task: that of its entry in `worst`, or its own
abbrev pub worst_in : List Module → Members → Task → ℕ
worst_in modules worst k = worst_or k.worst (get_member (key_of modules k) worst)

-- the platform of a table without faults
abbrev pub platform_in : Tables → Members → Platform
platform_in t ms = record { name = name_in ms; worst = map (worst_in t.modules (worst_of ms)) t.tasks }

abbrev pub fault_or : Option PlatformFault → Platform → Result Platform PlatformFault
fault_or (Some f) p = Err f
fault_or None p = Ok p

-- the table that bytes are, where they are UTF-8 and TOML
abbrev pub document_in : List ℕ → Option Members
document_in bytes = cond (is_utf8 bytes) (parse_document bytes) None

abbrev pub platform_or : Tables → Option Members → Result Platform PlatformFault
platform_or t None = Err fault.Text
platform_or t (Some ms) = fault_or (fault_in t ms) (platform_in t ms)

-- the platform that bytes say for the tables, or their first fault
abbrev pub platform_of : Tables → List ℕ → Result Platform PlatformFault
platform_of t bytes = platform_or t (document_in bytes)
