-- What a reader of the bytes finds in the text of a run beside its job lines, and what the names in its lines tell apart.
use Rattle.std.specs.Prelude.{◌≡◌, ◌<◌, ℕ, Bool, false, eqb, ◌||◌, List, [], ◌∷◌, length, map}
use Rattle.std.specs.List.{filter}
use Rattle.htl_top.specs.Common.{built, CanBuild, IsTablesOf, Jobs, text_of, Event, Tables}
use Rattle.htl_console.specs.Names.{full_mode, inv_name}
use Rattle.htl_runs.specs.lines.RunLines.{text_lines, HasNames}
use Rattle.htl_model.specs.{Lines.comm_name, Lines.module_name, Lines.line_text, Meaning.run_lines, Ranges.AreInRange}

-- a line that begins with `v` or with `m`
abbrev pub begins_as_change : List ℕ → Bool
begins_as_change [] = false
begins_as_change (b ∷ bs) = eqb b 118 || eqb b 109

-- a reader who cuts the bytes of the text behind each line feed and takes the lines that begin with `v` or `m` finds, in order, those of
-- the values and modes that change by the meaning of the source's own tables, and no other
abbrev pub GoValueLinesAreFound : Type 0
GoValueLinesAreFound =
    (source : List ℕ) (t : Tables) (events : List Event) (end : ℕ) → IsTablesOf source t → CanBuild t
    → filter begins_as_change (text_lines (text_of (built t) events Jobs end)) ≡ map (line_text t) (run_lines t events end)

-- of the items below a number no two have one name
abbrev pub AreToldApart : ℕ → (ℕ → List ℕ) → Type 0
AreToldApart count name = (a b : ℕ) → a < count → b < count → name a ≡ name b → a ≡ b

-- by the names that lines show, communicators, modules, modes of whatever modules (`MODULE.MODE`) and invocations are told apart
pub record NamesTell (t : Tables) : Type 0 where
  pub comms : AreToldApart (length t.comms) (comm_name t)
  pub modules : AreToldApart (length t.modules) (module_name t)
  pub modes : AreToldApart (length t.modes) (full_mode t)
  pub invs : AreToldApart (length t.invs) (inv_name t)

-- so it is of all tables in range whose names are identifiers
abbrev pub NamesTellApart : Type 0
NamesTellApart = (t : Tables) → AreInRange t → HasNames t → NamesTell t
