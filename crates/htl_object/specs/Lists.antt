-- The lists of a file and the object that they are of.
use Rattle.std.specs.Prelude.{ℕ, List, [], ◌∷◌, length, map, get_or}
use Rattle.htl_ecode.specs.declared.ecode.ECode.{ECode}
use Rattle.htl_model.specs.Lists.{list_to}
use Rattle.htl_object.specs.{Common.Tables, Common.Fun, Common.Formula, Common.Compiled, Common.Code, declared.lists.Anchors.Anchors, declared.lists.Counts.Counts, declared.lists.Lists.Lists, declared.object.Object.Object}

-- ---- the object of lists

-- the tables of lists, with these functions
abbrev pub tables_from : Lists → List Fun → Tables
tables_from l functions =
    record {
      comms = l.comms;
      modes = l.modes;
      modules = l.modules;
      ports = l.ports;
      tasks = l.tasks;
      invs = l.invs;
      switches = l.switches;
      functions = functions;
    }

-- whose functions are the code of the lists
abbrev pub tables_of_lists : Lists → Tables
tables_of_lists l = tables_from l (map (λ c. Compiled c) l.functions)

-- the object of lists, with these functions and these addresses by mode
abbrev pub object_from : Lists → List Fun → List ℕ → List ℕ → List ℕ → Object
object_from l functions enter begin decide =
    record {
      tables = tables_from l functions;
      ecode = record { enter = enter; begin = begin; decide = decide; instrs = l.instrs };
      schedules = l.schedules;
      platform = l.platform;
    }

-- tables with code, three lists of addresses for one by mode, schedules, and the platform
abbrev pub object_of_lists : Lists → Object
object_of_lists l =
    object_from l (map (λ c. Compiled c) l.functions) (map (λ (a : Anchors). a.enter) l.anchors) (map (λ (a : Anchors). a.begin) l.anchors)
    (map (λ (a : Anchors). a.decide) l.anchors)

-- ---- the lists of an object

-- the numbers of items
abbrev pub counts_in : Tables → Counts
counts_in t =
    record {
      comms = length t.comms;
      modes = length t.modes;
      modules = length t.modules;
      ports = length t.ports;
      tasks = length t.tasks;
      invs = length t.invs;
      switches = length t.switches;
    }

-- the functions that are code
abbrev pub codes_of : List Fun → List Code
codes_of [] = []
codes_of (Compiled c ∷ fs) = c ∷ codes_of fs
codes_of (Formula first e ∷ fs) = codes_of fs

-- the addresses of mode m
abbrev pub anchors_of : ECode → ℕ → Anchors
anchors_of e m = record { enter = get_or e.enter m 0; begin = get_or e.begin m 0; decide = get_or e.decide m 0 }

abbrev pub lists_of : Object → Lists
lists_of o =
    record {
      comms = o.tables.comms;
      modes = o.tables.modes;
      modules = o.tables.modules;
      ports = o.tables.ports;
      tasks = o.tables.tasks;
      invs = o.tables.invs;
      switches = o.tables.switches;
      functions = codes_of o.tables.functions;
      anchors = list_to (anchors_of o.ecode) (length o.tables.modes);
      instrs = o.ecode.instrs;
      schedules = o.schedules;
      platform = o.platform;
    }
