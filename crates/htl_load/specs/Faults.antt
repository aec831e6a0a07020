-- Why an object isn't accepted.
use Rattle.std.specs.Prelude.{◌≡◌, Some}
use Rattle.htl_ecode.specs.Departure.{departure}
use Rattle.htl_model.specs.{Broken.IsFirstBroken, FunctionTypes.FitPlaces}
use Rattle.htl_object.specs.{Accepted.IsFormed, Accepted.IsSpelled, declared.object.Object.Object}
use Rattle.htl_load.specs.{Unfit.IsFirstUnfit, declared.fault.ObjectFault.ObjectFault}
use Rattle.htl_load.specs.declared.fault.ObjectFault.TheVariants as fault
use Rattle.htl_walk.specs.NodeWalks.{IsFirstFailing, instrs_of}

-- ---- the faults of each test

-- the first form rule that the tables break
abbrev pub IsFormFault : Object → ObjectFault → Type 0
IsFormFault o (fault.IllFormed f) = IsFirstBroken o.tables f
IsFormFault o _ = ⊥

-- the first function that doesn't fit its place; where all do, the first departure of the E code
abbrev pub IsSpellingFault : Object → ObjectFault → Type 0
IsSpellingFault o (fault.Function k) = IsFirstUnfit o.tables k
IsSpellingFault o (fault.ECode e) = FitPlaces o.tables × (departure o.tables o.ecode ≡ Some e)
IsSpellingFault o _ = ⊥

-- the first path that doesn't accept the lists of its nodes, with its first miss
abbrev pub IsScheduleFault : Object → ObjectFault → Type 0
IsScheduleFault o (fault.Schedule sel m) = IsFirstFailing o.tables (instrs_of o.schedules) sel m
IsScheduleFault o _ = ⊥

-- ---- the first fault

-- why an object in range isn't accepted: the first test that it fails, and the first fault of that test
abbrev pub IsRefused : Object → ObjectFault → Type 0
IsRefused o (fault.Malformed m) = ⊥
IsRefused o (fault.IllFormed f) = IsFormFault o (fault.IllFormed f)
IsRefused o (fault.Function k) = IsFormed o × IsSpellingFault o (fault.Function k)
IsRefused o (fault.ECode e) = IsFormed o × IsSpellingFault o (fault.ECode e)
IsRefused o (fault.Schedule sel m) = IsSpelled o × IsScheduleFault o (fault.Schedule sel m)
