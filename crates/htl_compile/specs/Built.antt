-- The object of tables.
use Rattle.std.specs.Prelude.{◌<◌, ◌+◌, ◌*◌, ◌/◌, ◌%◌, ℕ, zero, suc, List, [], ◌∷◌, Option, None}
use Rattle.htl_compile.specs.Coded.{coded, CanCode}
use Rattle.htl_ecode.specs.Layout.{layout}
use Rattle.htl_edf.specs.{Lists.tightened, Parts.part, Windows.NoOverload}
use Rattle.htl_model.specs.{Broken.Formed, Frames.paths, Frames.nodes, Frames.nodes_of, Frames.radices, Frames.ways, Lists.list_to, Tables.Tables}
use Rattle.htl_object.specs.declared.object.Object.{Object}
use Rattle.htl_walk.specs.{FrameLaws.start_at, FrameLaws.start_end_at, PathJobs.path_jobs, declared.schedule.Schedule.Schedule}

-- the first path through a node, and the node's start, where there are so many choices at each start: nodes are numbered in preorder
abbrev pub through : List ℕ → ℕ → ℕ × ℕ
through [] n = (0, 0)
through (c ∷ cs) n =
    let block = suc (nodes_of cs) in
    let first = n / block * ways cs in
    elim (n % block) [ zero ↦ (first, 0) | suc r ↦ let rest = through cs r in (first + rest.0, suc rest.1) ]

-- the schedule of a node: the part of earliest deadline first of the jobs of its paths, from its start to the next one or the frame's end
abbrev pub node_schedule : Tables → ℕ → Schedule
node_schedule t n = let x = through (radices t) n in record { instrs = part (path_jobs t x.0) (start_at t x.1) (start_end_at t x.1) }

abbrev pub schedules : Tables → List Schedule
schedules t = list_to (node_schedule t) (nodes t)

-- tables with code, their E code in the generated layout, and their schedules, for a platform where one is named
abbrev pub object_for : Option (List ℕ) → Tables → Object
object_for platform t = record { tables = t; ecode = layout t; schedules = schedules t; platform = platform }

abbrev pub object_of : Tables → Object
object_of t = object_for None t

-- the object of tables: their functions in postfix form, the generated layout and the schedules
abbrev pub built_with : Option (List ℕ) → Tables → Object
built_with platform t = object_for platform (coded t)

-- and no platform
abbrev pub built : Tables → Object
built t = built_with None t

-- no interval of any path is overloaded
abbrev pub AreSchedulable : Tables → Type 0
AreSchedulable t = (path : ℕ) → path < paths t → NoOverload (tightened (path_jobs t path))

-- tables of which an accepted object is built
pub record CanBuild (t : Tables) : Type 0 where
  pub can : CanCode t
  pub formed : Formed t
  pub schedulable : AreSchedulable t
