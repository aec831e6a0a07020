-- The sensors and the concrete invocations of tables, by their names.
use Rattle.std.specs.Prelude.{ℕ, cond, List, ◌∷◌, ◌++◌, length, slice_get, Option, Some, None}
use Rattle.htl_model.specs.{declared.parts.Comm.Comm, declared.parts.Inv.Inv, Tables.Tables}
use Rattle.htl_script.specs.{Judging.sensor_of, Judging.invocation_of, declared.naming.Named.Named, declared.naming.Named.TheVariants.Sensor, declared.naming.Named.TheVariants.Invocation}

-- the name of an invocation, where it is concrete: MODULE.MODE.TASK
abbrev pub dotted : Tables → Inv → Option (List ℕ)
dotted t i =
    elim (slice_get t.tasks i.task) [
      | Some k ↦ elim (slice_get t.modes i.mode) [
        | Some m ↦ elim (slice_get t.modules m.«module») [
          | Some u ↦ cond k.is_abstract None (Some (u.name ++ 46 ∷ (m.name ++ 46 ∷ k.name)))
          | None ↦ None
        ]
        | None ↦ None
      ]
      | None ↦ None
    ]

abbrev pub sensor_name : Comm → Option (List ℕ)
sensor_name c = cond c.sensor (Some c.name) None

-- what is asked of an item, where there is one
abbrev pub through : {A : Type 0} → (A → Option (List ℕ)) → Option A → Option (List ℕ)
through f (Some x) = f x
through f None = None

-- the name that a number has, if it has one
abbrev pub name_of : Tables → Named → ℕ → Option (List ℕ)
name_of t Sensor n = through sensor_name (slice_get t.comms n)
name_of t Invocation n = through (dotted t) (slice_get t.invs n)

-- how many numbers there are
abbrev pub count_of : Tables → Named → ℕ
count_of t Sensor = length t.comms
count_of t Invocation = length t.invs

-- the first number with a name
abbrev pub number_named : Tables → Named → List ℕ → Option ℕ
number_named t Sensor name = sensor_of t name
number_named t Invocation name = invocation_of t name
