-- Where the tables' ports and functions stand, and which communicators are sensors.
use Rattle.std.specs.Prelude.{ℕ, Bool, false, cond, eqb, List, length, map, slice_get, Option, Some, None}
use Rattle.htl_base.specs.declared.Ty.{Ty}
use Rattle.htl_model.specs.{Lists.list_to, Tables.Tables, Tables.count_before, Meaning.port_output, Meaning.writer_from, declared.parts.Comm.Comm, declared.parts.Port.Port, declared.parts.End.End}
use Rattle.htl_model.specs.declared.parts.End.TheVariants as E

-- the first function of each task, how many functions the tasks have, the writer of each port in its mode, and the type of each communicator that is a sensor
pub record Indices : Type 0 where
  pub firsts : List ℕ
  pub count : ℕ
  pub writers : List (Option (ℕ × ℕ))
  pub sensors : List (Option Ty)

abbrev pub first_functions : Tables → List ℕ
first_functions t = list_to (λ k. count_before k t.tasks) (length t.tasks)

-- the writer of a port in its own mode
abbrev pub writer_of : Tables → ℕ → Option (ℕ × ℕ)
writer_of t p = elim (slice_get t.ports p) [ Some x ↦ writer_from x.mode p 0 t.invs | None ↦ None ]

abbrev pub port_writers : Tables → List (Option (ℕ × ℕ))
port_writers t = list_to (writer_of t) (length t.ports)

-- the port is one of mode m
abbrev pub is_of : List Port → ℕ → ℕ → Bool
is_of ports m p = elim (slice_get ports p) [ Some x ↦ eqb m x.mode | None ↦ false ]

-- the end is this port
abbrev pub goes_to : ℕ → End → Bool
goes_to p (E.Comm c n) = false
goes_to p (E.Port q) = eqb p q

-- The writer of port p, which was `was`, once the outputs, counted from o, of invocation k of mode m are entered.
abbrev pub entered : List Port → ℕ → ℕ → ℕ → List End → ℕ → Option (ℕ × ℕ) → Option (ℕ × ℕ)
entered ports m k o ends p was = elim (cond (is_of ports m p) (port_output p o ends) None) [ Some j ↦ Some (k, j) | None ↦ was ]

abbrev pub is_own : Tables → ℕ → ℕ → Bool
is_own t m p = elim (slice_get t.ports p) [ Some x ↦ eqb x.mode m | None ↦ false ]

-- the type of a sensor; none of another communicator
abbrev pub sensor_type : Comm → Option Ty
sensor_type x = cond x.sensor (Some x.ty) None

abbrev pub index_of : Tables → Indices
index_of t =
    record { firsts = first_functions t; count = count_before (length t.tasks) t.tasks; writers = port_writers t; sensors = map sensor_type t.comms }
