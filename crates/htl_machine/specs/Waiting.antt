-- The sensors that wait for an instance at which they take what they are shown.
use Rattle.std.specs.Prelude.{◌≡◌, ◌%◌, ◌&&◌, ℕ, Bool, true, false, eqb, List, get_or, slice_get, Some, ℤ, pos}
use Rattle.htl_machine.specs.{Common.Comm, Common.Tables, Marks.is_marked, declared.sensors.Sensors.Sensors}

-- a sensor that is shown another value than it has waits
abbrev pub MarksWaiting : Tables → Sensors → List ℤ → Type 0
MarksWaiting t s values = (c : ℕ) (x : Comm) → slice_get t.comms c ≡ Some x → x.sensor ≡ true → is_marked s.waiting c ≡ false → get_or s.shows c (pos 0) ≡ get_or values c (pos 0)

-- a communicator is a sensor with an instance at an instant
abbrev pub takes_now : ℕ → Comm → Bool
takes_now now x = x.sensor && eqb (now % x.period) 0
