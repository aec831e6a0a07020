-- The sensors that are set at an instant.
use Rattle.std.specs.Prelude.{◌≡◌, ◌%◌, ◌≤◌, ◌<◌, ℕ, cond, eqb, List, length, get_or, set, slice_get, Some, true, ℤ, pos}
use Rattle.htl_runs.specs.Common.{Comm, Tables, Content}

-- what a communicator is then: a sensor what it showed last where its period divides the instant, else what it was before the instant
abbrev pub shown_then : List ℤ → List ℤ → ℕ → List ℤ → ℕ → Comm → ℤ
shown_then shows old now values c x = cond x.sensor (cond (eqb (now % x.period) 0) (get_or shows c (pos 0)) (get_or old c (pos 0))) (get_or values c (pos 0))

abbrev pub set_one : List ℤ → List ℤ → ℕ → ℕ → Comm → Content → Content
set_one shows old now c x w =
    cond x.sensor (cond (eqb (now % x.period) 0) (record w { values = set w.values c (get_or shows c (pos 0)) }) (record w { values = set w.values c (get_or old c (pos 0)) })) w

-- the communicators below n are shown
pub record AreSet (t : Tables) (shows old : List ℤ) (now : ℕ) (w0 w : Content) (n : ℕ) : Type 0 where
  pub only : w ≡ record w0 { values = w.values }
  pub long : length w.values ≡ length t.comms
  pub below : (c : ℕ) (x : Comm) → c < n → slice_get t.comms c ≡ Some x → get_or w.values c (pos 0) ≡ shown_then shows old now w0.values c x
  pub above : (c : ℕ) → n ≤ c → get_or w.values c (pos 0) ≡ get_or w0.values c (pos 0)

abbrev pub AreShown : Tables → List ℤ → List ℤ → ℕ → Content → Content → Type 0
AreShown t shows old now w0 w = AreSet t shows old now w0 w (length t.comms)

-- a sensor with an instance at an instant shows what it has, the first n communicators
abbrev pub ShowsSame : Tables → List ℤ → List ℤ → ℕ → ℕ → Type 0
ShowsSame t shows values n at = (c : ℕ) (x : Comm) → c < n → slice_get t.comms c ≡ Some x → x.sensor ≡ true → eqb (at % x.period) 0 ≡ true → get_or shows c (pos 0) ≡ get_or values c (pos 0)

-- so it is from one instant up to before another
abbrev pub ShowsNothing : Tables → List ℤ → List ℤ → ℕ → ℕ → ℕ → Type 0
ShowsNothing t shows values n from to = (at : ℕ) → from ≤ at → at < to → ShowsSame t shows values n at
