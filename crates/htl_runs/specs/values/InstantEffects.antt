-- Values and buffers, and what E code and finished jobs do to them.
use Rattle.std.specs.Prelude.{ℕ, ◌*◌, ◌-◌, ◌/◌, cond, List, [], ◌∷◌, length, get_or, slice_get, Option, Some, None, ℤ, pos}
use Rattle.htl_runs.specs.Common.{Comm, Stay, Tables, stay_of, Content, effect}
use Rattle.htl_model.specs.Lists.{up_to, list_to}
use Rattle.htl_ecode.specs.Chains.{Requirement, Exactly, block_chain}

-- what the instructions that a chain requires do
abbrev pub want_effect : Tables → Requirement → Content → Content
want_effect t (Exactly j) w = effect t j w
want_effect t _ w = w

abbrev pub effects : Tables → List Requirement → Content → Content
effects t [] w = w
effects t (x ∷ xs) w = effects t xs (want_effect t x w)

-- ---- what an instant does

-- what a module's block asks for at `now`, where the module is in this stay
abbrev pub wanted_writes : Tables → ℕ → Option Stay → List Requirement
wanted_writes t now None = []
wanted_writes t now (Some y) = block_chain t y.mode 1 (now - y.start)

abbrev pub wanted_reads : Tables → ℕ → Option Stay → List Requirement
wanted_reads t now None = []
wanted_reads t now (Some y) = block_chain t y.mode 3 (now - y.start)

-- module by module
abbrev pub all_writes : Tables → ℕ → List (Option Stay) → List Requirement
all_writes t now stays = up_to (λ k. wanted_writes t now (stay_of stays k)) (length t.modules)

abbrev pub all_reads : Tables → ℕ → List (Option Stay) → List Requirement
all_reads t now stays = up_to (λ k. wanted_reads t now (stay_of stays k)) (length t.modules)

-- what a communicator is once the sensors show their values of `now`
abbrev pub shown_at : (ℕ → ℕ → ℤ) → ℕ → List ℤ → ℕ → Option Comm → ℤ
shown_at sensed now values c None = pos 0
shown_at sensed now values c (Some x) = cond x.sensor (sensed c (x.period * (now / x.period))) (get_or values c (pos 0))

abbrev pub shown : Tables → (ℕ → ℕ → ℤ) → ℕ → List ℤ → List ℤ
shown t sensed now values = list_to (λ c. shown_at sensed now values c (slice_get t.comms c)) (length t.comms)

abbrev pub with_sensors : Tables → (ℕ → ℕ → ℤ) → ℕ → Content → Content
with_sensors t sensed now w = record w { values = shown t sensed now w.values }

-- the world after an instant, by where the modules were before it and where they are
abbrev pub world_after : Tables → (ℕ → ℕ → ℤ) → ℕ → List (Option Stay) → List (Option Stay) → Content → Content
world_after t sensed now old new w = effects t (all_reads t now new) (with_sensors t sensed now (effects t (all_writes t now old) w))
