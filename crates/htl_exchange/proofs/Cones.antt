-- Cones of influence: parts of the host that hold all that they depend on, and that no refinement reaches.
use Rattle.std.proofs.Common.{◌≡◌, ℕ, true, All, slice_get, Some}
use Rattle.htl_exchange.proofs.Words.{End, Inv, Module, Switch}
use Rattle.htl_model.specs.declared.parts.End.TheVariants as E
use Rattle.htl_model.specs.PortWriters.{WritesPort}
use Rattle.htl_model.proofs.Words.{Tables, is_concrete, mode_module}
use Rattle.htl_patch.proofs.Words.{Replacement, is_transferred}

-- modules, communicators and invocations, by number
pub record Cone : Type 1 where
  pub modules : ℕ → Type 0
  pub comms : ℕ → Type 0
  pub invs : ℕ → Type 0

-- an input comes from the cone: it reads a communicator of it, or a port that invocations of it write
abbrev pub ComesFrom : Tables → Cone → End → Type 0
ComesFrom t s (E.Comm c n) = s.comms c
ComesFrom t s (E.Port p) = (k place : ℕ) → WritesPort t p k place → s.invs k

-- an output goes to a communicator of the cone
abbrev pub WritesInto : Cone → Inv → Type 0
WritesInto s x = (j c n : ℕ) × (slice_get x.writes j ≡ Some (E.Comm c n)) × s.comms c

-- a module that isn't of the refinement of the patched mode, and that refines no mode or one of a module of the cone
pub record IsModuleOf (g : Replacement) (s : Cone) (m : Module) : Type 0 where
  pub kept : m.parent ≡ Some g.patched_mode → ⊥
  pub above : (p : ℕ) → m.parent ≡ Some p → s.modules (mode_module g.host p)

-- a concrete invocation in a mode of a module of the cone, whose inputs come from it
pub record IsInvOf (t : Tables) (s : Cone) (x : Inv) : Type 0 where
  pub concrete : is_concrete t x ≡ true
  pub owner : s.modules (mode_module t x.mode)
  pub reads : All (ComesFrom t s) x.reads

pub record IsUntouched (g : Replacement) (s : Cone) : Type 0 where
  pub modules : (x : ℕ) → s.modules x → (m : Module) × (slice_get g.host.modules x ≡ Some m) × IsModuleOf g s m
  pub invs : (k : ℕ) → s.invs k → (x : Inv) × (slice_get g.host.invs k ≡ Some x) × IsInvOf g.host s x
  -- switches of its modules read its communicators
  pub switches : (k : ℕ) (w : Switch) → slice_get g.host.switches k ≡ Some w → s.modules (mode_module g.host w.mode) → All s.comms w.reads
  -- whoever writes a communicator of it in the host belongs to it
  pub writers : (k : ℕ) (x : Inv) → slice_get g.host.invs k ≡ Some x → is_concrete g.host x ≡ true → WritesInto s x → s.invs k
  -- nothing that is taken over of the donor writes one
  pub donor : (k : ℕ) (x : Inv) → slice_get g.donor.invs k ≡ Some x → is_concrete g.donor x ≡ true → is_transferred g (mode_module g.donor x.mode) ≡ true
      → WritesInto s x → ⊥
