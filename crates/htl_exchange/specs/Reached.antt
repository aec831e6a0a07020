-- What of the old program one of the two refinements reaches: what it writes or changes, and whatever depends on that.
use Rattle.std.specs.Prelude.{◌≡◌, ℕ, true, slice_get, Some}
use Rattle.htl_model.specs.declared.parts.End.TheVariants as E
use Rattle.htl_model.specs.{declared.parts.Inv.Inv, declared.parts.Module.Module, declared.parts.Switch.Switch, PortWriters.WritesPort, Tables.is_concrete, Tables.mode_module}
use Rattle.htl_patch.specs.{Combined.Replacement, Joining.is_transferred}

-- what the meaning tells of an instant: the mode of a module, the value of a communicator, what an invocation puts out
pub data Quantity : Type 0 where
  module_mode : (x : ℕ) → Quantity
  comm_value : (c : ℕ) → Quantity
  inv_output : (k : ℕ) → Quantity

-- All numbers are those of the old program, but for those of the invocation that the last case names.
pub data IsReached (g : Replacement) : Quantity → Type 0 where
  -- the mode of a module that refines the patched mode
  refines : (x : ℕ) (m : Module) → slice_get g.host.modules x ≡ Some m → m.parent ≡ Some g.patched_mode → IsReached g (module_mode x)
  -- of a module that refines a mode of a module that is reached
  follows : (x p : ℕ) (m : Module) → slice_get g.host.modules x ≡ Some m → m.parent ≡ Some p
      → IsReached g (module_mode (mode_module g.host p)) → IsReached g (module_mode x)
  -- of a module with a switch that reads a communicator that is reached
  switches : (k j c : ℕ) (w : Switch) → slice_get g.host.switches k ≡ Some w → slice_get w.reads j ≡ Some c → IsReached g (comm_value c)
      → IsReached g (module_mode (mode_module g.host w.mode))
  -- what an invocation puts out in a mode of a module that is reached
  runs : (k : ℕ) (x : Inv) → slice_get g.host.invs k ≡ Some x → IsReached g (module_mode (mode_module g.host x.mode)) → IsReached g (inv_output k)
  -- where it reads a communicator that is reached
  reads : (k j c n : ℕ) (x : Inv) → slice_get g.host.invs k ≡ Some x → slice_get x.reads j ≡ Some (E.Comm c n)
      → IsReached g (comm_value c) → IsReached g (inv_output k)
  -- where it reads a port that an invocation writes which is reached
  takes : (k j p l place : ℕ) (x : Inv) → slice_get g.host.invs k ≡ Some x → slice_get x.reads j ≡ Some (E.Port p) → WritesPort g.host p l place
      → IsReached g (inv_output l) → IsReached g (inv_output k)
  -- the value of a communicator that a concrete invocation writes which is reached
  writes : (k j c n : ℕ) (x : Inv) → slice_get g.host.invs k ≡ Some x → is_concrete g.host x ≡ true → slice_get x.writes j ≡ Some (E.Comm c n)
      → IsReached g (inv_output k) → IsReached g (comm_value c)
  -- the value of a communicator that a concrete invocation of the donor writes, in a module that is taken over
  replaces : (k j c n : ℕ) (x : Inv) → slice_get g.donor.invs k ≡ Some x → is_concrete g.donor x ≡ true
      → is_transferred g (mode_module g.donor x.mode) ≡ true → slice_get x.writes j ≡ Some (E.Comm c n) → IsReached g (comm_value c)

-- neither refinement reaches it
abbrev pub IsUnreached : Replacement → Quantity → Type 0
IsUnreached g q = IsReached g q → ⊥
