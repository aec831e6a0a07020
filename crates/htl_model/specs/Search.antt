-- The first that a rule's tests find, going over modes, invocations and ends in order.
use Rattle.std.specs.Prelude.{ℕ, cond, eqb, List, Option, Some, None}
use Rattle.htl_model.specs.{declared.parts.Mode.Mode, declared.parts.Inv.Inv, declared.parts.End.End, declared.parts.Switch.Switch, declared.form_fault.FormFault.FormFault, First.or_else, First.first_from, Found.Found, Tables.Tables}

-- what the tests of a rule find: at a mode, at an invocation as a whole, at an input or output of one, at a communicator that a
-- switch of a mode reads
pub record Tests : Type 0 where
  pub mode : ℕ → Mode → Found
  pub inv : ℕ → Inv → Found
  pub input : ℕ → Inv → ℕ → End → Found
  pub output : ℕ → Inv → ℕ → End → Found
  pub test : ℕ → ℕ → Found

-- tests that find nothing
abbrev pub silent : Tests
silent = record { mode = λ m x. None; inv = λ k i. None; input = λ k i j e. None; output = λ k i j e. None; test = λ m c. None }

-- at an invocation: itself, its inputs, its outputs
abbrev pub at_inv : Tests → ℕ → Inv → Found
at_inv f k i = or_else (f.inv k i) (or_else (first_from (f.input k i) 0 i.reads) (first_from (f.output k i) 0 i.writes))

abbrev pub at_read : Tests → ℕ → ℕ → ℕ → Found
at_read f m j c = f.test m c

-- at a switch, where it is one of the mode: what it reads
abbrev pub at_switch : Tests → ℕ → ℕ → Switch → Found
at_switch f m l w = cond (eqb w.mode m) (first_from (at_read f m) 0 w.reads) None

-- at a mode: itself, its switches
abbrev pub at_mode : Tests → Tables → ℕ → Mode → Found
at_mode f t m x = or_else (f.mode m x) (first_from (at_switch f m) 0 t.switches)

-- a fault told with its rule and site
abbrev pub told : ℕ → ℕ → ℕ → Option ℕ → Found → Option FormFault
told n u m k None = None
told n u m k (Some p) = Some (record { rule = n; «module» = u; mode = m; inv = k; have = p.0; need = p.1 })

-- at an invocation, where it is one of the mode
abbrev pub inv_in_mode : Tests → ℕ → ℕ → ℕ → ℕ → Inv → Option FormFault
inv_in_mode f n u m k i = cond (eqb i.mode m) (told n u m (Some k) (at_inv f k i)) None

-- in a mode: its invocations, then itself and its switches
abbrev pub in_mode : Tests → ℕ → Tables → ℕ → Mode → Option FormFault
in_mode f n t m x = or_else (first_from (inv_in_mode f n x.«module» m) 0 t.invs) (told n x.«module» m None (at_mode f t m x))

-- the first fault of one rule
abbrev pub of_rule : {R : Type 0} → (Tables → R → Tests) → (R → ℕ) → Tables → ℕ → R → Option FormFault
of_rule tests number t place r = first_from (in_mode (tests t r) (number r) t) 0 t.modes

-- the first fault of the rules, in their order
abbrev pub first_fault : {R : Type 0} → (Tables → R → Tests) → (R → ℕ) → Tables → List R → Option FormFault
first_fault tests number t rules = first_from (of_rule tests number t) 0 rules
