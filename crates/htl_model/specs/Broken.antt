-- When a form rule is broken, and which broken one is the first.
use Rattle.std.specs.Prelude.{◌≡◌, ◌≤◌, ◌<◌, ℕ, Option, Some, None, length, slice_get}
use Rattle.htl_base.specs.declared.limits.TheConstants.{MAX_SELECTIONS, MAX_POSITIONS}
use Rattle.htl_model.specs.{declared.parts.Mode.Mode, declared.parts.Inv.Inv, declared.parts.Switch.Switch, declared.parts.End.End, declared.form_fault.FormFault.FormFault, Tables.Tables, Tables.mode_module, PortOrder.InCycle}
use Rattle.htl_model.specs.{Selections.selection_count, Selections.positions, PeriodRules.PeriodDiffers, PeriodRules.FrameExceeds, PeriodRules.NotDivided, PeriodRules.EndNotDivided, PortWriters.Unwritten, PortWriters.Rewritten}
use Rattle.htl_model.specs.FormRules.{FormRule, ModulePeriod, FrameLimits, Divides, Offsets, Ends, Windows, WorstCases, PortWriters, PortCycles, AbstractPorts, Sensors, ConcreteWriters, AbstractPlaces, Parents, SharedParents, Inheritance, number_of, Part, Itself, Input, Output, Test, Site, ComesBefore}
use Rattle.htl_model.specs.EndRules.{ReadLate, WriteOutside, input_types, output_types, CountsDiffer, TypeDiffers, WindowEmpty, WorstLong, AbstractRead, SensorWritten}
use Rattle.htl_model.specs.{SecondWriters.SecondWriter, RefinementRules.StandsUnrefined, RefinementRules.ParentWrong, RefinementRules.SecondChild, RefinementRules.Exceeds, RefinementRules.Unordered}

-- what breaks a rule, with the numbers that there are and that there ought to be: a mode, an invocation as a whole, an input or an
-- output of one (the invocation's number, it, the place, the end), a communicator that a switch of a mode reads
pub record Breach : Type 1 where
  pub mode : ℕ → Mode → ℕ → ℕ → Type 0
  pub inv : ℕ → Inv → ℕ → ℕ → Type 0
  pub input : ℕ → Inv → ℕ → End → ℕ → ℕ → Type 0
  pub output : ℕ → Inv → ℕ → End → ℕ → ℕ → Type 0
  pub test : ℕ → ℕ → ℕ → ℕ → Type 0

-- nothing breaks it
abbrev pub nowhere : Breach
nowhere =
    record {
      mode = λ m x have need. ⊥;
      inv = λ k i have need. ⊥;
      input = λ k i j e have need. ⊥;
      output = λ k i j e have need. ⊥;
      test = λ m c have need. ⊥;
    }

-- what breaks each rule
abbrev pub breach : Tables → FormRule → Breach
breach t ModulePeriod = record nowhere { mode = λ m x. PeriodDiffers t x }
breach t FrameLimits = record nowhere { mode = λ m x. FrameExceeds t m x }
breach t Divides = record nowhere { input = λ k i j e. EndNotDivided t i e; output = λ k i j e. EndNotDivided t i e; test = λ m c. NotDivided t m c }
breach t Offsets = record nowhere { input = λ k i j e. ReadLate t i e; output = λ k i j e. WriteOutside t i e }
breach t Ends =
    record nowhere {
      inv = λ k i. CountsDiffer t i;
      input = λ k i j e. TypeDiffers t (input_types t i.task) j e;
      output = λ k i j e. TypeDiffers t (output_types t i.task) j e;
    }
breach t Windows = record nowhere { inv = λ k i. WindowEmpty t i }
breach t WorstCases = record nowhere { inv = λ k i. WorstLong t i }
breach t PortWriters = record nowhere { input = λ k i j e. Unwritten t e; output = λ k i j e. Rewritten t k i j e }
breach t PortCycles = record nowhere { inv = λ k i. InCycle t k i }
breach t AbstractPorts = record nowhere { input = λ k i j e. AbstractRead t i j e }
breach t Sensors = record nowhere { output = λ k i j e. SensorWritten t j e }
breach t ConcreteWriters = record nowhere { output = λ k i j e. SecondWriter t k i j e }
breach t AbstractPlaces = record nowhere { inv = λ k i. StandsUnrefined t i }
breach t Parents = record nowhere { inv = λ k i. ParentWrong t i }
breach t SharedParents = record nowhere { inv = λ k i. SecondChild t k i }
breach t Inheritance = record nowhere { inv = λ k i. Exceeds t i; input = λ k i j e. Unordered t i e }

-- the breach is at a part of an invocation
abbrev pub PartBreaks : Breach → ℕ → Inv → Part → ℕ → ℕ → Type 0
PartBreaks b k i Itself have need = b.inv k i have need
PartBreaks b k i (Input j) have need = (e : End) × (slice_get i.reads j ≡ Some e) × b.input k i j e have need
PartBreaks b k i (Output j) have need = (e : End) × (slice_get i.writes j ≡ Some e) × b.output k i j e have need
PartBreaks b k i (Test l j) have need = ⊥

-- the breach is at a part of a mode
abbrev pub ModeBreaks : Tables → Breach → ℕ → Mode → Part → ℕ → ℕ → Type 0
ModeBreaks t b m x Itself have need = b.mode m x have need
ModeBreaks t b m x (Test l j) have need =
    (w : Switch) × (slice_get t.switches l ≡ Some w) × (w.mode ≡ m) × (c : ℕ) × (slice_get w.reads j ≡ Some c) × b.test m c have need
ModeBreaks t b m x _ have need = ⊥

abbrev pub BreaksAt : Tables → Breach → ℕ → Mode → Option ℕ → Part → ℕ → ℕ → Type 0
BreaksAt t b m x None p have need = ModeBreaks t b m x p have need
BreaksAt t b m x (Some k) p have need = (i : Inv) × (slice_get t.invs k ≡ Some i) × (i.mode ≡ m) × PartBreaks b k i p have need

-- the rule is broken at the site, with these two numbers
abbrev pub Broken : Tables → FormRule → Site → ℕ → ℕ → Type 0
Broken t r s have need = (x : Mode) × (slice_get t.modes s.mode ≡ Some x) × BreaksAt t (breach t r) s.mode x s.inv s.part have need

-- nothing is broken
abbrev pub Formed : Tables → Type 0
Formed t = (r : FormRule) (s : Site) (have need : ℕ) → Broken t r s have need → ⊥

-- no rule with a number up to the last is broken
abbrev pub KeptTo : Tables → ℕ → Type 0
KeptTo t last = (r : FormRule) (s : Site) (have need : ℕ) → number_of r ≤ last → Broken t r s have need → ⊥

-- the site of a fault, at a part of the invocation or mode that it names
abbrev pub site_of : FormFault → Part → Site
site_of f p = record { mode = f.mode; inv = f.inv; part = p }

-- the fault tells a broken rule, and none is broken before it
pub record IsFirstBroken (t : Tables) (f : FormFault) : Type 0 where
  pub law : FormRule
  pub part : Part
  pub rule : f.rule ≡ number_of law
  pub «module» : f.«module» ≡ mode_module t f.mode
  pub broken : Broken t law (site_of f part) f.have f.need
  pub first : (r : FormRule) (s : Site) (have need : ℕ) → ComesBefore r s law (site_of f part) → Broken t r s have need → ⊥

-- how many root selections there may be, and how many positions in each
pub record KeepsLimits (t : Tables) : Type 0 where
  pub selections : selection_count t ≤ MAX_SELECTIONS
  pub positions : (sel : ℕ) → sel < selection_count t → length (positions t sel) ≤ MAX_POSITIONS
