-- The form rules, and where they may be broken.
use Rattle.std.specs.Prelude.{◌≡◌, ◌<◌, ◌⊎◌, ℕ, Option, Some, None}

pub data FormRule : Type 0 where
  ModulePeriod : FormRule
  FrameLimits : FormRule
  Divides : FormRule
  Offsets : FormRule
  Ends : FormRule
  Windows : FormRule
  WorstCases : FormRule
  PortWriters : FormRule
  PortCycles : FormRule
  AbstractPorts : FormRule
  Sensors : FormRule
  ConcreteWriters : FormRule
  AbstractPlaces : FormRule
  Parents : FormRule
  SharedParents : FormRule
  Inheritance : FormRule

-- the number by which a rule is told
abbrev pub number_of : FormRule → ℕ
number_of ModulePeriod = 1
number_of FrameLimits = 2
number_of Divides = 3
number_of Offsets = 4
number_of Ends = 5
number_of Windows = 6
number_of WorstCases = 7
number_of PortWriters = 8
number_of PortCycles = 9
number_of AbstractPorts = 10
number_of Sensors = 11
number_of ConcreteWriters = 12
number_of AbstractPlaces = 13
number_of Parents = 14
number_of SharedParents = 15
number_of Inheritance = 16

-- a part of an invocation, or of a mode: itself, an input or an output by place, a read of a switch by the switch's number and by place
pub data Part : Type 0 where
  Itself : Part
  Input : (place : ℕ) → Part
  Output : (place : ℕ) → Part
  Test : (switch place : ℕ) → Part

-- a place where a rule may be broken: at a part of a mode, or of an invocation in it
pub record Site : Type 0 where
  pub mode : ℕ
  pub inv : Option ℕ
  pub part : Part

-- itself, then inputs, then outputs, by place; then the reads of switches, by switch, then by place
abbrev pub PartBefore : Part → Part → Type 0
PartBefore Itself Itself = ⊥
PartBefore Itself (Input j) = Unit {0}
PartBefore Itself (Output j) = Unit {0}
PartBefore Itself (Test l j) = Unit {0}
PartBefore (Input i) (Input j) = i < j
PartBefore (Input i) (Output j) = Unit {0}
PartBefore (Input i) (Test l j) = Unit {0}
PartBefore (Output i) (Output j) = i < j
PartBefore (Output i) (Test l j) = Unit {0}
PartBefore (Test k i) (Test l j) = (k < l) ⊎ ((k ≡ l) × (i < j))
PartBefore _ _ = ⊥

-- the invocations of a mode come before the mode itself and its switches
abbrev pub InvBefore : Option ℕ → Part → Option ℕ → Part → Type 0
InvBefore (Some k) p (Some l) q = (k < l) ⊎ ((k ≡ l) × PartBefore p q)
InvBefore (Some k) p None q = Unit {0}
InvBefore None p (Some l) q = ⊥
InvBefore None p None q = PartBefore p q

-- modes are numbered by module, so their order is that of modules, then modes
abbrev pub SiteBefore : Site → Site → Type 0
SiteBefore a b = (a.mode < b.mode) ⊎ ((a.mode ≡ b.mode) × InvBefore a.inv a.part b.inv b.part)

-- by rule, then by site
abbrev pub ComesBefore : FormRule → Site → FormRule → Site → Type 0
ComesBefore r a q b = (number_of r < number_of q) ⊎ ((number_of r ≡ number_of q) × SiteBefore a b)
