-- The listing of an object: its platform, then a line for each item of its tables in their order, its E code and its S code.
use Rattle.std.specs.Prelude.{ℕ, cond, List, [], ◌++◌, length, slice_get, Option, Some, None, codes, decimal}
use Rattle.std.specs.Fmt.{signed_decimal}
use Rattle.htl_base.specs.declared.Ty.{Ty}
use Rattle.htl_base.specs.declared.Ty.TheVariants as ty
use Rattle.htl_model.specs.{declared.parts.Comm.Comm, declared.parts.Inv.Inv, declared.parts.Mode.Mode, declared.parts.Module.Module, Lines.mode_name, Lines.module_name, Lists.up_to}
use Rattle.htl_model.specs.Tables.{Tables, Fun, Formula, Compiled, task_worst, task_is_abstract, release, window_end}
use Rattle.htl_walk.specs.{declared.schedule.SInstr.SInstr, declared.schedule.Schedule.Schedule}
use Rattle.htl_ecode.specs.{declared.ecode.ECode.ECode, declared.instr.EInstr.EInstr}
use Rattle.htl_console.specs.{Names.full_inv, Names.inv_name, Names.mode_text, Instrs.instr_text, Instrs.step_text}

-- ---- the lines

-- `platform NAME`
abbrev pub platform_line : List ℕ → List ℕ
platform_line name = codes "platform " ++ name ++ codes "\n"

abbrev pub type_word : Ty → List ℕ
type_word ty.Int = codes "int"
type_word ty.Bool = codes "bool"

-- `comm NAME TYPE period P init X`, and for a sensor the same with `sensor`
abbrev pub comm_line : Comm → List ℕ
comm_line c =
    cond c.sensor (codes "sensor ") (codes "comm ") ++ c.name ++ codes " " ++ type_word c.ty ++ codes " period " ++ decimal c.period
    ++ codes " init " ++ signed_decimal c.init ++ codes "\n"

-- the mode that a module refines
abbrev pub parent_mode : Tables → Option ℕ → List ℕ
parent_mode t None = []
parent_mode t (Some m) = codes " parent " ++ mode_text t m

-- `module NAME start MODE`, with ` parent MODULE.MODE` of a refinement
abbrev pub module_line : Tables → Module → List ℕ
module_line t x = codes "module " ++ x.name ++ codes " start " ++ mode_name t x.start ++ parent_mode t x.parent ++ codes "\n"

-- `mode MODULE.MODE period P`
abbrev pub mode_line : Tables → Mode → List ℕ
mode_line t x = codes "mode " ++ module_name t x.«module» ++ codes "." ++ x.name ++ codes " period " ++ decimal x.period ++ codes "\n"

-- the invocation in whose place another stands
abbrev pub parent_inv : Tables → Option ℕ → List ℕ
parent_inv t None = []
parent_inv t (Some i) = codes " parent " ++ inv_name t i

-- `inv NAME worst W window R E`, with ` abstract` and then ` parent NAME` where they apply
abbrev pub inv_line : Tables → Inv → List ℕ
inv_line t x =
    codes "inv " ++ full_inv t x ++ codes " worst " ++ decimal (task_worst t x.task) ++ codes " window " ++ decimal (release t x) ++ codes " "
    ++ decimal (window_end t x) ++ (cond (task_is_abstract t x.task) (codes " abstract") [] ++ parent_inv t x.parent ++ codes "\n")

-- `fn K instrs N` of a function that is code
abbrev pub function_line : ℕ → Fun → List ℕ
function_line k (Compiled c) = codes "fn " ++ decimal k ++ codes " instrs " ++ decimal (length c.instrs) ++ codes "\n"
function_line k (Formula first e) = []

-- `E ADDRESS TEXT`
abbrev pub code_line : Tables → ℕ → EInstr → List ℕ
code_line t address i = codes "E " ++ decimal address ++ codes " " ++ instr_text t i ++ codes "\n"

-- `S SELECTION:PLACE TEXT`
abbrev pub schedule_line : ℕ → ℕ → SInstr → List ℕ
schedule_line selection place i = codes "S " ++ decimal selection ++ codes ":" ++ decimal place ++ codes " " ++ step_text i ++ codes "\n"

-- ---- lists of lines

-- the line of the item at a place; nothing past the end
abbrev pub line_at : {X : Type 0} → (ℕ → X → List ℕ) → List X → ℕ → List ℕ
line_at line xs k = elim (slice_get xs k) [ Some x ↦ line k x | None ↦ [] ]

-- the lines of a list's items, each with its place
abbrev pub all_lines : {X : Type 0} → (ℕ → X → List ℕ) → List X → List ℕ
all_lines line xs = up_to (line_at line xs) (length xs)

-- the instructions of a selection's schedule
abbrev pub schedule_lines : ℕ → Schedule → List ℕ
schedule_lines selection s = all_lines (schedule_line selection) s.instrs

abbrev pub tables_lines : Tables → List ℕ
tables_lines t =
    all_lines (λ k c. comm_line c) t.comms ++ all_lines (λ k x. module_line t x) t.modules ++ all_lines (λ k m. mode_line t m) t.modes
    ++ all_lines (λ k i. inv_line t i) t.invs ++ all_lines function_line t.functions

-- nothing where no platform is named
abbrev pub platform_lines : Option (List ℕ) → List ℕ
platform_lines (Some name) = platform_line name
platform_lines None = []

abbrev pub listing : Option (List ℕ) → Tables → ECode → List Schedule → List ℕ
listing platform t code schedules =
    platform_lines platform ++ tables_lines t ++ all_lines (code_line t) code.instrs ++ all_lines schedule_lines schedules
