-- An object as bytes: its one spelling, and what bytes say.
use Rattle.std.specs.Prelude.{◌≡◌, ℕ, true, List, Result, Ok, Err, Some, All, FitsSigned}
use Rattle.htl_object.specs.{Common.w64, Common.is_name, Common.EInstr, Common.Fun, Common.Formula, Common.Compiled, Files.file_bytes, Files.whole_at, Files.malformed_at, Files.first_bad, Lists.lists_of, Lists.object_of_lists}
use Rattle.htl_ecode.specs.declared.instr.EInstr.TheVariants as E
use Rattle.htl_object.specs.{Items.Is16, Items.Is32, Items.IsFInstr, Items.IsSInstr, Ranges.IsInRange, Versions.IsPlatformName, declared.decoding.DecodeFault.DecodeFault, declared.lists.Lists.Lists, declared.malformed.Malformed.Malformed}
use Rattle.htl_object.specs.Reading.{Read, ◌>>=◌}
use Rattle.htl_object.specs.declared.decoding.DecodeFault.TheVariants as fault
use Rattle.htl_object.specs.declared.object.Object.{Object}

-- ---- spelling

-- the one spelling of an object
abbrev pub object_bytes : Object → List ℕ
object_bytes o = file_bytes (lists_of o)

-- the operands have their widths
abbrev pub HasWidths : EInstr → Type 0
HasWidths (E.CallWrite inv output) = Is16 inv × Is16 output
HasWidths (E.CallRead inv input) = Is16 inv × Is16 input
HasWidths (E.Release inv) = Is16 inv
HasWidths (E.Future delay phase target) = Is32 delay × Is32 target
HasWidths (E.JumpIf switch target) = Is16 switch × Is32 target
HasWidths (E.Jump target) = Is32 target
HasWidths (E.IfMode mode target) = Is16 mode × Is32 target
HasWidths (E.Enter mode) = Is16 mode
HasWidths (E.Fork unit) = Is16 unit
HasWidths _ = Unit {0}

abbrev pub KeepsFunction : Fun → Type 0
KeepsFunction (Compiled c) = All IsFInstr c.instrs
KeepsFunction (Formula first e) = Unit {0}

-- what the types of its fields keep of every object in memory: names are names, and numbers have their widths
pub record KeepsTypes (o : Object) : Type 0 where
  pub comms : All (λ c. (is_name c.name ≡ true) × FitsSigned w64 c.init) o.tables.comms
  pub modes : All (λ m. is_name m.name ≡ true) o.tables.modes
  pub modules : All (λ x. is_name x.name ≡ true) o.tables.modules
  pub ports : All (λ p. is_name p.name ≡ true) o.tables.ports
  pub tasks : All (λ k. is_name k.name ≡ true) o.tables.tasks
  pub functions : All KeepsFunction o.tables.functions
  pub enter : All Is32 o.ecode.enter
  pub begin : All Is32 o.ecode.begin
  pub decide : All Is32 o.ecode.decide
  pub instrs : All HasWidths o.ecode.instrs
  pub schedules : All (λ s. All IsSInstr s.instrs) o.schedules
  pub platform : IsPlatformName o.platform

-- an object in range
pub record IsObject (o : Object) : Type 0 where
  pub types : KeepsTypes o
  pub ranges : IsInRange o

-- ---- reading

abbrev pub object_or : List ℕ → Read Lists → Result Object Malformed
object_or bytes (Ok x) = Ok (object_of_lists x.0)
object_or bytes (Err bad) = Err (malformed_at bytes bad)

-- the object that bytes say, or their first bad field
abbrev pub object_in : List ℕ → Result Object Malformed
object_in bytes = object_or bytes (whole_at bytes)

-- the same with what is left
abbrev pub object_at : List ℕ → Read Object
object_at bytes = whole_at bytes >>= λ l rest. Ok (object_of_lists l, rest)

-- ---- what decoding answers

-- the object that bytes say, or their first bad field, unless memory runs out
abbrev pub IsDecoded : List ℕ → Result Object DecodeFault → Type 0
IsDecoded bytes (Ok o) = object_in bytes ≡ Ok o
IsDecoded bytes (Err (fault.Malformed m)) = first_bad bytes ≡ Some m
IsDecoded bytes (Err fault.Memory) = Unit {0}

-- this object, unless memory runs out
abbrev pub IsReadAs : Object → Result Object DecodeFault → Type 0
IsReadAs o (Ok x) = x ≡ o
IsReadAs o (Err (fault.Malformed m)) = ⊥
IsReadAs o (Err fault.Memory) = Unit {0}
