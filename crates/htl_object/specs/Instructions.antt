-- Instructions: a tag and its operands.
use Rattle.std.specs.Prelude.{ℕ, ◌&&◌, Bool, List, [], ◌∷◌, ◌++◌, Ok, nat_le, length}
use Rattle.htl_object.specs.Common.{w16, w32, to_be_bytes, EInstr, FInstr, SInstr, Fun, Formula, Compiled, Code, flat_map}
use Rattle.htl_base.specs.declared.limits.TheConstants.{MAX_INSTRUCTIONS, MAX_ARGUMENTS}
use Rattle.htl_object.specs.{declared.malformed.MalKind.TheVariants.Tag, declared.malformed.MalKind.TheVariants.Index, Fields.value_bytes, Fields.value_at, Fields.type_bytes, Fields.type_at}
use Rattle.htl_ecode.specs.declared.instr.EInstr.TheVariants as E
use Rattle.htl_model.specs.declared.function.FInstr.TheVariants as F
use Rattle.htl_walk.specs.declared.schedule.SInstr.TheVariants as S
use Rattle.htl_object.specs.Reading.{Read, ◌>>=◌, field_at, byte_at, number_at, tagged_at, plain_at, one_at, two_at, three_at, items_at, list_at}

-- ---- E code

abbrev pub e_bytes : EInstr → List ℕ
e_bytes (E.CallWrite inv output) = 1 ∷ (to_be_bytes w16 inv ++ to_be_bytes w16 output)
e_bytes (E.CallRead inv input) = 2 ∷ (to_be_bytes w16 inv ++ to_be_bytes w16 input)
e_bytes (E.Release inv) = 3 ∷ to_be_bytes w16 inv
e_bytes (E.Future delay phase target) = 4 ∷ (to_be_bytes w32 delay ++ (phase ∷ [] ++ to_be_bytes w32 target))
e_bytes (E.JumpIf switch target) = 5 ∷ (to_be_bytes w16 switch ++ to_be_bytes w32 target)
e_bytes (E.Jump target) = 6 ∷ to_be_bytes w32 target
e_bytes (E.IfMode mode target) = 7 ∷ (to_be_bytes w16 mode ++ to_be_bytes w32 target)
e_bytes (E.Enter mode) = 8 ∷ to_be_bytes w16 mode
e_bytes E.Leave = 9 ∷ []
e_bytes (E.Fork unit) = 10 ∷ to_be_bytes w16 unit
e_bytes E.Return = 11 ∷ []

abbrev pub is_phase : ℕ → Bool
is_phase n = nat_le 1 n && nat_le n 3

abbrev pub phase_at : List ℕ → Read ℕ
phase_at = field_at Tag is_phase byte_at

abbrev pub e_table : List (ℕ × (List ℕ → Read EInstr))
e_table =
    (1, two_at (number_at w16) (number_at w16) E.CallWrite)
    ∷ (2, two_at (number_at w16) (number_at w16) E.CallRead)
    ∷ (3, one_at (number_at w16) E.Release)
    ∷ (4, three_at (number_at w32) phase_at (number_at w32) E.Future)
    ∷ (5, two_at (number_at w16) (number_at w32) E.JumpIf)
    ∷ (6, one_at (number_at w32) E.Jump)
    ∷ (7, two_at (number_at w16) (number_at w32) E.IfMode)
    ∷ (8, one_at (number_at w16) E.Enter)
    ∷ (9, plain_at E.Leave)
    ∷ (10, one_at (number_at w16) E.Fork)
    ∷ (11, plain_at E.Return)
    ∷ []

abbrev pub e_instr_at : List ℕ → Read EInstr
e_instr_at = tagged_at e_table

-- ---- S code

abbrev pub s_bytes : SInstr → List ℕ
s_bytes (S.Dispatch position until) = 1 ∷ (to_be_bytes w16 position ++ to_be_bytes w32 until)
s_bytes (S.Idle until) = 2 ∷ to_be_bytes w32 until
s_bytes S.End = 3 ∷ []

abbrev pub s_table : List (ℕ × (List ℕ → Read SInstr))
s_table =
    (1, two_at (number_at w16) (number_at w32) S.Dispatch)
    ∷ (2, one_at (number_at w32) S.Idle)
    ∷ (3, plain_at S.End)
    ∷ []

abbrev pub s_instr_at : List ℕ → Read SInstr
s_instr_at = tagged_at s_table

-- ---- functions

abbrev pub f_bytes : FInstr → List ℕ
f_bytes (F.Int x) = 1 ∷ value_bytes x
f_bytes (F.Bool x) = 2 ∷ x ∷ []
f_bytes (F.Arg k) = 3 ∷ to_be_bytes w16 k
f_bytes F.Neg = 4 ∷ []
f_bytes F.Not = 5 ∷ []
f_bytes F.Add = 6 ∷ []
f_bytes F.Sub = 7 ∷ []
f_bytes F.Mul = 8 ∷ []
f_bytes F.Div = 9 ∷ []
f_bytes F.Rem = 10 ∷ []
f_bytes F.Lt = 11 ∷ []
f_bytes F.Le = 12 ∷ []
f_bytes F.Gt = 13 ∷ []
f_bytes F.Ge = 14 ∷ []
f_bytes F.Eq = 15 ∷ []
f_bytes F.Ne = 16 ∷ []
f_bytes F.And = 17 ∷ []
f_bytes F.Or = 18 ∷ []
f_bytes F.Choose = 19 ∷ []

abbrev pub f_table : List (ℕ × (List ℕ → Read FInstr))
f_table =
    (1, one_at value_at F.Int)
    ∷ (2, one_at byte_at F.Bool)
    ∷ (3, one_at (number_at w16) F.Arg)
    ∷ (4, plain_at F.Neg)
    ∷ (5, plain_at F.Not)
    ∷ (6, plain_at F.Add)
    ∷ (7, plain_at F.Sub)
    ∷ (8, plain_at F.Mul)
    ∷ (9, plain_at F.Div)
    ∷ (10, plain_at F.Rem)
    ∷ (11, plain_at F.Lt)
    ∷ (12, plain_at F.Le)
    ∷ (13, plain_at F.Gt)
    ∷ (14, plain_at F.Ge)
    ∷ (15, plain_at F.Eq)
    ∷ (16, plain_at F.Ne)
    ∷ (17, plain_at F.And)
    ∷ (18, plain_at F.Or)
    ∷ (19, plain_at F.Choose)
    ∷ []

abbrev pub f_instr_at : List ℕ → Read FInstr
f_instr_at = tagged_at f_table

abbrev pub code_bytes : Code → List ℕ
code_bytes c =
    (to_be_bytes w16 (length c.args) ++ flat_map type_bytes c.args)
    ++ (type_bytes c.want ++ (to_be_bytes w16 (length c.instrs) ++ flat_map f_bytes c.instrs))

-- how many instructions a function has
abbrev pub is_body : ℕ → Bool
is_body n = nat_le 1 n && nat_le n MAX_INSTRUCTIONS

abbrev pub body_at : List ℕ → Read (List FInstr)
body_at bytes = field_at Index is_body (number_at w16) bytes >>= λ n rest. items_at (λ _. f_instr_at) n [] rest

abbrev pub code_at : List ℕ → Read Code
code_at bytes =
    list_at MAX_ARGUMENTS (λ _. type_at) bytes >>= λ args rest.
    type_at rest >>= λ want rest.
    body_at rest >>= λ instrs rest.
    Ok (record { args = args; want = want; instrs = instrs }, rest)

-- an expression has no spelling
abbrev pub function_bytes : Fun → List ℕ
function_bytes (Compiled c) = code_bytes c
function_bytes (Formula first e) = []
