-- Instructions and functions.
use Rattle.std.proofs.Common.{◌≡◌, ℕ, List, [], ◌∷◌, ◌++◌, Ok, refl}
use Rattle.htl_object.proofs.Words.{nat_le, Ty, Tag, Index, EInstr, FInstr, SInstr, Code, is_phase, phase_at, e_bytes, e_table, e_instr_at, s_bytes, s_table, s_instr_at, f_bytes, f_table, f_instr_at, is_body, code_bytes, code_at, IsPhase, IsEInstr, IsSInstr, IsFInstr, IsCode}
use Rattle.htl_ecode.specs.declared.instr.EInstr.TheVariants as E
use Rattle.htl_model.specs.declared.function.FInstr.TheVariants as F
use Rattle.htl_walk.specs.declared.schedule.SInstr.TheVariants as S
use Rattle.htl_object.proofs.{Lawful.IsCodec, Lawful.field, Lawful.last, Lawful.checked, Lawful.counted, Lawful.whole, FieldLaws.byte, FieldLaws.number16, FieldLaws.number32, FieldLaws.value, FieldLaws.type}
use Rattle.htl_object.proofs.Tagged.{TableTakes, ◌&◌, of_plain, of_parts, tagged}

phase : IsCodec (λ n. n ∷ []) IsPhase phase_at
phase = checked Tag is_phase byte

-- ---- E code

e-again : (i : EInstr) (rest : List ℕ) → IsEInstr i → e_instr_at (e_bytes i ++ rest) ≡ Ok (i, rest)
e-again (E.CallWrite inv output) rest f = (field {make = λ p. E.CallWrite p.0 p.1} number16 (λ _ _. last number16)).again (inv, output) rest f
e-again (E.CallRead inv input) rest f = (field {make = λ p. E.CallRead p.0 p.1} number16 (λ _ _. last number16)).again (inv, input) rest f
e-again (E.Release inv) rest f = (last {make = λ n. E.Release n} number16).again inv rest f
e-again (E.Future delay phase_number target) rest f = (field {make = λ p. E.Future p.0 p.1.0 p.1.1} number32 (λ _ _. field phase (λ _ _. last number32))).again (delay, (phase_number, target)) rest f
e-again (E.JumpIf switch target) rest f = (field {make = λ p. E.JumpIf p.0 p.1} number16 (λ _ _. last number32)).again (switch, target) rest f
e-again (E.Jump target) rest f = (last {make = λ n. E.Jump n} number32).again target rest f
e-again (E.IfMode mode target) rest f = (field {make = λ p. E.IfMode p.0 p.1} number16 (λ _ _. last number32)).again (mode, target) rest f
e-again (E.Enter mode) rest f = (last {make = λ n. E.Enter n} number16).again mode rest f
e-again (E.Fork unit) rest f = (last {make = λ n. E.Fork n} number16).again unit rest f
e-again _ rest f = refl

e-takes : TableTakes e_bytes IsEInstr e_table
e-takes =
    of_parts e_bytes IsEInstr 1 (λ p. E.CallWrite p.0 p.1) (field number16 (λ _ _. last number16)) (λ _. refl) (λ _ f. f)
    & of_parts e_bytes IsEInstr 2 (λ p. E.CallRead p.0 p.1) (field number16 (λ _ _. last number16)) (λ _. refl) (λ _ f. f)
    & of_parts e_bytes IsEInstr 3 (λ n. E.Release n) (last number16) (λ _. refl) (λ _ f. f)
    & of_parts e_bytes IsEInstr 4 (λ p. E.Future p.0 p.1.0 p.1.1) (field number32 (λ _ _. field phase (λ _ _. last number32))) (λ _. refl) (λ _ f. f)
    & of_parts e_bytes IsEInstr 5 (λ p. E.JumpIf p.0 p.1) (field number16 (λ _ _. last number32)) (λ _. refl) (λ _ f. f)
    & of_parts e_bytes IsEInstr 6 (λ n. E.Jump n) (last number32) (λ _. refl) (λ _ f. f)
    & of_parts e_bytes IsEInstr 7 (λ p. E.IfMode p.0 p.1) (field number16 (λ _ _. last number32)) (λ _. refl) (λ _ f. f)
    & of_parts e_bytes IsEInstr 8 (λ n. E.Enter n) (last number16) (λ _. refl) (λ _ f. f)
    & of_plain e_bytes IsEInstr 9 E.Leave refl tt
    & of_parts e_bytes IsEInstr 10 (λ n. E.Fork n) (last number16) (λ _. refl) (λ _ f. f)
    & of_plain e_bytes IsEInstr 11 E.Return refl tt
    & tt

pub e_instr : IsCodec e_bytes IsEInstr e_instr_at
e_instr = tagged e_bytes IsEInstr e_table e-again e-takes

-- ---- S code

s-again : (i : SInstr) (rest : List ℕ) → IsSInstr i → s_instr_at (s_bytes i ++ rest) ≡ Ok (i, rest)
s-again (S.Dispatch position until) rest f = (field {make = λ p. S.Dispatch p.0 p.1} number16 (λ _ _. last number32)).again (position, until) rest f
s-again (S.Idle until) rest f = (last {make = λ n. S.Idle n} number32).again until rest f
s-again S.End rest f = refl

s-takes : TableTakes s_bytes IsSInstr s_table
s-takes =
    of_parts s_bytes IsSInstr 1 (λ p. S.Dispatch p.0 p.1) (field number16 (λ _ _. last number32)) (λ _. refl) (λ _ f. f)
    & of_parts s_bytes IsSInstr 2 (λ n. S.Idle n) (last number32) (λ _. refl) (λ _ f. f)
    & of_plain s_bytes IsSInstr 3 S.End refl tt
    & tt

pub s_instr : IsCodec s_bytes IsSInstr s_instr_at
s_instr = tagged s_bytes IsSInstr s_table s-again s-takes

-- ---- functions

f-again : (i : FInstr) (rest : List ℕ) → IsFInstr i → f_instr_at (f_bytes i ++ rest) ≡ Ok (i, rest)
f-again (F.Int x) rest f = (last {make = λ n. F.Int n} value).again x rest f
f-again (F.Arg k) rest f = (last {make = λ n. F.Arg n} number16).again k rest f
f-again _ rest f = refl

f-takes : TableTakes f_bytes IsFInstr f_table
f-takes =
    of_parts f_bytes IsFInstr 1 (λ n. F.Int n) (last value) (λ _. refl) (λ _ f. f)
    & of_parts f_bytes IsFInstr 2 (λ n. F.Bool n) (last byte) (λ _. refl) (λ _ f. f)
    & of_parts f_bytes IsFInstr 3 (λ n. F.Arg n) (last number16) (λ _. refl) (λ _ f. f)
    & of_plain f_bytes IsFInstr 4 F.Neg refl tt
    & of_plain f_bytes IsFInstr 5 F.Not refl tt
    & of_plain f_bytes IsFInstr 6 F.Add refl tt
    & of_plain f_bytes IsFInstr 7 F.Sub refl tt
    & of_plain f_bytes IsFInstr 8 F.Mul refl tt
    & of_plain f_bytes IsFInstr 9 F.Div refl tt
    & of_plain f_bytes IsFInstr 10 F.Rem refl tt
    & of_plain f_bytes IsFInstr 11 F.Lt refl tt
    & of_plain f_bytes IsFInstr 12 F.Le refl tt
    & of_plain f_bytes IsFInstr 13 F.Gt refl tt
    & of_plain f_bytes IsFInstr 14 F.Ge refl tt
    & of_plain f_bytes IsFInstr 15 F.Eq refl tt
    & of_plain f_bytes IsFInstr 16 F.Ne refl tt
    & of_plain f_bytes IsFInstr 17 F.And refl tt
    & of_plain f_bytes IsFInstr 18 F.Or refl tt
    & of_plain f_bytes IsFInstr 19 F.Choose refl tt
    & tt

pub f_instr : IsCodec f_bytes IsFInstr f_instr_at
f_instr = tagged f_bytes IsFInstr f_table f-again f-takes

abbrev make_code : List Ty × (Ty × List FInstr) → Code
make_code p = record { args = p.0; want = p.1.0; instrs = p.1.1 }

pub code : IsCodec code_bytes IsCode code_at
code =
    whole make_code (λ c. (c.args, (c.want, c.instrs))) code_bytes IsCode
    (field (counted (checked Index (λ n. nat_le n 256) number16) (λ _. type)) (λ _ _. field type (λ _ _. last (counted (checked Index is_body number16) (λ _. f_instr)))))
    (λ c f. (refl, refl, ((f.arg_count, f.args), (tt, (f.instr_count, f.instrs)))))
    (λ p f. (refl, record { arg_count = f.0.0; args = f.0.1; instr_count = f.1.1.0; instrs = f.1.1.1 }))
