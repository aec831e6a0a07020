-- The values and numbers of a source that have to be of a kind, in source order.
use Rattle.std.specs.Prelude.{ℕ, ℤ, pos, negsuc, ◌≡◌, Bool, true, false, cond, leb, ◌&&◌, ◌∷◌, ◌++◌, List, [], map, Option, Some, None}
use Rattle.std.specs.List.{flat_map}
use Rattle.htl_names.specs.Trees.{Ty, PlainProgram, PlainModule, PlainMode, PlainTask, CommNode, ConstNode, EndNode, InvokeNode}
use Rattle.htl_base.specs.declared.Ty.TheVariants as ty
use Rattle.htl_base.specs.declared.limits.TheConstants.{MAX_PERIOD}
use Rattle.htl_text.specs.declared.tree.Num.{Num}
use Rattle.htl_text.specs.declared.tree.ConstNode.TheVariants as const
use Rattle.htl_text.specs.declared.tree.EndNode.TheVariants as end

-- a period or worst case; an instance; an initial value with the type that it has to have
pub data Judged : Type 0 where
  Span : Num → Judged
  Instance : Num → Judged
  Initial : Ty → ConstNode → Judged

abbrev pub const_token : ConstNode → ℕ
const_token (const.Int token minus x) = token
const_token (const.Bool token x) = token

abbrev pub token_of : Judged → ℕ
token_of (Span n) = n.token
token_of (Instance n) = n.token
token_of (Initial wanted c) = const_token c

-- a number from 1 to 1,000,000
abbrev pub is_span : ℤ → Bool
is_span (pos n) = leb 1 n && leb n MAX_PERIOD
is_span (negsuc n) = false

-- a number from 0 to 1,000,000
abbrev pub is_instance : ℤ → Bool
is_instance (pos n) = leb n MAX_PERIOD
is_instance (negsuc n) = false

-- a constant of a type
abbrev pub has_type : Ty → ConstNode → Bool
has_type ty.Int (const.Bool token x) = false
has_type ty.Bool (const.Int token minus x) = false
has_type _ _ = true

abbrev pub is_kind : Judged → Bool
is_kind (Span n) = is_span n.x
is_kind (Instance n) = is_instance n.x
is_kind (Initial wanted c) = has_type wanted c

abbrev pub IsWrongKind : Judged → Type 0
IsWrongKind j = is_kind j ≡ false

-- the token of what is not of its kind
abbrev pub wrong_token : Judged → Option ℕ
wrong_token j = cond (is_kind j) None (Some (token_of j))

-- ---- in source order

abbrev pub comm_kinds : CommNode → List Judged
comm_kinds c = Span c.period ∷ Initial c.ty c.init ∷ []

abbrev pub end_kinds : EndNode → List Judged
end_kinds (end.Comm comm instance) = Instance instance ∷ []
end_kinds (end.Port port) = []

abbrev pub invoke_kinds : InvokeNode → List Judged
invoke_kinds i = flat_map end_kinds i.reads ++ flat_map end_kinds i.writes

abbrev pub mode_kinds : PlainMode → List Judged
mode_kinds x = Span x.period ∷ flat_map invoke_kinds x.invokes

abbrev pub task_kind : PlainTask → Judged
task_kind t = Span t.worst

abbrev pub module_kinds : PlainModule → List Judged
module_kinds x = map task_kind x.tasks ++ flat_map mode_kinds x.modes

abbrev pub program_kinds : PlainProgram → List Judged
program_kinds x = flat_map comm_kinds x.comms ++ flat_map module_kinds x.modules

abbrev pub kinds : List PlainProgram → List Judged
kinds ps = flat_map program_kinds ps
