-- What the tests of the rules on refinement find.
use Rattle.std.specs.Prelude.{ℕ, Bool, false, not, ◌&&◌, ◌||◌, cond, eqb, ltb, length, slice_get, Option, Some, None}
use Rattle.std.specs.List.{list_any}
use Rattle.htl_refine.specs.Common.{Inv, Module}
use Rattle.htl_model.specs.{declared.parts.End.End, PortOrder.leads_below, PortOrder.feeds, PortWriters.is_port, SecondWriters.parent_mode, First.or_else, First.first_from, First.first_to, Found.Found, Found.unless, Selected.is_at}
use Rattle.htl_model.specs.declared.parts.End.TheVariants as E
use Rattle.htl_model.specs.Tables.{Tables, mode_module, is_concrete, task_worst, release, window_end}

-- ---- 13

abbrev pub refines : ℕ → Module → Bool
refines m x = is_at x.parent m

abbrev pub is_refined : Tables → ℕ → Bool
is_refined t m = list_any (refines m) t.modules

abbrev pub place_fault : Tables → Inv → Found
place_fault t i = unless (is_concrete t i || is_refined t i.mode) 0 1

-- ---- 14

abbrev pub is_abstract_at : Tables → ℕ → Option Inv → Bool
is_abstract_at t m (Some y) = not (is_concrete t y) && eqb y.mode m
is_abstract_at t m None = false

abbrev pub parent_fault_by : Tables → Option ℕ → Option ℕ → Found
parent_fault_by t (Some m) (Some p) = unless (is_abstract_at t m (slice_get t.invs p)) 2 1
parent_fault_by t (Some m) None = Some (0, 1)
parent_fault_by t None (Some p) = Some (2, 0)
parent_fault_by t None None = None

abbrev pub parent_fault : Tables → Inv → Found
parent_fault t i = parent_fault_by t (parent_mode t i.mode) i.parent

-- ---- 15

-- whether an invocation has the parent, and stands in another module than i or in the same mode
abbrev pub clashes : Tables → Inv → ℕ → Inv → Bool
clashes t i p x = is_at x.parent p && (not (eqb (mode_module t x.mode) (mode_module t i.mode)) || eqb x.mode i.mode)

abbrev pub clash_before : Tables → ℕ → Inv → ℕ → ℕ → Inv → Option ℕ
clash_before t k i p l x = cond (ltb l k && clashes t i p x) (Some l) None

abbrev pub first_clash : Tables → ℕ → Inv → ℕ → Option ℕ
first_clash t k i p = first_from (clash_before t k i p) 0 t.invs

abbrev pub told_clash : ℕ → Option ℕ → Found
told_clash p (Some l) = Some (l, p)
told_clash p None = None

abbrev pub shared_fault_by : Tables → ℕ → Inv → Option ℕ → Found
shared_fault_by t k i (Some p) = told_clash p (first_clash t k i p)
shared_fault_by t k i None = None

abbrev pub shared_fault : Tables → ℕ → Inv → Found
shared_fault t k i = shared_fault_by t k i i.parent

-- ---- 16

abbrev pub unless_more : ℕ → ℕ → Found
unless_more have need = unless (not (ltb need have)) have need

abbrev pub unless_less : ℕ → ℕ → Found
unless_less have need = unless (not (ltb have need)) have need

-- against the parent y: release, window end, worst case
abbrev pub excess : Tables → Inv → Inv → Found
excess t i y =
    or_else (unless_more (release t i) (release t y))
    (or_else (unless_less (window_end t i) (window_end t y)) (unless_more (task_worst t i.task) (task_worst t y.task)))

abbrev pub excess_at : Tables → Inv → Option Inv → Found
excess_at t i (Some y) = excess t i y
excess_at t i None = None

abbrev pub excess_by : Tables → Inv → Option ℕ → Found
excess_by t i (Some p) = excess_at t i (slice_get t.invs p)
excess_by t i None = None

abbrev pub excess_fault : Tables → Inv → Found
excess_fault t i = excess_by t i i.parent

-- the parent of an invocation that writes the port
abbrev pub writers_parent : ℕ → Option Inv → Option ℕ
writers_parent p (Some x) = cond (list_any (is_port p) x.writes) x.parent None
writers_parent p None = None

abbrev pub writer_parent : Tables → ℕ → Option ℕ
writer_parent t p = first_to (λ l. writers_parent p (slice_get t.invs l)) (length t.invs)

-- whether an invocation precedes another by the ports
unfoldable pub inv_precedes : Tables → ℕ → ℕ → Bool
inv_precedes t a b = leads_below (feeds t) (length t.invs) a b

abbrev pub order_fault_by : Tables → Option ℕ → Option ℕ → Found
order_fault_by t (Some a) (Some b) = unless (inv_precedes t a b) a b
order_fault_by t (Some a) None = None
order_fault_by t None b = None

abbrev pub order_fault : Tables → Inv → End → Found
order_fault t i (E.Comm c n) = None
order_fault t i (E.Port p) = order_fault_by t (writer_parent t p) i.parent
