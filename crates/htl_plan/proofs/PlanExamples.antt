-- The plans of a refinement and of two root modules of different periods, and inputs, worked.
use Rattle.std.specs.Prelude.{◌≡◌, List, [], ◌∷◌, Some, refl, codes}
use Rattle.std.specs.Fmt.{digits}
use Rattle.htl_plan.proofs.Words.{refined, two_periods, Dispatch, End, Schedule, plan_text}
use Rattle.htl_script.specs.declared.fault.ScriptKind.TheVariants as kind
use Rattle.htl_plan.specs.SelectionInput.{Whole, Bad, input_of}

schedules : List Schedule
schedules = record { instrs = Dispatch 0 4 ∷ Dispatch 1 6 ∷ End ∷ [] } ∷ []

plan_on : plan_text refined schedules (Some 0 ∷ Some 2 ∷ []) ≡ codes "j 0 3 N.on.fast\nd 3 N.on.fast\nj 3 5 M.m.fix\nd 5 M.m.fix\nplan 10 jobs 2 s 3\n"
unfolding schedules digits
plan_on = refl

plan_off : plan_text refined schedules (Some 0 ∷ Some 1 ∷ []) ≡ codes "j 0 2 M.m.fix\nd 2 M.m.fix\nplan 10 jobs 1 s 3\n"
unfolding schedules digits
plan_off = refl

-- ---- F of period 10 and G of period 20

both_lists : List Schedule
both_lists = record { instrs = Dispatch 0 3 ∷ Dispatch 1 10 ∷ End ∷ [] } ∷ record { instrs = Dispatch 1 12 ∷ Dispatch 2 15 ∷ End ∷ [] } ∷ []

-- the job of b goes on in the second list
plan_both : plan_text two_periods both_lists (Some 0 ∷ Some 1 ∷ [])
    ≡ codes "j 0 3 F.m.a\nd 3 F.m.a\nj 3 10 G.m.b\nj 10 12 G.m.b\nd 12 G.m.b\nj 12 15 F.m.a\nd 15 F.m.a\nplan 20 jobs 3 s 6\n"
unfolding both_lists digits
plan_both = refl

-- ---- inputs

input_on : input_of refined (codes "mode M m\nmode N on\n") ≡ Whole (Some 0 ∷ Some 2 ∷ [])
input_on = refl

-- an empty line and a comment are passed over, and the last line feed may lack
input_off : input_of refined (codes "# a plan\n\nmode M m\nmode N off") ≡ Whole (Some 0 ∷ Some 1 ∷ [])
input_off = refl

left_out : input_of refined (codes "mode M m\nmode N -\n") ≡ Bad 2 kind.Order
left_out = refl

other_order : input_of refined (codes "mode N on\nmode M m\n") ≡ Bad 1 kind.Order
other_order = refl

no_mode : input_of refined (codes "mode M on\n") ≡ Bad 1 kind.Unknown
no_mode = refl

dash_as_module : input_of refined (codes "mode - m\n") ≡ Bad 1 kind.Unknown
dash_as_module = refl

no_form : input_of refined (codes "mode M m m\n") ≡ Bad 1 kind.Form
no_form = refl

one_line : input_of refined (codes "mode M m\n") ≡ Bad 2 kind.NoEnd
one_line = refl

line_after : input_of refined (codes "mode M m\nmode N on\nmore\n") ≡ Bad 3 kind.After
line_after = refl
