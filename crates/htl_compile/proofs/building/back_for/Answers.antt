use Rattle.std.proofs.Common.{List, refl, ◌∙◌, ap₂, sym, subst}
use Rattle.htl_compile.proofs.{BuiltLaws.no_limit, BuiltLaws.object_accepted, CodedLaws.fitting_are_code, PlanLaws.planned_is, PlanLaws.unplanned_is}
use Rattle.htl_compile.proofs.Words.{ECode, kept_12, kept_apart, Offsets, IsAccepted, Object, Schedule}
use Rattle.htl_compile.proofs.building.back_for.Goals as goal

pub edf_nodes-requires-clause-limits : goal.edf_nodes-requires-clause-limits
edf_nodes-requires-clause-limits c = no_limit c.args.t c.keeps_ranges.ensures.ranges c.in_default.ensures.formed

pub edf_nodes-requires-clause-formed : goal.edf_nodes-requires-clause-formed
edf_nodes-requires-clause-formed c = kept_apart c.args.t 12 (kept_12 c.args.t c.in_default.ensures.formed)

pub generate_e-requires : goal.generate_e-requires
generate_e-requires c = λ s have need broken. c.in_default.ensures.formed Offsets s have need broken

pub returns-in-Err-edf_nodes-clause-fault : goal.returns-in-Err-edf_nodes-clause-fault
returns-in-Err-edf_nodes-clause-fault c =
    (refl, unplanned_is c.args.t c.in-Err-edf_nodes.fault c.from.result c.in_default.ensures.formed c.in-Err-edf_nodes.ensures.fault c.from.ensures)

pub returns-in-Ok-generate_e-clause-built : goal.returns-in-Ok-generate_e-clause-built
returns-in-Ok-generate_e-clause-built c =
    let make : ECode → List Schedule → Object = λ code ss. record { tables = c.args.t; ecode = code; schedules = ss; platform = c.args.platform } in
    ap₂ make c.in-Ok-generate_e.ensures.layout (c.new.ensures ∙ planned_is c.args.t c.in-Ok.schedules.items c.keeps_ranges.ensures.ranges c.in-Ok.ensures.count c.in-Ok.ensures.lists)

pub returns-in-Ok-generate_e-clause-schedulable : goal.returns-in-Ok-generate_e-clause-schedulable
returns-in-Ok-generate_e-clause-schedulable c = c.in-Ok.ensures.fits

pub returns-in-Ok-generate_e-clause-accepted : goal.returns-in-Ok-generate_e-clause-accepted
returns-in-Ok-generate_e-clause-accepted c =
    let make : ECode → List Schedule → Object = λ code ss. record { tables = c.args.t; ecode = code; schedules = ss; platform = c.args.platform } in
    let is = ap₂ make c.in-Ok-generate_e.ensures.layout (c.new.ensures ∙ planned_is c.args.t c.in-Ok.schedules.items c.keeps_ranges.ensures.ranges c.in-Ok.ensures.count c.in-Ok.ensures.lists) in
    subst (λ (o : Object). IsAccepted o) (sym is)
    (object_accepted c.args.platform c.args.t c.keeps_ranges.ensures.ranges c.requires.limits c.in_default.ensures.formed c.requires.functions
    (fitting_are_code c.args.t c.keeps_ranges.ensures.ranges c.requires.functions) (c.in-Ok.ensures.fits))
