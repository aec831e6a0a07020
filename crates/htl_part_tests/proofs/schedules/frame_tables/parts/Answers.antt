use Rattle.std.proofs.Common.{rules, ◌≡◌, ◌∙◌}
use Rattle.htl_edf.specs.FrameSamples.{frame_comms, frame_modes, frame_modules, frame_tasks, frame_invs}
use Rattle.htl_edf.proofs.FrameSampleFits.{frame_sample_is}
use Rattle.htl_part_tests.proofs.schedules.frame_tables.parts.Goals as goal

pub returns : goal.returns
returns c =
    let comms : c.in_ok-comms.comms.items ≡ frame_comms = search rules in
    let modes : c.in_ok-modes.modes.items ≡ frame_modes = search rules in
    let modules : c.in_ok-modules.modules.items ≡ frame_modules = search rules in
    let tasks : c.in_ok-tasks.tasks.items ≡ frame_tasks c.args.worst = search rules in
    let invs : c.in_ok-invs.invs.items ≡ frame_invs = search rules in
    c.parts_of.ensures ∙ frame_sample_is c.args.worst _ _ _ _ _ comms modes modules tasks invs
