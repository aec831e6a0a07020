use Rattle.std.proofs.Common.{◌+◌, length, ◌∙◌, ap, arith}
use Rattle.htl_patch.proofs.{Words.new_numbers, Words.Numbering, Words.combined, Words.donor_port, Words.donor_task, Words.donor_inv, Words.Replacement, Replacing.CanReplace, JoinLaws.places_are, JoinLaws.both_count}
use Rattle.htl_patch.proofs.NumberLaws.{few_units, few_modes, few_tasks, few_ports, few_invs}
use Rattle.htl_patch.proofs.numbers.renumber.Goals as goal

pub places-requires-clause-few : goal.places-requires-clause-few
places-requires-clause-few c =
    let is = ap (λ (z : Numbering). length z.modules) (c.n.view_is ∙ c.requires.numbers) in
    let view = ap length c.as_slice.ensures.value in
    let can : CanReplace c.args.g.now = record { host = c.keeps_ranges.ensures.host; donor = c.keeps_ranges.ensures.donor; into = c.requires.patched_mode; from = c.requires.replacing_mode } in
    omega (arith, is, view, few_units c.args.g.now can)

pub places-requires-2-clause-few : goal.places-requires-2-clause-few
places-requires-2-clause-few c =
    let is = ap (λ (z : Numbering). length z.modes) (c.n.view_is ∙ c.requires.numbers) in
    let view = ap length c.as_slice-2.ensures.value in
    let can : CanReplace c.args.g.now = record { host = c.keeps_ranges.ensures.host; donor = c.keeps_ranges.ensures.donor; into = c.requires.patched_mode; from = c.requires.replacing_mode } in
    omega (arith, is, view, few_modes c.args.g.now can)

pub places-requires-3-clause-few : goal.places-requires-3-clause-few
places-requires-3-clause-few c =
    let is = ap (λ (z : Numbering). length z.ports) (c.n.view_is ∙ c.requires.numbers) in
    let view = ap length c.as_slice-3.ensures.value in
    let can : CanReplace c.args.g.now = record { host = c.keeps_ranges.ensures.host; donor = c.keeps_ranges.ensures.donor; into = c.requires.patched_mode; from = c.requires.replacing_mode } in
    omega (arith, is, view, few_ports c.args.g.now can)

pub places-requires-4-clause-few : goal.places-requires-4-clause-few
places-requires-4-clause-few c =
    let is = ap (λ (z : Numbering). length z.tasks) (c.n.view_is ∙ c.requires.numbers) in
    let view = ap length c.as_slice-4.ensures.value in
    let can : CanReplace c.args.g.now = record { host = c.keeps_ranges.ensures.host; donor = c.keeps_ranges.ensures.donor; into = c.requires.patched_mode; from = c.requires.replacing_mode } in
    omega (arith, is, view, few_tasks c.args.g.now can)

pub places-requires-5-clause-few : goal.places-requires-5-clause-few
places-requires-5-clause-few c =
    let is = ap (λ (z : Numbering). length z.invs) (c.n.view_is ∙ c.requires.numbers) in
    let view = ap length c.as_slice-5.ensures.value in
    let can : CanReplace c.args.g.now = record { host = c.keeps_ranges.ensures.host; donor = c.keeps_ranges.ensures.donor; into = c.requires.patched_mode; from = c.requires.replacing_mode } in
    omega (arith, is, view, few_invs c.args.g.now can)

pub returns : goal.returns
returns c =
    let g = c.args.g.now in
    let u = combined g in
    let n = new_numbers g in
    let is = c.requires.numbers in
    record {
      units = places_are (length u.modules) c.module_count.result n.modules c.as_slice.result.now c.in_ok-units.units.items c.in_ok-units.ensures.size c.module_count.ensures.count c.in_ok-units.ensures.places
          (c.as_slice.ensures.value ∙ ap (λ (z : Numbering). z.modules) (c.n.view_is ∙ is));
      modes = places_are (length u.modes) c.mode_count.result n.modes c.as_slice-2.result.now c.in_ok-modes.modes.items c.in_ok-modes.ensures.size c.mode_count.ensures.count c.in_ok-modes.ensures.places
          (c.as_slice-2.ensures.value ∙ ap (λ (z : Numbering). z.modes) (c.n.view_is ∙ is));
      ports = places_are (length u.ports) (length c.ports.result.now + length c.ports-2.result.now) n.ports c.as_slice-3.result.now c.in_ok-ports.ports.items c.in_ok-ports.ensures.size
          (both_count (donor_port g) g.host.ports c.ports.result.now g.donor.ports c.ports-2.result.now (c.ports.ensures.value ∙ ap (λ (z : Replacement). z.host.ports) c.g.view_is) (c.ports-2.ensures.value ∙ ap (λ (z : Replacement). z.donor.ports) c.g.view_is)) c.in_ok-ports.ensures.places
          (c.as_slice-3.ensures.value ∙ ap (λ (z : Numbering). z.ports) (c.n.view_is ∙ is));
      tasks = places_are (length u.tasks) (length c.tasks.result.now + length c.tasks-2.result.now) n.tasks c.as_slice-4.result.now c.in_ok-tasks.tasks.items c.in_ok-tasks.ensures.size
          (both_count (donor_task g) g.host.tasks c.tasks.result.now g.donor.tasks c.tasks-2.result.now (c.tasks.ensures.value ∙ ap (λ (z : Replacement). z.host.tasks) c.g.view_is) (c.tasks-2.ensures.value ∙ ap (λ (z : Replacement). z.donor.tasks) c.g.view_is)) c.in_ok-tasks.ensures.places
          (c.as_slice-4.ensures.value ∙ ap (λ (z : Numbering). z.tasks) (c.n.view_is ∙ is));
      invs = places_are (length u.invs) (length c.invs.result.now + length c.invs-2.result.now) n.invs c.as_slice-5.result.now c.in_ok-invs.invs.items c.in_ok-invs.ensures.size
          (both_count (donor_inv g) g.host.invs c.invs.result.now g.donor.invs c.invs-2.result.now (c.invs.ensures.value ∙ ap (λ (z : Replacement). z.host.invs) c.g.view_is) (c.invs-2.ensures.value ∙ ap (λ (z : Replacement). z.donor.invs) c.g.view_is)) c.in_ok-invs.ensures.places
          (c.as_slice-5.ensures.value ∙ ap (λ (z : Numbering). z.invs) (c.n.view_is ∙ is));
    }
