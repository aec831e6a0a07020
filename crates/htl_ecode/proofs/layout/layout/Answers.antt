use Rattle.std.proofs.Common.{◌<◌, ◌≤◌, ◌+◌, ℕ, refl, sym, subst, length, ap, ◌∙◌, ◌++◌}
use Rattle.htl_ecode.specs.Layout.{mode_code}
use Rattle.htl_ecode.proofs.{Fitting.offsets_fit, AllModes.laying_short, AllModes.laying_room, AllModes.laying_more, AllModes.laying_ends, AllModes.mode_below, AllModes.at_end, AllModes.up_to_end, AllModes.mode_made, AllModes.start_more}
use Rattle.htl_ecode.proofs.layout.layout.Goals as goal

pub mode_places-requires : goal.mode_places-requires
mode_places-requires c = offsets_fit c.args.t.now c.parts.ensures.ranges c.requires

pub mode_code-requires-clause-offsets : goal.mode_code-requires-clause-offsets
mode_code-requires-clause-offsets c = offsets_fit c.args.t.now c.parts.ensures.ranges c.requires

pub address-requires : goal.address-requires
address-requires c =
    laying_short c.args.t.now c.in_ok-enters.enters.items c.loop-m.begins.items c.loop-m.decides.items c.loop-m.instrs.items c.loop-m.m c.loop-m.invariant.laying c.parts.ensures.ranges
    (up_to_end c.args.t.now c.parts.result.now c.as_slice-modes.result.now c.loop-m.m c.parts.ensures.value c.as_slice-modes.ensures c.loop-m.auto.m-end)

pub mode_code-requires-clause-room : goal.mode_code-requires-clause-room
mode_code-requires-clause-room c =
    let below : c.loop-m.m < length c.args.t.now.modes = mode_below c.args.t.now c.parts.result.now c.as_slice-modes.result.now c.loop-m.m c.parts.ensures.value c.as_slice-modes.ensures c.loop-m-test.true in
    subst (λ (m : ℕ). c.address.result + length (mode_code c.args.t.now c.as_slice.result.now c.address.result m) + 3 ≤ 4294967295) (sym c.mode_invs-run.ensures.mode)
    (laying_room c.args.t.now c.in_ok-enters.enters.items c.as_slice.result.now c.loop-m.begins.items c.loop-m.decides.items c.loop-m.instrs.items c.loop-m.m c.address.result c.loop-m.invariant.laying c.parts.ensures.ranges below
    c.address.ensures)

pub loop-m-preserved : goal.loop-m-preserved
loop-m-preserved c =
    record {
      laying =
          laying_more c.args.t.now c.in_ok-enters.enters.items c.as_slice.result.now c.loop-m.begins.items c.loop-m.decides.items c.push.new.self.items c.push-in-loop-m.new.self.items c.loop-m.instrs.items
          c.extend_from_slice.new.self.items c.loop-m.m c.address.result c.in_ok-code.code.begin c.in_ok-code.code.decide _ c.in_ok-code.code.instrs.items c.loop-m.invariant.laying c.address.ensures
          c.as_slice.ensures.value (mode_made c.args.t.now c.as_slice.result.now c.address.result c.mode_invs-run.result.mode c.loop-m.m _ _ _ c.mode_invs-run.ensures.mode c.in_ok-code.ensures) c.in_ok-push.ensures.items c.in_ok-push-2.ensures.items
          (c.in_ok-extend_from_slice.ensures.items ∙ ap (λ xs. c.loop-m.instrs.items ++ xs) c.as_slice-in-loop-m.ensures.value) refl;
      start = start_more c.args.t.now c.mode_invs-run.result c.loop-m.m c.mode_invs-run.ensures.mode c.mode_invs-run.ensures.all;
    }

pub returns : goal.returns
returns c =
    laying_ends c.args.t.now c.in_ok-enters.enters.items c.loop-m.begins.items c.loop-m.decides.items c.loop-m.instrs.items c.loop-m.m _ c.loop-m.invariant.laying
    (at_end c.args.t.now c.parts.result.now c.as_slice-modes.result.now c.loop-m.m c.parts.ensures.value c.as_slice-modes.ensures c.loop-m.auto.m-end c.loop-m-test.false) c.in_ok-enters.ensures c.new.ensures
    c.new-2.ensures c.new-3.ensures c.new-4.ensures
