use Rattle.std.proofs.Common.{[], ap, ◌∙◌, arith, length}
use Rattle.htl_smach.proofs.{Words.length-take, Words.Round, Words.added_from, Holding.holds_added, Holding.are_added}
use Rattle.htl_smach.proofs.machine.SMach.begin_list.Goals as goal

pub invariant_of-self : goal.invariant_of-self
invariant_of-self c =
    let m = c.self.inside in (
      omega (arith, c.requires.few, ap (λ (r : Round). length r.jobs) c.self.view_is, length-take m.count m.jobs),
      omega arith,
      omega arith,
      are_added m c.begin.new.self c.args.jobs.now c.copy_from_slice.new.self _ c.args.lengths.now c.copy_from_slice-2.new.self [] c.fill_work.new.left _ (omega arith) (omega arith) (omega arith)
          c.copy_from_slice.ensures.after c.copy_from_slice-2.ensures.after c.fill_work.ensures c.requires.same c.begin.ensures c.self.invariant.3 c.requires.lengths,
    )

pub returns : goal.returns
returns c =
    let m = c.self.inside in
    holds_added m c.begin.new.self c.args.jobs.now c.copy_from_slice.new.self _ c.args.lengths.now c.copy_from_slice-2.new.self _ c.fill_work.new.left _ (omega arith) (omega arith) (omega arith)
    c.copy_from_slice.ensures.after c.copy_from_slice-2.ensures.after c.fill_work.ensures c.requires.same c.begin.ensures c.args.offset c.copy_front.new.to c.copy_front.ensures
    ∙ ap (λ (r : Round). added_from r c.args.offset c.args.jobs.now c.args.lengths.now) c.self.view_is
