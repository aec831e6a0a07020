use Rattle.std.proofs.Common.{◌≡◌, None, rules, sym, subst}
use Rattle.htl_emach.specs.Due.{NoneBefore}
use Rattle.htl_emach.proofs.Earliest.{none_before}
use Rattle.htl_ecode.specs.Phases.{number_of}
use Rattle.htl_emach.proofs.emach.EMach.has_block.Goals as goal

pub first_due-requires-clause-order : goal.first_due-requires-clause-order
first_due-requires-clause-order c =
    let idle : c.args.self.now.running ≡ None = search rules in
    subst (NoneBefore c.args.at) (sym c.triggers.ensures) (none_before c.args.self.now (number_of c.args.phase) c.args.at idle c.requires.order)
