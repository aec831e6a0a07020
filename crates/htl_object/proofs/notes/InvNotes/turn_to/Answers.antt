use Rattle.std.proofs.Common.{arith, refl, replicate, false}
use Rattle.htl_object.proofs.Noting.{later_turned}
use Rattle.htl_object.proofs.notes.InvNotes.turn_to.Goals as goal

pub returns-then-self-mode-clause-counts : goal.returns-then-self-mode-clause-counts
returns-then-self-mode-clause-counts c =
    later_turned c.args.self.now (record { mode = c.args.mode; count = 0; invoked = replicate 4096 false }) c.args.before.now c.requires.noted.counts (omega (arith, c.requires.later, c.if-self-mode.true)) refl refl
