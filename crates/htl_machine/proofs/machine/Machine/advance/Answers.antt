use Rattle.std.proofs.Common.{◌≤◌, ◌∙◌, ℕ, sym, ap, subst}
use Rattle.htl_machine.proofs.{Words.Seen, Words.IsUpTo, Words.AreQuiet, Beginnings.ends_so, Beginnings.fails_so, Viewing.seen_in, Calling.read_follows, Quiet.quiet_then}
use Rattle.htl_machine.proofs.machine.Machine.advance.Goals as goal

pub returns-in-Err-clause-text : goal.returns-in-Err-clause-text
returns-in-Err-clause-text g c = λ es f. fails_so _ _ _ _ _ _ _ (c.in-Err.ensures.text es f)

pub returns-clause-text : goal.returns-clause-text
returns-clause-text g c = λ es f. ends_so _ _ _ _ _ _ _ (c.in-Ok.ensures.text es f)

pub returns-clause-follows : goal.returns-clause-follows
returns-clause-follows g c = λ es f.
    let later = subst (λ (n : ℕ). n ≤ c.args.to) (sym (ap (λ (z : Seen). z.run_state.reading) c.self.view_is ∙ c.in-Ok.ensures.reading)) c.requires.order in
    read_follows (seen_in c.self.inside) es c.args.to c.self.invariant.accepted later (subst (λ (z : Seen). IsUpTo z es c.args.to) (sym c.self.view_is) (c.in-Ok.ensures.before es f))

pub invariant_of-self : goal.invariant_of-self
invariant_of-self g c =
    let kept = c.self.invariant in
    record {
      accepted = kept.accepted;
      all_shows = kept.all_shows;
      all_takes = kept.all_takes;
      few = kept.few;
      stands = kept.stands;
      marked = kept.marked;
      waiting = kept.waiting;
      empty = kept.empty;
      quiet = λ free. quiet_then (seen_in c.self.inside) c.args.to c.args.to c.in-Ok.due (subst (λ (z : Seen). AreQuiet z c.args.to c.in-Ok.due) (sym c.self.view_is) c.in-Ok.ensures.quiet);
    }
