use Rattle.std.proofs.Common.{◌<◌, ◌≤◌, ℕ, refl, sym, ap, subst, arith, add-one}
use Rattle.htl_machine.proofs.{Words.Seen, Words.IsOnward, Passing.all_on, Passing.all_start, Passing.passing_failed, Passing.passing_whole, Passing.up_to_reading, Quiet.gone_to}
use Rattle.htl_machine.proofs.machine.Machine.pass.Goals as goal

pub loop-due-init : goal.loop-due-init
loop-due-init g c =
    let first = c.args.self.now in
    let w = g.W.Sink.written c.args.sink.now in
    let f = g.W.Sink.faults c.args.sink.now in
    subst (λ (n : ℕ). IsOnward first first n c.known_due-due.result c.args.to w w f f) (sym (ap (λ (z : Seen). z.run_state.reading) c.self.view_is))
    (record {
      done = all_start first first.run_state.reading w f;
      begun = omega arith;
      within = c.requires.order;
      order = c.known_due-due.ensures.low;
      quiet = c.known_due-due.ensures.quiet;
      accepted = c.known_due-due.ensures.accepted;
    })

pub instant-requires-clause-before : goal.instant-requires-clause-before
instant-requires-clause-before g c =
    let w = c.requires.follows in
    let gone = gone_to c.args.self.now c.loop-due.self c.loop-due.at c.loop-due.due c.args.to c.loop-due.due _ _ _ _ c.loop-due.invariant c.loop-due.invariant.order (omega arith) in
    (w.0, (gone.passing w.0 (up_to_reading c.args.self.now w.0 _ refl w.1)).before)

pub returns-in-Err-clause-text : goal.returns-in-Err-clause-text
returns-in-Err-clause-text g c = λ es f.
    let gone = gone_to c.args.self.now c.loop-due.self c.loop-due.at c.loop-due.due c.args.to c.loop-due.due _ _ _ _ c.loop-due.invariant c.loop-due.invariant.order (omega arith) in
    let p = gone.passing es (up_to_reading c.args.self.now es _ refl f) in
    let begun : c.args.self.now.run_state.reading ≤ c.loop-due.due = omega (arith, c.loop-due.invariant.begun, c.loop-due.invariant.order) in
    let less : c.loop-due.due < c.args.to = omega arith in
    passing_failed c.args.self.now c.loop-due.self es c.args.self.now.run_state.reading c.loop-due.due c.args.to _ _ _ _ _ _ _ _ begun less p (c.in-Err.ensures.text es p.before)

pub next_due-due-requires-clause-before : goal.next_due-due-requires-clause-before
next_due-due-requires-clause-before g c =
    let w = c.requires.follows in
    let gone = gone_to c.args.self.now c.loop-due.self c.loop-due.at c.loop-due.due c.args.to c.loop-due.due _ _ _ _ c.loop-due.invariant c.loop-due.invariant.order (omega arith) in
    rw add-one (w.0, c.in_default.ensures.before w.0 (gone.passing w.0 (up_to_reading c.args.self.now w.0 _ refl w.1)).before)

pub loop-due-preserved : goal.loop-due-preserved
loop-due-preserved g c =
    let begun : c.args.self.now.run_state.reading ≤ c.loop-due.due = omega (arith, c.loop-due.invariant.begun, c.loop-due.invariant.order) in
    let gone = gone_to c.args.self.now c.loop-due.self c.loop-due.at c.loop-due.due c.args.to c.loop-due.due _ _ _ _ c.loop-due.invariant c.loop-due.invariant.order (omega arith) in
    record {
      done = rw add-one (all_on c.args.self.now c.loop-due.self c.instant.new.self c.args.self.now.run_state.reading c.loop-due.due _ _ _ _ _ _ _ begun gone c.in_default.ensures.text c.in_default.ensures.before c.in_default.ensures.same c.in_default.ensures.reading);
      begun = omega (arith, begun);
      within = omega arith;
      order = c.next_due-due.ensures.low;
      quiet = c.next_due-due.ensures.quiet;
      accepted = c.next_due-due.ensures.accepted;
    }

pub returns-clause-text : goal.returns-clause-text
returns-clause-text g c = λ es f.
    let gone = gone_to c.args.self.now c.loop-due.self c.loop-due.at c.loop-due.due c.args.to c.args.to _ _ _ _ c.loop-due.invariant c.loop-due.invariant.within (omega arith) in
    passing_whole c.args.self.now c.loop-due.self es c.args.self.now.run_state.reading c.args.to c.args.to _ _ _ _ _ refl (gone.passing es (up_to_reading c.args.self.now es _ refl f))

pub returns-clause-before : goal.returns-clause-before
returns-clause-before g c = λ es f.
    let gone = gone_to c.args.self.now c.loop-due.self c.loop-due.at c.loop-due.due c.args.to c.args.to _ _ _ _ c.loop-due.invariant c.loop-due.invariant.within (omega arith) in
    (gone.passing es (up_to_reading c.args.self.now es _ refl f)).before

pub returns-clause-quiet : goal.returns-clause-quiet
returns-clause-quiet g c = λ at past less. c.loop-due.invariant.quiet at (omega (arith, past, c.loop-due.invariant.within)) less
