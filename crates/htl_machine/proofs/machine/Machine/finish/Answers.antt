use Rattle.std.proofs.Common.{◌≡◌, ◌+◌, ℕ, suc, Ok, Err, sym, subst, arith}
use Rattle.htl_machine.proofs.{Words.Puts, Words.Failed, Words.Seen, Words.IsUpTo, Words.text_between, Beginnings.ends_so, Beginnings.fails_so, Viewing.seen_in, Calling.finished}
use Rattle.htl_machine.proofs.machine.Machine.finish.Goals as goal

pub returns-in-Err-clause-text : goal.returns-in-Err-clause-text
returns-in-Err-clause-text g c = λ es f.
    let one : c.args.to + 1 ≡ suc c.args.to = omega arith in
    subst (λ (k : ℕ). Puts {T = Unit {0}} {E = Failed} (g.W.Sink.written c.args.sink.now) (g.W.Sink.written c.pass.new.sink) (g.W.Sink.faults c.args.sink.now) (g.W.Sink.faults c.pass.new.sink) (text_between c.args.self.now.object es c.args.self.now.show c.args.self.now.run_state.reading k) (Err _))
    one (fails_so _ _ _ _ _ _ _ (c.in-Err.ensures.text es f))

pub returns-clause-text : goal.returns-clause-text
returns-clause-text g c = λ es f.
    let one : c.args.to + 1 ≡ suc c.args.to = omega arith in
    subst (λ (k : ℕ). Puts {T = Unit {0}} {E = Failed} (g.W.Sink.written c.args.sink.now) (g.W.Sink.written c.pass.new.sink) (g.W.Sink.faults c.args.sink.now) (g.W.Sink.faults c.pass.new.sink) (text_between c.args.self.now.object es c.args.self.now.show c.args.self.now.run_state.reading k) (Ok _))
    one (ends_so _ _ _ _ _ _ _ (c.in_default.ensures.text es f))

pub returns-clause-finished : goal.returns-clause-finished
returns-clause-finished g c = λ es f.
    let one : c.args.to + 1 ≡ suc c.args.to = omega arith in
    finished (seen_in c.self.inside) es c.args.to (subst (λ (k : ℕ). IsUpTo (seen_in c.self.inside) es k) one (subst (λ (z : Seen). IsUpTo z es (c.args.to + 1)) (sym c.self.view_is) (c.in_default.ensures.before es f)))
