use Rattle.std.proofs.Common.{◌≡◌, None, rules}
use Rattle.htl_emach.proofs.Earliest.{next_is, lacks_modules}
use Rattle.htl_emach.proofs.emach.EMach.next.Goals as goal

pub returns-in-None-clause-next : goal.returns-in-None-clause-next
returns-in-None-clause-next c =
    let none : c.args.self.now.running ≡ None = search rules in
    next_is c.args.self.now c.earliest.result none c.earliest.ensures

pub returns-in-None-clause-none : goal.returns-in-None-clause-none
returns-in-None-clause-none c = λ none.
    let idle : c.args.self.now.running ≡ None = search rules in
    lacks_modules c.args.self.now c.earliest.result (next_is c.args.self.now c.earliest.result idle c.earliest.ensures) none
