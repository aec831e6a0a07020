use Rattle.std.proofs.Common.{◌++◌, ◌∷◌, length, take, drop, ap, ◌∙◌, arith}
use Rattle.std.proofs.lemmas.List.{length-take}
use Rattle.htl_script.proofs.{Words.Keyed, Orders.inserted}
use Rattle.htl_script.proofs.index.NameOrder.insert.Goals as goal

pub returns-clause-keys : goal.returns-clause-keys
returns-clause-keys c =
    let m = c.self.inside in
    inserted m.keys m.count c.args.place c.args.key c.rotate_right.new.self _
    (omega (arith, c.requires.place, ap (λ (k : Keyed). length k.numbers) c.self.view_is, length-take m.count m.numbers))
    (omega (arith, c.requires.room, ap (λ (k : Keyed). length k.numbers) c.self.view_is, length-take m.count m.numbers)) c.rotate_right.ensures.after
    ∙ ap (λ (k : Keyed). take c.args.place k.keys ++ c.args.key ∷ drop c.args.place k.keys) c.self.view_is

pub returns-clause-numbers : goal.returns-clause-numbers
returns-clause-numbers c =
    let m = c.self.inside in
    inserted m.numbers m.count c.args.place c.args.number c.rotate_right-2.new.self _
    (omega (arith, c.requires.place, ap (λ (k : Keyed). length k.numbers) c.self.view_is, length-take m.count m.numbers))
    (omega (arith, c.requires.room, ap (λ (k : Keyed). length k.numbers) c.self.view_is, length-take m.count m.numbers)) c.rotate_right-2.ensures.after
    ∙ ap (λ (k : Keyed). take c.args.place k.numbers ++ c.args.number ∷ drop c.args.place k.numbers) c.self.view_is
