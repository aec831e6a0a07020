use Rattle.std.proofs.Common.{◌<◌, ℕ, length, get_or, Some, Ok, Err, sym, ap, ◌∙◌, subst, arith}
use Rattle.htl_script.proofs.{Words.length-take, Words.get_or-take, Words.Keyed, Words.Tables, Words.name_of, Words.IsPlace, Words.keyed, Words.keyed_name, Named.found_named, Named.none_found}
use Rattle.htl_script.proofs.index.NameOrder.find.Goals as goal

pub returns-in-Ok : goal.returns-in-Ok
returns-in-Ok c =
    let m = c.self.inside in
    let t = c.args.t.now in
    let o = c.args.self.now in
    let text = c.args.text.now in
    let i = c.in-Ok.place in
    let place : IsPlace (keyed_name (name_of t c.args.kind)) o.numbers (keyed text) (Ok i) =
    subst (λ (z : Tables). IsPlace (keyed_name (name_of z c.args.kind)) o.numbers (keyed text) (Ok i)) (sym c.parts.ensures.value) c.in-Ok.ensures in
    let below : i < m.count = omega (arith, place.0, ap (λ (k : Keyed). length k.numbers) c.self.view_is, length-take m.count m.numbers) in
    sym (found_named t c.args.kind o text i c.requires place
    ∙ ap (λ (n : ℕ). Some n) (ap (λ (k : Keyed). get_or k.numbers i 0) (sym c.self.view_is) ∙ get_or-take m.count m.numbers i 0 below))

pub returns-in-Err : goal.returns-in-Err
returns-in-Err c =
    let t = c.args.t.now in
    let o = c.args.self.now in
    let text = c.args.text.now in
    let i = c.in-Err.field-0 in
    let place : IsPlace (keyed_name (name_of t c.args.kind)) o.numbers (keyed text) (Err i) =
    subst (λ (z : Tables). IsPlace (keyed_name (name_of z c.args.kind)) o.numbers (keyed text) (Err i)) (sym c.parts.ensures.value) c.in-Err.ensures in
    sym (none_found t c.args.kind o text i c.requires place)
