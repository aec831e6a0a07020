use Rattle.std.proofs.Common.{◌≡◌, ◌+◌, List, ℕ, Some, Err, sym, ap, ap₂, ◌∙◌, subst}
use Rattle.htl_script.proofs.{Words.Keyed, Words.Tables, Words.tables_of, Words.name_of, Words.IsOrder, Words.IsPlace, Words.key_of, Words.keyed, Words.keyed_name, Orders.order_put}
use Rattle.htl_script.proofs.index.NameOrder.add.Goals as goal

pub returns-in-Err-clause-ordered : goal.returns-in-Err-clause-ordered
returns-in-Err-clause-ordered c =
    let t = c.args.t.now in
    let kind = c.args.kind in
    let o = c.args.self.now in
    let text = c.in-Some.text in
    let here : name_of t kind c.args.number ≡ Some text = ap (λ (z : Tables). name_of z kind c.args.number) c.parts.ensures.value ∙ sym c.in-Some.ensures in
    let near : IsPlace (keyed_name (name_of (tables_of c.parts-2.result.now) kind)) o.numbers (keyed text) (Err c.in-Err.place) =
    subst (λ (w : List ℕ). IsPlace (keyed_name (name_of (tables_of c.parts-2.result.now) kind)) o.numbers (keyed w) (Err c.in-Err.place)) c.as_bytes-2.ensures.bytes c.in-Err.ensures in
    let place : IsPlace (keyed_name (name_of t kind)) o.numbers (keyed text) (Err c.in-Err.place) =
    subst (λ (z : Tables). IsPlace (keyed_name (name_of z kind)) o.numbers (keyed text) (Err c.in-Err.place)) (sym c.parts-2.ensures.value) near in
    let make : List ℕ → List ℕ → Keyed = λ keys numbers. record { keys = keys; numbers = numbers } in
    subst (IsOrder (name_of t kind) (c.args.number + 1)) (sym (ap₂ make c.insert.ensures.keys c.insert.ensures.numbers))
    (order_put (name_of t kind) c.args.number _ o text c.in-Err.place c.requires.ordered place here
    (ap key_of (sym c.as_bytes.ensures.bytes) ∙ sym c.key_of-key.ensures))
