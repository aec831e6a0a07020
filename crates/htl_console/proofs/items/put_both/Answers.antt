use Rattle.std.proofs.Common.{List, ℕ, ◌+◌, ◌∙◌, length, subst, sym, ap}
use Rattle.std.proofs.lemmas.Slice.{take-put_mid}
use Rattle.htl_edge.specs.Content.{Puts}
use Rattle.htl_console.proofs.Writing.{fits-first, side_by_side}
use Rattle.htl_console.proofs.items.put_both.Goals as goal

pub returns : goal.returns
returns g c =
    let room = ap (λ (bs : List ℕ). length c.args.first.now + length bs) (sym c.copy_from_slice-2.ensures.after) in
    let both =
    take-put_mid _ _ _ _ _ room (fits-first _ _ _ c.copy_from_slice.ensures.after)
    ∙ side_by_side c.args.first.now c.args.second.now _ _ _ c.copy_from_slice.ensures.after c.copy_from_slice-2.ensures.after in
    subst
    (λ (bs : List ℕ). Puts (g.W.Sink.written c.args.sink.now) (g.W.Sink.written c.put_all.new.sink) (g.W.Sink.faults c.args.sink.now) (g.W.Sink.faults c.put_all.new.sink) bs c.put_all.result)
    both c.put_all.ensures
