use Rattle.std.proofs.Common.{ℕ, List, length, ap, subst, sym, ◌∙◌}
use Rattle.htl_patch.proofs.Words.{order, ArePlacesOf, Numbering, combined}
use Rattle.htl_patch.proofs.tables.with_replacement.Goals as goal

pub join_fault-requires-clause-units : goal.join_fault-requires-clause-units
join_fault-requires-clause-units c = c.as_slice.ensures.value ∙ ap (λ (z : Numbering). z.modules) (c.n.view_is ∙ c.in_ok-n.ensures)

pub join_fault-requires-clause-places : goal.join_fault-requires-clause-places
join_fault-requires-clause-places c =
    let g = c.args.g.now in
    subst (λ (xs : List ℕ). ArePlacesOf (length (combined g).modules) (order g) xs) (sym c.as_slice-2.ensures.value) c.in_ok-p.ensures.units

pub join_fault-requires-clause-counterparts : goal.join_fault-requires-clause-counterparts
join_fault-requires-clause-counterparts c = c.as_slice-3.ensures.value ∙ c.in_ok-counterparts.ensures

pub limited-requires-clause-counterparts : goal.limited-requires-clause-counterparts
limited-requires-clause-counterparts c = c.as_slice-4.ensures.value ∙ c.in_ok-counterparts.ensures
