use Rattle.std.proofs.Common.{sym, ◌∙◌, subst, ap}
use Rattle.htl_refine.proofs.{Words.Decides, Words.is_selection, Words.IsSelection, SelectedLaws.selection_is}
use Rattle.htl_refine.proofs.selection.is_selection.Goals as goal

pub returns : goal.returns
returns c =
    let t = c.args.t.now in
    let modes = c.args.s.now.modes in
    subst (λ b. Decides b (IsSelection t modes)) (sym (c.is_right.ensures ∙ ap (is_selection t) c.as_slice.ensures)) (selection_is t modes)
