use Rattle.std.proofs.Common.{◌∙◌}
use Rattle.htl_patch.proofs.{Words.length, Words.ap, Words.Replacement, JoinLaws.transferred_is}
use Rattle.htl_patch.proofs.joining.is_transferred.Goals as goal

pub returns : goal.returns
returns c =
    let g = c.args.g.now in
    transferred_is g c.args.unit (length c.modules.result.now) c.args.transferred.now.units.now c.args.transferred.now.places.now c.requires.unit (ap length (c.modules.ensures.value ∙ ap (λ (z : Replacement). z.host.modules) c.g.view_is)) c.requires.units c.requires.places
