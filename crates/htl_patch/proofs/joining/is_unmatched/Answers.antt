use Rattle.std.proofs.Common.{◌<◌, ℕ, length, sym, subst, ap, ◌∙◌}
use Rattle.htl_patch.proofs.{Words.Replacement, Words.mode_module, JoinLaws.unit_within}
use Rattle.htl_patch.proofs.joining.is_unmatched.Goals as goal

pub is_transferred-requires-clause-unit : goal.is_transferred-requires-clause-unit
is_transferred-requires-clause-unit c =
    subst (λ (n : ℕ). n < length c.args.g.now.donor.modules) (sym (c.mode_module-unit.ensures ∙ ap (λ (z : Replacement). mode_module z.donor c.args.x.now.mode) c.g.view_is))
    (unit_within c.args.g.now.donor c.args.x.now.mode c.keeps_ranges.ensures.donor c.requires.range.owner)
