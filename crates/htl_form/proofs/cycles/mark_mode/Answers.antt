use Rattle.std.proofs.Common.{◌∙◌, ap}
use Rattle.htl_model.specs.Bits.{cell}
use Rattle.htl_form.proofs.RowLaws.{diagonal}
use Rattle.htl_form.proofs.cycles.mark_mode.Goals as goal

pub returns-clause-marked : goal.returns-clause-marked
returns-clause-marked c =
    record {
      inside = λ q below. c.mark_diagonal.ensures.inside q below ∙ ap (λ rows. cell rows q q) c.through_all.ensures.rows
          ∙ diagonal c.args.t.now c.args.mode c.args.base c.args.n q c.fill_rows.new.rows c.requires.range c.fill_rows.ensures.room c.fill_rows.ensures.steps below;
      below = c.mark_diagonal.ensures.below;
      above = c.mark_diagonal.ensures.above;
    }
