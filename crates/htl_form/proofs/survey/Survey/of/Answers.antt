use Rattle.std.proofs.Common.{ℕ, Option, None}
use Rattle.htl_form.proofs.{ApartLaws.none_marked, Places.filled_at}
use Rattle.htl_form.proofs.survey.Survey.of.Goals as goal

pub count_writers-requires : goal.count_writers-requires
count_writers-requires c = λ p. filled_at {A = ℕ} 0 4096 p

pub note_first_writers-requires : goal.note_first_writers-requires
note_first_writers-requires c = λ p. filled_at {A = Option ℕ} None 4096 p

pub mark_apart-requires-clause-marks : goal.mark_apart-requires-clause-marks
mark_apart-requires-clause-marks c = none_marked c.args.t.now 2048
