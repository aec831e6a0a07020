use Rattle.std.proofs.Common.{false}
use Rattle.htl_form.proofs.Places.{filled_at}
use Rattle.htl_form.proofs.apart.mark_mode.Goals as goal

pub note_taken-requires-clause-empty : goal.note_taken-requires-clause-empty
note_taken-requires-clause-empty c = λ k. filled_at false 1024 k
