use Rattle.htl_object.proofs.Words.{refl, none_marked}
use Rattle.htl_object.proofs.notes.InvNotes.new.Goals as goal

pub returns : goal.returns
returns c = record { last = refl; counts = record { most = λ k i at. cc; count = refl; invoked = λ t few. none_marked 4096 t } }
