-- The jobs of two tables: one with two windows, one with a port.
use Rattle.std.specs.Prelude.{◌≡◌, [], ◌∷◌, true, refl}
use Rattle.htl_walk.proofs.Words.{preempted, ports, abstract_jobs}

two_windows : abstract_jobs preempted 0
    ≡ record { present = true; inv = 0; release = 0; end = 10; worst = 7; preds = 0 }
    ∷ record { present = true; inv = 1; release = 2; end = 6; worst = 3; preds = 0 } ∷ []
two_windows = refl

-- position 0 reads the port that position 1 writes
one_port : abstract_jobs ports 0
    ≡ record { present = true; inv = 0; release = 0; end = 10; worst = 4; preds = 2 }
    ∷ record { present = true; inv = 1; release = 0; end = 10; worst = 3; preds = 0 } ∷ []
one_port = refl
