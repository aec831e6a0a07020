-- What the program comes to goes by the texts of its words.
use Rattle.std.proofs.Common.{◌≡◌, ℕ, List, subst}
use Rattle.htl_open.specs.Files.{Files}
use Rattle.htl_times_top.specs.Program.{EndsWith, Written}

pub EndsWith-same : (words others : List (List ℕ)) (shelf : Files) (old new : Written) (Told : List ℕ → Type 0) (Quiet : Type 0) (status : ℕ)
    → words ≡ others → EndsWith words shelf old new Told Quiet status → EndsWith others shelf old new Told Quiet status
EndsWith-same words others shelf old new Told Quiet status same ends =
    subst (λ (ws : List (List ℕ)). EndsWith ws shelf old new Told Quiet status) same ends
