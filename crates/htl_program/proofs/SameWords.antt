-- What the program comes to goes by the texts of its words.
use Rattle.std.proofs.Common.{◌≡◌, ℕ, List, subst}
use Rattle.htl_open.specs.Files.{Files}
use Rattle.htl_top.specs.Answers.{Streams}
use Rattle.htl_program.specs.Program.{EndsWith}

pub EndsWith-same : (words others : List (List ℕ)) (shelf : Files) (old new : Streams) (Told : List ℕ → Type 0) (Quiet : Type 0) (status : ℕ)
    → words ≡ others → EndsWith words shelf old new Told Quiet status → EndsWith others shelf old new Told Quiet status
EndsWith-same words others shelf old new Told Quiet status same ends =
    subst (λ (ws : List (List ℕ)). EndsWith ws shelf old new Told Quiet status) same ends
