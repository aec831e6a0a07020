-- The jobs of positions in rounds that begin at different instants, as the code makes them.
use Rattle.std.specs.Prelude.{ℕ, ◌+◌, ◌<◌, ◌^◌, Bool, false, cond, eqb, List, map, get_or, Option}
use Rattle.std.specs.Int.Bits.{bit_and}
use Rattle.htl_model.specs.declared.frame.Place.{Place}
use Rattle.htl_walk.specs.declared.job.Job.{Job}

-- what stands at the positions
abbrev pub standing_of : List Place → List (Option ℕ)
standing_of xs = map (λ (x : Place). x.inv) xs

-- whether the round of position q begins at a
abbrev pub begins_with : ℕ → List Place → ℕ → Bool
begins_with a xs q = get_or (map (λ (x : Place). eqb x.at a) xs) q false

-- the job in a round that begins at a, with the predecessors in this row
abbrev pub moved : ℕ → ℕ → Job → Job
moved a row j =
    record {
      present = j.present;
      inv = j.inv;
      release = cond j.present (a + j.release) 0;
      end = cond j.present (a + j.end) 0;
      worst = j.worst;
      preds = bit_and j.preds row;
    }

-- times that a word holds
abbrev pub HasTimes : Job → Type 0
HasTimes j = (j.release < 2 ^ 64) × (j.end < 2 ^ 64)
