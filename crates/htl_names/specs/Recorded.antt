-- What a step of the walk over a source records.
use Rattle.std.specs.Prelude.{◌≡◌, false}
use Rattle.htl_names.specs.{Rows.Rows, Rows.rows_joined, declared.recorder.Recorder.Recorder}

-- these rows were put behind the others, unless memory was lacking
abbrev pub Adds : Rows → Recorder → Recorder → Type 0
Adds more old new = new.lacks_memory ≡ false → (old.lacks_memory ≡ false) × (new.rows ≡ rows_joined old.rows more)

-- with the rows that are still to come there will be these, unless memory was lacking
abbrev pub AddsWith : Rows → Rows → Recorder → Recorder → Type 0
AddsWith rest more old new = new.lacks_memory ≡ false → (old.lacks_memory ≡ false) × (rows_joined new.rows rest ≡ rows_joined old.rows more)
