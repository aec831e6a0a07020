-- Where a reader of a script is.
use Rattle.std.specs.Prelude.{ℕ, List, ◌++◌}
use Rattle.htl_model.specs.Tables.{Tables}
use Rattle.htl_script.specs.{declared.judge.Past.Past, Lines.lines_of, Script.Script, Reading.rest_of_lines}

-- the number of the line that is being read, the bytes before it, what was read of it, and what the events so
-- far leave
pub record Here : Type 0 where
  pub number : ℕ
  pub start : ℕ
  pub line : List ℕ
  pub past : Past

-- what the bytes behind a reader give
abbrev pub rest_of : Tables → Here → List ℕ → Script
rest_of t here bytes = rest_of_lines t here.number here.start here.past (lines_of (here.line ++ bytes))
