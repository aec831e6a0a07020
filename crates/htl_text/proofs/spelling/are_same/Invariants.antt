use Rattle.std.proofs.Common.{◌≡◌, length}
use Rattle.std.specs.Str.{bytes_eq}
use Rattle.htl_text.proofs.spelling.are_same.Given as goal

abbrev pub invariant-loop-letters : goal.invariant-loop-letters
invariant-loop-letters l = bytes_eq l.letters l.bytes ≡ bytes_eq l.word l.text

abbrev pub decreases-loop-letters : goal.decreases-loop-letters
decreases-loop-letters l = length l.letters
