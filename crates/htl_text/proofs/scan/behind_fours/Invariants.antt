use Rattle.std.proofs.Common.{◌≡◌, ◌≤◌, ◌+◌, length}
use Rattle.htl_text.proofs.Words.{prefix_len, is_word_byte}
use Rattle.htl_text.proofs.scan.behind_fours.Given as goal

abbrev pub invariant-loop-rest : goal.invariant-loop-rest
invariant-loop-rest l =
    (prefix_len is_word_byte l.text + length l.rest ≡ length l.text + prefix_len is_word_byte l.rest) × (length l.rest ≤ length l.text)

abbrev pub decreases-loop-rest : goal.decreases-loop-rest
decreases-loop-rest l = length l.rest
