use Rattle.htl_text.proofs.Words.{arith, prefix_len-le-length, is_word_byte}
use Rattle.htl_text.proofs.scan.word_len.Goals as goal

pub overflow_sub-result : goal.overflow_sub-result
overflow_sub-result c = let m = prefix_len-le-length is_word_byte c.behind_fours-rest.result.now in omega (arith, m, c.word_end.ensures)

pub returns : goal.returns
returns c =
    let m = prefix_len-le-length is_word_byte c.behind_fours-rest.result.now in
    omega (arith, m, c.word_end.ensures, c.behind_fours-rest.ensures.same, c.behind_fours-rest.ensures.short)
