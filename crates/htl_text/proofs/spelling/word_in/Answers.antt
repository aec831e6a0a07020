use Rattle.std.proofs.Common.{◌∙◌, Bor, List, ℕ}
use Rattle.htl_text.proofs.Found.{find-map_keys}
use Rattle.htl_text.proofs.spelling.word_in.Goals as goal

pub returns : goal.returns
returns c = c.find_word.ensures ∙ find-map_keys (λ (k : Bor (List ℕ)). k.now) c.args.text.now c.args.words.now
