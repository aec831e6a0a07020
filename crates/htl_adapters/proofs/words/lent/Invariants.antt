use Rattle.std.proofs.Common.{◌≡◌, List, ℕ, map, take, string_bytes, Bor}
use Rattle.htl_adapters.proofs.words.lent.Given as goal

abbrev pub invariant-loop-word : goal.invariant-loop-word
invariant-loop-word l = map (λ (w : Bor (List ℕ)). w.now) l.lent.items ≡ map string_bytes (take l.word-index l.words)
