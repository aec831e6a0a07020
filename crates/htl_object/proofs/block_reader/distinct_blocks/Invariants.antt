use Rattle.std.proofs.Common.{◌≡◌, [], ◌-◌, map}
use Rattle.htl_object.proofs.Words.{block_at, AreSpelled, items_at}
use Rattle.htl_object.proofs.block_reader.distinct_blocks.Given as goal

-- what is left to read gives what all gives, and the pieces are the spellings of the blocks found
abbrev pub invariant-loop : goal.invariant-loop
invariant-loop l =
    record {
      read : items_at block_at (l.count - l.counter) l.found.items l.cursor ≡ items_at block_at l.count [] l.fn.cursor;
      spelled : AreSpelled (map (λ p. p.bytes.now) l.pieces.keys) l.found.items;
    }
