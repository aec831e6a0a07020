use Rattle.htl_object.proofs.{Words.[], Words.arith, Words.block_at, BlockReading.numbers_below, Sizes.items-length}
use Rattle.htl_object.proofs.block_reader.blocks.Goals as goal

pub copies-requires : goal.copies-requires
copies-requires c =
    let bs = c.in_ok-blocks.blocks.items in
    let ns = c.in_ok-numbers.numbers.items in
    let long = items-length block_at c.noted_items.new.noted.blocks [] c.noted_items.new.cursor bs c.distinct_blocks.new.cursor c.in_ok-blocks.ensures in
    let below = numbers_below 0 ns in
    rw (c.deref.ensures.value, c.deref-2.ensures.value) (λ k d less. omega (arith, below k d less, c.in_ok-numbers.ensures.noted, long))
