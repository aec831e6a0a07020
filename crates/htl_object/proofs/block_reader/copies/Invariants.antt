use Rattle.std.proofs.Common.{◌≡◌, take}
use Rattle.htl_object.specs.Blocks.{schedules_of}
use Rattle.htl_object.proofs.block_reader.copies.Given as goal

abbrev pub invariant-loop-number : goal.invariant-loop-number
invariant-loop-number l = l.found.items ≡ schedules_of l.blocks (take l.number-index l.numbers)
