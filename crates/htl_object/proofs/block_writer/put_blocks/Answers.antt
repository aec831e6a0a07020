use Rattle.std.proofs.Common.{[], ◌++◌, map, refl}
use Rattle.htl_object.proofs.{Words.w16, Words.to_be_bytes, Words.flat_map, Words.bytes_eq, Words.numbers_from, Words.schedule_bytes, Appends.appends, Appends.puts_same, ScheduleLaws.put_as_blocks}
use Rattle.htl_object.proofs.block_writer.put_blocks.Goals as goal

pub returns-clause-spelled : goal.returns-clause-spelled
returns-clause-spelled c =
    let numbers = flat_map (to_be_bytes w16) (numbers_from bytes_eq (map (λ b. b.items) c.new-blocks.result.keys) (map schedule_bytes c.args.schedules.now)) in
    let spellings = flat_map (λ s. s.items) c.put_numbers.new.blocks.keys in
    let all = put_as_blocks (λ b. b.items) [] numbers (numbers ++ spellings) c.args.schedules.now c.new-blocks.result.keys c.put_numbers.new.blocks.keys
    c.new-blocks.ensures.empty c.requires c.in_ok-put_numbers.ensures.types refl c.in_ok-put_numbers.ensures.blocks refl in
    puts_same _ _ c.args.out.now c.put_spellings.new.out all
    (appends numbers spellings c.args.out.now c.put_numbers.new.out c.put_spellings.new.out c.in_ok-put_numbers.ensures.numbers
    (rw c.as_slice.ensures.keys at c.put_spellings.ensures))
