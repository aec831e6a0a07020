use Rattle.std.proofs.Common.{ap, ◌∙◌, map}
use Rattle.htl_object.proofs.{Words.w16, Words.to_be_bytes, Words.bytes_eq, Words.with_block, Words.number_in, Words.schedule_bytes, Appends.puts_same, Appends.puts_whole}
use Rattle.htl_object.proofs.block_writer.put_number.Goals as goal

pub returns-clause-number : goal.returns-clause-number
returns-clause-number c =
    let spelled = puts_whole (schedule_bytes c.args.schedule.now) c.in_ok-into_items.field-0.items c.new-spelling.result c.put.new.out c.new-spelling.ensures c.put.ensures.spelled c.in_ok-into_items.ensures in
    puts_same _ _ c.args.out.now c.put_count.new.out (ap (to_be_bytes w16) (c.in_ok-number.ensures.number ∙ ap (number_in bytes_eq (map (λ b. b.items) c.args.blocks.now.keys)) spelled)) c.put_count.ensures

pub returns-clause-blocks : goal.returns-clause-blocks
returns-clause-blocks c =
    let spelled = puts_whole (schedule_bytes c.args.schedule.now) c.in_ok-into_items.field-0.items c.new-spelling.result c.put.new.out c.new-spelling.ensures c.put.ensures.spelled c.in_ok-into_items.ensures in
    c.in_ok-number.ensures.blocks ∙ ap (with_block bytes_eq (map (λ b. b.items) c.args.blocks.now.keys)) spelled
