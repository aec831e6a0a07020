use Rattle.htl_object.proofs.{Words.map, Words.All, Words.w16, Words.to_be_bytes, Words.bytes_eq, Words.IsSInstr, Words.schedule_bytes, Rounds.kept, Rounds.numbered, Rounds.blocked}
use Rattle.htl_object.proofs.block_writer.put_numbers.Goals as goal

pub loop-schedule-preserved : goal.loop-schedule-preserved
loop-schedule-preserved c =
    let items = c.args.schedules.now in
    let before = map (λ b. b.items) c.loop-schedule.blocks.keys in
    let after = map (λ b. b.items) c.put_number.new.blocks.keys in
    record {
      numbers =
          numbered items c.loop-schedule.schedule-index c.schedule-item.result c.loop-schedule-test.true c.schedule-item.is bytes_eq schedule_bytes (to_be_bytes w16) before after c.args.out.now c.loop-schedule.out
          c.put_number.new.out _ c.in_ok-put_number.ensures.blocks c.loop-schedule.invariant.numbers c.in_ok-put_number.ensures.number;
      blocks =
          blocked items c.loop-schedule.schedule-index c.schedule-item.result c.loop-schedule-test.true c.schedule-item.is bytes_eq schedule_bytes before after _ c.in_ok-put_number.ensures.blocks
          c.loop-schedule.invariant.blocks;
      types = kept items c.loop-schedule.schedule-index c.schedule-item.result c.loop-schedule-test.true c.schedule-item.is (λ s. All IsSInstr s.instrs) c.loop-schedule.invariant.types c.in_ok-put_number.ensures.types;
    }
