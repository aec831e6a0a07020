use Rattle.std.proofs.Common.{◌≡◌, map, take, drop, All}
use Rattle.htl_object.proofs.{Words.w16, Words.to_be_bytes, Words.flat_map, Words.bytes_eq, Words.blocks_from, Words.numbers_from, Words.IsSInstr, Words.schedule_bytes, Appends.PutsBut}
use Rattle.htl_object.proofs.block_writer.put_numbers.Given as goal

-- with the numbers and the blocks of what is left all is put
abbrev pub invariant-loop-schedule : goal.invariant-loop-schedule
invariant-loop-schedule l =
    record {
      numbers : PutsBut (flat_map (to_be_bytes w16) (numbers_from bytes_eq (map (λ b. b.items) l.blocks.keys) (map schedule_bytes (drop l.schedule-index l.schedules))))
          (flat_map (to_be_bytes w16) (numbers_from bytes_eq (map (λ b. b.items) l.fn.blocks.keys) (map schedule_bytes l.schedules))) l.fn.out l.out;
      blocks : blocks_from bytes_eq (map (λ b. b.items) l.blocks.keys) (map schedule_bytes (drop l.schedule-index l.schedules))
          ≡ blocks_from bytes_eq (map (λ b. b.items) l.fn.blocks.keys) (map schedule_bytes l.schedules);
      types : All (λ s. All IsSInstr s.instrs) (take l.schedule-index l.schedules);
    }
