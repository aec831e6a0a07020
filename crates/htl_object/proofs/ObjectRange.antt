-- What is read of a file is an object in range.
use Rattle.std.proofs.Common.{◌∙◌, arith}
use Rattle.htl_object.proofs.Words.{nat_le, length-map, All-map, IsFileInRange, IsSchedule, IsEInstr, Anchors, Lists, EInstr, Compiled, Code, IsFunctionCode, IsPhased, IsShort, IsInRange, object_of_lists, and_first}
use Rattle.htl_ecode.specs.declared.instr.EInstr.TheVariants as I
use Rattle.htl_object.proofs.{Each.all_of, ListRanges.at_most, ListRanges.right, ListRanges.lists_in_range, Limits.lists_keep_limits, Limits.frames_kept, Limits.counted_schedules}

phased : (i : EInstr) → IsEInstr i → IsPhased i
phased (I.Future d p x) h = (at_most 1 p (and_first (nat_le 1 p) (nat_le p 3) h.1.0.1), at_most p 3 (right (nat_le 1 p) (nat_le p 3) h.1.0.1))
phased _ h = tt

pub lists_are_object : (l : Lists) → IsFileInRange l → IsInRange (object_of_lists l)
lists_are_object l h =
    record {
      tables = lists_in_range l h.front;
      limits = lists_keep_limits l h;
      frames = frames_kept l h;
      coded = All-map IsFunctionCode (λ (c : Code). Compiled c) l.functions (λ k d less. tt);
      enter = length-map l.anchors (λ (a : Anchors). a.enter) ∙ h.front.anchor_count;
      begin = length-map l.anchors (λ (a : Anchors). a.begin) ∙ h.front.anchor_count;
      decide = length-map l.anchors (λ (a : Anchors). a.decide) ∙ h.front.anchor_count;
      phases = all_of (λ _. IsEInstr) IsPhased l.instrs (λ b i f. phased i f) h.front.instrs.1;
      few_instrs = omega (arith, h.front.instrs.0);
      schedules = counted_schedules l h;
      short = all_of (λ _. IsSchedule) IsShort l.schedules (λ b s f. omega (arith, f.0)) h.schedules;
    }
