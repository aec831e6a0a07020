use Rattle.std.proofs.Common.{◌≡◌, ℕ, zero, suc, ◌+◌, false, List, [], ◌∷◌, length, slice_get, Option, Some, None, IfSome, refl, sym, ap, ◌∙◌, arith}
use Rattle.htl_runs.proofs.{Words.le-ltb, Words.walk_from, Words.Round, Words.told, Words.told_from, Words.next_left, Words.after, Words.answer_is}
use Rattle.htl_walk.specs.declared.schedule.SInstr.{SInstr}
use Rattle.htl_walk.specs.Walk as walks
use Rattle.htl_smach.specs.declared.left.Left.{Left}
use Rattle.htl_part_tests.proofs.schedules.smach_tests.ask.Goals as goal

-- a record tells its place
told_at : (start m : ℕ) (ls : List walks.Left) (k : ℕ) (l : Left) → slice_get (told_from start m ls) k ≡ Some l → l.instr ≡ m + k
told_at start m [] k l e = cc
told_at start m (x ∷ ls) zero l e = by_record (told start m x) e refl
  where
    by_record : (y : Left) → Some y ≡ Some l → y.instr ≡ m → l.instr ≡ m + 0
    by_record y f g = let same : y ≡ l = cc in omega (arith, ap (λ (z : Left). z.instr) same, g)
told_at start m (x ∷ ls) (suc k) l e = omega (arith, told_at start (suc m) ls k l e)

-- after the answer to the last instruction the list is over
over_after : (r n : Round) (s : List SInstr) (until : ℕ) (o : Option Left) → o ≡ next_left r s until → n ≡ after r s o → IfSome o (λ l. l.instr + 1 ≡ length s → n.running ≡ false)
over_after r n s until None e f = tt
over_after r n s until (Some l) e f = λ last.
    let place : l.instr ≡ 0 + r.place = told_at r.start 0 (walk_from r.jobs s r.first) r.place l (answer_is r s until l (sym e)) in
    ap (λ (z : Round). z.running) f ∙ le-ltb (suc r.place) (length s) (omega (arith, place, last))

pub returns-clause-over : goal.returns-clause-over
returns-clause-over c = over_after c.tell.new.m c.run_to.new.self c.args.s.now.instrs c.args.until c.run_to.result c.run_to.ensures.left c.run_to.ensures.round
