use Rattle.std.proofs.Common.{◌≡◌, ℕ, true, cond, List, length, take, get_or, slice_get, Some, None, sym, ap, ◌∙◌, subst, arith}
use Rattle.htl_smach.proofs.Words.{length-take, slice_get-get_or, slice_get_past, SInstr, Dispatch, IsKnown, known_at, Round, Stands, IsInForm, walk_records, left_until, next_left, inside_round, IsUpcoming}
use Rattle.htl_smach.proofs.RoundRecords.{none_past}
use Rattle.htl_smach.proofs.machine.SMach.upcoming.Goals as goal

pub returns-then-not-self-clause-none : goal.returns-then-not-self-clause-none
returns-then-not-self-clause-none c = λ _ until.
    let m = c.self.inside in
    let s = c.args.s.now.instrs in
    let over : next_left (inside_round m) s until ≡ None = ap (λ b. cond b (left_until until (slice_get (walk_records (inside_round m) s) m.place)) None) c.if-not-self.true in
    subst (λ (r : Round). next_left r s until ≡ None) c.self.view_is over

pub returns-then-place-instrs-clause-none : goal.returns-then-place-instrs-clause-none
returns-then-place-instrs-clause-none c = λ _ until.
    let m = c.self.inside in
    let s = c.args.s.now.instrs in
    let past : slice_get s m.place ≡ None = slice_get_past s m.place (let z : length c.as_slice-instrs.result.now ≡ length s = ap length c.as_slice-instrs.ensures in omega arith) in
    sym (none_past (inside_round m) s until (subst (λ (r : Round). Stands r s) (sym c.self.view_is) c.requires.same) past ∙ ap (λ (r : Round). next_left r s until) c.self.view_is)

pub next_step-requires-clause-known : goal.next_step-requires-clause-known
next_step-requires-clause-known c =
    let m = c.self.inside in
    let s = c.args.s.now.instrs in
    let ss = c.as_slice-instrs.result.now in
    let i = get_or ss m.place (Dispatch 0 0) in
    let at : slice_get s m.place ≡ Some i = subst (λ (z : List SInstr). slice_get z m.place ≡ Some i) c.as_slice-instrs.ensures (slice_get-get_or ss m.place (Dispatch 0 0) (omega arith)) in
    let form : IsInForm (inside_round m) s = subst (λ (r : Round). r.running ≡ true → IsInForm r s) (sym c.self.view_is) c.requires.form c.if-not-self.false in
    let same : length (take m.count m.jobs) ≡ length (take m.count m.left) = omega (arith, length-take m.count m.jobs, length-take m.count m.left) in
    subst (λ (n : ℕ). IsKnown n i) same (known_at (length (take m.count m.jobs)) form.0 s m.place i form.1 at)

pub returns-clause-some : goal.returns-clause-some
returns-clause-some c =
    let m = c.self.inside in
    let s = c.args.s.now.instrs in
    let ss = c.as_slice-instrs.result.now in
    let i = get_or ss m.place (Dispatch 0 0) in
    let z : length ss ≡ length s = ap length c.as_slice-instrs.ensures in
    let is : IsUpcoming (inside_round m) s c.next_step.result =
    record {
      running = c.if-not-self.false;
      within = omega (arith, z);
      instr = i;
      at = subst (λ (z : List SInstr). slice_get z m.place ≡ Some i) c.as_slice-instrs.ensures (slice_get-get_or ss m.place (Dispatch 0 0) (omega arith));
      told = c.next_step.ensures.told;
      point = c.next_step.ensures.point;
      known = c.next_step.ensures.known;
      bound = c.next_step.ensures.bound;
      slice_bound = c.next_step.ensures.slice_bound;
    } in
    subst (λ (r : Round). IsUpcoming r s c.next_step.result) c.self.view_is is
