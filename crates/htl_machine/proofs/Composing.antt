-- The text and the counts of an instant, from those of its parts.
use Rattle.std.proofs.Common.{◌≡◌, ◌≢◌, ℕ, zero, suc, ◌+◌, ◌-◌, ◌^◌, min, ◌≤◌, Bool, true, false, cond, List, [], ◌∷◌, ◌++◌, length, map, Some, refl, sym, ap, ap₂, ◌∙◌, arith, length-append}
use Rattle.htl_machine.proofs.Words.{count_by, eq-eqb, ne_eqb, append_assoc, sum_by-cons, sum_by-append, Event, lines_text, value_lines, hyper, Tables, SInstr, ECode, e_path, phase_path, Shown, shows_values, Tally, one_record, one_instr, with_records, with_instrs, path_lines, closing_text, first_records, left_before, Plan, some_records, whole_path, turn_at, RunRecord, old_records, new_records, plan_records, standing_new, old_lines, new_lines, lines, records_at, jobs_done, e_done, s_done}
use Rattle.htl_smach.specs.declared.left.Left.{Left}
use Rattle.htl_runs.proofs.lines.LoadedRecords.{jobs_more, s_more}
use Rattle.htl_machine.proofs.Agreeing.{phases_are, instrs_capped, steps_capped}

regroup : (o a b c v n : List ℕ) → (o ++ a) ++ ((b ++ (c ++ v)) ++ n) ≡ o ++ (a ++ (b ++ c)) ++ v ++ n
regroup o a b c v n =
    append_assoc o a ((b ++ (c ++ v)) ++ n)
    ∙ ap (λ z. o ++ (a ++ z)) (append_assoc b (c ++ v) n)
    ∙ ap (λ z. o ++ (a ++ (b ++ z))) (append_assoc c v n)
    ∙ sym (ap (λ z. o ++ z) (append_assoc a (b ++ c) (v ++ n)) ∙ ap (λ z. o ++ (a ++ z)) (append_assoc b c (v ++ n)))
    ∙ sym (append_assoc (o ++ (a ++ (b ++ c))) v n ∙ append_assoc o (a ++ (b ++ c)) (v ++ n))

module _ (t : Tables) (code : ECode) (schedules : List (List SInstr)) (es : List Event) (show : Shown) (now : ℕ) where
  -- the lines of the list before and of the writes, then those of switches, reads and changes, then those of the list that begins
  pub instant_composed : (old new : List ℕ) → old ≡ old_lines t schedules es show (hyper t) now → new ≡ new_lines t schedules es show (hyper t) now
      → (old ++ path_lines t code show now (phase_path t code es now 1)) ++ (closing_text t code es show now ++ new) ≡ lines t code schedules es show now
  instant_composed old new is are =
      let values : List ℕ = cond (shows_values show) (lines_text t (value_lines t es now)) [] in
      let done : ℕ → List ℕ = λ phase. path_lines t code show now (phase_path t code es now phase) in
      regroup old (done 1) (done 2) (done 3) values new
      ∙ ap (λ z. old ++ z ++ values ++ new) (sym (phases_are t code es show now))
      ∙ ap₂ (λ (a b : List ℕ). a ++ path_lines t code show now (e_path t code es now) ++ values ++ b) is are

-- ---- counts

pub jobs_capped : (ls : List Left) (n : Tally) → n.jobs ≤ 2 ^ 64 - 1 → (with_records ls n).jobs ≡ min (n.jobs + count_by (λ (l : Left). l.finished) ls) (2 ^ 64 - 1)
jobs_capped [] n h = omega arith
jobs_capped (l ∷ ls) n h =
    by_done l.finished refl (λ m g. jobs_capped ls m g)
    ∙ ap (λ z. min (n.jobs + z) (2 ^ 64 - 1)) (sym (sum_by-cons (λ (l : Left). cond {A = ℕ} l.finished 1 0) l ls))
  where
    by_done : (b : Bool) → l.finished ≡ b → ((m : Tally) → m.jobs ≤ 2 ^ 64 - 1 → (with_records ls m).jobs ≡ min (m.jobs + count_by (λ (l : Left). l.finished) ls) (2 ^ 64 - 1))
        → (with_records ls (one_record l.finished n)).jobs ≡ min (n.jobs + (cond l.finished 1 0 + count_by (λ (l : Left). l.finished) ls)) (2 ^ 64 - 1)
    by_done true e more =
        let one : (one_record l.finished n).jobs ≡ min (n.jobs + 1) (2 ^ 64 - 1) = ap (λ b. cond b (min (n.jobs + 1) (2 ^ 64 - 1)) n.jobs) e in
        let is : ◌≡◌ {A = ℕ} (cond l.finished 1 0) 1 = ap (λ (b : Bool). cond {A = ℕ} b 1 0) e in
        more (one_record l.finished n) (omega (arith, one))
        ∙ (let z : min ((one_record l.finished n).jobs + count_by (λ (l : Left). l.finished) ls) (2 ^ 64 - 1) ≡ min (n.jobs + (cond l.finished 1 0 + count_by (λ (l : Left). l.finished) ls)) (2 ^ 64 - 1) = omega (arith, one, is) in z)
    by_done false e more =
        let one : (one_record l.finished n).jobs ≡ n.jobs = ap (λ b. cond b (min (n.jobs + 1) (2 ^ 64 - 1)) n.jobs) e in
        let is : ◌≡◌ {A = ℕ} (cond l.finished 1 0) 0 = ap (λ (b : Bool). cond {A = ℕ} b 1 0) e in
        more (one_record l.finished n) (omega (arith, one, h))
        ∙ (let z : min ((one_record l.finished n).jobs + count_by (λ (l : Left). l.finished) ls) (2 ^ 64 - 1) ≡ min (n.jobs + (cond l.finished 1 0 + count_by (λ (l : Left). l.finished) ls)) (2 ^ 64 - 1) = omega (arith, one, is) in z)

instrs_jobs : (k : ℕ) (n : Tally) → (with_instrs k n).jobs ≡ n.jobs
instrs_jobs zero n = refl
instrs_jobs (suc k) n = instrs_jobs k (one_instr n)

instrs_steps : (k : ℕ) (n : Tally) → (with_instrs k n).s ≡ n.s
instrs_steps zero n = refl
instrs_steps (suc k) n = instrs_steps k (one_instr n)

records_instrs : (ls : List Left) (n : Tally) → (with_records ls n).e ≡ n.e
records_instrs [] n = refl
records_instrs (l ∷ ls) n = records_instrs ls (one_record l.finished n)

-- the counts after an instant: those of the records of the round before, of the three phases and of the round that begins
module _ (old new : List Left) (a b c : ℕ) (n : Tally) where
  abbrev pub counts_after : Tally
  counts_after = with_records new (with_instrs c (with_instrs b (with_instrs a (with_records old n))))

  middle : Tally
  middle = with_instrs c (with_instrs b (with_instrs a (with_records old n)))

  pub jobs_after : n.jobs ≤ 2 ^ 64 - 1 → counts_after.jobs ≡ min (n.jobs + count_by (λ (l : Left). l.finished) (old ++ new)) (2 ^ 64 - 1)
  unfolding middle
  jobs_after h =
      let first : (with_records old n).jobs ≡ min (n.jobs + count_by (λ (l : Left). l.finished) old) (2 ^ 64 - 1) = jobs_capped old n h in
      let then : middle.jobs ≡ (with_records old n).jobs =
      instrs_jobs c (with_instrs b (with_instrs a (with_records old n))) ∙ instrs_jobs b (with_instrs a (with_records old n)) ∙ instrs_jobs a (with_records old n) in
      let last : counts_after.jobs ≡ min (middle.jobs + count_by (λ (l : Left). l.finished) new) (2 ^ 64 - 1) = jobs_capped new middle (omega (arith, first, then)) in
      let sum : count_by (λ (l : Left). l.finished) (old ++ new) ≡ count_by (λ (l : Left). l.finished) old + count_by (λ (l : Left). l.finished) new =
      sum_by-append (λ (l : Left). cond {A = ℕ} l.finished 1 0) old new in
      omega (arith, first, then, last, sum)

  pub steps_after : n.s ≤ 2 ^ 64 - 1 → counts_after.s ≡ min (n.s + length (old ++ new)) (2 ^ 64 - 1)
  unfolding middle
  steps_after h =
      let first : (with_records old n).s ≡ min (n.s + length old) (2 ^ 64 - 1) = steps_capped old n h in
      let then : middle.s ≡ (with_records old n).s =
      instrs_steps c (with_instrs b (with_instrs a (with_records old n))) ∙ instrs_steps b (with_instrs a (with_records old n)) ∙ instrs_steps a (with_records old n) in
      let last : counts_after.s ≡ min (middle.s + length new) (2 ^ 64 - 1) = steps_capped new middle (omega (arith, first, then)) in
      omega (arith, first, then, last, length-append old new)

  pub instrs_after : n.e ≤ 2 ^ 64 - 1 → counts_after.e ≡ min (n.e + (a + (b + c))) (2 ^ 64 - 1)
  unfolding middle
  instrs_after h =
      let start : (with_records old n).e ≡ n.e = records_instrs old n in
      let one : (with_instrs a (with_records old n)).e ≡ min ((with_records old n).e + a) (2 ^ 64 - 1) = instrs_capped a (with_records old n) (omega (arith, start)) in
      let two : (with_instrs b (with_instrs a (with_records old n))).e ≡ min ((with_instrs a (with_records old n)).e + b) (2 ^ 64 - 1) = instrs_capped b (with_instrs a (with_records old n)) (omega (arith, one)) in
      let three : middle.e ≡ min ((with_instrs b (with_instrs a (with_records old n))).e + c) (2 ^ 64 - 1) = instrs_capped c (with_instrs b (with_instrs a (with_records old n))) (omega (arith, two)) in
      let last : counts_after.e ≡ middle.e = records_instrs new middle in
      omega (arith, start, one, two, three, last)

-- the addresses of an instant are those of its phases
pub path_length : (t : Tables) (code : ECode) (es : List Event) (now : ℕ)
    → length (e_path t code es now) ≡ length (phase_path t code es now 1) + (length (phase_path t code es now 2) + length (phase_path t code es now 3))
path_length t code es now =
    ap length (whole_path t code es now) ∙ length-append (phase_path t code es now 1) (phase_path t code es now 2 ++ phase_path t code es now 3)
    ∙ ap (λ z. length (phase_path t code es now 1) + z) (length-append (phase_path t code es now 2) (phase_path t code es now 3))

-- ---- the records of an instant

lefts_are : (p q : Plan) (m n : ℕ) (xs ys : List Left) → map (λ (x : RunRecord). x.left) (plan_records p m xs ++ plan_records q n ys) ≡ xs ++ ys
lefts_are p q m n [] [] = refl
lefts_are p q m n [] (y ∷ ys) = ap (λ (ls : List Left). y ∷ ls) (lefts_are p q m n [] ys)
lefts_are p q m n (x ∷ xs) ys = ap (λ (ls : List Left). x ∷ ls) (lefts_are p q m n xs ys)

module _ (t : Tables) (schedules : List (List SInstr)) (es : List Event) (now : ℕ) where
  -- of the list that begins, where none does, and where one does
  pub new_going : (period : ℕ) → hyper t ≡ Some period → (turn_at t schedules es now).frame + (turn_at t schedules es now).from ≢ now → standing_new t schedules es (hyper t) now ≡ []
  new_going period root apart =
      let u = turn_at t schedules es now in
      ap (λ o. standing_new t schedules es o now) root
      ∙ ap (λ b. plan_records u.plan u.node (cond b (some_records u.plan u.frame 0 (left_before u (suc now))) [])) (ne_eqb (u.frame + u.from) now apart)

  pub new_beginning : (period : ℕ) → hyper t ≡ Some period → (turn_at t schedules es now).frame + (turn_at t schedules es now).from ≡ now
      → standing_new t schedules es (hyper t) now ≡ plan_records (turn_at t schedules es now).plan (turn_at t schedules es now).node (first_records t schedules es now)
  new_beginning period root here =
      let u = turn_at t schedules es now in
      ap (λ o. standing_new t schedules es o now) root
      ∙ ap (λ b. plan_records u.plan u.node (cond b (some_records u.plan u.frame 0 (left_before u (suc now))) [])) (eq-eqb (u.frame + u.from) now here)

  pub records_composed : (p q : Plan) (m n : ℕ) (xs ys : List Left) → plan_records p m xs ≡ old_records t schedules es (hyper t) now → new_records t schedules es (hyper t) now ≡ plan_records q n ys → records_at t schedules es now ≡ xs ++ ys
  records_composed p q m n xs ys old new = ap₂ (λ (us vs : List RunRecord). map (λ (x : RunRecord). x.left) (us ++ vs)) (sym old) new ∙ lefts_are p q m n xs ys

  -- so what is counted is what the instant counts
  module _ (code : ECode) (old new : List Left) (n m : Tally)
      (is : m ≡ counts_after old new (length (phase_path t code es now 1)) (length (phase_path t code es now 2)) (length (phase_path t code es now 3)) n) where
    abbrev phase : ℕ → ℕ
    phase k = length (phase_path t code es now k)

    pub jobs_are : records_at t schedules es now ≡ old ++ new → n.jobs ≡ jobs_done t schedules es now → m.jobs ≡ jobs_done t schedules es (suc now)
    jobs_are are was =
        ap (λ (z : Tally). z.jobs) is ∙ jobs_after old new (phase 1) (phase 2) (phase 3) n (omega (arith, was))
        ∙ ap₂ (λ k ls. min (k + count_by (λ (l : Left). l.finished) ls) (2 ^ 64 - 1)) was (sym are) ∙ sym (jobs_more t schedules es now)

    pub s_are : records_at t schedules es now ≡ old ++ new → n.s ≡ s_done t schedules es now → m.s ≡ s_done t schedules es (suc now)
    s_are are was =
        ap (λ (z : Tally). z.s) is ∙ steps_after old new (phase 1) (phase 2) (phase 3) n (omega (arith, was))
        ∙ ap₂ (λ k (ls : List Left). min (k + length ls) (2 ^ 64 - 1)) was (sym are) ∙ sym (s_more t schedules es now)

    pub e_are : n.e ≡ e_done t code es now → m.e ≡ min (n.e + length (e_path t code es now)) (2 ^ 64 - 1)
    e_are was =
        ap (λ (z : Tally). z.e) is ∙ instrs_after old new (phase 1) (phase 2) (phase 3) n (omega (arith, was))
        ∙ ap (λ k. min (n.e + k) (2 ^ 64 - 1)) (sym (path_length t code es now))
