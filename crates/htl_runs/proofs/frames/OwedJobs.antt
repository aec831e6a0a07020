-- What the processor owes at an instant of a frame, from jobs that stand and records that serve them: each of the facts on which values rest.
use Rattle.std.proofs.Common.{◌≡◌, ℕ, zero, suc, ◌+◌, ◌-◌, ◌≤◌, ◌<◌, Bool, true, false, cond, ◌&&◌, ◌||◌, eqb, is_some, List, [], ◌∷◌, length, slice_get, take, Option, Some, None, refl, sym, ap, ◌∙◌, subst, arith}
use mathlib.Core.Path.{fun_ext}
use Rattle.htl_runs.proofs.Words.{eqb-true, eq-eqb, ne_eqb, and_from, slice_get_within, same_Some, Event, Inv, End, Stay, Tables, mode_period, mode_module, release, AreInRange, KeptApart, before, stay_of, writer_from, Job, precedes, Left, job_at, is_position, finish, slices, DoneBy, job_there, job_is, InvStands, IsDue, IsPast, HasReadInputs, Ready, Orders, and_also, count_left_before, done_by, IsServedSoFar, done_is, position_from, last_position_done, finished_in, IsJob, AreJobsSoFar, finish_or, rank_at, rank, not_some, finish_more}
use Rattle.htl_model.specs.declared.parts.End.TheVariants as E
use Rattle.htl_runs.proofs.{values.JobOutputs.writer_is, values.JobOutputs.writer_stands, records.DoneBefore.done_early, records.DoneBefore.done_exactly}
use Rattle.htl_runs.proofs.frames.JobWindows.{reads_before_release, end_before_writes, position_some, finished_is, is_finished}

-- the first record that finishes a position tells when it does
finish_first : (ls : List Left) (k p : ℕ) (l : Left) → slice_get ls k ≡ Some l → (is_position l.position p && l.finished) ≡ true → done_by ls k p ≡ false → finish ls p ≡ Some l.at
finish_first [] k p l at last open_yet = not_some l at
finish_first (m ∷ ls) zero p l at last open_yet = grind (arith, same_Some)
finish_first (m ∷ ls) (suc k) p l at last open_yet = by_test (is_position m.position p && m.finished) open_yet (λ g. finish_first ls k p l at last g)
  where
    by_test : (b : Bool) → is_some (cond b (Some m.at) (finish (take k ls) p)) ≡ false → (done_by ls k p ≡ false → finish ls p ≡ Some l.at) → cond b (Some m.at) (finish ls p) ≡ Some l.at
    by_test true g ih = absurd (let z : ⊥ = cc in z)
    by_test false g ih = ih g

-- ---- at an instant of the frame

module _ (t : Tables) (range : AreInRange t) (kept : KeptApart t 12) (stays : List (Option Stay)) (frame n : ℕ) (jobs : List Job) (ls : List Left)
    (jobs_so_far : AreJobsSoFar t stays frame n jobs) (run : IsServedSoFar jobs ls frame n) where
  -- who finishes was released before, and began before
  pub finish_late : (p f : ℕ) → p < length jobs → finish ls p ≡ Some f → ((job_at jobs p).release < f) × ((z : ℕ × ℕ) × (slice_get (slices ls p) 0 ≡ Some z) × (z.0 < f))
  finish_late p f h e = run.late p f h e

  -- a predecessor finishes earlier
  pred_early : (p q f : ℕ) (j k : Job) → slice_get jobs p ≡ Some j → j.present ≡ true → slice_get jobs q ≡ Some k → k.present ≡ true → precedes q (job_at jobs p) ≡ true → finish ls p ≡ Some f
      → (g : ℕ) × (finish ls q ≡ Some g) × (g < f)
  pred_early p q f j k at here qat qhere before e =
      let z = (finish_late p f (slice_get_within jobs p j at) e).1 in
      let d : DoneBy ls q z.0.0 =
      (run.meets p j at here).after q z.0 (subst (λ w. precedes q w ≡ true) (job_is jobs p j at) before) (ap (λ w. w.present) (job_is jobs q k qat) ∙ qhere) z.1 in
      (d.0, d.1, omega (arith, d.2, z.2))

  -- a job that finishes has read all, and what it reads from is finished
  has_read : (now f p i : ℕ) (x : Inv) (s : ℕ) (finished : ℕ → Bool) → InvStands t stays i x s → IsJob t jobs frame p i x s → finish ls p ≡ Some f → frame + f ≤ now
      → ((q w g : ℕ) (y : Inv) → IsJob t jobs frame q w y s → position_from 0 jobs w ≡ Some q → finish ls q ≡ Some g → g < f → finished w ≡ true) → HasReadInputs t now finished x s
  has_read now f p i x s finished st job e late done =
      record { comms = λ k e at. by_end k e at; ports = λ k a w o at wr. by_port k a w o at wr }
    where
      released : s + release t x < frame + f
      released = omega (arith, (finish_late p f (slice_get_within jobs p job.job job.at) e).0, ap (λ (z : Job). z.release) (job_is jobs p job.job job.at), job.release)

      by_end : (k : ℕ) (d : End) → slice_get x.reads k ≡ Some d → IsPast t s now d
      by_end k (E.Comm c m) at = omega (arith, reads_before_release t 0 x.reads k c m at, released, late)
      by_end k (E.Port a) at = tt

      by_port : (k a w o : ℕ) → slice_get x.reads k ≡ Some (E.Port a) → writer_from x.mode a 0 t.invs ≡ Some (w, o) → finished w ≡ true
      by_port k a w o at wr =
          let d = writer_is t x.mode a w o wr in
          let q = jobs_so_far.has w d.inv s (writer_stands t range kept stays i s x k a w o st at d) in
          let g = pred_early p q.0 f job.job q.1.job job.at job.present q.1.at q.1.present (jobs_so_far.preds p q.0 i w o k a s x d.inv job q.1 st.known d.known at wr) e in
          done q.0 w g.0 d.inv q.1 q.2 g.1 g.2

  -- who is done by the records before an offset has read all by then
  pub reads_to : (e now i : ℕ) (x : Inv) (s : ℕ) → frame + e ≤ suc now → InvStands t stays i x s → finished_in jobs (done_by ls (count_left_before e ls)) i ≡ true
      → HasReadInputs t now (finished_in jobs (done_by ls (count_left_before e ls))) x s
  reads_to e now i x s late st fin =
      let p = jobs_so_far.has i x s st in
      let d = finished_is jobs (done_by ls (count_left_before e ls)) i fin in
      let place : d.0 ≡ p.0 = same_Some _ _ (sym d.1 ∙ p.2) in
      let f = done_is e ls d.0 d.2 in
      has_read now f.0 p.0 i x s (finished_in jobs (done_by ls (count_left_before e ls))) st p.1 (subst (λ z. finish ls z ≡ Some f.0) place f.1) (omega (arith, f.2, late))
      (λ q w g y job at h less. is_finished jobs (done_by ls (count_left_before e ls)) w q at (done_exactly e 0 ls q g run.rises h (omega (arith, less, f.2))))

  abbrev pub count_to : ℕ → ℕ
  count_to now = count_left_before (suc (now - frame)) ls

  abbrev pub finished_to : ℕ → ℕ → Bool
  finished_to now i = finished_in jobs (done_by ls (count_to now)) i

  -- once all records up to the instant are done, what is due is finished, and what is finished has read all
  pub is_ready : (es : List Event) (now : ℕ) → (before t es now).stays ≡ stays → frame ≤ now → Ready t es now (finished_to now)
  is_ready es now same past =
      record {
        in_time = λ i k c due. in_time i k c (subst (λ z. IsDue t z now i k c) same due);
        after_reads = λ i x s st fin. reads_to (suc (now - frame)) now i x s (omega (arith, past)) (subst (λ z. InvStands t z i x s) same st) fin;
      }
    where
      in_time : (i k c : ℕ) → IsDue t stays now i k c → finished_to now i ≡ true
      in_time i k c due =
          let p = jobs_so_far.has i due.inv due.start due.stands in
          let job = p.1 in
          let met = run.meets p.0 job.job job.at job.present in
          let early : met.finishes.0 < suc (now - frame) =
          omega (arith, met.finishes.2, job.end, end_before_writes t (mode_period t due.inv.mode) due.inv.writes k c due.instance due.end, due.at, past) in
          is_finished jobs (done_by ls (count_to now)) i p.0 p.2 (done_exactly (suc (now - frame)) 0 ls p.0 met.finishes.0 run.rises met.finishes.1 early)

  -- who stands since this instant isn't finished by the records up to it
  pub not_yet : (e i : ℕ) (x : Inv) (s : ℕ) → frame + e ≤ suc s → InvStands t stays i x s → finished_in jobs (done_by ls (count_left_before e ls)) i ≡ false
  not_yet e i x s early st = by_test (finished_in jobs (done_by ls (count_left_before e ls)) i) refl
    where
      by_test : (b : Bool) → finished_in jobs (done_by ls (count_left_before e ls)) i ≡ b → b ≡ false
      by_test false g = refl
      by_test true g =
          let p = jobs_so_far.has i x s st in
          let d = finished_is jobs (done_by ls (count_left_before e ls)) i g in
          let f = done_is e ls d.0 d.2 in
          let l = finish_late p.0 f.0 (slice_get_within jobs p.0 p.1.job p.1.at) (subst (λ z. finish ls z ≡ Some f.0) (same_Some _ _ (sym d.1 ∙ p.2)) f.1) in
          absurd (omega (arith, l.0, ap (λ (z : Job). z.release) (job_is jobs p.0 p.1.job p.1.at), p.1.release, f.2, early))

  -- ---- one record that finishes a job

  pub record IsCompletion (k p : ℕ) : Type 0 where
    pub number : ℕ
    pub inv : Inv
    pub start : ℕ
    pub stands : InvStands t stays number inv start
    pub job : IsJob t jobs frame p number inv start
    pub unfinished : finished_in jobs (done_by ls k) number ≡ false
    pub read : HasReadInputs t (suc n) (finished_in jobs (done_by ls k)) inv start
    pub order : Orders t inv.mode (rank jobs ls)
    pub later : finished_in jobs (done_by ls (suc k)) ≡ and_also number (finished_in jobs (done_by ls k))

  rank_is : (p i f : ℕ) → position_from 0 jobs i ≡ Some p → finish ls p ≡ Some f → rank jobs ls i ≡ f
  rank_is p i f at e = ap (rank_at ls) at ∙ ap finish_or e

  pub in_order : (m s : ℕ) → stay_of stays (mode_module t m) ≡ Some (record { mode = m; start = s }) → Orders t m (rank jobs ls)
  in_order m s there i x k a w o known con mode at wr =
      let st : InvStands t stays i x s =
      record {
        known = known;
        concrete = con;
        in_round = ap (λ z. stay_of stays (mode_module t z)) mode ∙ there ∙ ap (λ z. Some (record { mode = z; start = s })) (sym mode);
      } in
      let wr' : writer_from x.mode a 0 t.invs ≡ Some (w, o) = ap (λ z. writer_from z a 0 t.invs) mode ∙ wr in
      let d = writer_is t x.mode a w o wr' in
      let p = jobs_so_far.has i x s st in
      let q = jobs_so_far.has w d.inv s (writer_stands t range kept stays i s x k a w o st at d) in
      let met = run.meets p.0 p.1.job p.1.at p.1.present in
      let g = pred_early p.0 q.0 met.finishes.0 p.1.job q.1.job p.1.at p.1.present q.1.at q.1.present (jobs_so_far.preds p.0 q.0 i w o k a s x d.inv p.1 q.1 known d.known at wr') met.finishes.1 in
      omega (arith, rank_is p.0 i met.finishes.0 p.2 met.finishes.1, rank_is q.0 w g.0 q.2 g.1, g.2)

  is_last : (p : ℕ) (o : Option ℕ) (b : Bool) → o ≡ Some p → b ≡ true → (is_position o p && b) ≡ true
  is_last p None b e f = not_some p e
  is_last p (Some q) b e f = let same : q ≡ p = same_Some _ _ e in and_from (eqb q p) b (eq-eqb q p same) f

  -- a record of this instant
  pub completes : (k p : ℕ) (l : Left) → slice_get ls k ≡ Some l → l.position ≡ Some p → l.finished ≡ true → n < frame + l.at → frame + l.at ≤ suc n → IsCompletion k p
  completes k p l at pos fin fresh late =
      let last = run.open_yet k p l at pos fin (run.known k p l at pos fin late) in
      let jat : slice_get jobs p ≡ Some (job_at jobs p) = job_there jobs p last.1 in
      let i = (job_at jobs p).inv in
      let done : finish ls p ≡ Some l.at = finish_first ls k p l at (is_last p l.position l.finished pos fin) last.0 in
      let met = run.meets p (job_at jobs p) jat last.1 in
      let within : l.at ≤ (job_at jobs p).end = omega (arith, met.finishes.2, same_Some _ _ (sym met.finishes.1 ∙ done)) in
      let st = jobs_so_far.stands p (job_at jobs p) jat last.1 (omega (arith, within, fresh)) in
      let h = jobs_so_far.has i st.0 st.1 st.2 in
      let here : position_from 0 jobs i ≡ Some p = h.2 ∙ ap (λ z. Some z) (jobs_so_far.once h.0 p i st.1 st.0 h.1 st.3) in
      record {
        number = i;
        inv = st.0;
        start = st.1;
        stands = st.2;
        job = st.3;
        unfinished = ap (last_position_done (done_by ls k)) here ∙ last.0;
        read =
            has_read (suc n) l.at p i st.0 st.1 (finished_in jobs (done_by ls k)) st.2 st.3 done late
            (λ q w g y jq qat e less. is_finished jobs (done_by ls k) w q qat (ap is_some (done_early 0 ls k q g run.rises e (λ m mat. omega (arith, less, ap (λ (z : Left). z.at) (same_Some _ _ (sym at ∙ mat)))))));
        order = in_order st.0.mode st.1 st.2.in_round;
        later = fun_ext (λ m. one_more i here m (position_from 0 jobs m) refl);
      }
    where
      one_more : (i : ℕ) → position_from 0 jobs i ≡ Some p → (m : ℕ) (o : Option ℕ) → position_from 0 jobs m ≡ o → finished_in jobs (done_by ls (suc k)) m ≡ and_also i (finished_in jobs (done_by ls k)) m
      one_more i here m None e =
          let other : eqb m i ≡ false = ne_eqb m i (λ z. not_some p (sym e ∙ ap (position_from 0 jobs) z ∙ here)) in
          ap (last_position_done (done_by ls (suc k))) e ∙ sym (ap (λ b. b || finished_in jobs (done_by ls k) m) other ∙ ap (last_position_done (done_by ls k)) e)
      one_more i here m (Some q) e =
          ap (last_position_done (done_by ls (suc k))) e
          ∙ finish_more ls k q l at
          ∙ by_place (eqb p q) refl
          ∙ sym (ap (λ o. eqb m i || last_position_done (done_by ls k) o) e)
        where
          swap : (a b : Bool) → (a || b) ≡ (b || a)
          swap true true = refl
          swap true false = refl
          swap false true = refl
          swap false false = refl

          -- the position that the record finishes
          at_position : (o : Option ℕ) (b : Bool) → o ≡ Some p → b ≡ true → (is_position o q && b) ≡ eqb p q
          at_position None b e f = not_some p e
          at_position (Some a) b e f = ap (λ c. eqb a q && c) f ∙ and_true (eqb a q) ∙ ap (λ z. eqb z q) (same_Some _ _ e)
            where
              and_true : (c : Bool) → (c && true) ≡ c
              and_true true = refl
              and_true false = refl

          inv_of : (d : ℕ) → position_from 0 jobs m ≡ Some d → (job_at jobs d).inv ≡ m
          inv_of d f =
              let w = position_some 0 jobs m d f in
              ap (λ z. (job_at jobs z).inv) (omega (arith, w.1)) ∙ ap (λ (z : Job). z.inv) (job_is jobs w.0 w.2 w.3) ∙ w.5

          inv_of' : (d : ℕ) → position_from 0 jobs i ≡ Some d → (job_at jobs d).inv ≡ i
          inv_of' d f =
              let w = position_some 0 jobs i d f in
              ap (λ z. (job_at jobs z).inv) (omega (arith, w.1)) ∙ ap (λ (z : Job). z.inv) (job_is jobs w.0 w.2 w.3) ∙ w.5

          by_place : (b : Bool) → eqb p q ≡ b → (done_by ls k q || (is_position l.position q && l.finished)) ≡ (eqb m i || done_by ls k q)
          by_place true f =
              let one : m ≡ i = sym (inv_of q e) ∙ ap (λ z. (job_at jobs z).inv) (sym (eqb-true p q f)) ∙ inv_of' p here in
              ap (λ b. done_by ls k q || b) (at_position l.position l.finished pos fin ∙ f) ∙ swap (done_by ls k q) true ∙ sym (ap (λ b. b || done_by ls k q) (eq-eqb m i one))
          by_place false f =
              let differ : eqb m i ≡ false = ne_eqb m i (λ z. let same : q ≡ p = same_Some _ _ (sym e ∙ ap (position_from 0 jobs) z ∙ here) in let y : true ≡ false = sym (eq-eqb p q (sym same)) ∙ f in cc) in
              ap (λ b. done_by ls k q || b) (at_position l.position l.finished pos fin ∙ f) ∙ swap (done_by ls k q) false ∙ sym (ap (λ b. b || done_by ls k q) differ)
