-- A frame whose lists meet serves each job once, in its window, in slices that are its own.
use Rattle.std.proofs.Common.{◌≡◌, ℕ, zero, suc, ◌-◌, ◌*◌, ◌≤◌, ◌<◌, Bool, true, false, cond, ◌&&◌, eqb, is_some, List, [], ◌∷◌, length, take, Option, Some, None, refl, sym, ap, ◌∙◌, arith, inl, inr}
use Rattle.htl_refine.proofs.Words.{eq-eqb, or_right, Job, SInstr, Leg, walks_from, end_to_end, AreInForm, Point, Left, first_point, is_position, finish, work_present, Frame, walk_of, done_by, IsServing, FramesServe, spent, Finishes, Serves, cases_less_more, same_Some}
use Rattle.htl_walk.proofs.Joining.{joined, show_joined}
use Rattle.htl_refine.proofs.{FinishingRecords.finish_record, FinishingRecords.finishing, FinishingRecords.finish_more, RecordOrder.not_some, RecordOrder.path_rises, RecordOrder.path_within, RecordOrder.counted, SliceOrder.path_apart}
use Rattle.htl_refine.proofs.SliceSums.{spent_is}

-- ---- once

done_stays : (ls : List Left) (k m p : ℕ) → k ≤ m → done_by ls k p ≡ true → done_by ls m p ≡ true
done_stays [] zero m p h e = absurd (let z : ⊥ = cc in z)
done_stays [] (suc k) m p h e = absurd (let z : ⊥ = cc in z)
done_stays (l ∷ ls) zero m p h e = absurd (let z : ⊥ = cc in z)
done_stays (l ∷ ls) (suc k) zero p h e = absurd (omega arith)
done_stays (l ∷ ls) (suc k) (suc m) p h e = by_test (is_position l.position p && l.finished) e (λ g. done_stays ls k m p (omega arith) g)
  where
    by_test : (b : Bool) → is_some (cond b (Some l.at) (finish (take k ls) p)) ≡ true → (is_some (finish (take k ls) p) ≡ true → is_some (finish (take m ls) p) ≡ true) → is_some (cond b (Some l.at) (finish (take m ls) p)) ≡ true
    by_test true g ih = refl
    by_test false g ih = ih g

-- after the record the job is done
done_after : (ls : List Left) (p k f : ℕ) → Finishes ls p k f → done_by ls (suc k) p ≡ true
done_after ls p k f r = finish_more ls k p r.0 r.1 ∙ or_right (done_by ls k p) (is_position r.0.position p && r.0.finished) (here r.0.position r.0.finished r.2 r.3)
  where
    here : (o : Option ℕ) (b : Bool) → o ≡ Some p → b ≡ true → (is_position o p && b) ≡ true
    here None b e f = not_some p e
    here (Some q) b e f = grind (arith, same_Some, eq-eqb)

module _ (jobs : List Job) (ss : List (List SInstr)) (gs : List Leg) (x : Point) (f : AreInForm ss gs) (p : ℕ) where
  not_before : (k m d e : ℕ) → k < m → Finishes (end_to_end (walks_from jobs ss gs x)) p k d → Finishes (end_to_end (walks_from jobs ss gs x)) p m e → ⊥
  not_before k m d e h a b =
      let w = end_to_end (walks_from jobs ss gs x) in
      let open_yet : done_by w m p ≡ false = (finishing jobs ss gs x m p b.0 f b.1 b.2 b.3).open_yet in
      let z : true ≡ false = sym (done_stays w (suc k) m p (omega arith) (done_after w p k d a)) ∙ open_yet in cc

  pub finish_once : (k m d e : ℕ) → Finishes (end_to_end (walks_from jobs ss gs x)) p k d → Finishes (end_to_end (walks_from jobs ss gs x)) p m e → k ≡ m
  finish_once k m d e a b = elim (cases_less_more k m) [ inl h ↦ absurd (not_before k m d e h a b) | inr (inl h) ↦ absurd (not_before m k e d h b a) | inr (inr z) ↦ z ]

pub frame_serves : (f : Frame) (h : ℕ) → IsServing f h → Serves f.jobs f.lengths (walk_of f)
frame_serves f h serving =
    let x = first_point f.jobs f.lengths in
    record {
      each = λ p j at here.
          let met = serving.meets p j at here in
          let r = finish_record (walk_of f) p met.finishes.0 met.finishes.1 in
          let done : Finishes (walk_of f) p r.0 met.finishes.0 = (r.1, r.2, r.3, r.4, r.5) in
          let same = show_joined f.jobs f.lists f.legs 0 h (length f.jobs) x p serving.forms serving.chain (omega arith) in
          record {
            finish_at = met.finishes.0;
            record_at = r.0;
            done = done;
            once = λ k g a. finish_once f.jobs f.lists f.legs x serving.forms p k r.0 g met.finishes.0 a done;
            in_time = met.finishes.2;
            within = met.within;
            whole = ap spent same.slices ∙ spent_is f.jobs (joined f.lists f.legs) x p met.finishes.0 (sym same.finish ∙ met.finishes.1) ∙ work_present f.jobs f.lengths p j at here;
            after = met.after;
          };
      apart = path_apart f.jobs f.lists f.legs 0 h (length f.jobs) x serving.forms serving.chain;
    }

-- ---- by the end of a run

pub frames_serve : FramesServe
frames_serve frames h end serving =
    record {
      jobs = λ k q j at here late.
          let s = k * h in
          let f = frames s in
          let v = (frame_serves f h (serving k)).each q j at here in
          record {
            served = v;
            told = counted 0 (suc end - s) (walk_of f) v.record_at v.done.0 (path_rises f.jobs f.lists f.legs 0 h (length f.jobs) (first_point f.jobs f.lengths) (serving k).forms (serving k).chain) v.done.1 (omega (arith, v.done.4, v.in_time, late));
          };
      apart = λ k. (frame_serves (frames (k * h)) h (serving k)).apart;
      inside = λ k i l at. let f = frames (k * h) in path_within f.jobs f.lists f.legs 0 h (length f.jobs) (first_point f.jobs f.lengths) i l (serving k).forms (serving k).chain at;
    }
