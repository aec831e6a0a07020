-- What is finished after an instant's records is finished before the next, of the rounds that go on; of those that begin nothing is.
use Rattle.std.proofs.Common.{◌≡◌, ℕ, zero, suc, ◌-◌, ◌<◌, Bool, false, List, sym, ap, ◌∙◌, arith, inl, inr}
use Rattle.htl_runs.proofs.Words.{Event, Inv, Tables, mode_module, AreInRange, KeptApart, state, InvStands, count_left_before, done_by, last_position_done, finished_in, IsJob, Now, present_finished, finished_at, AreFrames, FinishedCarried, not_some}
use Rattle.htl_runs.proofs.{values.ModuleStays.began_before, frames.OwedJobs.not_yet}

module _ (t : Tables) (es : List Event) (now : ℕ → Now) (range : AreInRange t) (kept : KeptApart t 12) (frames : AreFrames t es now) where
  -- who begins isn't finished
  fresh_open : (n i : ℕ) (x : Inv) → InvStands t (state t es n).stays i x n → present_finished now (suc n) i ≡ false
  fresh_open n i x st = grind (arith, not_yet)

  -- who goes on has the same position
  kept_on : (n i : ℕ) (x : Inv) (s : ℕ) → InvStands t (state t es n).stays i x s → InvStands t (state t es (suc n)).stays i x s → present_finished now (suc (suc n)) i ≡ finished_at now (suc n) i
  kept_on n i x s st later = elim (frames.on n) [
    | inl begins ↦
        let was : s < suc n = began_before t range es (suc n) (mode_module t x.mode) (record { mode = x.mode; start = s }) st.in_round in
        absurd (omega (arith, ((frames.jobs_so_far (suc n)).has i x s later).1.begun, begins, was))
    | inr on ↦
        let a = (frames.jobs_so_far n).has i x s st in
        let b = (frames.jobs_so_far (suc n)).has i x s later in
        let f = now n in
        let g = now (suc n) in
        let done : ℕ → Bool = done_by f.walk (count_left_before (suc (suc n) - f.frame) f.walk) in
        let job : IsJob t g.jobs g.frame a.0 i x s = record {
          job = a.1.job;
          at = on.2 a.0 a.1.job a.1.at;
          present = a.1.present;
          inv = a.1.inv;
          begun = omega (arith, a.1.begun, on.0);
          release = omega (arith, a.1.release, on.0);
          end = omega (arith, a.1.end, on.0);
          worst = a.1.worst;
        } in
        ap (λ k. finished_in g.jobs (done_by g.walk (count_left_before (suc (suc n) - k) g.walk)) i) on.0
        ∙ ap (λ w. finished_in g.jobs (done_by w (count_left_before (suc (suc n) - f.frame) w)) i) on.1
        ∙ ap (last_position_done done) b.2 ∙ ap done ((frames.jobs_so_far (suc n)).once b.0 a.0 i s x b.1 job) ∙ sym (ap (last_position_done done) a.2)
  ]

pub finished_carried : FinishedCarried
finished_carried t es now range kept frames zero = grind (arith, not_some, fresh_open)
finished_carried t es now range kept frames (suc n) =
    record {
      kept = λ i x s st later. kept_on t es now range kept frames n i x s st later;
      fresh = λ i x st. fresh_open t es now range kept frames (suc n) i x st;
    }
