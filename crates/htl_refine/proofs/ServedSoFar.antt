-- The records of a frame serve the jobs that it has so far.
use Rattle.std.proofs.Common.{◌≡◌, ℕ, zero, suc, ◌≤◌, true, List, [], ◌∷◌, length, slice_get, take, sym, ap, ◌∙◌, arith}
use Rattle.htl_refine.proofs.Words.{length-take, Job, Left, job_at, first_point, walk, IsMet, work_some, walk_of, leg_at, FrontServed, ListServed, job_front}
use Rattle.htl_walk.proofs.Joining.{joined, show_joined}
use Rattle.htl_refine.proofs.{FinishingRecords.last_is, FinishingRecords.finish_record, FinishingRecords.finishing, Fronts.front_there, RecordOrder.path_rises}

front_present : (n : ℕ) (js : List Job) (p : ℕ) → (job_at (take n js) p).present ≡ true → (job_at js p).present ≡ true
front_present zero js p e = absurd (let z : ⊥ = cc in z)
front_present (suc n) (k ∷ js) (suc p) e = front_present n js p e
front_present (suc n) _ _ e = e

pub met_front : (n : ℕ) (js : List Job) (ls : List Left) (p : ℕ) (j : Job) → IsMet js ls p j → IsMet (take n js) ls p j
met_front n js ls p j m = record { finishes = m.finishes; within = m.within; after = λ q s b c e. m.after q s b (front_present n js q c) e }

pub front_served : FrontServed
front_served f h frame n m past serving within known =
    let x = first_point f.jobs f.lengths in
    let long : length (take m f.jobs) ≡ m = omega (arith, length-take m f.jobs, within) in
    record {
      rises = path_rises f.jobs f.lists f.legs 0 h (length f.jobs) x serving.forms serving.chain;
      meets = λ p k at here. let r = front_there m f.jobs p k at in met_front m f.jobs (walk_of f) p k (serving.meets p k r.0 here);
      late = λ p g l e.
          let same = show_joined f.jobs f.lists f.legs 0 h (length f.jobs) x p serving.forms serving.chain (omega arith) in
          let r = finish_record (walk f.jobs f.lengths (joined f.lists f.legs)) p g (sym same.finish ∙ e) in
          let last = last_is f.jobs p (joined f.lists f.legs) x r.0 r.1 r.2 r.3 r.4 in
          let jobs : job_at (take m f.jobs) p ≡ job_at f.jobs p = job_front m f.jobs p (omega (arith, l, long)) in
          (omega (arith, last.released, r.5, ap (λ (z : Job). z.release) jobs), (last.first.0, ap (λ ss. slice_get ss 0) same.slices ∙ last.first.1, omega (arith, last.first.2, r.5)));
      open_yet = λ k p l at pos fin few.
          let r = finishing f.jobs f.lists f.legs x k p l serving.forms at pos fin in
          (r.open_yet, ap (λ (z : Job). z.present) (job_front m f.jobs p (omega (arith, few, long))) ∙ work_some f.jobs f.lengths p r.some);
      known = λ k p l at pos fin early.
          let r = finishing f.jobs f.lists f.legs x k p l serving.forms at pos fin in
          omega (arith, r.known, known r.place r.there (omega (arith, r.before, early, past)), long);
    }

pub list_served : ListServed
list_served f h frame n j past serving within known = front_served f h frame n (leg_at f j).known past serving within known
