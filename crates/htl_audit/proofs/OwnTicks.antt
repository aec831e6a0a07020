-- A frame that meets: where its slices lie, whose ticks they are, and what they have before an instant.
use Rattle.std.proofs.Common.{◌≡◌, ◌≤◌, ◌<◌, inl, inr, ℕ, zero, suc, ◌+◌, ◌-◌, Bool, true, false, cond, ◌&&◌, eqb, leb, ltb, List, [], ◌∷◌, ◌++◌, slice_get, get_or, Option, Some, None, refl, sym, ap, ap₂, ◌∙◌, subst, arith}
use Rattle.htl_audit.proofs.Words.{eqb-true, eqb-false, eq-eqb, ltb-true, ltb-false, le-leb, and_from, Job, precedes, SInstr, Left, job_at, walk, first_point, is_position, slice_onto, slices, finish, AllWithin, Meets, job_is, job_there, work_some, work_present, slices_apart, spent_is, not_some, Slice, BeginningJobs, lies_in, ticks, cases_less_more, same_Some}
use Rattle.htl_audit.proofs.ClosedSlices.{Runs, runs_at, mine, onto, closed, IsClosed, closed_from, gives, given, given_less, given_all}
use Rattle.htl_audit.proofs.{Judging.lies, JobTests.next_counts}

-- what the processor is given: jobs, how long each takes, and one list
pub record Plan : Type 0 where
  pub jobs : List Job
  pub lengths : List ℕ
  pub schedule : List SInstr

abbrev pub walk_of : Plan → List Left
walk_of r = walk r.jobs r.lengths r.schedule

-- ---- slices of a position

-- a slice of the position is one of those that lie within
within_at : (a b q : ℕ) (ls : List Left) (k : ℕ) (l : Left) (u : ℕ × ℕ) → AllWithin a b (slices ls q) → slice_get ls k ≡ Some l → l.position ≡ Some q → l.slice ≡ Some u → (a ≤ u.0) × (u.1 ≤ b)
within_at a b q [] k l u all at of runs = not_some l at
within_at a b q (m ∷ ls) zero l u all at of runs =
    let same = same_Some _ _ at in
    let first : cond (is_position m.position q) (slice_onto m.slice (slices ls q)) (slices ls q) ≡ u ∷ slices ls q =
    ap₂ (λ (o : Option ℕ) (v : Option (ℕ × ℕ)). cond (is_position o q) (slice_onto v (slices ls q)) (slices ls q)) (ap (λ (x : Left). x.position) same ∙ of) (ap (λ (x : Left). x.slice) same ∙ runs)
    ∙ ap (λ (c : Bool). cond c (u ∷ slices ls q) (slices ls q)) (eq-eqb q q refl) in
    let here = subst (AllWithin a b) first all in
    (here.0, here.1)
within_at a b q (m ∷ ls) (suc k) l u all at of runs = within_at a b q ls k l u (rest (is_position m.position q) m.slice all) at of runs
  where
    rest : (c : Bool) (o : Option (ℕ × ℕ)) → AllWithin a b (cond c (slice_onto o (slices ls q)) (slices ls q)) → AllWithin a b (slices ls q)
    rest true (Some v) h = h.2
    rest true None h = h
    rest false o h = h

-- the first slice of a position, by a record of it
record HasFirst (ls : List Left) (p k : ℕ) : Type 0 where
  slice : ℕ × ℕ
  first : slice_get (slices ls p) 0 ≡ Some slice
  number : ℕ
  left : Left
  at : slice_get ls number ≡ Some left
  runs : left.slice ≡ Some slice
  early : number ≤ k

first_of : (ls : List Left) (p k : ℕ) (l : Left) (u : ℕ × ℕ) → slice_get ls k ≡ Some l → l.position ≡ Some p → l.slice ≡ Some u → HasFirst ls p k
first_of [] p k l u at of runs = not_some l at
first_of (m ∷ ls) p zero l u at of runs =
    let same = same_Some _ _ at in
    record {
      slice = u;
      first =
          ap₂ (λ (o : Option ℕ) (v : Option (ℕ × ℕ)). slice_get (cond (is_position o p) (slice_onto v (slices ls p)) (slices ls p)) 0) (ap (λ (x : Left). x.position) same ∙ of) (ap (λ (x : Left). x.slice) same ∙ runs)
          ∙ ap (λ (c : Bool). slice_get (cond c (u ∷ slices ls p) (slices ls p)) 0) (eq-eqb p p refl);
      number = 0;
      left = m;
      at = refl;
      runs = ap (λ (x : Left). x.slice) same ∙ runs;
      early = omega arith;
    }
first_of (m ∷ ls) p (suc k) l u at of runs = by (is_position m.position p) refl m.slice refl (first_of ls p k l u at of runs)
  where
    by : (b : Bool) → is_position m.position p ≡ b → (o : Option (ℕ × ℕ)) → m.slice ≡ o → HasFirst ls p k → HasFirst (m ∷ ls) p (suc k)
    by true is (Some v) has next =
        record {
          slice = v;
          first = ap₂ (λ (c : Bool) (o : Option (ℕ × ℕ)). slice_get (cond c (slice_onto o (slices ls p)) (slices ls p)) 0) is has;
          number = 0;
          left = m;
          at = refl;
          runs = has;
          early = omega arith;
        }
    by true is None has next =
        record {
          slice = next.slice;
          first = ap₂ (λ (c : Bool) (o : Option (ℕ × ℕ)). slice_get (cond c (slice_onto o (slices ls p)) (slices ls p)) 0) is has ∙ next.first;
          number = suc next.number;
          left = next.left;
          at = next.at;
          runs = next.runs;
          early = omega (arith, next.early);
        }
    by false is o has next =
        record {
          slice = next.slice;
          first = ap (λ (c : Bool). slice_get (cond c (slice_onto m.slice (slices ls p)) (slices ls p)) 0) is ∙ next.first;
          number = suc next.number;
          left = next.left;
          at = next.at;
          runs = next.runs;
          early = omega (arith, next.early);
        }

-- ---- a frame that meets

-- its jobs are done in their windows, within its period, and no invocation has two at a time
pub record IsSound (r : Plan) (period : ℕ) : Type 0 where
  pub meets : Meets r.jobs r.lengths r.schedule
  pub once : (p q : ℕ) (j k : Job) → slice_get r.jobs p ≡ Some j → slice_get r.jobs q ≡ Some k → j.present ≡ true → k.present ≡ true → j.inv ≡ k.inv → j.release < k.end → k.release < j.end → p ≡ q
  pub inside : (k : ℕ) (l : Left) → slice_get (walk_of r) k ≡ Some l → l.at ≤ period
  pub ends : (p : ℕ) (j : Job) → slice_get r.jobs p ≡ Some j → j.present ≡ true → j.end ≤ period

-- the same, as rounds that begin together
abbrev pub audited : Plan → ℕ → BeginningJobs
audited r s = record { start = s; jobs = r.jobs; lengths = r.lengths }

-- a slice that closes is of a present job, in whose window it lies
pub record IsOwn (r : Plan) (s now : ℕ) (x : Slice) : Type 0 where
  pub from : IsClosed r.jobs s now (walk_of r) x
  pub job : slice_get r.jobs from.position ≡ Some (job_at r.jobs from.position)
  pub present : (job_at r.jobs from.position).present ≡ true
  pub room : from.slice.0 < from.slice.1
  pub ends : from.slice.1 ≡ from.left.at
  pub early : (job_at r.jobs from.position).release ≤ from.slice.0
  pub late : from.slice.1 ≤ (job_at r.jobs from.position).end

module _ (r : Plan) (s period : ℕ) (sound : IsSound r period) where
  pub runs : (k : ℕ) (l : Left) (u : ℕ × ℕ) → slice_get (walk_of r) k ≡ Some l → l.slice ≡ Some u → Runs (λ p. (job_at r.jobs p).present ≡ true) l u
  runs k l u at has = runs_at r.jobs r.schedule (first_point r.jobs r.lengths) (λ p. (job_at r.jobs p).present ≡ true) (λ p more. work_some r.jobs r.lengths p more) k l u at has

  pub own : (now i : ℕ) (x : Slice) → slice_get (closed r.jobs s now (walk_of r)) i ≡ Some x → IsOwn r s now x
  own now i x at =
      let c = closed_from r.jobs s now (walk_of r) i x at in
      let w = runs c.number c.left c.slice c.at c.runs in
      let same : w.position ≡ c.position = same_Some _ _ (sym w.of ∙ c.of) in
      let here : (job_at r.jobs c.position).present ≡ true = ap (λ (p : ℕ). (job_at r.jobs p).present) (sym same) ∙ w.has in
      let job = job_there r.jobs c.position here in
      let j = job_at r.jobs c.position in
      let lies = within_at j.release j.end c.position (walk_of r) c.number c.left c.slice (sound.meets c.position j job here).within c.at c.of c.runs in
      record { from = c; job = job; present = here; room = w.room; ends = w.ends; early = lies.0; late = lies.1 }

  -- a slice in the window of a job
  in_window : (j : Job) (x : Slice) → j.present ≡ true → x.inv ≡ j.inv → s + j.release ≤ x.from → x.to ≤ s + j.end → lies_in (audited r s) j x ≡ true
  in_window j x here inv from to =
      and_from (j.present && eqb x.inv j.inv && leb (s + j.release) x.from) (leb x.to (s + j.end))
      (and_from (j.present && eqb x.inv j.inv) (leb (s + j.release) x.from) (and_from j.present (eqb x.inv j.inv) here (eq-eqb x.inv j.inv inv)) (le-leb (s + j.release) x.from from))
      (le-leb x.to (s + j.end) to)

  pub own_lies : (now : ℕ) (x : Slice) (o : IsOwn r s now x) → lies_in (audited r s) (job_at r.jobs o.from.position) x ≡ true
  own_lies now x o =
      let c = o.from in
      subst (λ y. lies_in (audited r s) (job_at r.jobs c.position) y ≡ true) c.is
      (in_window (job_at r.jobs c.position) (record { from = s + c.slice.0; to = s + c.slice.1; inv = (job_at r.jobs c.position).inv }) o.present refl (omega (arith, o.early)) (omega (arith, o.late)))

  -- ---- the ticks of the job at a position

  module _ (p : ℕ) (j : Job) (at : slice_get r.jobs p ≡ Some j) (here : j.present ≡ true) where
    -- those of a record
    ticks_of : (k : ℕ) (l : Left) → slice_get (walk_of r) k ≡ Some l → ticks (audited r s) j (onto (mine r.jobs s l.position l.slice) []) ≡ gives p l
    ticks_of k l is = by l.position l.slice refl refl
      where
        by : (o : Option ℕ) (sl : Option (ℕ × ℕ)) → l.position ≡ o → l.slice ≡ sl
            → ticks (audited r s) j (onto (mine r.jobs s o sl) []) ≡ cond (is_position o p) (elim sl as (λ _. ℕ) [ Some u ↦ u.1 - u.0 | None ↦ 0 ]) 0
        by None sl of has = refl
        by (Some q) None of has = none (eqb q p)
          where
            none : (b : Bool) → 0 ≡ cond {A = ℕ} b 0 0
            none true = refl
            none false = refl
        by (Some q) (Some u) of has = by_position (eqb q p) refl
          where
            by_lies : (b : Bool) → lies_in (audited r s) j (record { from = s + u.0; to = s + u.1; inv = (job_at r.jobs q).inv }) ≡ b → eqb q p ≡ false → cond b (s + u.1 - (s + u.0)) 0 + 0 ≡ 0
            by_lies false e differ = refl
            by_lies true e differ =
                let w = runs k l u is has in
                let same : w.position ≡ q = same_Some _ _ (sym w.of ∙ of) in
                let there : (job_at r.jobs q).present ≡ true = ap (λ (p : ℕ). (job_at r.jobs p).present) (sym same) ∙ w.has in
                let own = within_at (job_at r.jobs q).release (job_at r.jobs q).end q (walk_of r) k l u (sound.meets q (job_at r.jobs q) (job_there r.jobs q there) there).within is of has in
                let lie = lies (audited r s) j (record { from = s + u.0; to = s + u.1; inv = (job_at r.jobs q).inv }) e in
                absurd
                (eqb-false q p differ
                (sound.once q p (job_at r.jobs q) j (job_there r.jobs q there) at there here lie.inv (omega (arith, own.0, w.room, lie.to)) (omega (arith, own.1, w.room, lie.from))))

            by_position : (b : Bool) → eqb q p ≡ b
                → cond (lies_in (audited r s) j (record { from = s + u.0; to = s + u.1; inv = (job_at r.jobs q).inv })) (s + u.1 - (s + u.0)) 0 + 0 ≡ cond b (u.1 - u.0) 0
            by_position false e = by_lies (lies_in (audited r s) j (record { from = s + u.0; to = s + u.1; inv = (job_at r.jobs q).inv })) refl e
            by_position true e =
                let job : job_at r.jobs q ≡ j = ap (job_at r.jobs) (eqb-true q p e) ∙ job_is r.jobs p j at in
                let mine_at : l.position ≡ Some p = of ∙ ap (λ (z : ℕ). Some z) (eqb-true q p e) in
                let lie = within_at j.release j.end p (walk_of r) k l u (sound.meets p j at here).within is mine_at has in
                let inside =
                in_window j (record { from = s + u.0; to = s + u.1; inv = (job_at r.jobs q).inv }) here (ap (λ (z : Job). z.inv) job) (omega (arith, lie.0)) (omega (arith, lie.1)) in
                omega (arith, ap (λ (b : Bool). cond b (s + u.1 - (s + u.0)) 0) inside)

    -- those of the slices that close at an instant are those of its records
    ticks_then : (now : ℕ) (ls : List Left) → ((k : ℕ) (l : Left) → slice_get ls k ≡ Some l → ticks (audited r s) j (onto (mine r.jobs s l.position l.slice) []) ≡ gives p l)
        → ticks (audited r s) j (closed r.jobs s now ls) + given p s now ls ≡ given p s (suc now) ls
    ticks_then now [] each = refl
    ticks_then now (l ∷ ls) each =
        omega (arith, more (eqb (s + l.at) now) (mine r.jobs s l.position l.slice), ap (λ (n : ℕ). cond (eqb (s + l.at) now) n 0) (each 0 l refl), next_counts (s + l.at) now (gives p l), ticks_then now ls (λ k m at. each (suc k) m at))
      where
        more : (b : Bool) (o : Option Slice)
            → ticks (audited r s) j (cond b (onto o (closed r.jobs s now ls)) (closed r.jobs s now ls)) ≡ cond b (ticks (audited r s) j (onto o [])) 0 + ticks (audited r s) j (closed r.jobs s now ls)
        more false o = omega arith
        more true None = omega arith
        more true (Some x) = omega arith

    pub ticks_now : (now : ℕ) → ticks (audited r s) j (closed r.jobs s now (walk_of r)) + given p s now (walk_of r) ≡ given p s (suc now) (walk_of r)
    ticks_now now = ticks_then now (walk_of r) ticks_of

    -- never more than the job takes
    pub never_over : (now : ℕ) → given p s now (walk_of r) ≤ get_or r.lengths p 0
    never_over now =
        let done = (sound.meets p j at here).finishes in
        let all = spent_is r.jobs r.schedule (first_point r.jobs r.lengths) p done.0 done.1 ∙ work_present r.jobs r.lengths p j at here in
        omega (arith, given_less p s now (walk_of r), all)

    -- all of them behind its finish
    pub all_given : (f now : ℕ) → finish (walk_of r) p ≡ Some f → s + f < now → given p s now (walk_of r) ≡ get_or r.lengths p 0
    all_given f now done before = given_all r.jobs r.schedule (first_point r.jobs r.lengths) p s f now done before ∙ work_present r.jobs r.lengths p j at here

    -- so behind its window
    pub window_given : (now : ℕ) → s + j.end < now → given p s now (walk_of r) ≡ get_or r.lengths p 0
    window_given now before = let done = (sound.meets p j at here).finishes in all_given done.0 now done.1 (omega (arith, before, done.2))

    -- a predecessor has all of its ticks before the end of a slice of the job
    pub ready : (k : ℕ) (l : Left) (u : ℕ × ℕ) → slice_get (walk_of r) k ≡ Some l → l.position ≡ Some p → l.slice ≡ Some u → (q : ℕ) → precedes q j ≡ true → (job_at r.jobs q).present ≡ true
        → (f : ℕ) × (finish (walk_of r) q ≡ Some f) × (f < u.1)
    ready k l u is of has q before there =
        let first = first_of (walk_of r) p k l u is of has in
        let done = (sound.meets p j at here).after q first.slice before there first.first in
        let room = (runs k l u is has).room in
        let early = (runs first.number first.left first.slice first.at first.runs).room in
        let starts : first.slice.0 < u.1 = elim (cases_less_more first.number k) [
          | inl less ↦ (let apart = slices_apart r.jobs r.schedule (first_point r.jobs r.lengths) first.number k first.left l first.slice u less first.at is first.runs has in omega (arith, apart, early, room))
          | inr (inl more) ↦ absurd (omega (arith, more, first.early))
          | inr (inr same) ↦ (let one = same_Some _ _ (sym first.runs ∙ ap (λ (z : Left). z.slice) (same_Some _ _ (sym first.at ∙ ap (slice_get (walk_of r)) same ∙ is)) ∙ has) in omega (arith, room, ap (λ (z : ℕ × ℕ). z.0) one))
        ] in
        (done.0, done.1, omega (arith, done.2, starts))

  -- ---- a slice that closes earlier ends before a later one begins

  pub before : (now then : ℕ) (x y : Slice) (a : IsOwn r s now x) (b : IsOwn r s then y) → then < now → y.to ≤ x.from
  before now then x y a b less =
      let c = a.from in
      let d = b.from in
      let to : s + d.slice.1 ≡ y.to = ap (λ (z : Slice). z.to) d.is in
      let from : s + c.slice.0 ≡ x.from = ap (λ (z : Slice). z.from) c.is in
      let apart : d.slice.1 ≤ c.slice.0 = elim (cases_less_more d.number c.number) [
        | inl first ↦ slices_apart r.jobs r.schedule (first_point r.jobs r.lengths) d.number c.number d.left c.left d.slice c.slice first d.at c.at d.runs c.runs
        | inr (inl second) ↦
            (let apart = slices_apart r.jobs r.schedule (first_point r.jobs r.lengths) c.number d.number c.left d.left c.slice d.slice second c.at d.at c.runs d.runs in
            absurd (omega (arith, apart, b.room, less, c.then, d.then, a.ends, b.ends)))
        | inr (inr same) ↦ (let one = same_Some _ _ (sym d.at ∙ ap (slice_get (walk_of r)) same ∙ c.at) in absurd (omega (arith, ap (λ (z : Left). z.at) one, less, c.then, d.then)))
      ] in
      omega (arith, to, from, apart)
