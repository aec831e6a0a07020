-- A list that is written instruction by instruction.
use Rattle.std.proofs.Common.{◌≡◌, ◌<◌, ◌+◌, ℕ, suc, Bool, cond, List, [], ◌∷◌, ◌++◌, length, drop, get_or, map, Option, Some, slice_get, Ok, Err, refl, sym, ap, ◌∙◌, subst, arith, append-nil, get_or-set_same}
use Rattle.htl_plan.proofs.Words.{append_known, drop-cons, flat_map-cons, slice_get_within, get_or_from_slice_get, ext_get_or, length-map, drop_all, AppendsPrefix, Puts, Tables, Job, SInstr, Dispatch, Point, Left, walk_from, last_point, work, worst_cases, next_point, finished_by, left_by, dispatched, dispatch_begins, slice_between, slice_of, finishes_by, work_after, job_at, slice_text, done_text, left_text, walk_text, finishes, work_of}

-- ---- the work at first

map_work : (jobs : List Job) → map work_of jobs ≡ work jobs (worst_cases jobs)
map_work [] = refl
map_work (j ∷ js) = ap (λ (ns : List ℕ). work_of j ∷ ns) (map_work js)

pub work_filled : (jobs : List Job) (left : List ℕ) → length left ≡ length jobs → ((q : ℕ) → q < length jobs → get_or left q 0 ≡ get_or (map work_of jobs) q 0)
    → left ≡ work jobs (worst_cases jobs)
work_filled jobs left same each =
    ext_get_or 0 left (map work_of jobs) (same ∙ sym (length-map jobs work_of)) (λ q h. each q (omega (arith, h, same))) ∙ map_work jobs

-- ---- one instruction

module _ (t : Tables) (jobs : List Job) (instrs : List SInstr) (k : ℕ) (i : SInstr) (x : Point) (here : slice_get instrs k ≡ Some i) where
  this_first : drop k instrs ≡ i ∷ drop (suc k) instrs
  this_first = drop-cons instrs k i (slice_get_within instrs k i here) ∙ ap (λ (j : SInstr). let is : List SInstr = j ∷ drop (suc k) instrs in is) (get_or_from_slice_get instrs k i i here)

  -- its record comes before the rest
  pub left_next : (y : Point) → y ≡ next_point jobs i x → walk_from jobs (drop k instrs) x ≡ (left_by jobs i x (next_point jobs i x) ∷ []) ++ walk_from jobs (drop (suc k) instrs) y
  left_next y next =
      ap (λ (is : List SInstr). walk_from jobs is x) this_first
      ∙ ap (λ (z : Point). left_by jobs i x (next_point jobs i x) ∷ walk_from jobs (drop (suc k) instrs) z) (sym next)

  pub last_next : (y : Point) → y ≡ next_point jobs i x → last_point jobs (drop (suc k) instrs) y ≡ last_point jobs (drop k instrs) x
  last_next y next = ap (last_point jobs (drop (suc k) instrs)) next ∙ sym (ap (λ (is : List SInstr). last_point jobs is x) this_first)

pub one_text : (t : Tables) (jobs : List Job) (l : Left) → left_text t jobs l ≡ walk_text t jobs (l ∷ [])
one_text t jobs l = sym (flat_map-cons (left_text t jobs) l [] ∙ append-nil (left_text t jobs l))

pub one_finish : (l : Left) (done : Bool) → done ≡ l.finished → cond done 1 0 ≡ finishes (l ∷ [])
one_finish l done is = ap (λ (b : Bool). cond b 1 0) is ∙ plus_none (cond l.finished 1 0)
  where
    plus_none : (n : ℕ) → n ≡ n + 0
    plus_none n = omega arith

pub nothing_left : (jobs : List Job) (instrs : List SInstr) (k : ℕ) (x : Point) → k ≡ length instrs → walk_from jobs (drop k instrs) x ≡ []
nothing_left jobs instrs k x e = ap (λ (is : List SInstr). walk_from jobs is x) (drop_all k instrs (omega (arith, e)))

pub last_reached : (jobs : List Job) (instrs : List SInstr) (k : ℕ) (x : Point) → k ≡ length instrs → last_point jobs (drop k instrs) x ≡ x
last_reached jobs instrs k x e = ap (λ (is : List SInstr). last_point jobs is x) (drop_all k instrs (omega (arith, e)))

-- ---- a text by another name, with another answer

pub Puts-same : {T S E : Type 0} (old new : Option (List ℕ)) (before now : ℕ) (text other : List ℕ) (u : S) (v : T) → text ≡ other
    → Puts {T = S} {E = E} old new before now text (Ok u) → Puts {T = T} {E = E} old new before now other (Ok v)
Puts-same old new before now text other u v same puts =
    record { whole = puts.whole ∙ ap (append_known old) same; part = tt; cause = record { later = puts.cause.later; kept = puts.cause.kept; refused = tt } }

pub Puts-same_cut : {T S E : Type 0} (old new : Option (List ℕ)) (before now : ℕ) (text other : List ℕ) (e d : E) → text ≡ other
    → Puts {T = S} {E = E} old new before now text (Err e) → Puts {T = T} {E = E} old new before now other (Err d)
Puts-same_cut old new before now text other e d same puts =
    record { whole = tt; part = subst (λ (bs : List ℕ). AppendsPrefix old new bs) same puts.part; cause = record { later = puts.cause.later; kept = tt; refused = puts.cause.refused } }

-- ---- a dispatch

module _ (jobs : List Job) (p until time : ℕ) (left after : List ℕ) (at : ℕ) (slice : Option (ℕ × ℕ)) (done : Bool) (below : p < length left)
    (next : record { time = at; left = after } ≡ dispatched jobs p until (record { time = time; left = left }))
    (ran : slice ≡ slice_between (dispatch_begins time (job_at jobs p).release until) until (get_or left p 0) at)
    (finished : done ≡ finishes_by (get_or left p 0) (work_after time (get_or left p 0) (job_at jobs p).release until)) where
  pub dispatch_finished : done ≡ finished_by (Dispatch p until) (record { time = time; left = left }) (next_point jobs (Dispatch p until) (record { time = time; left = left }))
  dispatch_finished =
      finished ∙ ap (λ (n : ℕ). finishes_by (get_or left p 0) n)
      (sym (get_or-set_same left p (work_after time (get_or left p 0) (job_at jobs p).release until) 0 below))

  pub dispatch_text : (t : Tables) → slice_text t (job_at jobs p).inv slice ++ done_text t (job_at jobs p).inv at done
      ≡ left_text t jobs (left_by jobs (Dispatch p until) (record { time = time; left = left }) (next_point jobs (Dispatch p until) (record { time = time; left = left })))
  dispatch_text t =
      let inv = (job_at jobs p).inv in
      let x : Point = record { time = time; left = left } in
      let y = next_point jobs (Dispatch p until) x in
      let same : at ≡ y.time = ap (λ (z : Point). z.time) next in
      let is : slice ≡ slice_of jobs (Dispatch p until) x y.time = ran ∙ ap (λ (n : ℕ). slice_between (dispatch_begins time (job_at jobs p).release until) until (get_or left p 0) n) same in
      ap (λ (s : Option (ℕ × ℕ)). slice_text t inv s ++ done_text t inv at done) is
      ∙ ap (λ (n : ℕ). slice_text t inv (slice_of jobs (Dispatch p until) x y.time) ++ done_text t inv n done) same
      ∙ ap (λ (b : Bool). slice_text t inv (slice_of jobs (Dispatch p until) x y.time) ++ done_text t inv y.time b) dispatch_finished
