-- The lines of records: one by one, and all that are due.
use Rattle.std.proofs.Common.{◌≡◌, ℕ, zero, suc, ◌+◌, ◌-◌, ◌≤◌, ◌<◌, Bool, true, false, cond, List, [], ◌∷◌, ◌++◌, length, take, drop, slice_get, Option, Some, None, option_map, Result, Ok, Err, refl, sym, ap, ap₂, ◌∙◌, subst, arith, append-nil, ◌⊎◌, inl, inr}
use Rattle.htl_machine.proofs.Words.{slice_get_past, same_Some, append_known, Puts, append_known-start, append_known-more, Puts-failed, Puts-second, joined, Tables, Job, SInstr, Round, next_left, after, told, told_from, Content, Shown, done_line, step_line, shows_jobs, Tally, one_record, with_records, Plan, list_walk, SMachineAt, due_by, IsRecording, Prints, Counted, IsPrinting, inv_at, slice_text, job_text, place_text, code_text, plan_text, record_text, record_of, RunLine, StepLine, printed, closed_slice_line, job_done_line, job_lines, step_lines, shows_code, some_records, not_some, take_more_get, cases_up_to}
use Rattle.htl_smach.specs.declared.left.Left.{Left}
use Rattle.htl_runs.proofs.{lines.Joined.joined-append, lines.PutLines.Puts-first, records.SMachineInstants.next_some, records.SMachineInstants.next_none, records.SMachineInstants.told_get}

-- ---- the lines of one record

pub job_told : {T E : Type 0} (t : Tables) (show : Shown) (jobs : List Job) (l : Left) (i : ℕ) (b : Bool) (old mid new : Option (List ℕ)) (before between now : ℕ) (result : Result T E)
    → b ≡ shows_jobs show → b ≡ true → i ≡ inv_at jobs l.position → mid ≡ append_known old (slice_text t i l.slice) → between ≡ before
    → Puts mid new between now (cond l.finished (done_line t l.at i) []) result → Puts old new before now (job_text t show jobs l) result
job_told t show jobs l i b old mid new before between now result is shows inv was kept puts =
    let lines : ℕ → List ℕ = λ i. slice_text t i l.slice ++ cond l.finished (done_line t l.at i) [] in
    subst (λ z. Puts old new before now z result)
    (ap lines inv ∙ sym (ap (λ z. cond z (lines (inv_at jobs l.position)) []) (sym is ∙ shows)))
    (Puts-second old mid new before between now (slice_text t i l.slice) (cond l.finished (done_line t l.at i) []) result was kept puts)

-- the slice of a job fails
pub job_failed : {T S E F : Type 0} (t : Tables) (show : Shown) (jobs : List Job) (l : Left) (i : ℕ) (b : Bool) (old new : Option (List ℕ)) (before now : ℕ) (e : E) (f : F)
    → b ≡ shows_jobs show → b ≡ true → i ≡ inv_at jobs l.position → Puts {T = S} old new before now (slice_text t i l.slice) (Err e) → Puts {T = T} old new before now (job_text t show jobs l) (Err f)
job_failed {T = T} {F = F} t show jobs l i b old new before now e f is shows inv puts =
    let lines : ℕ → List ℕ = λ i. slice_text t i l.slice ++ cond l.finished (done_line t l.at i) [] in
    subst (λ z. Puts {T = T} {E = F} old new before now z (Err f))
    (ap lines inv ∙ sym (ap (λ z. cond z (lines (inv_at jobs l.position)) []) (sym is ∙ shows)))
    (Puts-first old new before now (slice_text t i l.slice) (cond l.finished (done_line t l.at i) []) e f puts)

-- nothing was written
pub nothing_written : {T E : Type 0} (old new : Option (List ℕ)) (before now : ℕ) (u : T) → new ≡ old → now ≡ before → Puts {T = T} {E = E} old new before now [] (Ok u)
nothing_written old new before now u e kept = record {
  whole = e ∙ append_known-start old;
  part = tt;
  cause = record { later = omega (arith, kept); kept = kept; refused = tt };
}

-- a round that doesn't run has no answer
pub never : (r0 r : Round) → r ≡ r0 → r0.running ≡ false → r.running ≡ true → ⊥
never r0 r e off on = let same : true ≡ false = sym on ∙ ap (λ (z : Round). z.running) e ∙ off in cc

pub no_place : (code : List SInstr) (sel at k : ℕ) → length code ≤ k → place_text code sel at k ≡ []
no_place code sel at k h = ap (λ (o : Option SInstr). elim o [ Some x ↦ step_line at sel k x | None ↦ [] ]) (slice_get_past code k h)

-- the pieces of a record's text
module _ (t : Tables) where
  slice_is : (i : ℕ) (o : Option (ℕ × ℕ)) → slice_text t i o ≡ joined (printed t) (closed_slice_line i o)
  slice_is i (Some s) = sym (append-nil (slice_text t i (Some s)))
  slice_is i None = refl

  done_is : (at i : ℕ) (b : Bool) → cond b (done_line t at i) [] ≡ joined (printed t) (job_done_line at b i)
  done_is at i true = sym (append-nil (done_line t at i))
  done_is at i false = refl

  step_is : (at node k : ℕ) (o : Option SInstr) → elim o as (λ _. List ℕ) [ Some x ↦ step_line at node k x | None ↦ [] ] ≡ joined (printed t) (elim o as (λ _. List RunLine) [ Some x ↦ StepLine at node k x ∷ [] | None ↦ [] ])
  step_is at node k (Some x) = sym (append-nil (step_line at node k x))
  step_is at node k None = refl

  shown_is : (b : Bool) (text : List ℕ) (ls : List RunLine) → text ≡ joined (printed t) ls → cond b text [] ≡ joined (printed t) (cond b ls [])
  shown_is true text ls is = is
  shown_is false text ls is = refl

  pieces_are : (show : Shown) (jobs : List Job) (code : List SInstr) (node : ℕ) (l : Left) → job_text t show jobs l ++ code_text show code node l ≡ record_text t show (record_of jobs node code l)
  pieces_are show jobs code node l =
      let x = record_of jobs node code l in
      ap₂ (λ (a b : List ℕ). a ++ b)
      (shown_is (shows_jobs show) (slice_text t x.inv l.slice ++ cond l.finished (done_line t l.at x.inv) []) (job_lines x)
      (ap₂ (λ (a b : List ℕ). a ++ b) (slice_is x.inv l.slice) (done_is l.at x.inv l.finished) ∙ sym (joined-append (printed t) (closed_slice_line x.inv l.slice) (job_done_line l.at l.finished x.inv))))
      (shown_is (shows_code show) (place_text code node l.at l.instr) (step_lines x) (step_is l.at node l.instr (slice_get code l.instr)))
      ∙ sym (joined-append (printed t) (cond (shows_jobs show) (job_lines x) []) (cond (shows_code show) (step_lines x) []))

  pub record_put : {T E : Type 0} (show : Shown) (jobs : List Job) (code : List SInstr) (node : ℕ) (l : Left) (old new : Option (List ℕ)) (before now : ℕ) (result : Result T E)
      → Puts old new before now (job_text t show jobs l ++ code_text show code node l) result → Puts old new before now (record_text t show (record_of jobs node code l)) result
  record_put show jobs code node l old new before now result puts = subst (λ z. Puts old new before now z result) (pieces_are show jobs code node l) puts

-- ---- lists

cut : {A : Type 0} (xs : List A) (n m : ℕ) (y : A) → slice_get xs n ≡ Some y → n < m → take m xs ≡ take n xs ++ (y ∷ take (m - suc n) (drop (suc n) xs))
cut [] n m y e h = not_some y e
cut (x ∷ xs) n zero y e h = absurd (omega (arith, h))
cut (x ∷ xs) zero (suc m) y e h = ap₂ (λ a b. a ∷ take b xs) (same_Some _ _ e) (let z : m ≡ suc m - suc zero = omega arith in z)
cut (x ∷ xs) (suc n) (suc m) y e h =
    ap (λ z. x ∷ z) (cut xs n m y e (omega (arith, h)))
    ∙ ap (λ z. x ∷ (take n xs ++ (y ∷ take z (drop (suc n) xs)))) (let z : m - suc n ≡ suc m - suc (suc n) = omega arith in z)

get_drop : {A : Type 0} (xs : List A) (k n : ℕ) → slice_get (drop k xs) n ≡ slice_get xs (k + n)
get_drop xs zero n = ap (slice_get xs) (let z : n ≡ 0 + n = omega arith in z)
get_drop [] (suc k) n = refl
get_drop (x ∷ xs) (suc k) n = get_drop xs k n ∙ ap (slice_get (x ∷ xs)) (let z : suc (k + n) ≡ suc k + n = omega arith in z)

with_more : (ls : List Left) (l : Left) (n : Tally) → with_records (ls ++ l ∷ []) n ≡ one_record l.finished (with_records ls n)
with_more [] l n = refl
with_more (x ∷ ls) l n = with_more ls l (one_record x.finished n)

-- ---- an answer is the next of the records that are due

record IsNext (p : Plan) (s k at : ℕ) (r : Round) (l : Left) : Type 0 where
  less : r.place < due_by p s at
  past : k ≤ r.place
  there : slice_get (drop k (told_from s 0 (list_walk p))) (r.place - k) ≡ Some l

next_is : (p : Plan) (s k m d at : ℕ) (r : Round) (code : List SInstr) (l : Left) → p.schedule ≡ code → s ≤ at → k ≤ m → m ≤ due_by p s at → SMachineAt p s m d r → next_left r code at ≡ Some l → IsNext p s k at r l
next_is p s k m d at r code l same past low few was e =
    let less : m < due_by p s at = not_all (cases_up_to m (due_by p s at) few) in
    let x = next_some p s at d past m r was less in
    let one : l ≡ told s m x.0 = same_Some _ _ (sym e ∙ ap (λ c. next_left r c at) (sym same) ∙ x.2) in
    record {
      less = omega (arith, less, was.place);
      past = omega (arith, low, was.place);
      there =
          get_drop (told_from s 0 (list_walk p)) k (r.place - k)
          ∙ ap (slice_get (told_from s 0 (list_walk p))) (let z : k + (r.place - k) ≡ m = omega (arith, low, was.place) in z)
          ∙ told_get s 0 (list_walk p) m
          ∙ ap (option_map (told s (0 + m))) x.1
          ∙ ap (λ z. Some (told s z x.0)) (let z : 0 + m ≡ m = omega arith in z)
          ∙ ap (λ z. Some z) (sym one);
    }
  where
    not_all : (m < due_by p s at) ⊎ (m ≡ due_by p s at) → m < due_by p s at
    not_all (inl a) = a
    not_all (inr b) = not_some l (sym (next_none p s at d past m r was b) ∙ ap (λ c. next_left r c at) same ∙ e)

-- none is left
all_given : (p : Plan) (s m d at : ℕ) (r : Round) (code : List SInstr) → p.schedule ≡ code → s ≤ at → m ≤ due_by p s at → SMachineAt p s m d r → next_left r code at ≡ None → r.place ≡ due_by p s at
all_given p s m d at r code same past few was e = elim (cases_up_to m (due_by p s at) few) [
  | inr b ↦ was.place ∙ b
  | inl a ↦ let x = next_some p s at d past m r was a in not_some (told s m x.0) (sym e ∙ ap (λ c. next_left r c at) (sym same) ∙ x.2)
]

-- ---- the loop

-- the text of a record, by the plan
line_is : (t : Tables) (show : Shown) (sel : ℕ) (p : Plan) (jobs : List Job) (code : List SInstr) (l : Left) → p.schedule ≡ code → p.jobs ≡ jobs → record_text t show (record_of jobs sel code l) ≡ plan_text t show p sel l
line_is t show sel p jobs code l same are = ap₂ (λ js c. record_text t show (record_of js sel c l)) (sym are) (sym same)

pub printing_step : {T E : Type 0} (t : Tables) (show : Shown) (sel : ℕ) (r0 r n : Round) (u0 u : Content) (jobs : List Job) (code : List SInstr) (at : ℕ) (l : Left) (w0 w v : Option (List ℕ)) (f0 f g : ℕ) (n0 m m' : Tally) (x : T)
    → IsRecording t r0 u0 r u jobs code at → IsPrinting t show sel r0 r code at w0 w f0 f n0 m → next_left r code at ≡ Some l → n ≡ after r code (Some l) → m' ≡ one_record l.finished m
    → Puts {T = T} {E = E} w v f g (record_text t show (record_of jobs sel code l)) (Ok x) → IsPrinting t show sel r0 n code at w0 v f0 g n0 m'
printing_step t show sel r0 r n u0 u jobs code at l w0 w v f0 f g n0 m m' x h i e next count puts =
    let place : n.place ≡ suc r.place = ap (λ (z : Round). z.place) next in
    record {
      kept = puts.cause.kept ∙ i.kept;
      text = λ p s k d same past few was.
          let go = h.goes p s k d same past few was in
          let is = next_is p s k go.0 d at r code l same past go.1 go.2 go.3 e in
          append_known-more w0 w v (joined (plan_text t show p sel) (some_records p s k (r.place - k))) (record_text t show (record_of jobs sel code l)) (i.text p s k d same past few was) puts.whole
          ∙ ap (append_known w0) (
          ap (λ z. joined (plan_text t show p sel) (some_records p s k (r.place - k)) ++ z) (line_is t show sel p jobs code l same (sym go.3.jobs ∙ h.are) ∙ sym (append-nil (plan_text t show p sel l)))
          ∙ sym (joined-append (plan_text t show p sel) (some_records p s k (r.place - k)) (l ∷ []))
          ∙ ap (joined (plan_text t show p sel)) (more p s k is place)
          );
      count = λ p s k d same past few was.
          let go = h.goes p s k d same past few was in
          let is = next_is p s k go.0 d at r code l same past go.1 go.2 go.3 e in
          count ∙ ap (one_record l.finished) (i.count p s k d same past few was) ∙ sym (with_more (some_records p s k (r.place - k)) l n0) ∙ ap (λ ls. with_records ls n0) (more p s k is place);
    }
  where
    more : (p : Plan) (s k : ℕ) → IsNext p s k at r l → n.place ≡ suc r.place → some_records p s k (r.place - k) ++ l ∷ [] ≡ some_records p s k (n.place - k)
    more p s k is place =
        sym (take_more_get (drop k (told_from s 0 (list_walk p))) (r.place - k) l is.there)
        ∙ ap (some_records p s k) (let z : suc (r.place - k) ≡ n.place - k = omega (arith, place, is.past) in z)

pub printing_cut : {T S E F : Type 0} (t : Tables) (show : Shown) (sel : ℕ) (r0 r : Round) (u0 u : Content) (jobs : List Job) (code : List SInstr) (at : ℕ) (l : Left) (w0 w v : Option (List ℕ)) (f0 f g : ℕ) (n0 m : Tally) (x : E) (y : F)
    → IsRecording t r0 u0 r u jobs code at → IsPrinting t show sel r0 r code at w0 w f0 f n0 m → next_left r code at ≡ Some l
    → Puts {T = T} {E = E} w v f g (record_text t show (record_of jobs sel code l)) (Err x) → Prints {T = S} {E = F} t show sel r0 code at w0 v f0 g (Err y)
printing_cut {S = S} {F = F} t show sel r0 r u0 u jobs code at l w0 w v f0 f g n0 m x y h i e puts =
    λ p s k d same past few was.
    let go = h.goes p s k d same past few was in
    let is = next_is p s k go.0 d at r code l same past go.1 go.2 go.3 e in
    let text = plan_text t show p sel in
    let front = some_records p s k (r.place - k) in
    let zs = drop k (told_from s 0 (list_walk p)) in
    let rest = take (due_by p s at - k - suc (r.place - k)) (drop (suc (r.place - k)) zs) in
    let whole : joined text front ++ (record_text t show (record_of jobs sel code l) ++ joined text rest) ≡ joined text (some_records p s k (due_by p s at - k)) =
    ap (λ z. joined text front ++ (z ++ joined text rest)) (line_is t show sel p jobs code l same (sym go.3.jobs ∙ h.are))
    ∙ sym (joined-append text front (l ∷ rest))
    ∙ ap (joined text) (sym (cut zs (r.place - k) (due_by p s at - k) l is.there (omega (arith, is.less, is.past)))) in
    subst (λ z. Puts {T = S} {E = F} w0 v f0 g z (Err y)) whole
    (Puts-failed w0 w v f0 f g (joined text front) (record_text t show (record_of jobs sel code l)) (joined text rest) x y (i.text p s k d same past few was) i.kept puts)

pub printing_end : {T E : Type 0} (t : Tables) (show : Shown) (sel : ℕ) (r0 r : Round) (u0 u : Content) (jobs : List Job) (code : List SInstr) (at : ℕ) (w0 w : Option (List ℕ)) (f0 f : ℕ) (n0 m : Tally) (x : T)
    → IsRecording t r0 u0 r u jobs code at → IsPrinting t show sel r0 r code at w0 w f0 f n0 m → next_left r code at ≡ None → Prints {T = T} {E = E} t show sel r0 code at w0 w f0 f (Ok x)
printing_end t show sel r0 r u0 u jobs code at w0 w f0 f n0 m x h i e =
    λ p s k d same past few was.
    let go = h.goes p s k d same past few was in
    record {
      whole = i.text p s k d same past few was ∙ ap (λ z. append_known w0 (joined (plan_text t show p sel) (some_records p s k (z - k)))) (all_given p s go.0 d at r code same past go.2 go.3 e);
      part = tt;
      cause = record { later = omega (arith, i.kept); kept = i.kept; refused = tt };
    }

pub printing_counted : (t : Tables) (show : Shown) (sel : ℕ) (r0 r : Round) (u0 u : Content) (jobs : List Job) (code : List SInstr) (at : ℕ) (w0 w : Option (List ℕ)) (f0 f : ℕ) (n0 m : Tally)
    → IsRecording t r0 u0 r u jobs code at → IsPrinting t show sel r0 r code at w0 w f0 f n0 m → next_left r code at ≡ None → Counted r0 code at n0 m
printing_counted t show sel r0 r u0 u jobs code at w0 w f0 f n0 m h i e =
    λ p s k d same past few was.
    let go = h.goes p s k d same past few was in
    i.count p s k d same past few was ∙ ap (λ z. with_records (some_records p s k (z - k)) n0) (all_given p s go.0 d at r code same past go.2 go.3 e)
