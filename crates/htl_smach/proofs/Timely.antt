-- The records given are those left by an instant, where no further one is.
use Rattle.std.proofs.Common.{◌≡◌, ℕ, zero, suc, ◌+◌, ◌≤◌, ◌<◌, Bool, true, false, cond, leb, List, [], ◌∷◌, length, slice_get, take, Some, None, refl, sym, ap, ◌∙◌, subst, arith, inl, inr}
use Rattle.htl_smach.proofs.Words.{slice_get_cases, Job, SInstr, Point, next_point, left_by, walk_from, last_point, time_rises, time_rises_to, Left, told, told_from, walk_records, left_until, left_by_then, RecordsOfLengths, NoneLeftOut, le-leb, leb-false, lt-leb}
use Rattle.htl_smach.proofs.RoundRecords.{next_record_is}

pub records_of_lengths : RecordsOfLengths
records_of_lengths r s st first = ap (λ (x : Point). told_from r.start 0 (walk_from r.jobs s x)) first

-- what begins too late is left too late
all_late : (start m until : ℕ) (jobs : List Job) (s : List SInstr) (x : Point) → until < start + x.time → left_by_then until (told_from start m (walk_from jobs s x)) ≡ []
all_late start m until jobs [] x h = refl
all_late start m until jobs (i ∷ is) x h =
    let y = next_point jobs i x in
    let rises : x.time ≤ y.time = time_rises jobs i x in
    let ls : List Left = left_by_then until (told_from start (suc m) (walk_from jobs is y)) in
    ap (λ b. cond b (told start m (left_by jobs i x y) ∷ ls) ls) (lt-leb (start + y.time) until (omega arith)) ∙ all_late start (suc m) until jobs is y (omega arith)

-- the next instruction of the list, if there is one, is left after `until`
abbrev NextIsLate : ℕ → ℕ → List Job → List SInstr → Point → ℕ → Type 0
NextIsLate start until jobs s x k = (i : SInstr) → slice_get s k ≡ Some i → until < start + (next_point jobs i (last_point jobs (take k s) x)).time

front_is : (start m until : ℕ) (jobs : List Job) (s : List SInstr) (x : Point) (k : ℕ) → start + (last_point jobs (take k s) x).time ≤ until → NextIsLate start until jobs s x k
    → take k (told_from start m (walk_from jobs s x)) ≡ left_by_then until (told_from start m (walk_from jobs s x))
front_is start m until jobs [] x zero by next = refl
front_is start m until jobs [] x (suc k) by next = refl
front_is start m until jobs (i ∷ is) x zero by next =
    let y = next_point jobs i x in
    let late : until < start + y.time = next i refl in
    let ls : List Left = left_by_then until (told_from start (suc m) (walk_from jobs is y)) in
    sym (ap (λ b. cond b (told start m (left_by jobs i x y) ∷ ls) ls) (lt-leb (start + y.time) until late) ∙ all_late start (suc m) until jobs is y late)
front_is start m until jobs (i ∷ is) x (suc k) by next =
    let y = next_point jobs i x in
    let ls : List Left = left_by_then until (told_from start (suc m) (walk_from jobs is y)) in
    ap (λ zs. told start m (left_by jobs i x y) ∷ zs) (front_is start (suc m) until jobs is y k by (λ j e. next j e))
    ∙ sym (ap (λ b. cond b (told start m (left_by jobs i x y) ∷ ls) ls) (le-leb (start + y.time) until (omega (arith, time_rises_to jobs (take k is) y))))

-- an instruction that isn't answered is left leb-false
not_answered : (b : Bool) (l : Left) → cond b (Some l) None ≡ None → b ≡ false
not_answered true l e = cc
not_answered false l e = refl

pub none_left_out : NoneLeftOut
none_left_out r s until st whole by none =
    front_is r.start 0 until r.jobs s r.first r.place (subst (λ (x : Point). r.start + x.time ≤ until) st.point by) (next r.running refl)
  where
    next : (b : Bool) → r.running ≡ b → NextIsLate r.start until r.jobs s r.first r.place
    next true here i at =
        let y = next_point r.jobs i r.point in
        let l : Left = told r.start r.place (left_by r.jobs i r.point y) in
        let e : cond (leb (r.start + y.time) until) (Some l) None ≡ None =
        sym (ap (λ o. left_until until o) (next_record_is r s st i at)) ∙ sym (ap (λ b. cond b (left_until until (slice_get (walk_records r s) r.place)) None) here) ∙ none in
        subst (λ (x : Point). until < r.start + (next_point r.jobs i x).time) st.point (leb-false (r.start + y.time) until (not_answered (leb (r.start + y.time) until) l e))
    next false here i at = elim (slice_get_cases s r.place).1 [ inl c ↦ absurd (let past : length s ≤ r.place = whole here in let below : r.place < length s = c.1 in omega arith) | inr c ↦ absurd (let no : Some i ≡ None = sym at ∙ c.1 in cc) ]
