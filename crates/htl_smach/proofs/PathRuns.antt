-- The answers of a machine that goes through the lists of a path are the records of the path's walk.
use Rattle.std.proofs.Common.{◌≡◌, ℕ, zero, suc, ◌+◌, ◌-◌, ◌≤◌, ◌<◌, Bool, true, false, cond, ◌&&◌, eqb, List, [], ◌∷◌, ◌++◌, length, get_or, take, drop, map, Option, Some, None, is_some, refl, sym, ap, ◌∙◌, subst, arith, inl, inr, append_assoc, append-nil}
use Rattle.htl_smach.proofs.Words.{cases_lt, ltb-false, length-append, length-drop, length-map, length-take-le, take_all, Job, SInstr, Leg, list_point, walks_from, walk_path, end_to_end, AreInForm, AreChained, path_point, AgreeAt, Point, job_at, walk_from, last_point, first_point, work, finish, is_position, InForm, left_falls_to, untouched, same_length, walk_alike, job_there, work_present, Left, after_all, PathRun, no_leg, leg_at, list_at, untils_at, list_begun, list_answers, answers_before, IsOver, told_path, IsPath, PathRecords, FinishedBefore, Round, told_from, walk_records, next_left, after, front_more, work_length, eqb_some, form_at, point_first, point_next, walk_at, get_or_from_slice_get, job_front}
use Rattle.htl_walk.specs.Walk as walks
use Rattle.htl_smach.proofs.{Answering.records_in_order, Finishing.finished_where_none, Finishing.never_finished, Finishing.none_left, Joined.get_left, Joined.get_right, RoundRecords.absent_idle}

-- ---- lists

more_joined : {A : Type 0} (xs : List (List A)) (j : ℕ) → j < length xs → end_to_end (take (suc j) xs) ≡ end_to_end (take j xs) ++ get_or xs j []
more_joined [] j h = absurd (omega arith)
more_joined (x ∷ xs) zero h = append-nil x
more_joined (x ∷ xs) (suc j) h = ap (λ z. x ++ z) (more_joined xs j (omega arith)) ∙ sym (append_assoc x (end_to_end (take j xs)) (get_or xs j []))

told_get : (start : ℕ) (ws : List (List walks.Left)) (j : ℕ) → get_or (map (told_from start 0) ws) j [] ≡ told_from start 0 (get_or ws j [])
told_get start [] j = refl
told_get start (w ∷ ws) zero = refl
told_get start (w ∷ ws) (suc j) = told_get start ws j

-- the work of the positions from n on to m
work_part : (n m q : ℕ) (js : List Job) (ns : List ℕ) → length ns ≡ length js → n + q < m → get_or (work (drop n (take m js)) (drop n (take m ns))) q 0 ≡ get_or (work js ns) (n + q) 0
work_part zero zero q js ns e h = absurd (omega arith)
work_part zero (suc m) q [] ns e h = refl
work_part zero (suc m) q (j ∷ js) [] e h = absurd (omega (arith, e))
work_part zero (suc m) zero (j ∷ js) (k ∷ ns) e h = refl
work_part zero (suc m) (suc q) (j ∷ js) (k ∷ ns) e h =
    work_part zero m q js ns (omega (arith, e)) (omega (arith, h)) ∙ ap (λ i. get_or (cond j.present k 0 ∷ work js ns) i 0) (let z : suc (0 + q) ≡ 0 + suc q = omega arith in z)
work_part (suc n) zero q js ns e h = absurd (omega arith)
work_part (suc n) (suc m) q [] ns e h = refl
work_part (suc n) (suc m) q (j ∷ js) [] e h = absurd (omega (arith, e))
work_part (suc n) (suc m) q (j ∷ js) (k ∷ ns) e h =
    work_part n m q js ns (omega (arith, e)) (omega (arith, h)) ∙ ap (λ i. get_or (cond j.present k 0 ∷ work js ns) i 0) (let z : suc (n + q) ≡ suc n + q = omega arith in z)

-- ---- the lists of a path

knows_at : (a h n : ℕ) (gs : List Leg) (j : ℕ) → AreChained a h n gs → j < length gs → (get_or gs j no_leg).known ≤ n
knows_at a h n [] j c l = absurd (omega arith)
knows_at a h n (g ∷ gs) zero c l = c.2
knows_at a h n (g ∷ gs) (suc j) c l = knows_at g.to h n gs j c.3 (omega arith)

first_from : (a h n : ℕ) (gs : List Leg) → AreChained a h n gs → 0 < length gs → (get_or gs 0 no_leg).from ≡ a
first_from a h n [] c l = absurd (omega arith)
first_from a h n (g ∷ gs) c l = c.0

as_many : (jobs : List Job) (ss : List (List SInstr)) (gs : List Leg) (x : Point) → AreInForm ss gs → length (walks_from jobs ss gs x) ≡ length gs
as_many jobs [] [] x f = refl
as_many jobs (s ∷ ss) (g ∷ gs) x f = ap suc (as_many jobs ss gs (last_point jobs s (list_point g.from x)) f.1)
as_many jobs _ _ x f = absurd f

-- ---- a machine that is asked in one list

-- what stays as it was where the list began
record IsLike (r q : Round) : Type 0 where
  start : q.start ≡ r.start
  jobs : q.jobs ≡ r.jobs
  first : q.first ≡ r.first

-- it is at the point after the instructions left so far, and over behind the last
record IsWalking (s : List SInstr) (r : Round) : Type 0 where
  point : r.point ≡ last_point r.jobs (take r.place s) r.first
  past : r.running ≡ false → length s ≤ r.place

module _ (s : List SInstr) where
  like_after : (r : Round) (o : Option Left) → IsLike r (after r s o)
  like_after r None = record { start = refl; jobs = refl; first = refl }
  like_after r (Some l) = record { start = refl; jobs = refl; first = refl }

  like_all : (r : Round) (untils : List ℕ) → IsLike r (after_all r s untils)
  like_all r [] = record { start = refl; jobs = refl; first = refl }
  like_all r (t ∷ later) =
      let a = like_after r (next_left r s t) in
      let b = like_all (after r s (next_left r s t)) later in
      record { start = b.start ∙ a.start; jobs = b.jobs ∙ a.jobs; first = b.first ∙ a.first }

  walking_after : (r : Round) (o : Option Left) → IsWalking s r → IsWalking s (after r s o)
  walking_after r None w = w
  walking_after r (Some l) w = record { point = refl; past = λ e. ltb-false (suc r.place) (length s) e }

  walking_all : (r : Round) (untils : List ℕ) → IsWalking s r → IsWalking s (after_all r s untils)
  walking_all r [] w = w
  walking_all r (t ∷ later) w = walking_all (after r s (next_left r s t)) later (walking_after r (next_left r s t) w)

  -- where a list that begins is over, all its instructions were left
  ended : (b : Round) (untils : List ℕ) → b.running ≡ true → b.place ≡ 0 → b.point ≡ b.first → (after_all b s untils).running ≡ false → (after_all b s untils).point ≡ last_point b.jobs s b.first
  ended b untils here place point over =
      let r = after_all b s untils in
      let like = like_all b untils in
      let begun : IsWalking s b = record { point = point ∙ sym (ap (λ k. last_point b.jobs (take k s) b.first) place); past = λ e. absurd (let no : true ≡ false = sym here ∙ e in cc) } in
      let w = walking_all b untils begun in
      w.point ∙ ap (λ is. last_point r.jobs is r.first) (take_all r.place s (w.past over)) ∙ ap (λ js. last_point js s r.first) like.jobs ∙ ap (last_point b.jobs s) like.first

-- ---- list by list

module _ (u : PathRun) (is : IsPath u) where
  abbrev x_at : ℕ → Point
  x_at j = path_point u.jobs u.lists u.legs j 0 (first_point u.jobs u.lengths)

  abbrev walks_of : List (List walks.Left)
  walks_of = walk_path u.jobs u.lengths u.lists u.legs

  next_is : (j : ℕ) → suc j < length u.legs → x_at (suc j) ≡ list_point (leg_at u (suc j)).from (last_point u.jobs (list_at u j) (x_at j))
  next_is j l = point_next u.jobs u.lists u.legs j (first_point u.jobs u.lengths) is.forms l

  first_is : 0 < length u.legs → x_at 0 ≡ list_point (leg_at u 0).from (first_point u.jobs u.lengths)
  first_is l = point_first u.jobs u.lists u.legs (first_point u.jobs u.lengths) is.forms l

  walk_is : (j : ℕ) → j < length u.legs → get_or walks_of j [] ≡ walk_from u.jobs (list_at u j) (x_at j)
  walk_is j l = get_or_from_slice_get walks_of j (walk_from u.jobs (list_at u j) (x_at j)) [] (walk_at u.jobs u.lists u.legs j (first_point u.jobs u.lengths) is.forms l)

  form : (j : ℕ) → j < length u.legs → InForm (leg_at u j).known (leg_at u j).to (list_at u j)
  form j l = form_at u.lists u.legs j is.forms l

  knows : (j : ℕ) → j < length u.legs → (leg_at u j).known ≤ length u.jobs
  knows j l = knows_at 0 is.end (length u.jobs) u.legs j is.chain l

  known_more : (i j : ℕ) → i ≤ j → j < length u.legs → (leg_at u i).known ≤ (leg_at u j).known
  known_more i zero h l = let same : i ≡ 0 = omega arith in subst (λ k. (leg_at u k).known ≤ (leg_at u 0).known) (sym same) (omega arith)
  known_more i (suc j) h l = elim (cases_lt i (suc j)) [
    | inl k ↦ let rest = known_more i j (omega (arith, k)) (omega (arith, l)) in omega (arith, rest, is.more j l)
    | inr k ↦ let same : i ≡ suc j = omega (arith, h, k) in subst (λ n. (leg_at u n).known ≤ (leg_at u (suc j)).known) (sym same) (omega arith)
  ]

  -- who isn't known to the lists so far has its whole work
  fresh : (j p : ℕ) → j < length u.legs → ((i : ℕ) → i < j → (leg_at u i).known ≤ p) → get_or (x_at j).left p 0 ≡ get_or (work u.jobs u.lengths) p 0
  fresh zero p l h = ap (λ (x : Point). get_or x.left p 0) (first_is l)
  fresh (suc j) p l h =
      ap (λ (x : Point). get_or x.left p 0) (next_is j l)
      ∙ untouched (leg_at u j).known (leg_at u j).known (leg_at u j).to u.jobs (list_at u j) (x_at j) p (form j (omega (arith, l))) (omega arith) (h j (omega arith))
      ∙ fresh j p (omega (arith, l)) (λ i k. h i (omega (arith, k)))

  -- list j begins, with the front of the path's positions and of its point
  record Begins (j : ℕ) (b : Round) : Type 0 where
    start : b.start ≡ u.start
    jobs : b.jobs ≡ take (leg_at u j).known u.jobs
    running : b.running ≡ true
    place : b.place ≡ 0
    point : b.point ≡ b.first
    first : AgreeAt (leg_at u j).known b.first (x_at j)
    long : length b.first.left ≡ (leg_at u j).known

  alike : (j : ℕ) (b : Round) → Begins j b → j < length u.legs
      → (walk_from b.jobs (list_at u j) b.first ≡ walk_from u.jobs (list_at u j) (x_at j)) × AgreeAt (leg_at u j).known (last_point b.jobs (list_at u j) b.first) (last_point u.jobs (list_at u j) (x_at j))
  alike j b w l =
      walk_alike (leg_at u j).known b.jobs u.jobs (leg_at u j).known (leg_at u j).to (list_at u j) b.first (x_at j)
      (λ p k. ap (λ js. job_at js p) w.jobs ∙ job_front (leg_at u j).known u.jobs p k) w.first (form j l) (omega arith)

  begins : (j : ℕ) → j < length u.legs → ((i : ℕ) → i < j → IsOver u i) → Begins j (list_begun u j)
  begins zero l over =
      let m = (leg_at u 0).known in
      record {
        start = refl;
        jobs = refl;
        running = refl;
        place = refl;
        point = refl;
        first = record {
          time = sym (ap (λ (x : Point). x.time) (first_is l) ∙ first_from 0 is.end (length u.jobs) u.legs is.chain l);
          left = λ p h.
              work_part 0 m p u.jobs u.lengths is.lengths (omega (arith, h)) ∙ ap (λ i. get_or (work u.jobs u.lengths) i 0) (let z : 0 + p ≡ p = omega arith in z)
              ∙ sym (ap (λ (x : Point). get_or x.left p 0) (first_is l));
        };
        long = work_length (take m u.jobs) (take m u.lengths) ∙ length-take-le m u.jobs (knows 0 l);
      }
  begins (suc j) l over =
      let b = list_begun u j in
      let s = list_at u j in
      let r = after_all b s (untils_at u j) in
      let n = (leg_at u j).known in
      let g = leg_at u (suc j) in
      let m = g.known in
      let js = drop n (take m u.jobs) in
      let w = begins j (omega (arith, l)) (λ i k. over i (omega (arith, k))) in
      let like = like_all s b (untils_at u j) in
      let end : r.point ≡ last_point b.jobs s b.first = ended s b (untils_at u j) w.running w.place w.point (over j (omega arith)) in
      let some : length r.point.left ≡ n = ap (λ (x : Point). length x.left) end ∙ same_length b.jobs s b.first ∙ w.long in
      let ws = work js (drop n (take m u.lengths)) in
      let all : length (take m u.jobs) ≡ m = length-take-le m u.jobs (knows (suc j) l) in
      record {
        start = like.start ∙ w.start;
        jobs = ap (λ ks. ks ++ js) (like.jobs ∙ w.jobs) ∙ front_more n m u.jobs (is.more j l);
        running = refl;
        place = refl;
        point = refl;
        first = record {
          time = (let z : r.start + g.from - r.start ≡ g.from = omega arith in z) ∙ sym (ap (λ (x : Point). x.time) (next_is j l));
          left = λ p h. elim (cases_lt p n) [
            | inl k ↦
                get_left r.point.left ws p 0 (omega (arith, k, some)) ∙ ap (λ (x : Point). get_or x.left p 0) end ∙ (alike j b w (omega (arith, l))).1.left p k
                ∙ sym (ap (λ (x : Point). get_or x.left p 0) (next_is j l))
            | inr k ↦
                let q = p - n in
                let at : n + q ≡ p = omega (arith, k) in
                ap (λ i. get_or (r.point.left ++ ws) i 0) (sym (omega (arith, k, some))) ∙ get_right r.point.left ws q 0
                ∙ work_part n m q u.jobs u.lengths is.lengths (omega (arith, at, h)) ∙ ap (λ i. get_or (work u.jobs u.lengths) i 0) at
                ∙ sym (fresh (suc j) p l (λ i less. let few = known_more i j (omega (arith, less)) (omega (arith, l)) in omega (arith, few, k)))
          ];
        };
        long = omega (arith, length-append r.point.left ws, some, work_length js (drop n (take m u.lengths)), length-drop n (take m u.jobs), all, is.more j l);
      }

  -- the records of list j
  told_is : (j : ℕ) → j < length u.legs → ((i : ℕ) → i < j → IsOver u i) → walk_records (list_begun u j) (list_at u j) ≡ get_or (told_path u) j []
  told_is j l over =
      let b = list_begun u j in
      let w = begins j l over in
      ap (λ n. told_from n 0 (walk_from b.jobs (list_at u j) b.first)) w.start
      ∙ ap (told_from u.start 0) ((alike j b w l).0 ∙ sym (walk_is j l))
      ∙ sym (told_get u.start walks_of j)

  whole_is : (j : ℕ) → j < length u.legs → ((i : ℕ) → i < j → IsOver u i) → IsOver u j → list_answers u j ≡ get_or (told_path u) j []
  whole_is j l over last =
      let b = list_begun u j in
      let s = list_at u j in
      let w = begins j l over in
      sym ((records_in_order b s (untils_at u j)).whole w.running last ∙ ap (λ k. take k (walk_records b s) ++ list_answers u j) w.place) ∙ told_is j l over

  front_is : (j : ℕ) → j < length u.legs → ((i : ℕ) → i < j → IsOver u i) → (k : ℕ) × (list_answers u j ≡ take k (get_or (told_path u) j []))
  front_is j l over =
      let b = list_begun u j in
      let s = list_at u j in
      let r = after_all b s (untils_at u j) in
      let w = begins j l over in
      let like = like_all s b (untils_at u j) in
      let same : walk_records r s ≡ walk_records b s = ap (λ n. told_from n 0 (walk_from r.jobs s r.first)) like.start ∙ ap (λ js. told_from b.start 0 (walk_from js s r.first)) like.jobs ∙ ap (λ x. told_from b.start 0 (walk_from b.jobs s x)) like.first in (
        r.place,
        sym ((records_in_order b s (untils_at u j)).follow ∙ ap (λ k. take k (walk_records b s) ++ list_answers u j) w.place) ∙ ap (take r.place) (same ∙ told_is j l over),
      )

  many : length (told_path u) ≡ length u.legs
  many = length-map walks_of (told_from u.start 0) ∙ as_many u.jobs u.lists u.legs (first_point u.jobs u.lengths) is.forms

  before_is : (j : ℕ) → j < length u.legs → ((i : ℕ) → i < j → IsOver u i) → answers_before u j ≡ end_to_end (take j (told_path u))
  before_is zero l over = refl
  before_is (suc j) l over =
      let own = λ (i : ℕ) (k : i < j). over i (omega (arith, k)) in
      ap (λ ls. ls ++ list_answers u j) (before_is j (omega (arith, l)) own)
      ∙ ap (λ ls. end_to_end (take j (told_path u)) ++ ls) (whole_is j (omega (arith, l)) own (over j (omega arith)))
      ∙ sym (more_joined (told_path u) j (omega (arith, l, many)))

pub path_records : PathRecords
path_records u j is l over = record { before = before_is u is j l over; front = front_is u is j l over; whole = whole_is u is j l over }

-- ---- who was finished

finish_front : (xs ys : List walks.Left) (p : ℕ) → is_some (finish xs p) ≡ true → is_some (finish (xs ++ ys) p) ≡ true
finish_front [] ys p e = cc
finish_front (l ∷ xs) ys p e = by (is_position l.position p && l.finished) e (finish_front xs ys p)
  where
    by : (b : Bool) → is_some (cond b (Some l.at) (finish xs p)) ≡ true → (is_some (finish xs p) ≡ true → is_some (finish (xs ++ ys) p) ≡ true) → is_some (cond b (Some l.at) (finish (xs ++ ys) p)) ≡ true
    by true e later = refl
    by false e later = later e

finish_behind : (xs ys : List walks.Left) (p : ℕ) → is_some (finish xs p) ≡ false → finish (xs ++ ys) p ≡ finish ys p
finish_behind [] ys p e = refl
finish_behind (l ∷ xs) ys p e = by (is_position l.position p && l.finished) e (finish_behind xs ys p)
  where
    by : (b : Bool) → is_some (cond b (Some l.at) (finish xs p)) ≡ false → (is_some (finish xs p) ≡ false → finish (xs ++ ys) p ≡ finish ys p) → cond b (Some l.at) (finish (xs ++ ys) p) ≡ finish ys p
    by true e later = cc
    by false e later = later e

module _ (u : PathRun) (is : IsPath u) (p : ℕ) where
  abbrev finished_in : ℕ → Bool
  finished_in j = is_some (finish (end_to_end (take j (walk_path u.jobs u.lengths u.lists u.legs))) p)

  -- one list more
  in_next : (j : ℕ) → suc j < length u.legs
      → end_to_end (take (suc j) (walk_path u.jobs u.lengths u.lists u.legs)) ≡ end_to_end (take j (walk_path u.jobs u.lengths u.lists u.legs)) ++ walk_from u.jobs (list_at u j) (x_at u is j)
  in_next j l =
      more_joined (walk_path u.jobs u.lengths u.lists u.legs) j (omega (arith, l, as_many u.jobs u.lists u.legs (first_point u.jobs u.lengths) is.forms))
      ∙ ap (λ ls. end_to_end (take j (walk_path u.jobs u.lengths u.lists u.legs)) ++ ls) (walk_is u is j (omega (arith, l)))

  left_next : (j : ℕ) → suc j < length u.legs → get_or (x_at u is (suc j)).left p 0 ≡ get_or (last_point u.jobs (list_at u j) (x_at u is j)).left p 0
  left_next j l = ap (λ (x : Point). get_or x.left p 0) (next_is u is j l)

  with_work : 0 < get_or (work u.jobs u.lengths) p 0 → (j : ℕ) → j < length u.legs → eqb (get_or (x_at u is j).left p 0) 0 ≡ finished_in j
  with_work some zero l = ap (λ (x : Point). eqb (get_or x.left p 0) 0) (first_is u is l) ∙ eqb_some (get_or (work u.jobs u.lengths) p 0) some
  with_work some (suc j) l =
      let s = list_at u j in
      let x = x_at u is j in
      let ws = walk_from u.jobs s x in
      let before = end_to_end (take j (walk_path u.jobs u.lengths u.lists u.legs)) in
      let ih = with_work some j (omega (arith, l)) in
      ap (λ n. eqb n 0) (left_next j l)
      ∙ elim (cases_lt 0 (get_or x.left p 0)) [
        | inl more ↦ finished_where_none u.jobs s x p more ∙ sym (ap is_some (finish_behind before ws p (sym ih ∙ eqb_some (get_or x.left p 0) more)))
        | inr none ↦
            none_left (get_or (last_point u.jobs s x).left p 0) (omega (arith, none, left_falls_to u.jobs s x p))
            ∙ sym (finish_front before ws p (sym ih ∙ none_left (get_or x.left p 0) (omega (arith, none))))
      ]
      ∙ sym (ap (λ ls. is_some (finish ls p)) (in_next j l))

  without_work : get_or (work u.jobs u.lengths) p 0 ≡ 0 → (j : ℕ) → j < length u.legs → (get_or (x_at u is j).left p 0 ≡ 0) × (finished_in j ≡ false)
  without_work none zero l = (ap (λ (x : Point). get_or x.left p 0) (first_is u is l) ∙ none, refl)
  without_work none (suc j) l =
      let s = list_at u j in
      let x = x_at u is j in
      let ih = without_work none j (omega (arith, l)) in (
        omega (arith, left_next j l, ih.0, left_falls_to u.jobs s x p),
        ap (λ ls. is_some (finish ls p)) (in_next j l)
            ∙ ap is_some (finish_behind (end_to_end (take j (walk_path u.jobs u.lengths u.lists u.legs))) (walk_from u.jobs s x) p ih.1 ∙ never_finished u.jobs s x p ih.0),
      )

pub finished_before : FinishedBefore
finished_before u j p is least l over known =
    let w = begins u is j l over in
    ap (λ (k : Job). k.present && eqb (get_or (list_begun u j).first.left p 0) 0) (ap (λ js. job_at js p) w.jobs ∙ job_front (leg_at u j).known u.jobs p known)
    ∙ ap (λ n. (job_at u.jobs p).present && eqb n 0) (w.first.left p known)
    ∙ by (job_at u.jobs p).present refl
  where
    by : (c : Bool) → (job_at u.jobs p).present ≡ c → (c && eqb (get_or (x_at u is j).left p 0) 0) ≡ finished_in u is p j
    by true here =
        let there = job_there u.jobs p here in
        with_work u is p (omega (arith, least p (job_at u.jobs p) there here, work_present u.jobs u.lengths p (job_at u.jobs p) there here)) j l
    by false absent = sym (without_work u is p (absent_idle u.jobs u.lengths p absent) j l).1
