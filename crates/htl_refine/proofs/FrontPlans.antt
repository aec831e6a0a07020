-- Frames that agree in their first lists and positions, and in how long these take, plan and leave the same there.
use Rattle.std.proofs.Common.{◌≡◌, ℕ, zero, suc, ◌≤◌, ◌<◌, List, [], ◌∷◌, length, get_or, take, refl, sym, ap, ap₂, ◌∙◌, arith}
use Rattle.htl_refine.proofs.Words.{length-take, Job, SInstr, Leg, AgreeOn, AgreeAt, AreInForm, AreWithin, end_to_end, path_point, Point, job_at, last_point, first_point, work, same_length, AreSameSoFar, Frame, walks_of, ListPlan, no_leg, leg_at, front_of, list_start, list_plan, get_taken, work_length, same_number_lists, job_front}
use Rattle.htl_refine.proofs.{Fronts.take_work, PointsAgree.points_agree, WalksAgree.fronts_alike}

-- ---- lists

get_take : {A : Type 0} (j : ℕ) (xs ys : List A) (d : A) → take (suc j) xs ≡ take (suc j) ys → get_or xs j d ≡ get_or ys j d
get_take j xs ys d e = sym (front j xs d) ∙ ap (λ zs. get_or zs j d) e ∙ front j ys d
  where
    front : {A : Type 0} (j : ℕ) (xs : List A) (d : A) → get_or (take (suc j) xs) j d ≡ get_or xs j d
    front j [] d = refl
    front zero (x ∷ xs) d = refl
    front (suc j) (x ∷ xs) d = front j xs d

take_less : {A : Type 0} (k : ℕ) (xs : List A) → take k xs ≡ take k (take (suc k) xs)
take_less (suc k) (x ∷ xs) = ap (λ ys. x ∷ ys) (take_less k xs)
take_less _ _ = refl

pub point_long : (jobs : List Job) (ss : List (List SInstr)) (gs : List Leg) (j : ℕ) (x : Point) → length (path_point jobs ss gs j 0 x).left ≡ length x.left
point_long jobs (s ∷ ss) (g ∷ gs) (suc j) x = point_long jobs ss gs j (last_point jobs s (record { time = g.from; left = x.left })) ∙ same_length jobs s (record { time = g.from; left = x.left })
point_long jobs _ _ _ x = refl

-- points that agree have the same front
front_same : (n : ℕ) (x y : Point) → AgreeAt n x y → n ≤ length x.left → n ≤ length y.left → front_of n x ≡ front_of n y
front_same n x y a l m =
    let lefts : take n x.left ≡ take n y.left =
    same_number_lists (take n x.left) (take n y.left) (let z : length (take n x.left) ≡ length (take n y.left) = omega (arith, length-take n x.left, length-take n y.left, l, m) in z)
    (λ p h. let k : p < n = omega (arith, h, length-take n x.left) in get_taken n x.left p k ∙ a.left p k ∙ sym (get_taken n y.left p k)) in
    let make : ℕ → List ℕ → Point = λ t ws. record { time = t; left = ws } in
    ap₂ make a.time lefts

module _ (p q : Frame) (j : ℕ) (m : ℕ) (known : (leg_at p j).known ≡ m) (same : AreSameSoFar p q (suc j) m) (lengths : take m p.lengths ≡ take m q.lengths) (forms : AreInForm p.lists p.legs) (within : AreWithin m (take (suc j) p.legs))
    (few : m ≤ length p.jobs) where
  work_same : take m (work p.jobs p.lengths) ≡ take m (work q.jobs q.lengths)
  work_same = sym (take_work m p.jobs p.lengths) ∙ ap₂ work same.jobs lengths ∙ take_work m q.jobs q.lengths

  begins_same : AgreeAt m (first_point p.jobs p.lengths) (first_point q.jobs q.lengths)
  begins_same = record { time = refl; left = λ k l. sym (get_taken m (work p.jobs p.lengths) k l) ∙ ap (λ ws. get_or ws k 0) work_same ∙ get_taken m (work q.jobs q.lengths) k l }

  jobs_same : AgreeOn m p.jobs q.jobs
  jobs_same k l = sym (job_front m p.jobs k l) ∙ ap (λ js. job_at js k) same.jobs ∙ job_front m q.jobs k l

  pub leg_same : leg_at p j ≡ leg_at q j
  leg_same = get_take j p.legs q.legs no_leg same.legs

  pub front_plan : list_plan p j ≡ list_plan q j
  front_plan =
      let few_q : m ≤ length q.jobs = let e : length (take m p.jobs) ≡ length (take m q.jobs) = ap (λ (js : List Job). length js) same.jobs in omega (arith, e, length-take m p.jobs, length-take m q.jobs, few) in
      let points : AgreeAt m (list_start p j) (list_start q j) =
      points_agree m p.jobs q.jobs p.lists q.lists p.legs q.legs j (first_point p.jobs p.lengths) (first_point q.jobs q.lengths) jobs_same begins_same forms within same.lists same.legs in
      let fronts : front_of m (list_start p j) ≡ front_of m (list_start q j) =
      front_same m (list_start p j) (list_start q j) points
      (omega (arith, point_long p.jobs p.lists p.legs j (first_point p.jobs p.lengths), work_length p.jobs p.lengths, few))
      (omega (arith, point_long q.jobs q.lists q.legs j (first_point q.jobs q.lengths), work_length q.jobs q.lengths, few_q)) in
      let plan : List Job → List ℕ → Point → List SInstr → ListPlan = λ js ns x c. record { jobs = js; lengths = ns; first = x; schedule = c } in
      let of : ℕ → Frame → ListPlan = λ n f. plan (take n f.jobs) (take n f.lengths) (front_of n (list_start f j)) (get_or f.lists j []) in
      ap (λ n. of n p) known
      ∙ ap (λ js. plan js (take m p.lengths) (front_of m (list_start p j)) (get_or p.lists j [])) same.jobs
      ∙ ap (λ ns. plan (take m q.jobs) ns (front_of m (list_start p j)) (get_or p.lists j [])) lengths
      ∙ ap₂ (λ x c. plan (take m q.jobs) (take m q.lengths) x c) fronts (get_take j p.lists q.lists [] same.lists)
      ∙ ap (λ n. of n q) (sym known ∙ ap (λ (g : Leg). g.known) leg_same)

  pub front_walks : end_to_end (take j (walks_of p)) ≡ end_to_end (take j (walks_of q))
  front_walks =
      let walks : take (suc j) (walks_of p) ≡ take (suc j) (walks_of q) = fronts_alike p q (suc j) m jobs_same begins_same forms within same.lists same.legs in
      ap end_to_end (take_less j (walks_of p) ∙ ap (take j) walks ∙ sym (take_less j (walks_of q)))
