-- A list ends, and the S machine goes on with the next.
use Rattle.std.proofs.Common.{◌≡◌, ℕ, zero, suc, ◌+◌, ◌-◌, ◌≤◌, ◌<◌, Bool, true, false, ◌&&◌, ltb, List, [], ◌∷◌, ◌++◌, length, take, drop, get_or, slice_get, replicate, Some, refl, sym, ap, ap₂, ◌∙◌, subst, arith, length-append, ⊎_elim}
use Rattle.htl_runs.proofs.Words.{cases_lt, lt-ltb, le-ltb, length-take, length-drop, length-map, Job, Point, job_at, last_point, first_point, work, list_point, AgreeAt, HaveLengths, AreWithinWorst, onward_lists, same_length, job_there, CanBegin, IsEven, Pending, Round, added, state_of, stands_added, pending_is, Frame, IsFollowed, leg_at, front_of, list_start, list_plan, point_long, take_work, front_agrees, point_agrees, form_at, released_before, SMachineAt, more_jobs, more_lengths, SMachinesGoOn, front_more, get_taken, take_all, work_length, same_number_lists, point_next}
use Rattle.htl_runs.proofs.{lists.NextPoints.drop_work, lists.NextPoints.get_behind, lists.NextPoints.point_untouched, records.ReleasedBefore.flag_at}

-- ---- releases

none_released : (d : ℕ) (js : List Job) → ((p : ℕ) (k : Job) → slice_get js p ≡ Some k → k.present ≡ true → d ≤ k.release) → replicate (length js) false ≡ released_before d js
none_released d [] h = refl
none_released d (j ∷ js) h = ap₂ (λ a b. a ∷ b) (by_present j.present refl) (none_released d js (λ p k e f. h (suc p) k e f))
  where
    by_present : (b : Bool) → j.present ≡ b → false ≡ (b && ltb j.release d)
    by_present false e = refl
    by_present true e = sym (le-ltb j.release d (h 0 j refl e))

released_more : (d : ℕ) (xs ys : List Job) → released_before d xs ++ released_before d ys ≡ released_before d (xs ++ ys)
released_more d [] ys = refl
released_more d (x ∷ xs) ys = ap (λ bs. (x.present && ltb x.release d) ∷ bs) (released_more d xs ys)

pub get_later : (n m : ℕ) (js : List Job) (p : ℕ) (k : Job) → slice_get (drop n (take m js)) p ≡ Some k → slice_get js (n + p) ≡ Some k
get_later zero zero js p k e = absurd (let z : ⊥ = cc in z)
get_later zero (suc m) [] p k e = absurd (let z : ⊥ = cc in z)
get_later zero (suc m) (j ∷ js) zero k e = e
get_later zero (suc m) (j ∷ js) (suc p) k e = grind (arith, get_later zero m js p k e)
get_later (suc n) zero js p k e = absurd (let z : ⊥ = cc in z)
get_later (suc n) (suc m) [] p k e = absurd (let z : ⊥ = cc in z)
get_later (suc n) (suc m) (j ∷ js) p k e = grind (arith, get_later n m js p k e)

later_below : (n m : ℕ) (js : List Job) (p : ℕ) (k : Job) → slice_get (drop n (take m js)) p ≡ Some k → n + p < m
later_below zero zero js p k e = absurd (let z : ⊥ = cc in z)
later_below zero (suc m) [] p k e = absurd (let z : ⊥ = cc in z)
later_below zero (suc m) (j ∷ js) zero k e = omega arith
later_below zero (suc m) (j ∷ js) (suc p) k e = let r : 0 + p < m = later_below zero m js p k e in omega arith
later_below (suc n) zero js p k e = absurd (let z : ⊥ = cc in z)
later_below (suc n) (suc m) [] p k e = absurd (let z : ⊥ = cc in z)
later_below (suc n) (suc m) (j ∷ js) p k e = let r : n + p < m = later_below n m js p k e in omega arith

-- ---- the next list

module _ (f : Frame) (j s : ℕ) (r : Round) (g : IsFollowed f j) (at : SMachineAt (list_plan f j) s (length (get_or f.lists j [])) (leg_at f (suc j)).from r) where
  -- the point at which the list before ends, of the positions so far
  ended : r.point ≡ last_point (take (leg_at f j).known f.jobs) (get_or f.lists j []) (front_of (leg_at f j).known (list_start f j))
  ended = grind (arith, take_all)

  alike : AgreeAt (length (take (leg_at f j).known f.jobs) + length (more_jobs f j))
      (record { time = (leg_at f (suc j)).from; left = (last_point (take (leg_at f j).known f.jobs) (get_or f.lists j []) (front_of (leg_at f j).known (list_start f j))).left ++ work (more_jobs f j) (more_lengths f j) })
      (list_point (leg_at f (suc j)).from (last_point f.jobs (get_or f.lists j []) (list_start f j)))
  alike =
      let n = (leg_at f j).known in
      let m = (leg_at f (suc j)).known in
      let y = list_start f j in
      let w = work f.jobs f.lengths in
      let few : length (take n f.jobs) ≡ n = omega (arith, length-take n f.jobs, g.more, g.within) in
      let long : length y.left ≡ length f.jobs = point_long f.jobs f.lists f.legs j (first_point f.jobs f.lengths) ∙ work_length f.jobs f.lengths in
      (onward_lists (take n f.jobs) (more_jobs f j) f.jobs (more_lengths f j) (get_or f.lists j []) n (leg_at f j).to (leg_at f (suc j)).from (front_of n y) y
      (subst (λ k. (p : ℕ) → p < k → job_at (take n f.jobs) p ≡ job_at f.jobs p) (sym few) (front_agrees n f.jobs))
      (subst (λ k. AgreeAt k (front_of n y) y) (sym few) (point_agrees n y))
      (omega (arith, length-take n y.left, few, long, g.more, g.within))
      (form_at f.lists f.legs j g.forms (omega (arith, g.there)))
      (omega (arith, few))
      (λ p h.
      ap (λ k. get_or y.left (k + p) 0) few
      ∙ point_untouched f.jobs f.lists f.legs j (first_point f.jobs f.lengths) (n + p) g.forms (omega (arith, g.there)) (λ i l. omega (arith, g.before i l))
      ∙ sym (ap (λ ws. get_or ws p 0) (drop_work n (take m f.jobs) (take m f.lengths) ∙ ap (drop n) (take_work m f.jobs f.lengths)) ∙ get_behind n (take m w) p ∙ get_taken m w (n + p) (omega (arith, h, length-drop n (take m f.jobs), length-take m f.jobs))))).next

  first_is : (at' : ℕ) → at' ≡ s + (leg_at f (suc j)).from
      → record { time = at' - r.start; left = r.point.left ++ work (more_jobs f j) (more_lengths f j) } ≡ front_of (leg_at f (suc j)).known (list_start f (suc j))
  first_is at' e =
      let n = (leg_at f j).known in
      let m = (leg_at f (suc j)).known in
      let y = list_start f j in
      let a = (leg_at f (suc j)).from in
      let u = last_point (take n f.jobs) (get_or f.lists j []) (front_of n y) in
      let v = last_point f.jobs (get_or f.lists j []) y in
      let few : length (take n f.jobs) ≡ n = omega (arith, length-take n f.jobs, g.more, g.within) in
      let long : length y.left ≡ length f.jobs = point_long f.jobs f.lists f.legs j (first_point f.jobs f.lengths) ∙ work_length f.jobs f.lengths in
      let long_v : length v.left ≡ length f.jobs = same_length f.jobs (get_or f.lists j []) y ∙ long in
      let long_u : length u.left ≡ n = same_length (take n f.jobs) (get_or f.lists j []) (front_of n y) ∙ (let z : length (take n y.left) ≡ n = omega (arith, length-take n y.left, long, g.more, g.within) in z) in
      let new : length (more_jobs f j) ≡ m - n = omega (arith, length-drop n (take m f.jobs), length-take m f.jobs, g.within) in
      let both : length (u.left ++ work (more_jobs f j) (more_lengths f j)) ≡ m = omega (arith, length-append u.left (work (more_jobs f j) (more_lengths f j)), work_length (more_jobs f j) (more_lengths f j), long_u, new, g.more) in
      let lefts : u.left ++ work (more_jobs f j) (more_lengths f j) ≡ take m v.left =
      same_number_lists (u.left ++ work (more_jobs f j) (more_lengths f j)) (take m v.left) (omega (arith, both, length-take m v.left, long_v, g.within))
      (λ p h. alike.left p (omega (arith, h, both, few, new, g.more)) ∙ sym (get_taken m v.left p (omega (arith, h, both)))) in
      let time : at' - r.start ≡ a = omega (arith, e, at.start) in
      let make : ℕ → List ℕ → Point = λ t ws. record { time = t; left = ws } in
      ap (λ t. make t (r.point.left ++ work (more_jobs f j) (more_lengths f j))) time
      ∙ ap (λ (x : Point). make a (x.left ++ work (more_jobs f j) (more_lengths f j))) ended
      ∙ ap (make a) lefts
      ∙ sym (ap (front_of m) (point_next f.jobs f.lists f.legs j (first_point f.jobs f.lengths) g.forms g.there))

  flags_are : r.released ++ replicate (length (more_jobs f j)) false ≡ released_before (leg_at f (suc j)).from (take (leg_at f (suc j)).known f.jobs)
  flags_are =
      let n = (leg_at f j).known in
      let m = (leg_at f (suc j)).known in
      let d = (leg_at f (suc j)).from in
      ap₂ (λ a b. a ++ b) at.released (none_released d (more_jobs f j) (λ p k e here. g.later (n + p) k (omega arith) (get_later n m f.jobs p k e) here))
      ∙ released_more d (take n f.jobs) (more_jobs f j)
      ∙ ap (released_before d) (front_more n m f.jobs g.more)

  -- who is pending isn't released before
  told : (p : ℕ) → state_of r p ≡ Pending → (leg_at f (suc j)).from ≤ (job_at r.jobs p).release
  told p pending =
      let d = (leg_at f (suc j)).from in
      let is = pending_is r p pending in
      let there : slice_get r.jobs p ≡ Some (job_at r.jobs p) = job_there r.jobs p is.present in
      let here : slice_get (list_plan f j).jobs p ≡ Some (job_at r.jobs p) = sym (ap (λ (js : List Job). slice_get js p) at.jobs) ∙ there in
      let flag : ((job_at r.jobs p).present && ltb (job_at r.jobs p).release d) ≡ false =
      sym (flag_at d (list_plan f j).jobs p (job_at r.jobs p) here) ∙ sym (ap (λ (bs : List Bool). get_or bs p false) at.released) ∙ is.told in
      late (job_at r.jobs p).present (job_at r.jobs p).release d is.present flag
    where
      late : (b : Bool) (a d : ℕ) → b ≡ true → (b && ltb a d) ≡ false → d ≤ a
      late false a d e h = absurd (let z : ⊥ = cc in z)
      late true a d e h = ⊎_elim (λ (l : a < d). absurd (let z : true ≡ false = sym (lt-ltb a d l) ∙ h in cc)) (λ (l : d ≤ a). l) (cases_lt a d)

  length_at : (p : ℕ) (k : Job) → slice_get (more_jobs f j) p ≡ Some k → get_or (more_lengths f j) p 0 ≡ get_or f.lengths ((leg_at f j).known + p) 0
  length_at p k e = grind (arith, get_behind, get_taken, later_below)

  pub can_begin : (at' : ℕ) → at' ≡ s + (leg_at f (suc j)).from → HaveLengths f.jobs f.lengths → AreWithinWorst f.jobs f.lengths → CanBegin r (at' - r.start) (more_jobs f j) (more_lengths f j)
  can_begin at' e least most = grind (arith, told, get_later, length-drop, length-take, length_at)

  -- as many of each
  pub even : IsEven r
  even =
      let n = (leg_at f j).known in
      let y = list_start f j in
      let few : length (take n f.jobs) ≡ n = omega (arith, length-take n f.jobs, g.more, g.within) in
      let long : length y.left ≡ length f.jobs = point_long f.jobs f.lists f.legs j (first_point f.jobs f.lengths) ∙ work_length f.jobs f.lengths in
      let left : length r.point.left ≡ n =
      ap (λ (x : Point). length x.left) ended ∙ same_length (take n f.jobs) (get_or f.lists j []) (front_of n y) ∙ (let z : length (take n y.left) ≡ n = omega (arith, length-take n y.left, long, g.more, g.within) in z) in
      let jobs : length r.jobs ≡ n = ap (λ (js : List Job). length js) at.jobs ∙ few in
      record {
        lengths = at.lengths;
        released = ap (λ (bs : List Bool). length bs) at.released ∙ length-map (take n f.jobs) (λ (k : Job). k.present && ltb k.release (leg_at f (suc j)).from) ∙ few ∙ sym jobs;
        left = left ∙ sym jobs;
      }

pub s_machines_go_on : SMachinesGoOn
s_machines_go_on f j s r g least most at =
    let at' = s + (leg_at f (suc j)).from in
    let can = can_begin f j s r g at at' refl least most in
    let next = added r at' (more_jobs f j) (more_lengths f j) in (
      can,
      record {
        start = at.start;
        jobs = ap (λ js. js ++ more_jobs f j) at.jobs ∙ front_more (leg_at f j).known (leg_at f (suc j)).known f.jobs g.more;
        lengths = length-append r.lengths (more_lengths f j) ∙ (let z : length r.lengths + length (more_lengths f j) ≡ length r.jobs + length (more_jobs f j) = omega (arith, at.lengths, can.same) in z) ∙ sym (length-append r.jobs (more_jobs f j));
        first = first_is f j s r g at at' refl;
        place = refl;
        running = sym (lt-ltb 0 (length (get_or f.lists (suc j) [])) g.some);
        released = flags_are f j s r g at;
        stands = stands_added r (list_plan f j).schedule at' (more_jobs f j) (more_lengths f j) (get_or f.lists (suc j) []) at.stands (even f j s r g at) can;
      },
    )
