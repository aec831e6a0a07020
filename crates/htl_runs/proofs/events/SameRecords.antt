-- Two lists that have left the same before an instant: what is finished and shown of them before it is the same.
use Rattle.std.proofs.Common.{◌≡◌, ℕ, zero, suc, ◌+◌, ◌-◌, ◌≤◌, cond, eqb, is_some, Bool, List, [], ◌∷◌, ◌++◌, length, map, take, drop, refl, sym, ap, ap₂, ◌∙◌, arith}
use mathlib.Core.Path.{fun_ext}
use Rattle.htl_runs.proofs.Words.{Job, finish, told_from, told_from-take, Plan, list_walk, count_left_before, done_by, Turn, turn_walk, left_before, turn_finished_by, record_of, some_records, plan_records, finished_in}
use Rattle.htl_walk.specs.Walk as walks
use Rattle.htl_smach.specs.declared.left.Left.{Left}

-- the same list, of the same frame, with the same jobs, whose records so far are the same
pub record AreSoFar (u v : Turn) (now : ℕ) : Type 0 where
  pub frame : u.frame ≡ v.frame
  pub from : u.from ≡ v.from
  pub node : u.node ≡ v.node
  pub jobs : u.plan.jobs ≡ v.plan.jobs
  pub code : u.plan.schedule ≡ v.plan.schedule
  pub earlier : u.earlier ≡ v.earlier
  pub count : (e : ℕ) → u.frame + e ≤ now → count_left_before e (turn_walk u) ≡ count_left_before e (turn_walk v)
  pub front : (e : ℕ) → u.frame + e ≤ now → take (count_left_before e (turn_walk u)) (turn_walk u) ≡ take (count_left_before e (turn_walk v)) (turn_walk v)

pub one_so_far : (u : Turn) (now : ℕ) → AreSoFar u u now
one_so_far u now = record { frame = refl; from = refl; node = refl; jobs = refl; code = refl; earlier = refl; count = λ e early. refl; front = λ e early. refl }

-- a slice is one of the front
slice_front : {A : Type 0} (xs : List A) (a b : ℕ) → take (b - a) (drop a xs) ≡ drop a (take b xs)
slice_front xs zero b = ap (λ z. take z xs) (let e : b - 0 ≡ b = omega arith in e)
slice_front {A = A} [] (suc a) zero = ap (λ z. take {A = A} z []) (let e : 0 - suc a ≡ 0 = omega arith in e)
slice_front {A = A} [] (suc a) (suc b) = nothing (suc b - suc a)
  where
    nothing : (n : ℕ) → take {A = A} n [] ≡ []
    nothing zero = refl
    nothing (suc n) = refl
slice_front (x ∷ xs) (suc a) zero = ap (λ z. take z (drop a xs)) (let e : 0 - suc a ≡ 0 = omega arith in e)
slice_front (x ∷ xs) (suc a) (suc b) = ap (λ z. take z (drop a xs)) (let e : suc b - suc a ≡ b - a = omega arith in e) ∙ slice_front xs a b

-- records of lists whose walks have one front
records_same : (p q : Plan) (s a b : ℕ) → take b (list_walk p) ≡ take b (list_walk q) → some_records p s a (b - a) ≡ some_records q s a (b - a)
records_same p q s a b e =
    slice_front (told_from s 0 (list_walk p)) a b
    ∙ ap (drop a) (told_from-take s 0 (list_walk p) b ∙ ap (told_from s 0) e ∙ sym (told_from-take s 0 (list_walk q) b))
    ∙ sym (slice_front (told_from s 0 (list_walk q)) a b)

take_past : {A : Type 0} (xs ys : List A) (k : ℕ) → take (length xs + k) (xs ++ ys) ≡ xs ++ take k ys
take_past [] ys k = ap (λ z. take z ys) (let e : 0 + k ≡ k = omega arith in e)
take_past (x ∷ xs) ys k =
    ap (λ z. take z (x ∷ (xs ++ ys))) (let e : suc (length xs) + k ≡ suc (length xs + k) = omega arith in e) ∙ ap (λ z. x ∷ z) (take_past xs ys k)

module _ (u v : Turn) (now : ℕ) (same : AreSoFar u v now) where
  -- who is finished
  pub finished_so_far : (n : ℕ) → u.frame ≤ n → n ≤ now → turn_finished_by u (left_before u n) ≡ turn_finished_by v (left_before v n)
  finished_so_far n past early =
      let reached : u.frame + (n - u.frame) ≤ now = omega (arith, past, early) in
      let done : (w : Turn) (k p : ℕ) → done_by (w.earlier ++ turn_walk w) (length w.earlier + k) p ≡ is_some (finish (w.earlier ++ take k (turn_walk w)) p) =
      λ w k p. ap (λ (ls : List walks.Left). is_some (finish ls p)) (take_past w.earlier (turn_walk w) k) in
      let fronts : take (left_before u n) (turn_walk u) ≡ take (left_before v n) (turn_walk v) = same.front (n - u.frame) reached ∙ ap (λ f. take (count_left_before (n - f) (turn_walk v)) (turn_walk v)) same.frame in
      fun_ext (λ i.
      ap₂ (λ (js : List Job) (d : ℕ → Bool). finished_in js d i) same.jobs
      (fun_ext (λ p.
      done u (left_before u n) p
      ∙ ap₂ (λ (xs ys : List walks.Left). is_some (finish (xs ++ ys) p)) same.earlier fronts
      ∙ sym (done v (left_before v n) p))))

  -- the records between two instants
  pub between_so_far : (m n : ℕ) → u.frame ≤ m → m ≤ n → n ≤ now
      → some_records u.plan u.frame (left_before u m) (left_before u n - left_before u m) ≡ some_records v.plan v.frame (left_before v m) (left_before v n - left_before v m)
  between_so_far m n past order early =
      let a = left_before u m in
      let b = left_before u n in
      let low : left_before u m ≡ left_before v m = same.count (m - u.frame) (omega (arith, past, order, early)) ∙ ap (λ f. count_left_before (m - f) (turn_walk v)) same.frame in
      let high : left_before u n ≡ left_before v n = same.count (n - u.frame) (omega (arith, past, order, early)) ∙ ap (λ f. count_left_before (n - f) (turn_walk v)) same.frame in
      let fronts : take b (turn_walk u) ≡ take b (turn_walk v) =
      same.front (n - u.frame) (omega (arith, past, order, early)) ∙ ap (λ f. take (count_left_before (n - f) (turn_walk v)) (turn_walk v)) same.frame ∙ ap (λ z. take z (turn_walk v)) (sym high) in
      records_same u.plan v.plan u.frame a b fronts
      ∙ ap (λ f. some_records v.plan f a (b - a)) same.frame
      ∙ ap₂ (λ x y. some_records v.plan v.frame x (y - x)) low high

  -- the first records up to an instant
  pub first_so_far : (n : ℕ) → u.frame ≤ n → n ≤ now → some_records u.plan u.frame 0 (left_before u n) ≡ some_records v.plan v.frame 0 (left_before v n)
  first_so_far n past early =
      let high : left_before u n ≡ left_before v n = same.count (n - u.frame) (omega (arith, past, early)) ∙ ap (λ f. count_left_before (n - f) (turn_walk v)) same.frame in
      let fronts : take (left_before u n) (turn_walk u) ≡ take (left_before u n) (turn_walk v) =
      same.front (n - u.frame) (omega (arith, past, early)) ∙ ap (λ f. take (count_left_before (n - f) (turn_walk v)) (turn_walk v)) same.frame ∙ ap (λ z. take z (turn_walk v)) (sym high) in
      let whole : (z : ℕ) → z - 0 ≡ z = λ z. omega arith in
      ap (some_records u.plan u.frame 0) (sym (whole (left_before u n)))
      ∙ records_same u.plan v.plan u.frame 0 (left_before u n) fronts
      ∙ ap (some_records v.plan u.frame 0) (whole (left_before u n) ∙ high)
      ∙ ap (λ f. some_records v.plan f 0 (left_before v n)) same.frame

  -- those of the list that begins at an instant
  pub new_so_far : (n : ℕ) → u.frame ≤ n → suc n ≤ now
      → cond (eqb (u.frame + u.from) n) (some_records u.plan u.frame 0 (left_before u (suc n))) [] ≡ cond (eqb (v.frame + v.from) n) (some_records v.plan v.frame 0 (left_before v (suc n))) []
  new_so_far n past early =
      ap (λ (ls : List Left). cond (eqb (u.frame + u.from) n) ls []) (first_so_far (suc n) (omega (arith, past)) early)
      ∙ ap₂ (λ a b. cond (eqb (a + b) n) (some_records v.plan v.frame 0 (left_before v (suc n))) []) same.frame same.from

  -- what they show needs jobs, node and code alone
  pub shown_so_far : (ls : List Left) → plan_records u.plan u.node ls ≡ plan_records v.plan v.node ls
  shown_so_far ls =
      ap₂ (λ jobs code. map (record_of jobs u.node code) ls) same.jobs same.code ∙ ap (λ node. map (record_of v.plan.jobs node v.plan.schedule) ls) same.node
