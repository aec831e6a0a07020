-- The finishes of a path, list by list.
use Rattle.std.proofs.Common.{◌≡◌, ℕ, suc, ◌<◌, List, [], ◌∷◌, ◌++◌, length, get_or, map, slice_get, Option, Some, None, refl, sym, ap, ◌∙◌, arith, append_assoc, append-nil}
use Rattle.std.proofs.lemmas.List.{length-map}
use Rattle.htl_model.proofs.Listed.{list_same}
use Rattle.htl_walk.proofs.NodeWalks.{reach_behind}
use Rattle.htl_times.proofs.Words.{Frame, Place, IsFrame, or_else, starts, frame_of, node, path_places, list_to, Tables, Job, SInstr, Schedule, reach, reached, list_at, instrs_of, path_jobs, legs_of, list_point, walks_from, end_to_end, Point, Left, walk_from, last_point, first_point, finish, work, worst_cases, start_read, left_length, list_read, list_front}
use Rattle.htl_times.proofs.{BareWalks.bare_walk, BareWalks.bare_last, Halfway.finish_told, Halfway.first_first}
use Rattle.htl_times.specs.{BareJobs.bare, Noting.AreFinishesTo, Noting.AreWorstFinishes, Noting.AreEmpty, Noting.list_walk, Noting.work_of}

-- ---- records end to end

pub finish_append : (xs ys : List Left) (p : ℕ) → finish (xs ++ ys) p ≡ or_else (finish xs p) (finish ys p)
finish_append [] ys p = refl
finish_append (x ∷ xs) ys p =
    finish_told x (xs ++ ys) p ∙ ap (or_else _) (finish_append xs ys p) ∙ sym (first_first _ (finish xs p) (finish ys p)) ∙ ap (λ o. or_else o (finish ys p)) (sym (finish_told x xs p))

pub end_more : (ls : List (List Left)) (l : List Left) → end_to_end (ls ++ l ∷ []) ≡ end_to_end ls ++ l
end_more [] l = append-nil l
end_more (k ∷ ls) l = ap (λ zs. k ++ zs) (end_more ls l) ∙ sym (append_assoc k (end_to_end ls) l)

abbrev walk_at : List Job → List ℕ → (ℕ → List SInstr) → Point → ℕ → List Left
walk_at js as' f x j = walk_from js (f j) (list_point (get_or as' j 0) (reach js as' f x j))

walks_are : (js : List Job) (h : ℕ) (xs : List Place) (as' : List ℕ) (f : ℕ → List SInstr) (x : Point)
    → walks_from js (list_to f (length as')) (legs_of h xs as') x ≡ list_to (walk_at js as' f x) (length as')
walks_are js h xs [] f x = refl
walks_are js h xs (a ∷ later) f x =
    let g : ℕ → List SInstr = λ k. f (suc k) in
    let y = last_point js (f 0) (list_point a x) in
    let n = length later in
    ap (λ ss. walks_from js ss (legs_of h xs (a ∷ later)) x) (list_front f n)
    ∙ ap (λ ws. walk_from js (f 0) (list_point a x) ∷ ws)
    (walks_are js h xs later g y
    ∙ list_same (walk_at js later g y) (λ j. walk_at js (a ∷ later) f x (suc j)) n (λ j l. ap (λ z. walk_from js (f (suc j)) (list_point (get_or later j 0) z)) (sym (reach_behind js a later f x j))))
    ∙ sym (list_front (walk_at js (a ∷ later) f x) n)

-- ---- a path

module _ (t : Tables) (lists : List (List SInstr)) (path : ℕ) where
  pub none_yet : (finishes : List (Option ℕ)) → AreEmpty finishes → AreFinishesTo t lists path 0 finishes
  none_yet finishes e p l = e p l

  pub one_more : (j : ℕ) (old new : List (Option ℕ)) → AreFinishesTo t lists path j old → length new ≡ length old
      → ((p : ℕ) → p < length old → get_or new p None ≡ or_else (get_or old p None) (finish (list_walk t lists path j) p)) → AreFinishesTo t lists path (suc j) new
  one_more j old new so same more p l =
      let before = list_to (list_walk t lists path) j in
      let l' : p < length old = omega (arith, l, same) in
      more p l' ∙ ap (λ o. or_else o (finish (list_walk t lists path j) p)) (so p l')
      ∙ sym (ap (λ ls. finish ls p) (end_more before (list_walk t lists path j)) ∙ finish_append (end_to_end before) (list_walk t lists path j) p)

  pub all_lists : (finishes : List (Option ℕ)) → AreFinishesTo t lists path (length (starts t)) finishes → AreWorstFinishes t lists path finishes
  all_lists finishes so p l =
      let js = path_jobs t path in
      so p l ∙ ap (λ ws. finish (end_to_end ws) p) (sym (walks_are js (frame_of t) (path_places t path) (starts t) (list_at t lists path) (first_point js (worst_cases js))))

-- ---- the code at list j

module _ (t : Tables) (f : Frame) (lists : List Schedule) (path j n : ℕ) (jobs : List Job) (r : Schedule) (left : List ℕ) (frame : IsFrame t f) (below : j < length (starts t)) (within : n < length lists)
    (jobs_are : jobs ≡ map bare (path_jobs t path)) (node_is : n ≡ node t path j) (list_is : r ≡ get_or lists n r) (left_is : left ≡ (reached t (instrs_of lists) path j).left) where
  instrs_are : r.instrs ≡ list_at t (instrs_of lists) path j
  instrs_are = ap (λ (z : Schedule). z.instrs) list_is ∙ list_read lists r n within ∙ ap (λ m. get_or (instrs_of lists) m []) node_is

  point : ℕ → List ℕ → Point
  point a l = record { time = a; left = l }

  begins_so : record { time = get_or f.starts j 0; left = left } ≡ list_point (get_or (starts t) j 0) (reached t (instrs_of lists) path j)
  unfolding point
  begins_so = ap (λ a. point a left) (start_read t f j frame below) ∙ ap (point (get_or (starts t) j 0)) left_is

  pub walk_here : walk_from jobs r.instrs (record { time = get_or f.starts j 0; left = left }) ≡ list_walk t (instrs_of lists) path j
  walk_here =
      ap (walk_from jobs r.instrs) begins_so
      ∙ ap (λ is. walk_from jobs is (list_point (get_or (starts t) j 0) (reached t (instrs_of lists) path j))) instrs_are
      ∙ ap (λ js. walk_from js (list_at t (instrs_of lists) path j) (list_point (get_or (starts t) j 0) (reached t (instrs_of lists) path j))) jobs_are
      ∙ bare_walk (path_jobs t path) (list_at t (instrs_of lists) path j) (list_point (get_or (starts t) j 0) (reached t (instrs_of lists) path j))

  pub left_here : (last_point jobs r.instrs (record { time = get_or f.starts j 0; left = left })).left ≡ (reached t (instrs_of lists) path (suc j)).left
  left_here =
      ap (λ x. (last_point jobs r.instrs x).left) begins_so
      ∙ ap (λ is. (last_point jobs is (list_point (get_or (starts t) j 0) (reached t (instrs_of lists) path j))).left) instrs_are
      ∙ ap (λ js. (last_point js (list_at t (instrs_of lists) path j) (list_point (get_or (starts t) j 0) (reached t (instrs_of lists) path j))).left) jobs_are
      ∙ ap (λ (x : Point). x.left) (bare_last (path_jobs t path) (list_at t (instrs_of lists) path j) (list_point (get_or (starts t) j 0) (reached t (instrs_of lists) path j)))

-- ---- the work at first

pub work_is : (js : List Job) (left : List ℕ) → length left ≡ length js → ((k : ℕ) (j : Job) → slice_get js k ≡ Some j → get_or left k 0 ≡ work_of j) → left ≡ work js (worst_cases js)
work_is [] [] e h = refl
work_is [] (x ∷ xs) e h = absurd (omega (arith, e))
work_is (j ∷ js) [] e h = absurd (omega (arith, e))
work_is (j ∷ js) (x ∷ xs) e h = ap (λ z. z ∷ xs) (h 0 j refl) ∙ ap (λ zs. work_of j ∷ zs) (work_is js xs (omega (arith, e)) (λ k i at. h (suc k) i at))

pub bare_length : (t : Tables) (lists : List (List SInstr)) (path : ℕ) (jobs : List Job) (left : List ℕ) → jobs ≡ map bare (path_jobs t path) → left ≡ (reached t lists path 0).left → length left ≡ length jobs
bare_length t lists path jobs left js ls = left_length t lists path 0 (path_jobs t path) left refl ls ∙ sym (ap (λ (xs : List Job). length xs) js ∙ length-map (path_jobs t path) bare)
