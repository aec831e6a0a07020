-- The lists of a path, walked one after another.
use Rattle.std.proofs.Common.{◌≡◌, ◌≤◌, ◌<◌, ℕ, zero, suc, List, [], ◌∷◌, ◌++◌, length, drop, get_or, refl, sym, ap, ap₂, ◌∙◌, subst, arith}
use Rattle.htl_plan.proofs.Words.{All, drop-cons, drop_all, slice_get-get_or, get_list_to, length-list_to, frame_of, node, path_places, paths, starts, Tables, IsAccepted, Object, leg_from, legs_many, form_at, no_leg, list_read, known_at, nodes_within, known_few, lists_of, IsKnown, instrs_of, list_at, legs, legs_of, Leg, end_to_end, walks_from, InForm, Left, Point, last_point, walk_from, Job, SInstr, Schedule, known_more}
use Rattle.htl_model.specs.declared.frame.Place.{Place}

-- ---- one list more

-- the time before a list is that at which it begins
same_left : (jobs : List Job) (ss : List (List SInstr)) (gs : List Leg) (x y : Point) → x.left ≡ y.left → walks_from jobs ss gs x ≡ walks_from jobs ss gs y
same_left jobs [] gs x y e = refl
same_left jobs (s ∷ ss) [] x y e = refl
same_left jobs (s ∷ ss) (g ∷ gs) x y e =
    ap (λ (left : List ℕ). let z : Point = record { time = g.from; left = left } in walk_from jobs s z ∷ walks_from jobs ss gs (last_point jobs s z)) e

module _ (jobs : List Job) (ss : List (List SInstr)) (gs : List Leg) (j : ℕ) (listed : j < length ss) (legged : j < length gs) where
  pub list_next : (s : List SInstr) (a : ℕ) (left new : List ℕ) → s ≡ get_or ss j [] → a ≡ (get_or gs j no_leg).from → new ≡ (last_point jobs s (record { time = a; left = left })).left
      → end_to_end (walks_from jobs (drop j ss) (drop j gs) (record { time = 0; left = left }))
      ≡ walk_from jobs s (record { time = a; left = left }) ++ end_to_end (walks_from jobs (drop (suc j) ss) (drop (suc j) gs) (record { time = 0; left = new }))
  list_next s a left new is at last =
      let x : Point = record { time = 0; left = left } in
      let here : Point = record { time = a; left = left } in
      let after : Point = record { time = 0; left = new } in
      ap₂ (λ (ts : List (List SInstr)) (hs : List Leg). end_to_end (walks_from jobs ts hs x)) (drop-cons ss j [] listed) (drop-cons gs j no_leg legged)
      ∙ ap₂
      (λ (t : List SInstr) (b : ℕ). let z : Point = record { time = b; left = left } in walk_from jobs t z ++ end_to_end (walks_from jobs (drop (suc j) ss) (drop (suc j) gs) (last_point jobs t z)))
      (sym is) (sym at)
      ∙ ap (λ (ws : List (List Left)). walk_from jobs s here ++ end_to_end ws) (same_left jobs (drop (suc j) ss) (drop (suc j) gs) (last_point jobs s here) after (sym last))

pub lists_end : (jobs : List Job) (ss : List (List SInstr)) (gs : List Leg) (j : ℕ) (x : Point) → length ss ≤ j → end_to_end (walks_from jobs (drop j ss) gs x) ≡ []
lists_end jobs ss gs j x past = ap (λ (ts : List (List SInstr)). end_to_end (walks_from jobs ts gs x)) (drop_all j ss past)

-- ---- the lists of a path

pub path_lists : (t : Tables) (lists : List (List SInstr)) (path : ℕ) → length (lists_of t lists path) ≡ length (starts t)
path_lists t lists path = length-list_to (list_at t lists path) (length (starts t))

pub path_list : (t : Tables) (lists : List (List SInstr)) (path j : ℕ) → j < length (starts t) → get_or (lists_of t lists path) j [] ≡ list_at t lists path j
path_list t lists path j there = get_list_to (list_at t lists path) (length (starts t)) j [] there

pub path_legs : (t : Tables) (path : ℕ) → length (legs t path) ≡ length (starts t)
path_legs t path = legs_many (frame_of t) (path_places t path) (starts t)

pub path_leg : (t : Tables) (path j : ℕ) → j < length (starts t) → (get_or (legs t path) j no_leg).from ≡ get_or (starts t) j 0
path_leg t path j there = leg_from (frame_of t) (path_places t path) (starts t) j there

leg_few : (h : ℕ) (xs : List Place) (as' : List ℕ) (j : ℕ) → (get_or (legs_of h xs as') j no_leg).known ≤ length xs
leg_few h xs [] j = omega arith
leg_few h xs (a ∷ later) zero = known_few a xs
leg_few h xs (a ∷ later) (suc j) = leg_few h xs later j

module _ (o : Object) (accepted : IsAccepted o) (path j : ℕ) (below : path < paths o.tables) (there : j < length (starts o.tables)) where
  -- its instructions dispatch positions that there are
  pub list_known : (s : List SInstr) → s ≡ list_at o.tables (instrs_of o.schedules) path j → All (IsKnown (length (path_places o.tables path))) s
  list_known s is k d inside =
      let t = o.tables in
      let ss = lists_of t (instrs_of o.schedules) path in
      let g = get_or (legs t path) j no_leg in
      let form : InForm g.known g.to (get_or ss j []) = form_at ss (legs t path) j (accepted.feasible path below).forms (omega (arith, path_legs t path, there)) in
      let here : InForm g.known g.to s = subst (InForm g.known g.to) (path_list t (instrs_of o.schedules) path j there ∙ sym is) form in
      known_more g.known (length (path_places t path)) (get_or s k d) (leg_few (frame_of t) (path_places t path) (starts t) j)
      (known_at g.known g.to s k (get_or s k d) here (slice_get-get_or s k d inside))

  pub node_inside : (n : ℕ) (ss : List Schedule) → n ≡ node o.tables path j → ss ≡ o.schedules → n < length ss
  node_inside n ss is same =
      let many = ap (λ (xs : List Schedule). length xs) same in
      omega (arith, is, many, accepted.spelled.formed.ranges.schedules, nodes_within o.tables path j below there)

  pub list_is : (n : ℕ) (d : Schedule) (ss : List Schedule) → n ≡ node o.tables path j → ss ≡ o.schedules → (get_or ss n d).instrs ≡ list_at o.tables (instrs_of o.schedules) path j
  list_is n d ss is same =
      list_read ss d n (node_inside n ss is same) ∙ ap₂ (λ (xs : List Schedule) (k : ℕ). get_or (instrs_of xs) k []) same is
