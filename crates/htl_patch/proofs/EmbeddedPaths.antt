-- Tables whose root modules are those of other tables under other numbers ask the processor for the same along each path.
use Rattle.std.proofs.Common.{◌≡◌, ℕ, zero, suc, ◌+◌, ◌*◌, ◌%◌, Bool, true, false, cond, ◌&&◌, eqb, leb, List, [], ◌∷◌, ◌++◌, length, map, slice_get, Option, Some, None, option_map, refl, sym, ◌∙◌, ap, subst}
use mathlib.Core.Path.{fun_ext}
use Rattle.htl_patch.proofs.Words.{flat_map, length-map, Place, Round, Inv, multiple_of, hyper, frame_of, root_periods, unit_period, unit_start, starts_below, starts, rounds_of, rounds_at, rounds, choices, paths, mode_in, radices, nodes_of, node_of, places_of, places_in, path_places, known_by, of_bool, root_modules, modes_of, invs_of, Tables, mode_period, task_worst, release, window_end, Job, absent_job, mask, is_fed_by, job_in, placed_job, placed_jobs, path_jobs, next_of, legs_of, legs, Leg, unnumbered, AreAlike, AskTheSame}
use Rattle.htl_patch.proofs.Embedded.{IsRootMode, IsRootInvocation, Embeds, AllRoots, roots_later, mode_by, mode_same, root_mode_has}
use Rattle.htl_patch.proofs.Members.{Has, none, map_append}

module _ (t u : Tables) (unit mode invocation : ℕ → ℕ) (e : Embeds t u unit mode invocation) where
  -- a round and what stands at a position, under their new numbers
  abbrev pub moved : Round → Round
  moved r = record { at = r.at; unit = unit r.unit }

  abbrev placed : Place → Place
  placed x = record { inv = option_map invocation x.inv; at = x.at }

  abbrev roots : (x : ℕ) → Has (root_modules t) x → Has (root_modules t) x
  roots x h = h

  -- ---- the frame

  period_same : (x : ℕ) → Has (root_modules t) x → unit_period u (unit x) ≡ unit_period t x
  period_same x h = let b = e.begin x h in ap (mode_period u) b.1 ∙ e.periods (unit_start t x) b.0

  periods_same : (us : List ℕ) → AllRoots t u unit mode invocation e us → map (unit_period u) (map unit us) ≡ map (unit_period t) us
  periods_same [] all = refl
  periods_same (x ∷ us) all =
      ap (λ p. p ∷ map (unit_period u) (map unit us)) (period_same x (all x (0, refl)))
      ∙ ap (λ ps. unit_period t x ∷ ps) (periods_same us (roots_later t u unit mode invocation e x us all))

  all_periods : root_periods u ≡ root_periods t
  all_periods = ap (map (unit_period u)) e.roots ∙ periods_same (root_modules t) roots

  hyper_same : hyper u ≡ hyper t
  hyper_same = ap (λ (ps : List ℕ). elim ps as (λ _. Option ℕ) [ [] ↦ None | p ∷ qs ↦ Some (multiple_of p qs) ]) all_periods

  frame_same : frame_of u ≡ frame_of t
  frame_same = ap (λ (o : Option ℕ). elim o as (λ _. ℕ) [ Some h ↦ h | None ↦ 0 ]) hyper_same

  starts_same : starts u ≡ starts t
  starts_same = ap (λ ps. starts_below ps (frame_of u)) all_periods ∙ ap (starts_below (root_periods t)) frame_same

  -- ---- rounds

  rounds_of_same : (a : ℕ) (us : List ℕ) → AllRoots t u unit mode invocation e us → rounds_of u a (map unit us) ≡ map moved (rounds_of t a us)
  rounds_of_same a [] all = refl
  rounds_of_same a (x ∷ us) all =
      ap (λ p. cond (eqb (a % p) 0) (record { at = a; unit = unit x } ∷ rounds_of u a (map unit us)) (rounds_of u a (map unit us))) (period_same x (all x (0, refl)))
      ∙ by (eqb (a % unit_period t x) 0) (rounds_of_same a us (roots_later t u unit mode invocation e x us all))
    where
      by : (b : Bool) → rounds_of u a (map unit us) ≡ map moved (rounds_of t a us)
          → cond b (record { at = a; unit = unit x } ∷ rounds_of u a (map unit us)) (rounds_of u a (map unit us))
          ≡ map moved (cond b (record { at = a; unit = x } ∷ rounds_of t a us) (rounds_of t a us))
      by true same = ap (λ (rs : List Round). record { at = a; unit = unit x } ∷ rs) same
      by false same = same

  rounds_at_same : (a : ℕ) → rounds_at u a ≡ map moved (rounds_at t a)
  rounds_at_same a = ap (rounds_of u a) e.roots ∙ rounds_of_same a (root_modules t) roots

  all_at : (as' : List ℕ) → flat_map (rounds_at u) as' ≡ map moved (flat_map (rounds_at t) as')
  all_at [] = refl
  all_at (a ∷ as') =
      ap (λ rs. rs ++ flat_map (rounds_at u) as') (rounds_at_same a) ∙ ap (λ rs. map moved (rounds_at t a) ++ rs) (all_at as')
      ∙ sym (map_append moved (rounds_at t a) (flat_map (rounds_at t) as'))

  pub rounds_same : rounds u ≡ map moved (rounds t)
  rounds_same = ap (flat_map (rounds_at u)) starts_same ∙ all_at (starts t)

  -- all of them are of root modules
  abbrev pub AreOfRoots : List Round → Type 0
  AreOfRoots rs = (j : ℕ) (r : Round) → slice_get rs j ≡ Some r → Has (root_modules t) r.unit

  of_roots : (a : ℕ) (us : List ℕ) → AllRoots t u unit mode invocation e us → AreOfRoots (rounds_of t a us)
  of_roots a [] all = λ j r at. absurd (none r j at)
  of_roots a (x ∷ us) all = by (eqb (a % unit_period t x) 0) (of_roots a us (roots_later t u unit mode invocation e x us all))
    where
      by : (b : Bool) → AreOfRoots (rounds_of t a us) → AreOfRoots (cond b (record { at = a; unit = x } ∷ rounds_of t a us) (rounds_of t a us))
      by true rest zero r at = let made : Round = record { at = a; unit = x } in let is : made ≡ r = cc in subst (λ (q : Round). Has (root_modules t) q.unit) is (all x (0, refl))
      by true rest (suc j) r at = rest j r at
      by false rest j r at = rest j r at

  append_of : (rs ss : List Round) → AreOfRoots rs → AreOfRoots ss → AreOfRoots (rs ++ ss)
  append_of [] ss a b j r at = b j r at
  append_of (q ∷ rs) ss a b zero r at = a 0 r at
  append_of (q ∷ rs) ss a b (suc j) r at = append_of rs ss (λ i s h. a (suc i) s h) b j r at

  pub all_of : (as' : List ℕ) → AreOfRoots (flat_map (rounds_at t) as')
  all_of [] = λ j r at. absurd (none r j at)
  all_of (a ∷ as') = append_of (rounds_at t a) (flat_map (rounds_at t) as') (of_roots a (root_modules t) roots) (all_of as')

  pub later : (r : Round) (rs : List Round) → AreOfRoots (r ∷ rs) → AreOfRoots rs
  later r rs all j q at = all (suc j) q at

  -- ---- paths and nodes

  pub choices_same : (rs : List Round) → AreOfRoots rs → choices u (map moved rs) ≡ choices t rs
  choices_same [] all = refl
  choices_same (r ∷ rs) all =
      ap (λ ms. length ms * choices u (map moved rs)) (e.modes r.unit (all 0 r refl)) ∙ ap (λ n. n * choices u (map moved rs)) (length-map (modes_of t r.unit) mode)
      ∙ ap (λ n. length (modes_of t r.unit) * n) (choices_same rs (later r rs all))

  all_choices : choices u (rounds u) ≡ choices t (rounds t)
  all_choices = ap (choices u) rounds_same ∙ choices_same (rounds t) (all_of (starts t))

  paths_same : paths u ≡ paths t
  paths_same = ap (λ (us : List ℕ). elim us as (λ _. ℕ) [ [] ↦ 0 | x ∷ xs ↦ choices u (rounds u) ]) e.roots ∙ by (root_modules t)
    where
      by : (us : List ℕ) → elim (map unit us) as (λ _. ℕ) [ [] ↦ 0 | x ∷ xs ↦ choices u (rounds u) ] ≡ elim us as (λ _. ℕ) [ [] ↦ 0 | x ∷ xs ↦ choices t (rounds t) ]
      by [] = refl
      by (x ∷ xs) = all_choices

  radices_same : radices u ≡ radices t
  radices_same =
      ap (map (λ a. choices u (rounds_at u a))) starts_same
      ∙ ap (λ (f : ℕ → ℕ). map f (starts t)) (fun_ext (λ a. ap (choices u) (rounds_at_same a) ∙ choices_same (rounds_at t a) (of_roots a (root_modules t) roots)))

  -- ---- what stands at the positions of a path

  mode_in_same : (path : ℕ) (r : Round) (rs : List Round) → AreOfRoots (r ∷ rs) → mode_in u path (moved r) (map moved rs) ≡ mode (mode_in t path r rs)
  mode_in_same path r rs all =
      ap (λ n. mode_by u path n (unit r.unit)) (choices_same rs (later r rs all)) ∙ mode_same t u unit mode invocation e path (choices t rs) r.unit (all 0 r refl)

  places_moved : (a : ℕ) (ks : List ℕ) → places_of a (map invocation ks) ≡ map placed (places_of a ks)
  places_moved a [] = refl
  places_moved a (k ∷ ks) = ap (λ (xs : List Place). record { inv = Some (invocation k); at = a } ∷ xs) (places_moved a ks)

  places_in_same : (path : ℕ) (rs : List Round) → AreOfRoots rs → places_in u path (map moved rs) ≡ map placed (places_in t path rs)
  places_in_same path [] all = refl
  places_in_same path (r ∷ rs) all =
      let m = mode_in t path r rs in
      let is : IsRootMode t m = root_mode_has t u unit mode invocation e path (choices t rs) r.unit (all 0 r refl) in
      ap (λ n. places_of r.at (invs_of u n) ++ places_in u path (map moved rs)) (mode_in_same path r rs all)
      ∙ ap (λ ks. places_of r.at ks ++ places_in u path (map moved rs)) (e.invocations m is)
      ∙ ap (λ xs. xs ++ places_in u path (map moved rs)) (places_moved r.at (invs_of t m))
      ∙ ap (λ xs. map placed (places_of r.at (invs_of t m)) ++ xs) (places_in_same path rs (later r rs all))
      ∙ sym (map_append placed (places_of r.at (invs_of t m)) (places_in t path rs))

  path_places_same : (path : ℕ) → path_places u path ≡ map placed (path_places t path)
  path_places_same path = ap (places_in u path) rounds_same ∙ places_in_same path (rounds t) (all_of (starts t))

  -- an invocation of a root module stands there
  record IsInvoked (x : Place) : Type 0 where
    number : ℕ
    is : x.inv ≡ Some number
    root : IsRootInvocation t number

  abbrev AreInvoked : List Place → Type 0
  AreInvoked xs = (j : ℕ) (x : Place) → slice_get xs j ≡ Some x → IsInvoked x

  invoked_of : (a : ℕ) (m : ℕ) (ks : List ℕ) → IsRootMode t m → ((k : ℕ) → Has ks k → Has (invs_of t m) k) → AreInvoked (places_of a ks)
  invoked_of a m [] is all j x at = absurd cc
  invoked_of a m (k ∷ ks) is all zero x at =
      let made : Place = record { inv = Some k; at = a } in
      let same : made ≡ x = cc in
      subst IsInvoked same (record { number = k; is = refl; root = record { owner = m; mode = is; inv = all k (0, refl) } })
  invoked_of a m (k ∷ ks) is all (suc j) x at = invoked_of a m ks is (λ l h. all l (suc h.0, h.1)) j x at

  invoked_append : (xs ys : List Place) → AreInvoked xs → AreInvoked ys → AreInvoked (xs ++ ys)
  invoked_append [] ys a b j x at = b j x at
  invoked_append (y ∷ xs) ys a b zero x at = a 0 x at
  invoked_append (y ∷ xs) ys a b (suc j) x at = invoked_append xs ys (λ i z h. a (suc i) z h) b j x at

  invoked_in : (path : ℕ) (rs : List Round) → AreOfRoots rs → AreInvoked (places_in t path rs)
  invoked_in path [] all = λ j x at. absurd (none x j at)
  invoked_in path (r ∷ rs) all =
      let m = mode_in t path r rs in
      invoked_append (places_of r.at (invs_of t m)) (places_in t path rs)
      (invoked_of r.at m (invs_of t m) (root_mode_has t u unit mode invocation e path (choices t rs) r.unit (all 0 r refl)) (λ k h. h)) (invoked_in path rs (later r rs all))

  -- ---- their jobs

  fed_same : (k : ℕ) → IsRootInvocation t k → (o : Option ℕ) → ((n : ℕ) → o ≡ Some n → IsRootInvocation t n) → is_fed_by u (invocation k) (option_map invocation o) ≡ is_fed_by t k o
  fed_same k is None all = refl
  fed_same k is (Some n) all = e.feed n k (all n refl) is

  some_named : (a b : ℕ) → Some a ≡ Some b → a ≡ b
  some_named a b h = cc

  masks_same : (a k : ℕ) → IsRootInvocation t k → (xs : List Place) → AreInvoked xs
      → map (λ (y : Place). eqb y.at a && is_fed_by u (invocation k) y.inv) (map placed xs) ≡ map (λ (y : Place). eqb y.at a && is_fed_by t k y.inv) xs
  masks_same a k is [] all = refl
  masks_same a k is (x ∷ xs) all =
      let here = all 0 x refl in
      let fed = fed_same k is x.inv (λ n h. subst (IsRootInvocation t) (some_named here.number n (sym here.is ∙ h)) here.root) in
      ap (λ b. (eqb x.at a && b) ∷ map (λ (y : Place). eqb y.at a && is_fed_by u (invocation k) y.inv) (map placed xs)) fed
      ∙ ap (λ bs. (eqb x.at a && is_fed_by t k x.inv) ∷ bs) (masks_same a k is xs (λ j y h. all (suc j) y h))

  abbrev made : Tables → List Place → ℕ → ℕ → Inv → Job
  made v all a k i = job_in v all a k (Some i)

  job_is : (v : Tables) (all : List Place) (a k : ℕ) (i : Inv) → slice_get v.invs k ≡ Some i → placed_job v all (record { inv = Some k; at = a }) ≡ made v all a k i
  job_is v all a k i at = ap (λ (o : Option Inv). elim o as (λ _. Job) [ None ↦ absent_job | Some x ↦ made v all a k x ]) at

  job_same : (all : List Place) → AreInvoked all → (x : Place) → IsInvoked x → unnumbered (placed_job u (map placed all) (placed x)) ≡ unnumbered (placed_job t all x)
  job_same all ok x is = by x.inv is.is
    where
      by : (o : Option ℕ) → o ≡ Some is.number → unnumbered (placed_job u (map placed all) (record { inv = option_map invocation o; at = x.at })) ≡ unnumbered (placed_job t all (record { inv = o; at = x.at }))
      by o same =
          let k : ℕ = is.number in
          let a = e.asks k is.root in
          let make : ℕ → ℕ → ℕ → List Bool → Job = λ r d w bs. record { present = true; inv = 0; release = x.at + r; end = x.at + d; worst = w; preds = mask bs } in
          let bs = map (λ (y : Place). eqb y.at x.at && is_fed_by u (invocation k) y.inv) (map placed all) in
          ap (λ (q : Option ℕ). unnumbered (placed_job u (map placed all) (record { inv = option_map invocation q; at = x.at }))) same
          ∙ ap unnumbered (job_is u (map placed all) x.at (invocation k) a.other a.elsewhere)
          ∙ ap (λ (r : ℕ). make r (window_end u a.other) (task_worst u a.other.task) bs) a.release
          ∙ ap (λ (d : ℕ). make (release t a.inv) d (task_worst u a.other.task) bs) a.end
          ∙ ap (λ (w : ℕ). make (release t a.inv) (window_end t a.inv) w bs) a.worst
          ∙ ap (make (release t a.inv) (window_end t a.inv) (task_worst t a.inv.task)) (masks_same x.at k is.root all ok)
          ∙ sym (ap unnumbered (job_is t all x.at k a.inv a.there))
          ∙ ap (λ (q : Option ℕ). unnumbered (placed_job t all (record { inv = q; at = x.at }))) (sym same)

  jobs_same : (all xs : List Place) → AreInvoked all → AreInvoked xs → map unnumbered (map (placed_job u (map placed all)) (map placed xs)) ≡ map unnumbered (map (placed_job t all) xs)
  jobs_same all [] ok some = refl
  jobs_same all (x ∷ xs) ok some =
      ap (λ (j : Job). j ∷ map unnumbered (map (placed_job u (map placed all)) (map placed xs))) (job_same all ok x (some 0 x refl))
      ∙ ap (λ (js : List Job). unnumbered (placed_job t all x) ∷ js) (jobs_same all xs ok (λ j y h. some (suc j) y h))

  pub jobs_alike : (path : ℕ) → AreAlike (path_jobs t path) (path_jobs u path)
  jobs_alike path =
      let xs = path_places t path in
      let ok = invoked_in path (rounds t) (all_of (starts t)) in
      sym (ap (λ (ys : List Place). map unnumbered (placed_jobs u ys)) (path_places_same path) ∙ jobs_same xs xs ok ok)

  -- ---- their legs

  known_same : (a : ℕ) (xs : List Place) → known_by a (map placed xs) ≡ known_by a xs
  known_same a [] = refl
  known_same a (x ∷ xs) = ap (λ n. of_bool (leb x.at a) + n) (known_same a xs)

  legs_same : (h : ℕ) (xs : List Place) (as' : List ℕ) → legs_of h (map placed xs) as' ≡ legs_of h xs as'
  legs_same h xs [] = refl
  legs_same h xs (a ∷ as') =
      ap (λ (n : ℕ). record { from = a; to = next_of h as'; known = n } ∷ legs_of h (map placed xs) as') (known_same a xs)
      ∙ ap (λ (gs : List Leg). record { from = a; to = next_of h as'; known = known_by a xs } ∷ gs) (legs_same h xs as')

  parts_same : (path : ℕ) → legs u path ≡ legs t path
  parts_same path =
      ap (λ h. legs_of h (path_places u path) (starts u)) frame_same ∙ ap (λ xs. legs_of (frame_of t) xs (starts u)) (path_places_same path)
      ∙ ap (legs_of (frame_of t) (map placed (path_places t path))) starts_same ∙ legs_same (frame_of t) (path_places t path) (starts t)

  -- ---- the law

  pub ask_the_same : AskTheSame u t
  ask_the_same =
      record {
        frame = hyper_same;
        begin = starts_same;
        ways = paths_same;
        count = ap nodes_of radices_same;
        branch = λ path j below l. ap (λ cs. node_of cs path j) radices_same;
        parts = λ path below. parts_same path;
        jobs = λ path below. jobs_alike path;
      }
