-- A root invocation stands on a path, and finishes there.
use Rattle.std.proofs.Common.{◌≡◌, ◌≤◌, ◌<◌, ℕ, zero, suc, ◌+◌, ◌-◌, ◌*◌, ◌%◌, cond, List, [], ◌∷◌, length, drop, get_or, map, slice_get, Option, Some, None, refl, sym, ap, ◌∙◌, subst, arith}
use Rattle.std.proofs.{lemmas.Bool.eq-eqb, lemmas.List.length-map, lemmas.Option.get_or_from_slice_get, lemmas.Option.slice_get_within, Math.Nat.mod-eq_of_lt, Math.Nat.mul-div_cancel}
use Rattle.htl_base.proofs.{Numbers.grow_times, Numbers.one_more_time, Numbers.product_parts, Places.get_front, Places.into_back}
use Rattle.htl_model.proofs.FrameLimits.{choices_some, rounds_have}
use Rattle.htl_walk.proofs.Starts.{first_start}
use Rattle.htl_walk.specs.PathJobs.{next_of}
use Rattle.htl_refine.proofs.{Members.at_place, Members.in_flat, Positions.root_is, ServedFrames.paths_are}
use Rattle.htl_model.specs.{Frames.mode_in, Frames.root_periods, Frames.rounds_at, Selections.inv_of_mode, Selections.is_root, Selections.mode_of_module}
use Rattle.htl_times.proofs.Words.{each_at, item_at, get_mapped, not_some, same_Some, Inv, Mode, Module, Round, Tables, AreInRange, IsInvInRange, IsModeInRange, KeptApart, kept_apart, choices, frame_of, frame_some, instrs_of, invs_of, mode_module, modes_of, parent_mode, path_places, paths, place, places_in, places_of, root_modules, rounds, rounds_of, starts, starts_below, unit_period, Object, IsAccepted, HasWork, Job, legs_follow, path_jobs, path_work, placed_job}
use Rattle.htl_times.proofs.{AcceptedRuns.accepted_is_feasible, NoLater.later_than_round, Rising.parentless_of_roots}
use Rattle.htl_times.specs.{Accepted.EachRootHasRow, Response.FinishesAfter}

-- ---- a round of a root module

none_left : (n : ℕ) → 0 % n ≡ 0
none_left zero = refl
none_left (suc n) = mod-eq_of_lt (omega arith)

abbrev begun : ℕ → Round
begun u = record { at = 0; unit = u }

-- with the frame begins a round of each root module
all_begin : (t : Tables) (us : List ℕ) → rounds_of t 0 us ≡ map begun us
all_begin t [] = refl
all_begin t (u ∷ us) =
    ap (λ b. cond b (begun u ∷ rounds_of t 0 us) (rounds_of t 0 us)) (eq-eqb (0 % unit_period t u) 0 (none_left (unit_period t u))) ∙ ap (λ rs. begun u ∷ rs) (all_begin t us)

starts_first : (ps : List ℕ) (h : ℕ) → 0 < length ps → 0 < h → slice_get (starts_below ps h) 0 ≡ Some 0
starts_first [] h some l = absurd (omega arith)
starts_first (p ∷ ps) h some l = by (starts_below (p ∷ ps) h) (first_start p ps h l)
  where
    by : (as' : List ℕ) → next_of h as' ≡ 0 → slice_get as' 0 ≡ Some 0
    by [] e = absurd (omega (arith, e, l))
    by (a ∷ later) e = ap (λ z. Some z) e

first_round : (t : Tables) (j u : ℕ) → slice_get (root_modules t) j ≡ Some u → 0 < frame_of t → (q : ℕ) × (slice_get (rounds t) q ≡ Some (begun u))
first_round t j u e l =
    let some : 0 < length (root_periods t) = omega (arith, slice_get_within (root_modules t) j u e, length-map (root_modules t) (unit_period t)) in
    in_flat (rounds_at t) (starts t) 0 j 0 (begun u) (starts_first (root_periods t) (frame_of t) some l) (ap (λ rs. slice_get rs j) (all_begin t (root_modules t)) ∙ get_mapped begun (root_modules t) j u e)

-- ---- the paths that take a mode

-- a path with this choice at a round, and the first one at those behind it
path_below : (t : Tables) (rs : List Round) (q d : ℕ) (r : Round) → slice_get rs q ≡ Some r → 0 < choices t rs → d < length (modes_of t r.unit) → d * choices t (drop (suc q) rs) < choices t rs
path_below t [] q d r e some l = not_some r e
path_below t (s ∷ rs) zero d r e some l =
    let c = choices t rs in
    let same : s ≡ r = same_Some s r e in
    let n = length (modes_of t s.unit) in
    let both = product_parts n c some in
    omega (arith, both.1, one_more_time d c, grow_times (suc d) n c (omega (arith, l, ap (λ (z : Round). length (modes_of t z.unit)) same)))
path_below t (s ∷ rs) (suc q) d r e some l =
    let n = length (modes_of t s.unit) in
    let both = product_parts n (choices t rs) some in
    let one : 1 * choices t rs ≡ choices t rs = omega arith in
    omega (arith, path_below t rs q d r e both.1 l, one, grow_times 1 n (choices t rs) both.0)

behind_some : (t : Tables) (rs : List Round) (q : ℕ) → 0 < choices t rs → 0 < choices t (drop q rs)
behind_some t rs zero some = some
behind_some t [] (suc q) some = some
behind_some t (s ∷ rs) (suc q) some = behind_some t rs q (product_parts (length (modes_of t s.unit)) (choices t rs) some).1

-- it has that mode there
takes_mode : (t : Tables) (r : Round) (rs : List Round) (d m : ℕ) → 0 < choices t rs → slice_get (modes_of t r.unit) d ≡ Some m → mode_in t (d * choices t rs) r rs ≡ m
takes_mode t r rs d m some e =
    let n = length (modes_of t r.unit) in
    ap (λ k. get_or (modes_of t r.unit) (k % n) 0) (mul-div_cancel d some)
    ∙ ap (λ k. get_or (modes_of t r.unit) k 0) (mod-eq_of_lt (slice_get_within (modes_of t r.unit) d m e))
    ∙ get_or_from_slice_get (modes_of t r.unit) d m 0 e

-- so its invocations stand on the path
stands_on : (t : Tables) (path i : ℕ) (rs : List Round) (q j : ℕ) (r : Round) → slice_get rs q ≡ Some r → slice_get (invs_of t (mode_in t path r (drop (suc q) rs))) j ≡ Some i
    → (p : ℕ) × (slice_get (places_in t path rs) p ≡ Some (place i r.at))
stands_on t path i [] q j r e g = not_some r e
stands_on t path i (s ∷ rs) zero j r e g =
    let same : s ≡ r = same_Some s r e in (
      j,
      get_front (places_of s.at (invs_of t (mode_in t path s rs))) (places_in t path rs) j (place i r.at)
          (subst (λ (z : Round). slice_get (places_of z.at (invs_of t (mode_in t path z rs))) j ≡ Some (place i r.at)) (sym same) (get_mapped (λ k. place k r.at) (invs_of t (mode_in t path r rs)) j i g)),
    )
stands_on t path i (s ∷ rs) (suc q) j r e g =
    let here = places_of s.at (invs_of t (mode_in t path s rs)) in
    let m = stands_on t path i rs q j r e g in
    (length here + m.0, into_back here (places_in t path rs) m.0 (place i r.at) m.1)

-- ---- a root invocation

module _ (t : Tables) (range : AreInRange t) where
  root_at : (m : ℕ) (y : Mode) → slice_get t.modes m ≡ Some y → parent_mode t m ≡ None → (j : ℕ) × (slice_get (root_modules t) j ≡ Some y.«module»)
  root_at m y at root =
      let u = item_at t.modules y.«module» (each_at (IsModeInRange t) t.modes range.modes m y at).owner in
      let is : mode_module t m ≡ y.«module» = ap (λ (o : Option Mode). elim o [ Some z ↦ z.«module» | None ↦ 0 ]) at in
      let parent : u.0.parent ≡ None = sym (ap (λ (o : Option Module). elim o [ Some z ↦ z.parent | None ↦ None ]) (ap (slice_get t.modules) is ∙ u.1)) ∙ root in
      at_place is_root t.modules y.«module» u.0 u.1 (root_is u.0 parent)

  -- where it stands
  pub record IsOnPath (i : ℕ) : Type 0 where
    pub path : ℕ
    pub below : path < paths t
    pub position : ℕ
    pub at : ℕ
    pub placed : slice_get (path_places t path) position ≡ Some (place i at)
    pub modules : 0 < length (root_modules t)

  pub on_a_path : (i : ℕ) (x : Inv) → slice_get t.invs i ≡ Some x → parent_mode t x.mode ≡ None → IsOnPath i
  on_a_path i x at root =
      let y = item_at t.modes x.mode (each_at (IsInvInRange t) t.invs range.invs i x at).owner in
      let u = y.0.«module» in
      let j = root_at x.mode y.0 y.1 root in
      let modules : 0 < length (root_modules t) = omega (arith, slice_get_within (root_modules t) j.0 u j.1) in
      let q = first_round t j.0 u j.1 (frame_some t range modules) in
      let r = begun u in
      let rs = drop (suc q.0) (rounds t) in
      let some = choices_some t (rounds t) (rounds_have t range) in
      let d = at_place (mode_of_module u) t.modes x.mode y.0 y.1 (eq-eqb u u refl) in
      let k = at_place (inv_of_mode x.mode) t.invs i x at (eq-eqb x.mode x.mode refl) in
      let path = d.0 * choices t rs in
      let takes : mode_in t path r rs ≡ x.mode = takes_mode t r rs d.0 x.mode (behind_some t (rounds t) (suc q.0) some) d.1 in
      let p = stands_on t path i (rounds t) q.0 k.0 r q.1 (ap (λ m. slice_get (invs_of t m) k.0) takes ∙ k.1) in
      record {
        path = path;
        below = omega (arith, path_below t (rounds t) q.0 d.0 r q.1 some (slice_get_within (modes_of t u) d.0 x.mode d.1), paths_are t modules);
        position = p.0;
        at = 0;
        placed = p.1;
        modules = modules;
      }

-- on that path its job finishes
finishes_somewhere : (o : Object) (i : ℕ) (x : Inv) → IsAccepted o → slice_get o.tables.invs i ≡ Some x → x.parent ≡ None
    → (path ticks : ℕ) × (path < paths o.tables) × FinishesAfter o.tables (instrs_of o.schedules) i path ticks
finishes_somewhere o i x accepted item none =
    let t = o.tables in
    let lists = instrs_of o.schedules in
    let range = accepted.spelled.formed.ranges.tables in
    let kept : KeptApart t 16 = kept_apart t 16 (λ r s have need small broken. accepted.spelled.formed.formed r s have need broken) in
    let on = on_a_path t range i x item ((parentless_of_roots t i x range kept item).0 none) in
    let run = accepted_is_feasible o [] accepted tt on.modules in
    let ks = path_jobs t on.path in
    let k : Job = placed_job t (path_places t on.path) (place i on.at) in
    let here : slice_get ks on.position ≡ Some k = get_mapped (placed_job t (path_places t on.path)) (path_places t on.path) on.position (place i on.at) on.placed in
    let works = each_at HasWork ks (path_work t on.path range) on.position k here in
    let done = ((run.accepted on.path on.below).meets on.position k here works.present).finishes in
    let least : on.at ≤ done.0 = later_than_round t lists on.path on.position i on.at done.0 range (legs_follow t on.path run.modules run.ticks) (run.accepted on.path on.below) on.placed done.1 in
    let whole : on.at + (done.0 - on.at) ≡ done.0 = omega (arith, least) in
    (on.path, done.0 - on.at, on.below, record { position = on.position; at = on.at; placed = on.placed; finishes = done.1 ∙ ap (λ n. Some n) (sym whole) })

pub each_root_has_row : EachRootHasRow
each_root_has_row o i x None accepted item none is = let f = finishes_somewhere o i x accepted item none in absurd (is f.0 f.1 f.2 f.3)
each_root_has_row o i x (Some l) accepted item none is = (l, refl)
