-- The jobs of all paths are as their walk and the scheduler ask, where the form rules and the limits of frames are kept.
use Rattle.std.proofs.Common.{◌≡◌, ℕ, zero, suc, ◌+◌, ◌*◌, ◌%◌, ◌/◌, ◌≤◌, ◌<◌, min, Bool, true, false, cond, eqb, eqb-true, List, [], ◌∷◌, ◌++◌, length, get_or, slice_get, Option, Some, None, option_map, refl, sym, ap, ◌∙◌, subst, arith, inl, inr}
use Rattle.htl_walk.proofs.Words.{flat_map, mul-le-mul_right, div-add-mod, cases_lt, cases_eq, length-map, slice_get_cases, slice_get-get_or, Place, Round, Mode, Module, Inv, Task, ModulePeriod, Windows, Offsets, Itself, Output, Site, Part, KeptApart, unit_start, unit_period, frame_of, root_periods, starts, rounds_of, rounds_at, rounds, choices, mode_in, places_of, places_in, path_places, frame_limit, first_mode, asked_period, AreInRange, IsInvInRange, IsModeInRange, IsTaskInRange, IsSpan, parent_of, is_root, root_modules, modes_of, mode_of_module, inv_of_mode, invs_of, Tables, mode_period, comm_period, task_worst, release, window_end, offsets, least_or, frame_some, limits_kept, frame_divided, modes_some, place_passes_0, Job, placed_job, path_jobs, IsWellFormed, AreWalkable, each_at, mode_there}
use Rattle.htl_model.specs.declared.parts.End.{End}
use Rattle.htl_model.specs.declared.parts.End.TheVariants as E
use Rattle.htl_walk.proofs.{Nodes.some_root, Starts.Rises, Starts.starts_rise, Starts.no_place, Starts.Stands, Starts.placed_is, Starts.get_map}

-- ---- windows

inv_site : Inv → ℕ → Part → Site
inv_site i k p = record { mode = i.mode; inv = Some k; part = p }

pub window_some : (t : Tables) (k : ℕ) (i : Inv) → AreInRange t → KeptApart t 12 → slice_get t.invs k ≡ Some i → release t i < window_end t i
unfolding inv_site
window_some t k i r kept at =
    let x = mode_there t k i r at in
    elim (cases_lt (release t i) (window_end t i)) [
      | inl less ↦ less
      | inr empty ↦ absurd (kept Windows (inv_site i k Itself) (release t i) (window_end t i) (omega arith) (λ e. omega (arith, e)) (x.0, x.1, (i, at, refl, (refl, refl, empty))))
    ]

least_first : (d y : ℕ) (ys : List ℕ) → y ≤ d → least_or d (y ∷ ys) ≤ d
least_first d y [] h = h
least_first d y (z ∷ ys) h = let m : min y (least_or d (z ∷ ys)) ≤ y = omega arith in omega arith

least_within : (t : Tables) (d : ℕ) (ends : List End) → ((j c n : ℕ) → slice_get ends j ≡ Some (E.Comm c n) → n * comm_period t c ≤ d) → least_or d (offsets t ends) ≤ d
least_within t d [] h = omega arith
least_within t d (E.Port p ∷ ends) h = least_within t d ends (λ j c n at. h (suc j) c n at)
least_within t d (E.Comm c n ∷ ends) h = least_first d (n * comm_period t c) (offsets t ends) (h 0 c n refl)

write_within : (t : Tables) (k : ℕ) (i : Inv) → AreInRange t → KeptApart t 12 → slice_get t.invs k ≡ Some i → (j c n : ℕ) → slice_get i.writes j ≡ Some (E.Comm c n)
    → n * comm_period t c ≤ mode_period t i.mode
unfolding inv_site
write_within t k i r kept at j c n end =
    let x = mode_there t k i r at in
    elim (cases_lt (mode_period t i.mode) (n * comm_period t c)) [
      | inl late ↦
          absurd (kept Offsets (inv_site i k (Output j)) (n * comm_period t c) (mode_period t i.mode) (omega arith) (λ e. omega (arith, e)) (x.0, x.1, (i, at, refl, (E.Comm c n, end, (refl, refl, inr late)))))
      | inr within ↦ within
    ]

pub window_within : (t : Tables) (k : ℕ) (i : Inv) → AreInRange t → KeptApart t 12 → slice_get t.invs k ≡ Some i → window_end t i ≤ mode_period t i.mode
window_within t k i r kept at = least_within t (mode_period t i.mode) i.writes (write_within t k i r kept at)

-- the window of an invocation is a tick long at least, and ends within a million ticks
pub window_small : (t : Tables) (k : ℕ) (i : Inv) → AreInRange t → KeptApart t 12 → slice_get t.invs k ≡ Some i → (release t i < window_end t i) × (window_end t i ≤ 1000000)
window_small t k i r kept at =
    let x = mode_there t k i r at in
    let is : mode_period t i.mode ≡ x.0.period = ap (λ (o : Option Mode). elim o as (λ _. ℕ) [ Some y ↦ y.period | None ↦ 0 ]) x.1 in
    (window_some t k i r kept at, omega (arith, window_within t k i r kept at, is, (each_at (IsModeInRange t) t.modes r.modes i.mode x.0 x.1).period.most))

pub worst_span : (t : Tables) (k : ℕ) (i : Inv) → AreInRange t → slice_get t.invs k ≡ Some i → IsSpan (task_worst t i.task)
worst_span t k i r at =
    let inv : IsInvInRange t i = each_at (IsInvInRange t) t.invs r.invs k i at in
    let is : task_worst t i.task ≡ inv.task.0.worst = ap (λ (o : Option Task). elim o [ Some y ↦ y.worst | None ↦ 0 ]) inv.task.1 in
    subst IsSpan (sym is) (each_at (IsTaskInRange t) t.tasks r.tasks i.task inv.task.0 inv.task.1).worst

-- ---- the modes of a root module

pub record IsRootAt (t : Tables) (u : ℕ) : Type 0 where
  pub owner : Module
  pub at : slice_get t.modules u ≡ Some owner
  pub root : is_root owner ≡ true

no_parent : (x : Module) (o : Option ℕ) → x.parent ≡ o → is_root x ≡ true → o ≡ None
no_parent x None e h = refl
no_parent x (Some p) e h = absurd (let no : false ≡ true = sym (ap (λ (q : Option ℕ). elim q as (λ _. Bool) [ Some r ↦ false | None ↦ true ]) e) ∙ h in cc)

orphan : (t : Tables) (u : ℕ) → IsRootAt t u → parent_of t u ≡ None
orphan t u h = ap (λ (o : Option Module). elim o as (λ _. Option ℕ) [ Some x ↦ x.parent | None ↦ None ]) h.at ∙ no_parent h.owner h.owner.parent refl h.root

pub module_below : (t : Tables) (u : ℕ) → IsRootAt t u → u < length t.modules
module_below t u h = elim (slice_get_cases t.modules u).1 [ inl c ↦ c.1 | inr c ↦ absurd (let no : Some h.owner ≡ None = sym h.at ∙ c.1 in cc) ]

pub period_at : (t : Tables) (m : ℕ) (x : Mode) → slice_get t.modes m ≡ Some x → mode_period t m ≡ x.period
period_at t m x at = ap (λ (o : Option Mode). elim o as (λ _. ℕ) [ Some y ↦ y.period | None ↦ 0 ]) at

-- a mode of the module has the period of the first one
as_first : (t : Tables) (u m : ℕ) (x : Mode) → AreInRange t → KeptApart t 12 → IsRootAt t u → slice_get t.modes m ≡ Some x → x.«module» ≡ u → mode_period t m ≡ mode_period t (get_or (modes_of t u) 0 0)
as_first t u m x r kept root at own =
    let first = get_or (modes_of t u) 0 0 in
    let first_is : first_mode t u ≡ Some first = slice_get-get_or (modes_of t u) 0 0 (modes_some t u r (module_below t u root)) in
    let asked : asked_period t u ≡ Some (mode_period t first) =
    ap (λ (o : Option ℕ). elim o as (λ _. Option ℕ) [ Some p ↦ Some (mode_period t p) | None ↦ option_map (mode_period t) (first_mode t u) ]) (orphan t u root) ∙ ap (option_map (mode_period t)) first_is in
    elim (cases_eq x.period (mode_period t first)) [
      | inl same ↦ period_at t m x at ∙ same
      | inr differs ↦
          absurd (kept ModulePeriod (record { mode = m; inv = None; part = Itself }) x.period (mode_period t first) (omega arith) (λ e. omega (arith, e)) (x, at, (refl, ap (asked_period t) own ∙ asked, differs)))
    ]

-- so each has the module's period
pub as_unit : (t : Tables) (u m : ℕ) (x : Mode) → AreInRange t → KeptApart t 12 → IsRootAt t u → slice_get t.modes m ≡ Some x → x.«module» ≡ u → mode_period t m ≡ unit_period t u
as_unit t u m x r kept root at own =
    let begin = (r.modules u root.owner root.at).start in
    let start : unit_start t u ≡ root.owner.start = ap (λ (o : Option Module). elim o as (λ _. ℕ) [ Some y ↦ y.start | None ↦ 0 ]) root.at in
    as_first t u m x r kept root at own ∙ sym (as_first t u root.owner.start begin.0 r kept root begin.1 begin.2) ∙ sym (ap (mode_period t) start)

-- ---- rounds in the frame

-- the round is of a root module, and ends within the frame
record IsRoundIn (t : Tables) (r : Round) : Type 0 where
  root : IsRootAt t r.unit
  within : r.at + unit_period t r.unit ≤ frame_of t

abbrev AllIn : Tables → List Round → Type 0
AllIn t [] = Unit {0}
AllIn t (r ∷ rs) = IsRoundIn t r × AllIn t rs

all_in_append : (t : Tables) (rs ss : List Round) → AllIn t rs → AllIn t ss → AllIn t (rs ++ ss)
all_in_append t [] ss a b = b
all_in_append t (r ∷ rs) ss a b = (a.0, all_in_append t rs ss a.1 b)

abbrev EachRoot : Tables → List ℕ → Type 0
EachRoot t [] = Unit {0}
EachRoot t (u ∷ us) = IsRootAt t u × (frame_of t % unit_period t u ≡ 0) × EachRoot t us

-- a multiple of a number below another multiple is at least that number below it
room_for_round : (a h p : ℕ) → a % p ≡ 0 → h % p ≡ 0 → a < h → a + p ≤ h
room_for_round a h p e f l = grind (arith, div-add-mod, cases_lt, mul-le-mul_right)

rounds_in_start : (t : Tables) (a : ℕ) (us : List ℕ) → a < frame_of t → EachRoot t us → AllIn t (rounds_of t a us)
rounds_in_start t a [] l h = tt
rounds_in_start t a (u ∷ us) l h = by (eqb (a % unit_period t u) 0) refl (rounds_in_start t a us l h.2)
  where
    by : (b : Bool) → eqb (a % unit_period t u) 0 ≡ b → AllIn t (rounds_of t a us) → AllIn t (cond b (record { at = a; unit = u } ∷ rounds_of t a us) (rounds_of t a us))
    by true e rest = (record { root = h.0; within = room_for_round a (frame_of t) (unit_period t u) (eqb-true (a % unit_period t u) 0 e) h.1 l }, rest)
    by false e rest = rest

rounds_all_in : (t : Tables) (xs : List ℕ) → ((j : ℕ) → j < length xs → get_or xs j 0 < frame_of t) → EachRoot t (root_modules t) → AllIn t (flat_map (rounds_at t) xs)
rounds_all_in t [] l h = tt
rounds_all_in t (a ∷ xs) l h =
    all_in_append t (rounds_at t a) (flat_map (rounds_at t) xs) (rounds_in_start t a (root_modules t) (l 0 (omega arith)) h) (rounds_all_in t xs (λ j k. l (suc j) (omega (arith, k))) h)

each_root : (t : Tables) (us : List ℕ) → ((j : ℕ) → j < length us → IsRootAt t (get_or us j 0) × (frame_of t % unit_period t (get_or us j 0) ≡ 0)) → EachRoot t us
each_root t [] h = tt
each_root t (u ∷ us) h = let first = h 0 (omega arith) in (first.0, first.1, each_root t us (λ j l. h (suc j) (omega (arith, l))))

roots_are : (t : Tables) → EachRoot t (root_modules t)
roots_are t =
    each_root t (root_modules t)
    (λ j l.
    let h = place_passes_0 is_root j (get_or (root_modules t) j 0) t.modules (slice_get-get_or (root_modules t) j 0 l) in
    (record { owner = h.0; at = h.1; root = h.2 }, frame_divided t j l))

start_within : (ps : List ℕ) (h j : ℕ) (xs : List ℕ) → Rises ps h xs → j < length xs → get_or xs j 0 < h
start_within ps h j [] r l = absurd (omega (arith, l))
start_within ps h zero (x ∷ []) r l = r.1
start_within ps h zero (x ∷ y ∷ xs) r l = omega (arith, r.1, start_within ps h zero (y ∷ xs) r.3 (omega arith))
start_within ps h (suc j) (x ∷ xs) r l = start_within ps h j xs r.3 (omega (arith, l))

path_rounds_in : (t : Tables) → AllIn t (rounds t)
path_rounds_in t = rounds_all_in t (starts t) (λ j l. start_within (root_periods t) (frame_of t) j (starts t) (starts_rise (root_periods t) (frame_of t)) l) (roots_are t)

-- ---- positions

-- an invocation stands there, whose mode's period from the round's start on is within the frame
pub record IsPlaced (t : Tables) (x : Place) : Type 0 where
  pub number : ℕ
  pub inv : Inv
  pub is : x.inv ≡ Some number
  pub at : slice_get t.invs number ≡ Some inv
  pub within : x.at + mode_period t inv.mode ≤ frame_of t

abbrev AllPlaced : Tables → List Place → Type 0
AllPlaced t [] = Unit {0}
AllPlaced t (x ∷ xs) = IsPlaced t x × AllPlaced t xs

placed_append : (t : Tables) (xs ys : List Place) → AllPlaced t xs → AllPlaced t ys → AllPlaced t (xs ++ ys)
placed_append t [] ys a b = b
placed_append t (x ∷ xs) ys a b = (a.0, placed_append t xs ys a.1 b)

placed_each : (t : Tables) (a : ℕ) (ks : List ℕ) → ((j k : ℕ) → slice_get ks j ≡ Some k → (i : Inv) × (slice_get t.invs k ≡ Some i) × (a + mode_period t i.mode ≤ frame_of t)) → AllPlaced t (places_of a ks)
placed_each t a [] h = tt
placed_each t a (k ∷ ks) h = let f = h 0 k refl in (record { number = k; inv = f.0; is = refl; at = f.1; within = f.2 }, placed_each t a ks (λ j n e. h (suc j) n e))

round_placed : (t : Tables) (path : ℕ) (r : Round) (rs : List Round) → AreInRange t → KeptApart t 12 → IsRoundIn t r → AllPlaced t (places_of r.at (invs_of t (mode_in t path r rs)))
round_placed t path r rs range kept h =
    let m = mode_in t path r rs in
    let place = path / choices t rs % length (modes_of t r.unit) in
    let within : place < length (modes_of t r.unit) = omega (arith, modes_some t r.unit range (module_below t r.unit h.root)) in
    let x = place_passes_0 (mode_of_module r.unit) place m t.modes (slice_get-get_or (modes_of t r.unit) place 0 within) in
    let period : mode_period t m ≡ unit_period t r.unit = as_unit t r.unit m x.0 range kept h.root x.1 (eqb-true x.0.«module» r.unit x.2) in
    placed_each t r.at (invs_of t m) (λ j k e.
    let i = place_passes_0 (inv_of_mode m) j k t.invs e in
    (i.0, i.1, omega (arith, ap (mode_period t) (eqb-true i.0.mode m i.2), period, h.within)))

all_placed : (t : Tables) (path : ℕ) (rs : List Round) → AreInRange t → KeptApart t 12 → AllIn t rs → AllPlaced t (places_in t path rs)
all_placed t path [] range kept h = tt
all_placed t path (r ∷ rs) range kept h =
    placed_append t (places_of r.at (invs_of t (mode_in t path r rs))) (places_in t path rs) (round_placed t path r rs range kept h.0) (all_placed t path rs range kept h.1)

placed_at : (t : Tables) (xs : List Place) (p : ℕ) → AllPlaced t xs → p < length xs → IsPlaced t (get_or xs p no_place)
placed_at t [] p h l = absurd (omega (arith, l))
placed_at t (x ∷ xs) zero h l = h.0
placed_at t (x ∷ xs) (suc p) h l = placed_at t xs p h.1 (omega (arith, l))

-- ---- the jobs

record IsFit (t : Tables) (j : Job) : Type 0 where
  well : IsWellFormed j
  end : j.end ≤ frame_of t

job_fit : (t : Tables) (all : List Place) (x : Place) → AreInRange t → KeptApart t 12 → frame_of t ≤ 1000000 → IsPlaced t x → IsFit t (placed_job t all x)
job_fit t all x range kept small h =
    let some = window_some t h.number h.inv range kept h.at in
    let within = window_within t h.number h.inv range kept h.at in
    let worst = worst_span t h.number h.inv range h.at in
    subst (IsFit t) (sym (placed_is t all x (h.number, h.inv, h.is, h.at)))
    (record {
      well = record { present = refl; window = omega (arith, some); small = omega (arith, within, h.within, small); some = worst.some; most = worst.most };
      end = omega (arith, within, h.within);
    })

fits_at : (t : Tables) (path q : ℕ) (d : Job) → AreInRange t → KeptApart t 12 → frame_limit t ≡ None → q < length (path_jobs t path) → IsFit t (get_or (path_jobs t path) q d)
fits_at t path q d range kept limit l = grind (arith, length-map, get_map, job_fit, limits_kept, placed_at, all_placed, path_rounds_in)

pub walkable : (t : Tables) → AreInRange t → KeptApart t 12 → frame_limit t ≡ None → AreWalkable t
walkable t range kept limit = record {
  long = λ l. frame_some t range (some_root t 0 l);
  jobs = λ path h. record {
    few = omega (arith, (limits_kept t range limit).positions path, length-map (path_places t path) (placed_job t (path_places t path)));
    each = λ q d l. (fits_at t path q d range kept limit l).well;
  };
  ends = λ path h q d l. (fits_at t path q d range kept limit l).end;
}

-- what stands at a position of a path
pub position_placed : (t : Tables) (path q : ℕ) → AreInRange t → KeptApart t 12 → q < length (path_places t path) → IsPlaced t (get_or (path_places t path) q no_place)
position_placed t path q range kept l = placed_at t (path_places t path) q (all_placed t path (rounds t) range kept (path_rounds_in t)) l
