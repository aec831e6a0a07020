-- A machine that follows is anywhere inside an instant where the meaning says, and after it before the next one.
use Rattle.std.proofs.Common.{◌≡◌, ℕ, zero, suc, ◌<◌, Bool, true, false, cond, eqb, ltb, List, [], ◌∷◌, ◌++◌, length, slice_get, map, replicate, Option, Some, None, ℤ, refl, sym, ap, ◌∙◌, subst, arith, ◌⊎◌, inl, inr}
use Rattle.htl_emach.proofs.Words.{Event, Module, Stay, Tables, mode_module, state, runs, ECode, entered, Done, e_path, nat_tests, Trigger, Block, length-map, length-replicate, Calendar, Standing, list_at, done_in, standing_after, first_calendar, first_trigger, Between, Entry, entry_at, opening, turning, entering, old_stay, new_stay, Midway, Onward, FollowsCode, phase_path, PassesInstant, AreInRange}
use Rattle.htl_emach.proofs.{ModuleLaws.ModuleLaws, CopyPhases.module_writes, CopyPhases.module_reads, CopyPhases.none_laws, CopyPhases.stay_laws, CopyPhases.phase_are, CopyPhases.StayLaws, Switching.Sound, SwitchPhase.module_switches}
use Rattle.htl_emach.proofs.{States.old_stays, States.new_stays, States.module_at, States.parent_at, States.option_cases, States.active_some, States.begins_now, States.parent_runs, States.none_stay, Onward.onward}
use Rattle.htl_emach.proofs.Phases.{RootsRun, to_switches, to_reads, to_next, phase_starts}

abbrev pub IsPhase : ℕ → Type 0
IsPhase phase = (phase ≡ 1) ⊎ ((phase ≡ 2) ⊎ (phase ≡ 3))

-- ---- what holds of each module in each phase

old_laws : (t : Tables) (code : ECode) (es : List Event) (now k : ℕ) → Sound t code → k < length t.modules → StayLaws t code 1 now k (old_stay t es now k)
old_laws t code es now k h inside = elim (option_cases (old_stay t es now k)) [
  | inl none ↦ subst (StayLaws t code 1 now k) (sym none) (none_laws t code 1 now k)
  | inr z ↦ (
      let s = old_stays t es now k z.0 h.ranges inside z.1 in
      subst (StayLaws t code 1 now k) (sym z.1) (stay_laws t code 1 now k z.0 s.start (phase_are t code 1 z.0.mode k (inl refl) (h.reads z.0.mode s.mode))))
]

new_laws : (t : Tables) (code : ECode) (es : List Event) (now k : ℕ) → Sound t code → k < length t.modules → StayLaws t code 3 now k (new_stay t es now k)
new_laws t code es now k h inside = elim (option_cases (new_stay t es now k)) [
  | inl none ↦ subst (StayLaws t code 3 now k) (sym none) (none_laws t code 3 now k)
  | inr z ↦ (
      let s = new_stays t es now k z.0 h.ranges inside z.1 in
      subst (StayLaws t code 3 now k) (sym z.1) (stay_laws t code 3 now k z.0 s.start (phase_are t code 3 z.0.mode k (inr refl) (h.reads z.0.mode s.mode))))
]

pub every_module : (t : Tables) (code : ECode) (es : List Event) (now phase : ℕ) → Sound t code → IsPhase phase → (k : ℕ) → k < length t.modules → ModuleLaws t code es now phase k
every_module t code es now phase h (inl one) k inside = subst (λ p. ModuleLaws t code es now p k) (sym one) (module_writes t code es now k inside (old_laws t code es now k h inside))
every_module t code es now phase h (inr (inl two)) k inside =
    let x = module_at t k inside in
    subst (λ p. ModuleLaws t code es now p k) (sym two) (module_switches t code es now k h inside x.0 x.1)
every_module t code es now phase h (inr (inr three)) k inside = subst (λ p. ModuleLaws t code es now p k) (sym three) (module_reads t code es now k inside (new_laws t code es now k h inside))

-- ---- one call

pub call_onward : (t : Tables) (code : ECode) (es : List Event) (now phase : ℕ) (values : List ℤ) (m : Standing) (done rest : List Done) → Sound t code → IsPhase phase → (eqb phase 2 ≡ true → values ≡ (state t es now).values) →
    Midway t code es now phase m done rest → Onward t code es now phase (standing_after t code values phase now m (done_in code phase now m)) done rest (done_in code phase now m)
call_onward t code es now phase values m done rest h p same mid = onward t code es now phase (every_module t code es now phase h p) values m done rest same mid

-- ---- from instant to instant

pub roots_run : (t : Tables) (es : List Event) (now : ℕ) → AreInRange t → RootsRun t es now
roots_run t es now r = λ j inside root none.
    let x = module_at t j inside in
    let on : parent_runs t es now x.0 ≡ true = root_on x.0 (sym (parent_at t j x.0 x.1) ∙ root) in
    let y = active_some t es now j x.0 r x.1 on in
    none_stay y.0 (sym none ∙ y.1)
  where
    root_on : (x : Module) → x.parent ≡ None → parent_runs t es now x ≡ true
    root_on x e = ap (λ (o : Option ℕ). elim o as (λ _. Bool) [ None ↦ true | Some p ↦ runs t (state t es now).stays p ]) e

pub starts : (t : Tables) (code : ECode) (es : List Event) (now phase : ℕ) (m : Standing) → m.running ≡ None → Between t code es now phase m.calendar 0 → Midway t code es now phase m [] (phase_path t code es now phase)
starts t code es now phase m idle b = by_running m.calendar m.running idle b
  where
    by_running : (c : Calendar) (r : Option Block) → r ≡ None → Between t code es now phase c 0 → Midway t code es now phase (record { calendar = c; running = r }) [] (phase_path t code es now phase)
    by_running c None e b = phase_starts t code es now phase c b
    by_running c (Some x) e b = absurd (let z : ⊥ = cc in z)

pub follows_writes : (t : Tables) (code : ECode) (es : List Event) (now : ℕ) (m : Standing) → FollowsCode t code es now m → Midway t code es now 1 m [] (phase_path t code es now 1)
follows_writes t code es now m f = starts t code es now 1 m f.idle f.calendar

-- a phase in which nothing is due any more is followed by the next
pub writes_switches : (t : Tables) (code : ECode) (es : List Event) (now : ℕ) (m : Standing) (done rest : List Done) → Onward t code es now 1 m done rest None → Midway t code es now 2 m [] (phase_path t code es now 2)
writes_switches t code es now m done rest o = starts t code es now 2 m o.1 (to_switches t code es now m.calendar o.2)

pub switches_reads : (t : Tables) (code : ECode) (es : List Event) (now : ℕ) (m : Standing) (done rest : List Done) → Onward t code es now 2 m done rest None → Midway t code es now 3 m [] (phase_path t code es now 3)
switches_reads t code es now m done rest o = starts t code es now 3 m o.1 (to_reads t code es now m.calendar o.2)

pub reads_follows : (t : Tables) (code : ECode) (es : List Event) (now : ℕ) (m : Standing) (done rest : List Done) → Sound t code → Onward t code es now 3 m done rest None → FollowsCode t code es (suc now) m
reads_follows t code es now m done rest h o = record { idle = o.1; calendar = to_next t code es now m.calendar (roots_run t es now h.ranges) o.2 }

-- the three phases are the path of the instant
pub whole_path : (t : Tables) (code : ECode) (es : List Event) (now : ℕ) → e_path t code es now ≡ phase_path t code es now 1 ++ (phase_path t code es now 2 ++ phase_path t code es now 3)
whole_path t code es now = refl

-- ---- the first instant

list_map_at : {A B : Type 0} (f : A → Option B) (xs : List A) (k : ℕ) (x : A) → slice_get xs k ≡ Some x → list_at (map f xs) k ≡ f x
list_map_at f [] k x e = absurd (let z : ⊥ = cc in z)
list_map_at f (y ∷ ys) zero x e = let same : y ≡ x = cc in ap f same
list_map_at f (y ∷ ys) (suc k) x e = list_map_at f ys k x e

pub list_none : {A : Type 0} (n k : ℕ) → list_at {A = A} (replicate n None) k ≡ None
list_none zero k = refl
list_none (suc n) zero = refl
list_none (suc n) (suc k) = list_none n k

pub first_follows : (t : Tables) (code : ECode) (es : List Event) → Sound t code → FollowsCode t code es 0 (record { calendar = first_calendar t code; running = None })
first_follows t code es h =
    record {
      idle = refl;
      calendar = record {
        sized = record { modes = length-replicate count None; writes = length-replicate count None; switches = length-map t.modules _; reads = length-replicate count None };
        below = λ j less. absurd (none_below j less);
        above = λ j from inside. let x = module_at t j inside in entry j x.0 x.1 x.0.parent refl;
      };
    }
  where
    count : ℕ
    count = length t.modules

    none_below : (j : ℕ) → j < 0 → ⊥
    none_below j less = omega (arith, less)

    entry_all : Option ℕ → Option Trigger → Option Trigger → Option Trigger → Entry
    entry_all m w z r = record { mode = m; write = w; switch = z; read = r }

    by_parent : (j : ℕ) (x : Module) → slice_get t.modules j ≡ Some x → (o : Option ℕ) → x.parent ≡ o →
        ◌≡◌ {A = Option Trigger} (elim o [ None ↦ Some (record { at = 0; target = entered code x.start }) | Some m ↦ None ]) (cond (elim o [ None ↦ true | Some q ↦ ltb (mode_module t q) 0 ]) (entering code 0 (new_stay t es 0 j)) None)
    by_parent j x at None e =
        let on : parent_runs t es 0 x ≡ true = ap (λ (o : Option ℕ). elim o as (λ _. Bool) [ None ↦ true | Some p ↦ runs t (state t es 0).stays p ]) e in
        let y = active_some t es 0 j x h.ranges at on in
        let is : y.0 ≡ record { mode = x.start; start = 0 } = begins_now t es 0 j x y.0 h.ranges at refl y.1 in
        ap (λ a. Some (record { at = 0; target = a })) (sym (ap (λ (s : Stay). entered code s.mode) is)) ∙ sym (ap (entering code 0) y.1)
    by_parent j x at (Some q) e = sym (ap (λ b. cond b (entering code 0 (new_stay t es 0 j)) None) (none (mode_module t q)))
      where
        none : (n : ℕ) → ltb n 0 ≡ false
        none n = grind (arith, nat_tests)

    entry : (j : ℕ) (x : Module) → slice_get t.modules j ≡ Some x → (o : Option ℕ) → x.parent ≡ o → entry_at (first_calendar t code) j ≡ opening t code 0 j None (new_stay t es 0 j)
    entry j x at o e =
        let no_mode : list_at {A = ℕ} (replicate count None) j ≡ None = list_none count j in
        let none : list_at {A = Trigger} (replicate count None) j ≡ None = list_none count j in
        let first : list_at (map (first_trigger code) t.modules) j ≡ first_trigger code x = list_map_at (first_trigger code) t.modules j x at in
        let called : first_trigger code x ≡ turning t code 0 0 j None (new_stay t es 0 j) =
        by_parent j x at x.parent refl ∙ sym (ap (λ (o : Option ℕ). cond (elim o as (λ _. Bool) [ None ↦ true | Some q ↦ ltb (mode_module t q) 0 ]) (entering code 0 (new_stay t es 0 j)) None) (parent_at t j x at)) in
        ap (λ m. entry_all m (list_at (replicate count None) j) (list_at (map (first_trigger code) t.modules) j) (list_at (replicate count None) j)) no_mode
        ∙ ap (λ w. entry_all None w (list_at (map (first_trigger code) t.modules) j) w) none
        ∙ ap (λ z. entry_all None None z None) (first ∙ called)

-- ---- how many instructions are left of a phase

-- what the machine does with so much fuel, counted
abbrev pub steps : ℕ → Tables → ECode → List ℤ → ℕ → ℕ → Standing → ℕ
steps zero t code values phase at m = 0
steps (suc n) t code values phase at m =
    elim (done_in code phase at m) [ Some d ↦ suc (steps n t code values phase at (standing_after t code values phase at m (Some d))) | None ↦ 0 ]

-- ---- a whole instant

pub passes_instant : (t : Tables) (code : ECode) (es : List Event) (now : ℕ) → Sound t code → PassesInstant t code es now
passes_instant t code es now h =
    record {
      opens = λ m f. follows_writes t code es now m f;
      switches = λ m done rest o. writes_switches t code es now m done rest o;
      reads = λ m done rest o. switches_reads t code es now m done rest o;
      closes = λ m done rest o. reads_follows t code es now m done rest h o;
      path = whole_path t code es now;
    }
