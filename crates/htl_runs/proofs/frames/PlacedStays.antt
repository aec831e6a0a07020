-- At each instant of a frame what stands at the positions so far is who stands.
use Rattle.std.proofs.Common.{◌≡◌, ◌<◌, ◌≤◌, ◌⊎◌, ℕ, zero, suc, ◌+◌, ◌-◌, ◌*◌, ◌/◌, ◌%◌, true, List, [], ◌∷◌, length, map, take, slice_get, Option, Some, None, option_map, refl, sym, ◌∙◌, ap, subst, arith, inl, inr}
use Rattle.htl_runs.proofs.Words.{div-add-mod, mod-lt, mul-div_cancel_left, mul-mod_right, add-mul-mod_self_left, slice_get_within, get_or_from_slice_get, same_Some, Event, Inv, Mode, Stay, KeptApart, StandsFor, itself, chosen, state, stay_of, AreInRange, IsInvInRange, entry, Runs, IsEntry, IsSelection, parent_mode, is_root, root_modules, inv_of_mode, invs_of, Tables, mode_module, mode_period, window_end, is_concrete, running_invs, modes_at, chosen_exact_apart, front_there, mapped, map_at, start_below, of_flat, of_places, at_place, states_are_selections, Place, frame_of, unit_period, root_periods, starts, rounds_at, rounds, frame_divided, derived_place, frame_modes, frame_places, place, standing_places, AreOrdered, InvStands, not_some, standing_at, some_time, own_starts, since, until, IsFramePlacing, PlacedByModes, window_within, of_rounds, round_of, run_of, each_at, eq-eqb, eqb-true, times_grow}
use Rattle.htl_model.specs.declared.frame.Round.{Round}
use Rattle.htl_runs.proofs.{frames.RootModes.unit_period_is, frames.RootModes.has_root, frames.RootPaths.IsTop, frames.RootPaths.climb, frames.RootPaths.down, frames.FrameMembers.round_in, frames.FrameMembers.in_run}

-- ---- modes and stays

pub entry_is : (t : Tables) (es : List Event) (s u : ℕ) → entry (modes_at t es s) u ≡ option_map (λ (y : Stay). y.mode) (stay_of (state t es s).stays u)
entry_is t es s u = go (state t es s).stays u
  where
    go : (stays : List (Option Stay)) (u : ℕ) → entry (map (λ (o : Option Stay). option_map (λ (y : Stay). y.mode) o) stays) u ≡ option_map (λ (y : Stay). y.mode) (stay_of stays u)
    go [] u = refl
    go (x ∷ xs) zero = refl
    go (x ∷ xs) (suc u) = go xs u

-- ---- multiples

-- the last multiple
multiple : (p e : ℕ) → 0 < p → p * (p * e / p) ≡ p * e
multiple p e some = ap (λ z. p * z) (mul-div_cancel_left e some)

pub last_multiple : (p e n : ℕ) → 0 < p → p * e ≤ n → p * e ≤ p * (n / p)
last_multiple p e n some h = grind (arith, times_grow, div-add-mod, mod-lt)

-- a round that begins before a multiple of its period ends by it
fits : (p a b : ℕ) → p * a < p * b → p * a + p ≤ p * b
fits p a b less = grind (arith, times_grow)

pub there_front : {A : Type 0} (m : ℕ) (xs : List A) (p : ℕ) (x : A) → slice_get xs p ≡ Some x → p < m → slice_get (take m xs) p ≡ Some x
there_front zero xs p x e h = absurd (omega arith)
there_front (suc m) [] p x e h = not_some x e
there_front (suc m) (y ∷ xs) zero x e h = e
there_front (suc m) (y ∷ xs) (suc p) x e h = there_front m xs p x e (omega arith)

module _ (t : Tables) (es : List Event) (n f m : ℕ) (range : AreInRange t) (kept : KeptApart t 16) (at_frame : f ≡ frame_of t * (n / frame_of t)) (past : f ≤ n) (inside : n < f + frame_of t)
    (ordered : AreOrdered (standing_places t es f) m (n - f)) where
  first12 : KeptApart t 12
  first12 = λ r s have need small other broken. kept r s have need (omega arith) other broken

  -- the frame is a multiple of each root period
  common : (j u : ℕ) → slice_get (root_modules t) j ≡ Some u → (d : ℕ) × (frame_of t ≡ unit_period t u * d)
  common j u e =
      let p = unit_period t u in
      let even : frame_of t % p ≡ 0 = ap (λ z. frame_of t % unit_period t z) (sym (get_or_from_slice_get (root_modules t) j u 0 e)) ∙ frame_divided t j (slice_get_within (root_modules t) j u e) in
      (frame_of t / p, omega (arith, even, div-add-mod (frame_of t) p))

  selections : (a : ℕ) → IsSelection t (modes_at t es a)
  selections a = states_are_selections t range es a

  -- what is at a position
  pub record IsAt (i a : ℕ) : Type 0 where
    pub inv : Inv
    pub known : slice_get t.invs i ≡ Some inv
    pub concrete : is_concrete t inv ≡ true
    pub runs : Runs t (modes_at t es (f + a)) inv.mode
    -- its round began at a multiple of its period, and ends with the frame or before
    pub times : ℕ
    pub multiple_of : f + a ≡ mode_period t inv.mode * times
    pub ends : a + mode_period t inv.mode ≤ frame_of t

  running_of : (ms : List (Option ℕ)) (u j k : ℕ) → slice_get (running_invs t ms u) j ≡ Some k → (q : ℕ) × (entry ms u ≡ Some q) × (slice_get (invs_of t q) j ≡ Some k)
  running_of ms u j k e = grind (arith, not_some)

  frame_times : (u d : ℕ) → frame_of t ≡ unit_period t u * d → f ≡ unit_period t u * (d * (n / frame_of t))
  frame_times u d e = at_frame ∙ ap (λ z. z * (n / frame_of t)) e ∙ regroup (unit_period t u) d (n / frame_of t)
    where
      regroup : (a b c : ℕ) → a * b * c ≡ a * (b * c)
      regroup a b c = grind arith

  pub at_place_is : (p i a : ℕ) → slice_get (standing_places t es f) p ≡ Some (place i a) → IsAt i a
  at_place_is p i a e =
      let modes = frame_modes t es f in
      let x = mapped (derived_place t modes) (frame_places t modes) p (place i a) e in
      let r = run_of t modes (rounds t) p x.0 x.1 in
      let rr = r.1 in
      let k = r.4 in
      let ms = modes_at t es (f + rr.at) in
      let is : derived_place t modes (place k rr.at) ≡ place i a = ap (derived_place t modes) (sym r.6) ∙ x.2 in
      let root = round_of t r.0 rr r.2 in
      let um = of_places is_root 0 t.modules root.0 rr.unit root.1 in
      let unit_at : slice_get t.modules rr.unit ≡ Some um.1 = ap (slice_get t.modules) (let z : rr.unit ≡ um.0 = omega (arith, um.2) in z) ∙ um.3 in
      let run = running_of ms rr.unit r.3 k r.5 in
      let mode_at = (subst (IsEntry t ms rr.unit um.1.parent) run.1 ((selections (f + rr.at)).each rr.unit um.1 unit_at)).0 in
      let unit : mode_module t run.0 ≡ rr.unit = ap (λ (o : Option Mode). elim o [ Some z ↦ z.«module» | None ↦ 0 ]) mode_at.1 ∙ mode_at.2 in
      let kx = of_places (inv_of_mode run.0) 0 t.invs r.3 k run.2 in
      let inv_at : slice_get t.invs k ≡ Some kx.1 = ap (slice_get t.invs) (let z : k ≡ kx.0 = omega (arith, kx.2) in z) ∙ kx.3 in
      let mode : kx.1.mode ≡ run.0 = eqb-true kx.1.mode run.0 kx.4 in
      let runs : Runs t ms kx.1.mode = ap (λ z. entry ms (mode_module t z)) mode ∙ ap (entry ms) unit ∙ run.1 ∙ ap (λ z. Some z) (sym mode) in
      let d = down t range kept ms (selections (f + rr.at)) k i kx.1 inv_at runs ((chosen_exact_apart t ms range kept k i).0 (ap (λ (z : Place). z.inv) is)) in
      let period : mode_period t d.0.mode ≡ unit_period t rr.unit = d.4 ∙ ap (mode_period t) mode ∙ unit_period_is t range kept rr.unit run.0 um.1 unit_at (slice_get_within t.modes run.0 mode_at.0 mode_at.1) unit in
      let c = common root.0 rr.unit root.1 in
      let up = unit_period t rr.unit in
      let whole : up * (rr.at / up) + rr.at % up ≡ rr.at = div-add-mod rr.at up in
      let sum : f + rr.at ≡ up * (c.0 * (n / frame_of t)) + up * (rr.at / up) = omega (arith, frame_times rr.unit c.0 c.1, whole, root.2) in
      subst (λ z. IsAt i z) (ap (λ (z : Place). z.at) is)
      (record {
        inv = d.0;
        known = d.1;
        concrete = d.2;
        runs = d.3;
        times = c.0 * (n / frame_of t) + rr.at / up;
        multiple_of = sum ∙ join up (c.0 * (n / frame_of t)) (rr.at / up) ∙ ap (λ z. z * (c.0 * (n / frame_of t) + rr.at / up)) (sym period);
        ends = let last = fits up (rr.at / up) c.0 (omega (arith, whole, root.2, early r.0 rr r.2, c.1)) in omega (arith, last, whole, root.2, c.1, period);
      })
    where
      join : (a b c : ℕ) → a * b + a * c ≡ a * (b + c)
      join a b c = grind arith

      -- a round of a frame begins before its end
      early : (q : ℕ) (r : Round) → slice_get (rounds t) q ≡ Some r → r.at < frame_of t
      early q r e =
          let m = of_flat (rounds_at t) (starts t) q r e in
          omega (arith, start_below (root_periods t) (frame_of t) m.0 m.1 m.2, (of_rounds t m.1 (root_modules t) m.3 r m.4).2)

  -- an invocation that stands for a root invocation of a round has a place
  found : (i a s u q k r j : ℕ) → slice_get (rounds t) r ≡ Some (record { at = a; unit = u }) → f + a ≡ s → s ≤ n → entry (modes_at t es s) u ≡ Some q → slice_get (invs_of t q) j ≡ Some k
      → chosen t (modes_at t es s) k ≡ Some i → (p : ℕ) × (slice_get (take m (standing_places t es f)) p ≡ Some (place i a))
  found i a s u q k r j round sum late is inv stood =
      let run = in_run t (frame_modes t es f) (rounds t) r j k (record { at = a; unit = u }) round (running_here a s u q k j sum is inv) in
      (run.0, there_front m (standing_places t es f) run.0 (place i a) (there_at a s i k run.0 sum stood run.1) (ordered.begun run.0 (place i a) (there_at a s i k run.0 sum stood run.1) (omega (arith, sum, late))))
    where
      running_here : (a s u q k j : ℕ) → f + a ≡ s → entry (modes_at t es s) u ≡ Some q → slice_get (invs_of t q) j ≡ Some k → slice_get (running_invs t (frame_modes t es f a) u) j ≡ Some k
      running_here a s u q k j sum is inv =
          ap (λ z. slice_get (running_invs t (modes_at t es z) u) j) sum ∙ ap (λ (o : Option ℕ). slice_get (elim o as (λ _. List ℕ) [ Some z ↦ invs_of t z | None ↦ [] ]) j) is ∙ inv

      there_at : (a s i k p : ℕ) → f + a ≡ s → chosen t (modes_at t es s) k ≡ Some i → slice_get (frame_places t (frame_modes t es f)) p ≡ Some (place k a) → slice_get (standing_places t es f) p ≡ Some (place i a)
      there_at a s i k p sum stood e =
          map_at (derived_place t (frame_modes t es f)) (frame_places t (frame_modes t es f)) p (place k a) e
          ∙ ap (λ z. let v : Place = record { inv = chosen t (modes_at t es z) k; at = a } in Some v) sum
          ∙ ap (λ (o : Option ℕ). let v : Place = record { inv = o; at = a } in Some v) stood

  divides : (p a e k : ℕ) → a + p * e ≡ p * k → a % p ≡ 0
  divides p a e k h = sym (add-mul-mod_self_left a p e) ∙ ap (λ z. z % p) h ∙ mul-mod_right p k

  -- from its root invocation
  by_top : (i s q k : ℕ) → s ≤ n → s ≡ mode_period t q * (n / mode_period t q) → q < length t.modes → parent_mode t q ≡ None → entry (modes_at t es s) (mode_module t q) ≡ Some q
      → (j : ℕ) → slice_get (invs_of t q) j ≡ Some k → chosen t (modes_at t es s) k ≡ Some i
      → (p a : ℕ) × (slice_get (take m (standing_places t es f)) p ≡ Some (place i a)) × (f + a ≡ s)
  by_top i s q k late own real root is j inv stood =
      let h = has_root t range kept q real root in
      let u = mode_module t q in
      let per = mode_period t q in
      let c = common h.index u h.at in
      let e = c.0 * (n / frame_of t) in
      let f_is : f ≡ per * e = frame_times u c.0 c.1 ∙ sym (ap (λ z. z * e) h.period) in
      let a = s - f in
      let sum : f + a ≡ s = omega (arith, f_is, last_multiple per e n (some_time t range first12 q real) (omega (arith, f_is, past)), own) in
      let even : a % unit_period t u ≡ 0 = sym (ap (λ z. a % z) h.period) ∙ divides per a e (n / per) (omega (arith, sum, f_is, own)) in
      let round = round_in t h.index u a h.at (omega (arith, late, inside, sum)) even in
      let r = found i a s u q k round.0 j round.1 sum late is inv stood in
      (r.0, a, r.1, sum)

  -- whoever stands has a place
  placed : (i : ℕ) (x : Inv) (s : ℕ) → InvStands t (state t es n).stays i x s → (p a : ℕ) × (slice_get (take m (standing_places t es f)) p ≡ Some (place i a)) × (f + a ≡ s)
  placed i x s st = by_climb (climb t range kept (modes_at t es s) (selections s) (suc mm) i i (mode_period t x.mode) x (omega arith) st.known runs (itself i x st.known st.concrete) refl)
    where
      mm : ℕ
      mm = mode_module t x.mode

      back : stay_of (state t es s).stays (mode_module t x.mode) ≡ Some (record { mode = x.mode; start = s })
      back = since t range first12 es n (mode_module t x.mode) (record { mode = x.mode; start = s }) st.in_round

      runs : Runs t (modes_at t es s) x.mode
      runs = entry_is t es s (mode_module t x.mode) ∙ ap (λ (o : Option Stay). option_map (λ (z : Stay). z.mode) o) back

      late : s ≤ n
      late = (standing_at t range es n).past (mode_module t x.mode) (record { mode = x.mode; start = s }) st.in_round

      own : s ≡ mode_period t x.mode * (n / mode_period t x.mode)
      own = own_starts t range first12 es n (mode_module t x.mode) (record { mode = x.mode; start = s }) st.in_round

      by_climb : IsTop t range kept (modes_at t es s) (selections s) i (mode_period t x.mode) → (p a : ℕ) × (slice_get (take m (standing_places t es f)) p ≡ Some (place i a)) × (f + a ≡ s)
      by_climb top =
          let q = top.inv.mode in
          let real : q < length t.modes = (each_at (IsInvInRange t) t.invs range.invs top.number top.inv top.at).owner in
          let j = at_place (inv_of_mode q) t.invs top.number top.inv top.at (eq-eqb q q refl) in
          by_top i s q top.number late (own ∙ sym (ap (λ z. z * (n / z)) top.period)) real top.root top.runs j.0 j.1 ((chosen_exact_apart t (modes_at t es s) range kept top.number i).1 top.stands)

  stay_there : (s u q : ℕ) → entry (modes_at t es s) u ≡ Some q → (y : Stay) × (stay_of (state t es s).stays u ≡ Some y) × (y.mode ≡ q)
  stay_there s u q e = grind (arith, entry_is, not_some, same_Some)

  -- until a window has ended, whoever is at the place stands
  stands_on : (p i a : ℕ) (x : Inv) → slice_get (take m (standing_places t es f)) p ≡ Some (place i a) → slice_get t.invs i ≡ Some x → n < f + a + window_end t x → InvStands t (state t es n).stays i x (f + a)
  stands_on p i a x e known open_yet =
      let r = front_there m (standing_places t es f) p (place i a) e in
      let w = at_place_is p i a r.0 in
      let one : w.inv ≡ x = same_Some _ _ (sym w.known ∙ known) in
      let s = f + a in
      let mm = mode_module t x.mode in
      let y = stay_there s mm x.mode (subst (λ (z : Inv). Runs t (modes_at t es s) z.mode) one w.runs) in
      let some : 0 < mode_period t y.0.mode = some_time t range first12 y.0.mode ((standing_at t range es s).real mm y.0 y.1) in
      let same : mode_period t y.0.mode ≡ mode_period t x.mode = ap (mode_period t) y.2 in
      let times : s ≡ mode_period t y.0.mode * w.times = w.multiple_of ∙ ap (λ (z : Inv). mode_period t z.mode * w.times) one ∙ ap (λ z. z * w.times) (sym same) in
      let start : y.0.start ≡ s =
      own_starts t range first12 es s mm y.0 y.1 ∙ ap (λ z. mode_period t y.0.mode * (z / mode_period t y.0.mode)) times ∙ multiple (mode_period t y.0.mode) w.times some ∙ sym times in
      let d = n - s in
      let is : s + d ≡ n = omega (arith, ordered.front p (place i a) r.0 r.1, past) in
      let stay = until t range first12 es s d mm y.0 y.1 (omega (arith, is, start, same, open_yet, window_within t i x range first12 known)) in
      record {
        known = known;
        concrete = subst (λ (z : Inv). is_concrete t z ≡ true) one w.concrete;
        in_round = ap (λ z. stay_of (state t es z).stays mm) (sym is) ∙ stay ∙ ap (λ z. let v : Stay = record { mode = z; start = y.0.start } in Some v) y.2 ∙ ap (λ z. let v : Stay = record { mode = x.mode; start = z } in Some v) start;
      }

  -- of who stands no later round has begun
  none_later : (p i a s : ℕ) (x : Inv) → slice_get (take m (standing_places t es f)) p ≡ Some (place i a) → InvStands t (state t es n).stays i x s → f + a ≤ s
  none_later p i a s x e st =
      let r = front_there m (standing_places t es f) p (place i a) e in
      let w = at_place_is p i a r.0 in
      let y : Stay = record { mode = x.mode; start = s } in
      let mm = mode_module t x.mode in
      let per = mode_period t x.mode in
      let some : 0 < per = some_time t range first12 x.mode ((standing_at t range es n).real mm y st.in_round) in
      let times : f + a ≡ per * w.times = w.multiple_of ∙ ap (λ (z : Inv). mode_period t z.mode * w.times) (same_Some _ _ (sym w.known ∙ st.known)) in
      let most : per * w.times ≤ per * (n / per) = last_multiple per w.times n some (omega (arith, times, ordered.front p (place i a) r.0 r.1, past)) in
      omega (arith, times, most, own_starts t range first12 es n mm y st.in_round)

  pub placing : IsFramePlacing t (state t es n).stays f n (take m (standing_places t es f))
  placing =
      record {
        has = placed;
        known = λ p i a e. let w = at_place_is p i a (front_there m (standing_places t es f) p (place i a) e).0 in (w.inv, w.known);
        stands = stands_on;
        latest = none_later;
        order = λ p q x y l a b. ordered.order p q x y l (front_there m (standing_places t es f) p x a).0 (front_there m (standing_places t es f) q y b).0;
        once = λ p q i a b c. ordered.once p q i a (front_there m (standing_places t es f) p (place i a) b).0 (front_there m (standing_places t es f) q (place i a) c).0;
      }

pub placed_by_modes : PlacedByModes
placed_by_modes t es n f m range kept at_frame past inside ordered = placing t es n f m range kept at_frame past inside ordered
