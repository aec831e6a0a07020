-- Where a list begins, and which.
use Rattle.std.proofs.Common.{◌≡◌, ◌≢◌, ℕ, zero, suc, ◌+◌, ◌-◌, ◌*◌, ◌/◌, ◌%◌, ◌≤◌, ◌<◌, ◌⊎◌, Bool, true, false, cond, ◌&&◌, ◌||◌, not, eqb, leb, pred, List, [], ◌∷◌, length, get_or, map, slice_get, drop, Option, Some, None, refl, sym, ap, ap₂, ◌∙◌, arith, inl, inr}
use Rattle.htl_runs.proofs.Words.{list_any, div-add-mod, add-mul-mod_self_left, mul_assoc, eqb-true, eq-eqb, ne_eqb, cases_eq, get_or_from_slice_get, slice_get-get_or, slice_get_within, Event, Mode, KeptApart, frame_of, starts, unit_period, root_periods, rounds_of, choices, AreInRange, IsModeInRange, is_root, root_modules, modes_of, mode_of_module, Tables, mode_period, frame_divided, modes_some, place_passes_0, SInstr, IsRootAt, as_unit, choice_of, frame_modes, path_in, choice_at, nodes_below, node_read, modes_at, entry_place, IsFeasibleRun, nodes_read, node_steps, states_are_selections, frame_start, Turn, next_list, next_node, NextListStands, ListsBegin, begun_of, list_number, list_turn, first_period, opens, some_round_begins, all_at}
use Rattle.htl_model.specs.Frames as frames
use Rattle.htl_walk.proofs.Starts.{Rises}
use Rattle.htl_runs.proofs.{lists.ListStarts.begun_next, lists.ListStarts.none_after, frames.RoundStarts.divides, values.Periods.begins_or_not}
use Rattle.htl_runs.proofs.lists.RunLists.{rise, past, stands, from_is, number, number_is}

-- ---- where a round of a root module begins

-- a root module has the period of its first mode
first_is : (t : Tables) (j u : ℕ) → AreInRange t → KeptApart t 12 → slice_get (root_modules t) j ≡ Some u → (first_period t u ≡ unit_period t u) × (0 < unit_period t u)
first_is t j u range kept at =
    let x = place_passes_0 is_root j u t.modules at in
    let root : IsRootAt t u = record { owner = x.0; at = x.1; root = x.2 } in
    let m = get_or (modes_of t u) 0 0 in
    let y = place_passes_0 (mode_of_module u) 0 m t.modes (slice_get-get_or (modes_of t u) 0 0 (modes_some t u range (slice_get_within t.modules u x.0 x.1))) in
    let unit : mode_period t m ≡ unit_period t u = as_unit t u m y.0 range kept root y.1 (eqb-true y.0.«module» u y.2) in
    let is : mode_period t m ≡ y.0.period = ap (λ (o : Option Mode). elim o as (λ _. ℕ) [ Some z ↦ z.period | None ↦ 0 ]) y.1 in
    (unit, omega (arith, unit, is, (all_at (IsModeInRange t) t.modes m y.0 range.modes y.1).period.some))

any_mapped : (f : ℕ → Bool) (g : ℕ → Bool) (h : ℕ → ℕ) (us : List ℕ) → ((j u : ℕ) → slice_get us j ≡ Some u → f u ≡ g (h u)) → list_any f us ≡ list_any g (map h us)
any_mapped f g h [] each = refl
any_mapped f g h (u ∷ us) each = ap₂ (λ a b. a || b) (each 0 u refl) (any_mapped f g h us (λ j v at. each (suc j) v at))

multiple : (h p k q d : ℕ) → p * k ≡ h → h * q + d ≡ d + p * (k * q)
multiple h p k q d e = ap (λ z. z * q + d) (sym e) ∙ (let m : p * k * q ≡ p * (k * q) = mul_assoc p k q in omega (arith, m))

-- the code's test is that of the periods of the root modules
pub begins_whole : (t : Tables) (now : ℕ) → AreInRange t → KeptApart t 12 → some_round_begins t now ≡ frames.begins (root_periods t) now
begins_whole t now range kept = grind (arith, any_mapped, first_is, divides)

-- so that is told by the offset from the frame's start
pub begins_at : (t : Tables) (now : ℕ) → AreInRange t → KeptApart t 12 → some_round_begins t now ≡ frames.begins (root_periods t) (now % frame_of t)
begins_at t now range kept = any_mapped (opens t now) (λ p. eqb ((now % frame_of t) % p) 0) (unit_period t) (root_modules t) each
  where
    each : (j u : ℕ) → slice_get (root_modules t) j ≡ Some u → opens t now u ≡ eqb ((now % frame_of t) % unit_period t u) 0
    each j u at =
        let p = unit_period t u in
        let h = frame_of t in
        let f = first_is t j u range kept at in
        let there : get_or (root_modules t) j 0 ≡ u = get_or_from_slice_get (root_modules t) j u 0 at in
        let no_rest : h % p ≡ 0 = ap (λ v. h % unit_period t v) (sym there) ∙ frame_divided t j (slice_get_within (root_modules t) j u at) in
        let whole : p * (h / p) ≡ h = omega (arith, div-add-mod h p, no_rest) in
        let now_is : now ≡ now % h + p * (h / p * (now / h)) = sym (div-add-mod now h) ∙ multiple h p (h / p) (now / h) (now % h) whole in
        ap (λ q. not (eqb q 0) && eqb (now % q) 0) f.0 ∙ divides p now f.1
        ∙ ap (λ z. eqb z 0) (ap (λ z. z % p) now_is ∙ add-mul-mod_self_left (now % h) p (h / p * (now / h)))

-- ---- the starts of a frame

begins_start : (ps : List ℕ) (h : ℕ) (from : List ℕ) (j : ℕ) → Rises ps h from → j < length from → frames.begins ps (get_or from j 0) ≡ true
begins_start ps h [] j r l = absurd (omega (arith, l))
begins_start ps h (a ∷ later) zero r l = r.0
begins_start ps h (a ∷ later) (suc j) r l = begins_start ps h later j r.3 (omega (arith, l))

first_number : (ps : List ℕ) (h : ℕ) (from : List ℕ) → Rises ps h from → list_number 0 from ≡ 0
first_number ps h [] r = refl
first_number ps h (a ∷ later) r = grind (arith, none_after)

-- ---- the choice at a start

choice_same : (t : Tables) (modes : ℕ → List (Option ℕ)) (a : ℕ) → choice_at t modes a ≡ choice_of t (modes a) a
choice_same t modes a = go (root_modules t)
  where
    go : (us : List ℕ) → path_in t modes (rounds_of t a us) ≡ path_in t (λ x. modes a) (rounds_of t a us)
    go [] = refl
    go (u ∷ us) = grind (arith, go us)

node_first : (t : Tables) (modes : ℕ → List (Option ℕ)) (from : List ℕ) → 0 < length from → node_read t modes from 0 ≡ choice_at t modes (get_or from 0 0) * suc (nodes_below t (drop 1 from))
node_first t modes [] l = absurd (omega arith)
node_first t modes (a ∷ later) l = refl

module _ (t : Tables) (lists : List (List SInstr)) (es : List Event) (run : IsFeasibleRun t lists es) (now : ℕ) where
  abbrev turn : ℕ → Turn
  turn = list_turn t lists es

  first_rules : KeptApart t 12
  first_rules r s have need small other broken = run.kept r s have need (omega (arith, small)) other broken

  pub offset : now % frame_of t ≡ now - frame_start t now
  offset = let parts : frame_of t * (now / frame_of t) + now % frame_of t ≡ now = div-add-mod now (frame_of t) in omega (arith, parts)

  -- a list begins exactly where a round does
  begins_there : some_round_begins t now ≡ eqb ((turn now).frame + (turn now).from) now
  begins_there =
      let s = stands t lists es run now in
      let down = past t lists es run now in
      begins_at t now run.range first_rules ∙ ap (frames.begins (root_periods t)) offset
      ∙ elim (cases_eq (get_or (starts t) (turn now).list 0) (now - frame_start t now)) [
        | inl same ↦
            sym (ap (frames.begins (root_periods t)) same) ∙ begins_start (root_periods t) (frame_of t) (starts t) (turn now).list (rise t lists es run) s.there
            ∙ sym (eq-eqb ((turn now).frame + (turn now).from) now (omega (arith, same, from_is t lists es run now, down)))
        | inr other ↦
            s.quiet (now - frame_start t now) (strict (get_or (starts t) (turn now).list 0) (now - frame_start t now) s.begun other) s.before
            ∙ sym (ne_eqb ((turn now).frame + (turn now).from) now (λ e. other (omega (arith, e, from_is t lists es run now, down))))
      ]
    where
      strict : (a b : ℕ) → a ≤ b → a ≢ b → a < b
      strict a b l d = grind arith

  -- ---- the list that begins

  abbrev modes : ℕ → List (Option ℕ)
  modes = frame_modes t es (frame_start t now)

  abbrev j : ℕ
  j = (turn now).list

  node_is : (turn now).node ≡ node_read t (frame_modes t es (frame_start t now)) (starts t) (turn now).list
  node_is = nodes_read t modes (λ a. states_are_selections t run.range es (frame_start t now + a)) (turn now).list

  module _ (here : (turn now).frame + (turn now).from ≡ now) where
    pub at_is : get_or (starts t) (turn now).list 0 ≡ now % frame_of t
    at_is = let down = past t lists es run now in omega (arith, offset, here, from_is t lists es run now, down)

    -- the choice at its start, by the modes of the instant
    choice_is : choice_at t (frame_modes t es (frame_start t now)) (get_or (starts t) (turn now).list 0) ≡ choice_of t (modes_at t es now) (now % frame_of t)
    choice_is = grind (arith, offset, past, at_is, choice_same)

    -- as a frame begins
    pub first_next : now % frame_of t ≡ 0 → (list before : ℕ) → ((turn now).list ≡ next_list t now list) × ((turn now).node ≡ next_node t (modes_at t es now) now before list)
    first_next zero_is list before =
        let test : eqb (now % frame_of t) 0 ≡ true = eq-eqb (now % frame_of t) 0 zero_is in
        let none : now - frame_start t now ≡ 0 = omega (arith, offset, zero_is) in
        let first : (turn now).list ≡ 0 = ap (λ d. list_number d (starts t)) none ∙ first_number (root_periods t) (frame_of t) (starts t) (rise t lists es run) in
        let some : 0 < length (starts t) = let s = stands t lists es run now in omega (arith, s.there) in (
          first ∙ sym (ap (λ b. cond b 0 (suc list)) test),
          node_is ∙ ap (node_read t modes (starts t)) first ∙ node_first t modes (starts t) some
              ∙ ap (λ c. c * suc (nodes_below t (drop 1 (starts t)))) (ap (λ i. choice_at t modes (get_or (starts t) i 0)) (sym first) ∙ choice_is)
              ∙ (let z : (n : ℕ) → n ≡ 0 + n = (λ n. omega arith) in z (choice_of t (modes_at t es now) (now % frame_of t) * suc (nodes_below t (drop 1 (starts t)))))
              ∙ sym (ap (λ b. cond b 0 (suc before) + choice_of t (modes_at t es now) (now % frame_of t) * suc (nodes_below t (drop (suc (cond b 0 (suc list))) (starts t)))) test),
        )

  -- behind a frame's start the frame goes on
  pub same_frame : (n : ℕ) → now ≡ suc n → now % frame_of t ≢ 0 → (turn now).frame + (turn now).from ≡ now → frame_start t now ≡ frame_start t n
  same_frame n e more here = grind (arith, begins_or_not, offset)

  -- behind it
  pub later_next : (n : ℕ) → now ≡ suc n → now % frame_of t ≢ 0 → (turn now).frame + (turn now).from ≡ now
      → ((turn now).list ≡ next_list t now (turn n).list) × ((turn now).node ≡ next_node t (modes_at t es now) now (turn n).node (turn n).list)
  later_next n e more here =
      let test : eqb (now % frame_of t) 0 ≡ false = ne_eqb (now % frame_of t) 0 more in
      let list : (turn now).list ≡ suc (turn n).list = grown (begun_next (root_periods t) (frame_of t) (n - frame_start t n) (starts t) (rise t lists es run)) in
      let step = node_steps t modes (starts t) (turn n).list (omega (arith, list, (stands t lists es run now).there)) in
      let old : (turn n).node ≡ node_read t modes (starts t) (turn n).list =
      nodes_read t (frame_modes t es (frame_start t n)) (λ a. states_are_selections t run.range es (frame_start t n + a)) (turn n).list ∙ ap (λ f. node_read t (frame_modes t es f) (starts t) (turn n).list) (sym (same_frame n e more here)) in (
        list ∙ sym (ap (λ b. cond b 0 (suc (turn n).list)) test),
        node_is ∙ ap (node_read t modes (starts t)) list ∙ step
            ∙ ap₂ (λ v c. suc v + c * suc (nodes_below t (drop (suc (suc (turn n).list)) (starts t)))) (sym old) (ap (λ i. choice_at t modes (get_or (starts t) i 0)) (sym list) ∙ choice_is here)
            ∙ sym (ap (λ b. cond b 0 (suc (turn n).node) + choice_of t (modes_at t es now) (now % frame_of t) * suc (nodes_below t (drop (suc (cond b 0 (suc (turn n).list))) (starts t)))) test),
      )
    where
      grown : (begun_of (suc (n - frame_start t n)) (starts t) ≡ begun_of (n - frame_start t n) (starts t))
          ⊎ ((begun_of (suc (n - frame_start t n)) (starts t) ≡ suc (begun_of (n - frame_start t n) (starts t))) × (begun_of (n - frame_start t n) (starts t) < length (starts t))
          × (get_or (starts t) (begun_of (n - frame_start t n) (starts t)) 0 ≡ suc (n - frame_start t n)))
          → (turn now).list ≡ suc (turn n).list
      grown c =
          by (omega (arith, same_frame n e more here, e, past t lists es run n)) c
        where
          by : now - frame_start t now ≡ suc (n - frame_start t n)
              → (begun_of (suc (n - frame_start t n)) (starts t) ≡ begun_of (n - frame_start t n) (starts t))
              ⊎ ((begun_of (suc (n - frame_start t n)) (starts t) ≡ suc (begun_of (n - frame_start t n) (starts t))) × (begun_of (n - frame_start t n) (starts t) < length (starts t))
              × (get_or (starts t) (begun_of (n - frame_start t n) (starts t)) 0 ≡ suc (n - frame_start t n)))
              → (turn now).list ≡ suc (turn n).list
          by d (inr next) = ap (λ z. list_number z (starts t)) d ∙ ap pred next.0 ∙ (number t lists es run n).1 ∙ ap suc (sym (number_is t lists es run n))
          by d (inl same) =
              let list : (turn now).list ≡ (turn n).list = ap (λ z. list_number z (starts t)) d ∙ ap pred same in
              let from : (turn now).from ≡ get_or (starts t) (turn n).list 0 = from_is t lists es run now ∙ ap (λ i. get_or (starts t) i 0) list in
              absurd (omega (arith, here, from, (stands t lists es run n).begun, same_frame n e more here, e, past t lists es run n))

pub lists_begin : ListsBegin
lists_begin t lists es run at = (begins_there t lists es run at, λ here. next at here)
  where
    next : (at : ℕ) → (list_turn t lists es at).frame + (list_turn t lists es at).from ≡ at → NextListStands t lists es at
    next zero here =
        let h = first_next t lists es run 0 here (let e : 0 % frame_of t ≡ 0 = omega arith in e) (list_turn t lists es 0).list (list_turn t lists es 0).node in record { list = h.0; node = h.1 }
    next (suc n) here = elim (cases_eq (suc n % frame_of t) 0) [
      | inl e ↦ (let h = first_next t lists es run (suc n) here e (list_turn t lists es n).list (list_turn t lists es n).node in record { list = h.0; node = h.1 })
      | inr d ↦ (let h = later_next t lists es run (suc n) n refl d here in record { list = h.0; node = h.1 })
    ]
