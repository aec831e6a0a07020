-- Lists of two runs whose sensors and lengths agree before an instant are the same before it.
use Rattle.std.proofs.Common.{◌≡◌, ℕ, suc, ◌+◌, ◌-◌, ◌≤◌, ◌<◌, List, length, get_or, map, take, Option, sym, ap, ap₂, ◌∙◌, arith, option_map}
use mathlib.Core.Path.{fun_ext}
use Rattle.htl_runs.proofs.Words.{get_or_from_slice_get, Event, State, Stay, frame_of, starts, node, root_periods, Tables, Job, SInstr, Leg, AreWithin, end_to_end, Left, AreAlike, AreSameSoFar, begun_by_offset, Frame, frame_modes, frame_places, frame_at, path_of, walks_of, ListPlan, leg_at, list_plan, took, IsFeasibleRun, legs_within, frames_agree, leg_same, front_plan, front_walks, take-map, nodes_read, nodes_agree, states_are_selections, frame_start, Turn, list_number, list_turn, known_rises, starts_order}
use Rattle.htl_runs.proofs.{events.SameSensors.Alike, events.SameSensors.state_same, lists.RunLists.rise, lists.RunLists.past, lists.RunLists.serving, lists.RunLists.stands, lists.RunLists.known_is, lists.RunLists.few}

module _ (t : Tables) (lists : List (List SInstr)) (es fs : List Event) (now : ℕ) (run : IsFeasibleRun t lists es) (alike : Alike t es fs now) (n : ℕ) (early : n < now) where
  abbrev f : ℕ
  f = frame_start t n

  abbrev j : ℕ
  j = list_number (n - frame_start t n) (starts t)

  abbrev p : Frame
  p = frame_at t lists es (frame_start t n)

  abbrev q : Frame
  q = frame_at t lists fs (frame_start t n)

  modes_same : (a : ℕ) → a ≤ n - frame_start t n → frame_modes t es (frame_start t n) a ≡ frame_modes t fs (frame_start t n) a
  modes_same a less = grind (arith, state_same, past)

  starts_before : (i : ℕ) → i ≤ list_number (n - frame_start t n) (starts t) → get_or (starts t) i 0 ≤ n - frame_start t n
  starts_before i less =
      let s = stands t lists es run n in
      omega (arith, starts_order (root_periods t) (frame_of t) (starts t) i j (rise t lists es run) less s.there, s.begun)

  frames_alike : AreAlike t es fs (frame_start t n) (n - frame_start t n) (suc (list_number (n - frame_start t n) (starts t)))
  frames_alike = record { modes = modes_same; lists = λ i less. starts_before i (omega (arith, less)) }

  pub so_far : AreSameSoFar (frame_at t lists es (frame_start t n)) (frame_at t lists fs (frame_start t n)) (suc (list_number (n - frame_start t n) (starts t))) (begun_by_offset t es (frame_start t n) (n - frame_start t n))
  so_far = frames_agree t lists es fs f (n - frame_start t n) (suc j) run.range frames_alike

  -- the node is that of the modes so far
  pub node_same : node t (path_of t (frame_modes t es (frame_start t n))) (list_number (n - frame_start t n) (starts t)) ≡ node t (path_of t (frame_modes t fs (frame_start t n))) (list_number (n - frame_start t n) (starts t))
  node_same =
      nodes_read t (frame_modes t es f) (λ a. states_are_selections t run.range es (f + a)) j
      ∙ nodes_agree t (frame_modes t es f) (frame_modes t fs f) (starts t) j (λ i less. modes_same (get_or (starts t) i 0) (starts_before i less))
      ∙ sym (nodes_read t (frame_modes t fs f) (λ a. states_are_selections t run.range fs (f + a)) j)

  module _ (tooks : (i u : ℕ) → took t es i u ≡ took t fs i u) where
    lengths_same : take (begun_by_offset t es (frame_start t n) (n - frame_start t n)) (frame_at t lists es (frame_start t n)).lengths ≡ take (begun_by_offset t es (frame_start t n) (n - frame_start t n)) (frame_at t lists fs (frame_start t n)).lengths
    lengths_same =
        let m = begun_by_offset t es f (n - frame_start t n) in
        let long : ℕ → Job → ℕ = λ z k. took t fs k.inv (z + k.release) in
        ap (take m) (ap (λ g. map g p.jobs) (fun_ext (λ (k : Job). tooks k.inv (f + k.release))))
        ∙ take-map (long f) m p.jobs ∙ ap (map (long f)) so_far.jobs ∙ sym (take-map (long f) m q.jobs)

    known_within : AreWithin (begun_by_offset t es (frame_start t n) (n - frame_start t n)) (take (suc (list_number (n - frame_start t n) (starts t))) (frame_at t lists es (frame_start t n)).legs)
    known_within =
        let xs = frame_places t (frame_modes t es f) in
        legs_within (frame_of t) (begun_by_offset t es f (n - frame_start t n)) (suc j) xs (starts t)
        (λ i a less at. known_rises a (n - frame_start t n) xs (omega (arith, get_or_from_slice_get (starts t) i a 0 at, starts_before i (omega (arith, less)))))

    pub list_same : list_turn t lists es n ≡ list_turn t lists fs n
    list_same =
        let m = begun_by_offset t es f (n - frame_start t n) in
        let known : (leg_at p j).known ≡ m = known_is t lists es run n in
        let forms = (serving t lists es run n).forms in
        let all : m ≤ length p.jobs = let less = few t lists es run n in omega (arith, less, known) in
        let plan : list_plan p j ≡ list_plan q j = front_plan p q j m known so_far lengths_same forms known_within all in
        let make : Leg → ℕ → ListPlan → List Left → Turn = λ g k l ls. record { frame = f; list = j; from = g.from; to = g.to; node = k; plan = l; earlier = ls } in
        ap₂ (λ g k. make g k (list_plan p j) (end_to_end (take j (walks_of p)))) (leg_same p q j m known so_far lengths_same forms known_within all) node_same
        ∙ ap₂ (make (leg_at q j) (node t (path_of t (frame_modes t fs f)) j)) plan (front_walks p q j m known so_far lengths_same forms known_within all)
