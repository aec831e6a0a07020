-- The addresses that are done at each instant, by the meaning of the tables alone.
use Rattle.std.specs.Prelude.{ℕ, ◌+◌, ◌-◌, Bool, true, false, cond, eqb, List, [], ◌∷◌, ◌++◌, length, slice_get, map, Option, Some, None, ℤ}
use Rattle.htl_model.specs.{declared.event.Event.Event, declared.state.Stay.Stay, declared.state.State.State, Lists.up_to, Tables.Tables, Tables.mode_period}
use Rattle.htl_model.specs.Meaning.{state, before, stay_of, switch_holds, History, newest, history, sense}
use Rattle.htl_ecode.specs.{declared.ecode.ECode.ECode, Chains.Requirement, Chains.EndOfRound, Chains.SwitchJump, Chains.ModeJump, Chains.AtAnchor, Chains.enter_chain, Chains.begin_chain, Chains.block_chain, Chains.decide_chain}
use Rattle.htl_ecode.specs.{Steps.Step, Steps.read, Steps.steps_of, Steps.passed_by, Departure.block_at, Departure.entered, Departure.block_begun, Departure.decided}

-- an address, and the module in which it is done
pub record Done : Type 0 where
  pub «module» : ℕ
  pub address : ℕ

abbrev pub chain_path : ECode → ℕ → List Requirement → List ℕ
chain_path code a ws = passed_by (steps_of (read code.instrs a ws))

abbrev pub begin_path : Tables → ECode → ℕ → List ℕ
begin_path t code m = chain_path code (block_begun code m) (begin_chain t (decided code m) m)

abbrev pub enter_path : Tables → ECode → ℕ → List ℕ
enter_path t code m = chain_path code (entered code m) (enter_chain t (block_begun code m) m) ++ begin_path t code m

-- the path of the block of a phase at an offset, where there is one
abbrev pub block_path : Tables → ECode → ℕ → ℕ → ℕ → List ℕ
block_path t code m phase o =
    elim (block_at t code m phase o) [ Some a ↦ chain_path code a (block_chain t m phase o) | None ↦ [] ]

abbrev pub due_path : Tables → ECode → ℕ → ℕ → Option Stay → List ℕ
due_path t code phase now None = []
due_path t code phase now (Some x) = block_path t code x.mode phase (now - x.start)

-- the decide chain of m, followed: `holds` says which switches hold, `stays` whether the module goes on
abbrev pub followed : Tables → ECode → ℕ → (ℕ → Bool) → Bool → List Requirement → List Step → List ℕ
followed t code m holds stays (ModeJump q ∷ ws) (s ∷ ss) =
    s.passed ++ elim stays [ true ↦ followed t code m holds stays ws ss | false ↦ s.side ]
followed t code m holds stays (SwitchJump k x a ∷ ws) (s ∷ ss) =
    s.passed ++ elim (holds k) [ true ↦ s.side ++ cond (eqb x m) (begin_path t code m) (enter_path t code x) | false ↦ followed t code m holds stays ws ss ]
followed t code m holds stays (AtAnchor a ∷ ws) (s ∷ ss) = s.passed ++ begin_path t code m
followed t code m holds stays _ _ = []

abbrev pub holds_in : Tables → List ℤ → ℕ → Bool
holds_in t values k = elim (slice_get t.switches k) [ Some w ↦ switch_holds t values k w | None ↦ false ]

-- the step of the trigger that ends a round, in the chain of a round's start
abbrev pub turn_step : List Requirement → List Step → Step
turn_step (EndOfRound d x ∷ ws) (s ∷ ss) = s
turn_step (w ∷ ws) (s ∷ ss) = turn_step ws ss
turn_step _ _ = record { passed = []; target = 0; side = [] }

abbrev pub step_from : Tables → ECode → ℕ → Step
step_from t code m =
    let ws = begin_chain t (decided code m) m in
    turn_step ws (steps_of (read code.instrs (block_begun code m) ws))

-- where the end of a round begins; from there jumps lead to the decide chain
abbrev pub round_end : Tables → ECode → ℕ → ℕ
round_end t code m = (step_from t code m).target

abbrev pub decide_path : Tables → ECode → List ℤ → Bool → ℕ → List ℕ
decide_path t code values stays m =
    let ws = decide_chain t (block_begun code m) code.enter m in
    (step_from t code m).side ++ followed t code m (holds_in t values) stays ws (steps_of (read code.instrs (decided code m) ws))

-- the path of the switch phase, by where a module was and where it is
abbrev pub switch_path : Tables → ECode → List ℤ → ℕ → Option Stay → Option Stay → List ℕ
switch_path t code values now None None = []
switch_path t code values now None (Some y) = enter_path t code y.mode
switch_path t code values now (Some x) None = decide_path t code values false x.mode
switch_path t code values now (Some x) (Some y) =
    elim (eqb now (x.start + mode_period t x.mode)) [ true ↦ decide_path t code values true x.mode | false ↦ [] ]

abbrev pub on : ℕ → List ℕ → List Done
on k xs = map (λ a. record { «module» = k; address = a }) xs

-- what is done in each phase of an instant in one module, by the state before it and its own
abbrev pub writes_done : Tables → ECode → ℕ → State → ℕ → List Done
writes_done t code now old k = on k (due_path t code 1 now (stay_of old.stays k))

abbrev pub switches_done : Tables → ECode → ℕ → State → State → ℕ → List Done
switches_done t code now old new k = on k (switch_path t code new.values now (stay_of old.stays k) (stay_of new.stays k))

abbrev pub reads_done : Tables → ECode → ℕ → State → ℕ → List Done
reads_done t code now new k = on k (due_path t code 3 now (stay_of new.stays k))

abbrev pub instant_path : Tables → ECode → ℕ → State → State → List Done
instant_path t code now old new =
    let n = length t.modules in
    up_to (writes_done t code now old) n ++ (up_to (switches_done t code now old new) n ++ up_to (reads_done t code now new) n)

-- the addresses done at an instant, in order
abbrev pub e_path : Tables → ECode → List Event → ℕ → List Done
e_path t code es now = instant_path t code now (before t es now) (state t es now)

-- the addresses done at the instants up to that of the newest state, each with its instant
abbrev pub done_so_far : Tables → ECode → History → List (ℕ × Done)
done_so_far t code [] = []
done_so_far t code (x ∷ h) = done_so_far t code h ++ map (λ d. (length h, d)) (instant_path t code (length h) (newest h) x)

abbrev pub run_done : Tables → ECode → List Event → ℕ → List (ℕ × Done)
run_done t code es end = done_so_far t code (history t (sense t es) end)
