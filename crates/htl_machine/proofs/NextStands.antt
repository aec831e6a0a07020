-- The S machine and the list that stands, over an instant: the same goes on, or it is over and the next begins.
use Rattle.std.proofs.Common.{◌≡◌, ◌≢◌, ℕ, zero, suc, ◌+◌, ◌-◌, ◌%◌, ◌≤◌, ◌<◌, true, false, List, [], ◌∷◌, length, slice_get, Option, Some, None, refl, sym, ap, ◌∙◌, subst, arith, inl, inr}
use Rattle.htl_machine.proofs.Words.{eqb-true, eqb-false, Event, Module, places_from, frame_of, hyper, is_root, root_modules, Tables, state, SInstr, Round, no_round, ECode, EInstr, Done, ModeReads, Content, phase_path, AreTookWithin, ListAt, GoesBy, IsLoaded, SMachineAt, SMachineStands, SMachineFollows, due_by, Leaves, s_machine_replay, s_machine_at, Records, raise_all, some_round_begins, all_reads, Turn, AreTurns, AreListed, turn_at, turn_by, list_turn, IsAtEnd, turn_list}
use Rattle.htl_smach.specs.Rounds as rounds
use Rattle.htl_ecode.specs.declared.instr.EInstr.TheVariants as I
use Rattle.htl_runs.proofs.{instants.NoModules.stands_nowhere, records.SMachineInstants.s_machine_closes, records.SMachineInstants.not_running, instants.BothMachines.records_leave, frames.RoundStarts.begins_never}
use Rattle.htl_runs.proofs.{instants.SMachineSteps.with_flags, instants.SMachineSteps.s_machine_left, instants.SMachineSteps.s_machine_on, instants.SMachineSteps.s_machine_ends, instants.ToldReleases.read_phase_tells}
use Rattle.htl_runs.proofs.{instants.FirstRecords.first_left, instants.FirstRecords.first_over, lists.LoadedLists.loaded_begins, lists.LoadedLists.loaded_empty, lists.LoadedLists.loaded_listed, lists.LoadedLists.loaded_turns}

-- ---- when a list begins

-- the instructions of the list before an instant; none where there is no list
abbrev pub IsScheduleOf : (ℕ → Turn) → Option ℕ → ℕ → List SInstr → Type 0
IsScheduleOf turn None now steps = steps ≡ []
IsScheduleOf turn (Some q) zero steps = steps ≡ []
IsScheduleOf turn (Some q) (suc n) steps = steps ≡ (turn n).plan.schedule

-- the S machine that stands nowhere is told nothing
nowhere_told : (code : ECode) (ds : List Done) → s_machine_replay code ds no_round ≡ no_round
nowhere_told code [] = refl
nowhere_told code (d ∷ ds) = ap (s_machine_replay code ds) (by_instr (slice_get code.instrs d.address)) ∙ nowhere_told code ds
  where
    by_instr : (o : Option EInstr) → s_machine_at o no_round ≡ no_round
    by_instr None = refl
    by_instr (Some (I.Release a)) = refl
    by_instr (Some (I.CallWrite a b)) = refl
    by_instr (Some (I.CallRead a b)) = refl
    by_instr (Some (I.Future a b c)) = refl
    by_instr (Some (I.JumpIf a b)) = refl
    by_instr (Some (I.Jump a)) = refl
    by_instr (Some (I.IfMode a b)) = refl
    by_instr (Some (I.Enter a)) = refl
    by_instr (Some I.Leave) = refl
    by_instr (Some (I.Fork a)) = refl
    by_instr (Some I.Return) = refl

module _ (t : Tables) (code : ECode) (schedules : List (List SInstr)) (loaded : IsLoaded t schedules) (reads : (k : ℕ) → k < length t.modes → ModeReads t code k) (es : List Event) (within : AreTookWithin t es) where
  abbrev turn : ℕ → Turn
  turn = turn_at t schedules es

  turns : AreTurns t es (turn_at t schedules es)
  turns = loaded_turns t schedules loaded es within

  listed : (q : ℕ) → hyper t ≡ Some q → AreListed (turn_at t schedules es)
  listed q root = loaded_listed t schedules loaded es within q root

  no_root : hyper t ≡ None → root_modules t ≡ []
  no_root e = ap (λ (us : List Module). places_from is_root 0 us) (loaded_empty t schedules loaded e)

  -- where a list begins there is a period, and it begins there
  pub beginning : (now : ℕ) → some_round_begins t now ≡ true → (q : ℕ) × (hyper t ≡ Some q) × ((turn_at t schedules es now).frame + (turn_at t schedules es now).from ≡ now)
  beginning now b = by (hyper t) refl
    where
      by : (o : Option ℕ) → hyper t ≡ o → (q : ℕ) × (hyper t ≡ Some q) × ((turn now).frame + (turn now).from ≡ now)
      by None e = absurd (let z : some_round_begins t now ≡ false = begins_never t now (no_root e) in let y : ⊥ = cc in y)
      by (Some q) e = (q, e, eqb-true ((turn now).frame + (turn now).from) now (sym (loaded_begins t schedules loaded es within q e now) ∙ b))

  -- where none begins the list of the instant before goes on
  pub going : (q now : ℕ) → hyper t ≡ Some q → some_round_begins t now ≡ false → (turn now).frame + (turn now).from ≢ now
  going q now root b = eqb-false ((turn now).frame + (turn now).from) now (sym (loaded_begins t schedules loaded es within q root now) ∙ b)

  same_turn : (q n : ℕ) → hyper t ≡ Some q → some_round_begins t (suc n) ≡ false → turn (suc n) ≡ turn n
  same_turn q n root b = elim ((listed q root).on n) [ inl e ↦ e | inr e ↦ absurd (going q (suc n) root b e.0) ]

  never_first : (q : ℕ) → hyper t ≡ Some q → some_round_begins t 0 ≡ false → ⊥
  never_first q root b = going q 0 root b (listed q root).first

  -- the S machine after an instant at which none begins
  pub going_s_machine : (o : Option ℕ) → hyper t ≡ o → (now : ℕ) (steps : List SInstr) (s_machine d1 d2 : Round) (w0 w1 : Content) → some_round_begins t now ≡ false → SMachineFollows (turn_at t schedules es) o now s_machine
      → IsScheduleOf (turn_at t schedules es) o now steps → rounds.Stands s_machine steps → Records t s_machine w0 d1 w1 steps now → d2 ≡ s_machine_replay code (phase_path t code es now 3) d1 → rounds.Stands d2 steps
      → SMachineFollows (turn_at t schedules es) o (suc now) d2
  going_s_machine None root now steps s_machine d1 d2 w0 w1 b f own st rec told st' =
      told
      ∙ ap (s_machine_replay code (phase_path t code es now 3))
      (stands_nowhere 0 d1 (first_left t now s_machine d1 w0 w1 f (subst (rounds.Stands s_machine) own st) (subst (λ c. Records t s_machine w0 d1 w1 c now) own rec)))
      ∙ nowhere_told code (phase_path t code es now 3)
  going_s_machine (Some q) root zero steps s_machine d1 d2 w0 w1 b f own st rec told st' = absurd (never_first q root b)
  going_s_machine (Some q) root (suc n) steps s_machine d1 d2 w0 w1 b f own st rec told st' =
      let u = turn (suc n) in
      let same : turn (suc n) ≡ turn n = same_turn q n root b in
      let is : steps ≡ u.plan.schedule = own ∙ sym (ap (λ (z : Turn). z.plan.schedule) same) in
      let here : SMachineStands u.plan u.frame (suc n) s_machine = subst (λ (z : Turn). SMachineStands z.plan z.frame (suc n) s_machine) (sym same) f in
      let past : u.frame ≤ suc n = turns.frames.past (suc n) in
      let leaves : Leaves s_machine d1 u.plan.schedule (suc n) = records_leave t s_machine d1 w0 w1 u.plan.schedule (suc n) (subst (λ c. Records t s_machine w0 d1 w1 c (suc n)) is rec) in
      let at = s_machine_left u.plan u.frame (suc n) s_machine d1 past here leaves in
      let flagged : d2 ≡ with_flags d1 (raise_all u.plan.jobs (all_reads t (suc n) (state t es (suc n)).stays) d1.released) =
      told ∙ read_phase_tells t es turn turns (suc n) (due_by u.plan u.frame (suc n)) (suc n - u.frame) d1 ((listed q root).each (suc n)) at (omega arith) code loaded.range reads in
      subst (SMachineFollows turn (Some q) (suc (suc n))) (sym flagged)
      (s_machine_on t loaded.range es turn turns (suc n) d1 at (subst (λ z. rounds.Stands z u.plan.schedule) flagged (subst (rounds.Stands d2) is st')))

  -- the same list stands
  pub going_on : (o : Option ℕ) → hyper t ≡ o → (now : ℕ) (last : Option ListAt) → some_round_begins t now ≡ false → GoesBy (turn_at t schedules es) o now last → GoesBy (turn_at t schedules es) o (suc now) last
  going_on None root now last b g = g
  going_on (Some q) root zero last b g = absurd (never_first q root b)
  going_on (Some q) root (suc n) last b g = g ∙ ap (λ (u : Turn). Some (turn_list u)) (sym (same_turn q n root b))

  -- ---- where a list begins

  -- the list before is over
  list_ends : (q n : ℕ) → hyper t ≡ Some q → (steps : List SInstr) (s_machine d1 : Round) (w0 w1 : Content) → some_round_begins t (suc n) ≡ true → SMachineStands (turn_at t schedules es n).plan (turn_at t schedules es n).frame (suc n) s_machine
      → steps ≡ (turn_at t schedules es n).plan.schedule → Records t s_machine w0 d1 w1 steps (suc n)
      → SMachineAt (turn_at t schedules es n).plan (turn_at t schedules es n).frame (length (turn_at t schedules es n).plan.schedule) (suc n - (turn_at t schedules es n).frame) d1
  list_ends q n root steps s_machine d1 w0 w1 b f own rec =
      elim ((listed q root).on n) [
        | inl same ↦
            let begun : (turn (suc n)).frame + (turn (suc n)).from ≡ suc n = eqb-true ((turn (suc n)).frame + (turn (suc n)).from) (suc n) (sym (loaded_begins t schedules loaded es within q root (suc n)) ∙ b) in
            absurd (omega (arith, begun, ap (λ (u : Turn). u.frame + u.from) same, (turns.each n).past))
        | inr next ↦
            s_machine_ends t loaded.range es turn turns n s_machine d1 next.1 ((listed q root).each n) f
            (records_leave t s_machine d1 w0 w1 (turn n).plan.schedule (suc n) (subst (λ c. Records t s_machine w0 d1 w1 c (suc n)) own rec))
      ]

  pub list_over : (o : Option ℕ) → hyper t ≡ o → (now : ℕ) (steps : List SInstr) (s_machine d1 : Round) (w0 w1 : Content) → some_round_begins t now ≡ true → SMachineFollows (turn_at t schedules es) o now s_machine
      → IsScheduleOf (turn_at t schedules es) o now steps → rounds.Stands s_machine steps → Records t s_machine w0 d1 w1 steps now → (d1.running ≡ false) × IsAtEnd t schedules es now d1
  list_over None root now steps s_machine d1 w0 w1 b f own st rec = absurd (let h = beginning now b in let e : Some h.0 ≡ None = sym h.1 ∙ root in let y : ⊥ = cc in y)
  list_over (Some q) root zero steps s_machine d1 w0 w1 b f own st rec =
      (first_over t 0 s_machine d1 w0 w1 f (subst (rounds.Stands s_machine) own st) (subst (λ c. Records t s_machine w0 d1 w1 c 0) own rec), λ more. absurd (let z : 0 % frame_of t ≡ 0 = omega arith in omega (arith, z, more)))
  list_over (Some q) root (suc n) steps s_machine d1 w0 w1 b f own st rec =
      let at = list_ends q n root steps s_machine d1 w0 w1 b f own rec in
      let v = turn n in
      let here : turn_at t schedules es n ≡ list_turn t schedules es n = ap (λ o. turn_by o t schedules es n) root in
      (not_running v.plan v.frame (suc n - v.frame) d1 at, λ more. subst (λ (v : Turn). SMachineAt v.plan v.frame (length v.plan.schedule) (suc n - v.frame) d1) here at)

  -- the S machine after the instant
  pub begun_s_machine : (now : ℕ) (d2 : Round) (q : ℕ) → hyper t ≡ Some q
      → (let u = turn_at t schedules es now in SMachineAt u.plan u.frame (due_by u.plan u.frame now) (suc now - u.frame) d2) → SMachineFollows (turn_at t schedules es) (hyper t) (suc now) d2
  begun_s_machine now d2 q root at =
      let u = turn now in
      subst (λ o. SMachineFollows (turn_at t schedules es) o (suc now) d2) (sym root) (s_machine_closes u.plan u.frame now d2 at)

  -- the list that stands
  pub begun_goes : (now : ℕ) (list : Option ListAt) (q : ℕ) → hyper t ≡ Some q → list ≡ Some (turn_list (turn_at t schedules es now)) → GoesBy (turn_at t schedules es) (hyper t) (suc now) list
  begun_goes now list q root is = subst (λ o. GoesBy (turn_at t schedules es) o (suc now) list) (sym root) is
