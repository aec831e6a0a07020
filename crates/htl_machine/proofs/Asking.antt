-- What the parts of an instant ask for, from what the machine follows.
use Rattle.std.proofs.Common.{◌≡◌, ℕ, zero, suc, ◌-◌, ◌<◌, List, length, ℤ, Option, Some, sym, ap, ◌∙◌, subst, arith, refl}
use Rattle.htl_machine.proofs.Words.{Event, before, state, Tables, list_at, ECode, Content, phase_path, Object, Round, SMachineAt, due_by, schedules_of, turn_at, turn_list, instrs_of, Schedule, Tally, with_instrs, with_records, first_records, replay, ListAt, IsToBegin, IsAccepted, IsSound, IsNoted, Seen, IsUpTo, values_before}
use Rattle.htl_machine.proofs.Agreeing.{modes_open}
use Rattle.htl_runs.proofs.jobs.Accepted.{accepted_is_loaded}

pub sound_of : (m : Seen) (t : Tables) (code : ECode) → t ≡ m.object.tables → code ≡ m.object.ecode → IsAccepted m.object → IsSound t code
sound_of m t code same same_code accepted =
    subst (λ z. IsSound z code) (sym same) (subst (λ z. IsSound m.object.tables z) (sym same_code) here)
  where
    here : IsSound m.object.tables m.object.ecode
    here =
        let ranges = accepted.spelled.formed.ranges in
        let loaded = accepted_is_loaded m.object accepted in
        record {
          kept = loaded.rules;
          form = loaded.kept;
          limit = ranges.frames;
          spells = accepted.spelled.code;
          instrs = ranges.few_instrs;
          places = accepted.spelled.functions;
        }

values_were : (t : Tables) (es : List Event) (at : ℕ) → 0 < at → values_before t es at ≡ (before t es at).values
values_were t es zero h = absurd (omega (arith, h))
values_were t es (suc n) h = refl

pub noted_of : (m : Seen) (es : List Event) (at : ℕ) (t : Tables) (values : List ℤ) (modes : List (Option ℕ)) → IsUpTo m es at → t ≡ m.object.tables → values ≡ m.run_state.world.values → modes ≡ m.standing.calendar.modes
    → IsNoted t es at values modes
noted_of m es at t values modes u same noted are =
    subst (λ z. IsNoted z es at values modes) (sym same)
    (record {
      few = ap length noted ∙ u.before.values.shaped.values.count;
      modules = ap length are ∙ u.before.values.triggers.calendar.sized.modes;
      noted =
          record {
            values_are = λ some. noted ∙ u.before.values.values.values ∙ values_were m.object.tables es at some;
            modes_are = λ k less. ap (λ z. list_at z k) are ∙ modes_open m.object.tables m.object.ecode es at m.standing.calendar u.before.values.triggers.calendar k less;
          };
    })

-- what holds of the object's parts holds of parts that are named otherwise
pub values_at : (o : Object) (es : List Event) (at : ℕ) (t : Tables) (values : List ℤ) → t ≡ o.tables → values ≡ (state o.tables es at).values → values ≡ (state t es at).values
values_at o es at t values same h = h ∙ ap (λ z. (state z es at).values) (sym same)

pub reads_at : (o : Object) (es : List Event) (at : ℕ) (t : Tables) (code : ECode) (w : Content) → t ≡ o.tables → code ≡ o.ecode
    → (replay o.tables o.ecode (phase_path o.tables o.ecode es at 3) (replay o.tables o.ecode (phase_path o.tables o.ecode es at 2) w)).values ≡ (state o.tables es at).values
    → (replay t code (phase_path t code es at 3) (replay t code (phase_path t code es at 2) w)).values ≡ (state t es at).values
reads_at o es at t code w same same_code h =
    subst (λ z. (replay z code (phase_path z code es at 3) (replay z code (phase_path z code es at 2) w)).values ≡ (state z es at).values) (sym same)
    (subst (λ z. (replay o.tables z (phase_path o.tables z es at 3) (replay o.tables z (phase_path o.tables z es at 2) w)).values ≡ (state o.tables es at).values) (sym same_code) h)

pub begins_at : (o : Object) (es : List Event) (at : ℕ) (t : Tables) (code : ECode) (takes kept : List ℕ) (last : Option ListAt) (r : Round) → t ≡ o.tables → code ≡ o.ecode → takes ≡ kept
    → IsToBegin o.tables o.ecode (schedules_of o) es at kept last r → IsToBegin t code (schedules_of o) es at takes last r
begins_at o es at t code takes kept last r same same_code are h =
    subst (λ z. IsToBegin z code (schedules_of o) es at takes last r) (sym same)
    (subst (λ z. IsToBegin o.tables z (schedules_of o) es at takes last r) (sym same_code) (subst (λ z. IsToBegin o.tables o.ecode (schedules_of o) es at z last r) (sym are) h))

-- the list that has begun
pub begun_at : (o : Object) (es : List Event) (at : ℕ) (t : Tables) (ss : List Schedule) (d : Round) → t ≡ o.tables → ss ≡ o.schedules
    → (let u = turn_at t (instrs_of ss) es at in SMachineAt u.plan u.frame (due_by u.plan u.frame at) (suc at - u.frame) d)
    → (let u = turn_at o.tables (schedules_of o) es at in SMachineAt u.plan u.frame (due_by u.plan u.frame at) (suc at - u.frame) d)
begun_at o es at t ss d same same_schedules h =
    subst (λ z. let u = turn_at o.tables (instrs_of z) es at in SMachineAt u.plan u.frame (due_by u.plan u.frame at) (suc at - u.frame) d) same_schedules
    (subst (λ z. let u = turn_at z (instrs_of ss) es at in SMachineAt u.plan u.frame (due_by u.plan u.frame at) (suc at - u.frame) d) same h)

pub stood_at : (o : Object) (es : List Event) (at : ℕ) (t : Tables) (ss : List Schedule) (list : Option ListAt) → t ≡ o.tables → ss ≡ o.schedules → list ≡ Some (turn_list (turn_at t (instrs_of ss) es at))
    → list ≡ Some (turn_list (turn_at o.tables (schedules_of o) es at))
stood_at o es at t ss list same same_schedules h =
    h ∙ ap (λ z. Some (turn_list (turn_at z (instrs_of ss) es at))) same ∙ ap (λ z. Some (turn_list (turn_at o.tables (instrs_of z) es at))) same_schedules

-- what the second part of an instant counts where a list begins
pub counts_at : (o : Object) (es : List Event) (at : ℕ) (t : Tables) (code : ECode) (ss : List Schedule) (n n1 : Tally) → t ≡ o.tables → code ≡ o.ecode → ss ≡ o.schedules
    → n ≡ with_records (first_records t (instrs_of ss) es at) (with_instrs (length (phase_path t code es at 3)) (with_instrs (length (phase_path t code es at 2)) n1))
    → n ≡ with_records (first_records o.tables (schedules_of o) es at) (with_instrs (length (phase_path o.tables o.ecode es at 3)) (with_instrs (length (phase_path o.tables o.ecode es at 2)) n1))
counts_at o es at t code ss n n1 same same_code same_schedules h =
    subst (λ z. n ≡ with_records (first_records o.tables (instrs_of z) es at) (with_instrs (length (phase_path o.tables o.ecode es at 3)) (with_instrs (length (phase_path o.tables o.ecode es at 2)) n1))) same_schedules
    (subst (λ z. n ≡ with_records (first_records o.tables (instrs_of ss) es at) (with_instrs (length (phase_path o.tables z es at 3)) (with_instrs (length (phase_path o.tables z es at 2)) n1))) same_code
    (subst (λ z. n ≡ with_records (first_records z (instrs_of ss) es at) (with_instrs (length (phase_path z code es at 3)) (with_instrs (length (phase_path z code es at 2)) n1))) same h))
