-- The text of an instant, by whether a round begins.
use Rattle.std.proofs.Common.{◌≡◌, ℕ, ◌-◌, ◌≤◌, true, false, List, [], ◌++◌, Option, Result, Ok, Err, refl, sym, subst}
use Rattle.htl_machine.proofs.Words.{append-nil, Puts, Puts-second, Event, joined, hyper, Tables, SInstr, ECode, phase_path, IsAccepted, Seen, IsUpTo, node_by, path_lines, IsReadyAt, due_by, Opens, closing_text, beginning_text, lines_of, schedules_of, instrs_of, Schedule, plan_text, new_lines, some_records, some_round_begins}
use Rattle.htl_smach.specs.declared.left.Left.{Left}
use Rattle.htl_machine.proofs.{After.lines_are_composed, After.text_goes_on, After.text_begins, Beginnings.then_more}

module _ (m : Seen) (es : List Event) (now : ℕ) (accepted : IsAccepted m.object) (read : m.run_state.reading ≤ now) (u : IsUpTo m es now) where
  abbrev t : Tables
  t = m.object.tables

  abbrev code : ECode
  code = m.object.ecode

  abbrev schedules : List (List SInstr)
  schedules = schedules_of m.object

  module _ (steps : List SInstr) (r : IsReadyAt m es now steps) where
    abbrev old : List Left
    old = some_records r.plan r.start r.place (due_by r.plan r.start now - r.place)

    abbrev first : List ℕ
    first = joined (plan_text t m.show r.plan (node_by m.list)) old ++ path_lines t code m.show now (phase_path t code es now 1)

    pub open_failed : {T S E F : Type 0} (w0 w : Option (List ℕ)) (f0 f : ℕ) (x : E) (y : F)
        → Opens {T = T} {E = E} m.object.tables m.object.ecode es m.show (node_by m.list) m.run_state.s_machine steps now w0 w f0 f (Err x) → Puts {T = S} {E = F} w0 w f0 f (lines_of m.object es m.show now) (Err y)
    open_failed {S = S} {F = F} w0 w f0 f x y opens =
        let rest = new_lines t schedules es m.show (hyper t) now in
        subst (λ z. Puts {T = S} {E = F} w0 w f0 f z (Err y)) (lines_are_composed m es now accepted read u steps r rest refl)
        (then_more first (closing_text t code es m.show now ++ rest) w0 w f0 f x y (opens r.plan r.start r.place r.offset r.same r.past r.few r.was))

    closed : {T S E F : Type 0} (new : List ℕ) (w0 w1 w : Option (List ℕ)) (f0 f1 f : ℕ) (x : T) (result : Result S F)
        → new ≡ new_lines m.object.tables (schedules_of m.object) es m.show (hyper m.object.tables) now
        → Opens {T = T} {E = E} m.object.tables m.object.ecode es m.show (node_by m.list) m.run_state.s_machine steps now w0 w1 f0 f1 (Ok x)
        → Puts {T = S} {E = F} w1 w f1 f (closing_text m.object.tables m.object.ecode es m.show now ++ new) result → Puts {T = S} {E = F} w0 w f0 f (lines_of m.object es m.show now) result
    closed {S = S} {F = F} new w0 w1 w f0 f1 f x result is opens puts =
        let a = opens r.plan r.start r.place r.offset r.same r.past r.few r.was in
        subst (λ z. Puts {T = S} {E = F} w0 w f0 f z result) (lines_are_composed m es now accepted read u steps r new is)
        (Puts-second w0 w1 w f0 f1 f first (closing_text t code es m.show now ++ new) result a.whole a.cause.kept puts)

    pub going_closed : {T S E F : Type 0} (w0 w1 w : Option (List ℕ)) (f0 f1 f : ℕ) (x : T) (result : Result S F) → some_round_begins m.object.tables now ≡ false
        → Opens {T = T} {E = E} m.object.tables m.object.ecode es m.show (node_by m.list) m.run_state.s_machine steps now w0 w1 f0 f1 (Ok x)
        → Puts {T = S} {E = F} w1 w f1 f (closing_text m.object.tables m.object.ecode es m.show now) result → Puts {T = S} {E = F} w0 w f0 f (lines_of m.object es m.show now) result
    going_closed {S = S} {F = F} w0 w1 w f0 f1 f x result b opens puts =
        closed [] w0 w1 w f0 f1 f x result (text_goes_on m es now accepted read u b) opens (subst (λ z. Puts {T = S} {E = F} w1 w f1 f z result) (sym (append-nil (closing_text t code es m.show now))) puts)

    pub begun_closed : {T S E F : Type 0} (w0 w1 w : Option (List ℕ)) (f0 f1 f : ℕ) (x : T) (result : Result S F) → some_round_begins m.object.tables now ≡ true
        → Opens {T = T} {E = E} m.object.tables m.object.ecode es m.show (node_by m.list) m.run_state.s_machine steps now w0 w1 f0 f1 (Ok x)
        → Puts {T = S} {E = F} w1 w f1 f (closing_text m.object.tables m.object.ecode es m.show now ++ beginning_text m.object.tables (schedules_of m.object) es m.show now) result
        → Puts {T = S} {E = F} w0 w f0 f (lines_of m.object es m.show now) result
    begun_closed w0 w1 w f0 f1 f x result b opens puts = closed (beginning_text t schedules es m.show now) w0 w1 w f0 f1 f x result (text_begins m es now accepted read u b) opens puts

    -- the same, where the tables, the code and the schedules are named otherwise
    pub begun_closed_at : {T S E F : Type 0} (t1 : Tables) (code1 : ECode) (ss : List Schedule) (w0 w1 w : Option (List ℕ)) (f0 f1 f : ℕ) (x : T) (result : Result S F) → t1 ≡ m.object.tables → code1 ≡ m.object.ecode
        → ss ≡ m.object.schedules → some_round_begins m.object.tables now ≡ true → Opens {T = T} {E = E} m.object.tables m.object.ecode es m.show (node_by m.list) m.run_state.s_machine steps now w0 w1 f0 f1 (Ok x)
        → Puts {T = S} {E = F} w1 w f1 f (closing_text t1 code1 es m.show now ++ beginning_text t1 (instrs_of ss) es m.show now) result → Puts {T = S} {E = F} w0 w f0 f (lines_of m.object es m.show now) result
    begun_closed_at {S = S} {F = F} t1 code1 ss w0 w1 w f0 f1 f x result same same_code same_schedules b opens puts =
        begun_closed w0 w1 w f0 f1 f x result b opens
        (subst (λ z. Puts {T = S} {E = F} w1 w f1 f (closing_text t code es m.show now ++ beginning_text t (instrs_of z) es m.show now) result) same_schedules
        (subst (λ z. Puts {T = S} {E = F} w1 w f1 f (closing_text t z es m.show now ++ beginning_text t (instrs_of ss) es m.show now) result) same_code
        (subst (λ z. Puts {T = S} {E = F} w1 w f1 f (closing_text z code1 es m.show now ++ beginning_text z (instrs_of ss) es m.show now) result) same puts)))
