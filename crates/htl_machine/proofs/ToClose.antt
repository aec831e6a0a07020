-- What the last part of an instant asks for, once the first is done.
use Rattle.std.proofs.Common.{◌≡◌, ◌≤◌, ℕ, true, List, [], ℤ, Option, None, sym, subst, ◌∙◌}
use Rattle.htl_machine.proofs.Words.{Event, Tables, SInstr, Schedule, ECode, Round, Standing, Content, FollowsCode, Onward, phase_path, Object, IsAccepted, IsToClose, IsToCloseAndBegin, Seen, IsUpTo, IsReadyAt, IsOpened, some_round_begins, IsAtEnd, schedules_of, instrs_of}
use Rattle.htl_machine.proofs.{After.opened_values, After.closed_values, After.to_begin, Asking.noted_of, Asking.values_at, Asking.reads_at, Asking.begins_at}

-- the same, where the tables and the code are named otherwise
pub follows_at : (o : Object) (es : List Event) (at : ℕ) (t : Tables) (code : ECode) (m : Standing) → t ≡ o.tables → code ≡ o.ecode → FollowsCode o.tables o.ecode es at m → FollowsCode t code es at m
follows_at o es at t code m same same_code f = subst (λ z. FollowsCode z code es at m) (sym same) (subst (λ z. FollowsCode o.tables z es at m) (sym same_code) f)

pub to_close : (m : Seen) (es : List Event) (at : ℕ) (t : Tables) (code : ECode) → t ≡ m.object.tables → code ≡ m.object.ecode → IsAccepted m.object → m.run_state.reading ≤ at → IsUpTo m es at
    → (steps : List SInstr) → IsReadyAt m es at steps → (seen : List ℤ) → seen ≡ m.run_state.world.values → (d1 : Round) (w3 : Content)
    → IsOpened m.object.tables m.object.ecode es at steps m.run_state.shows seen m.run_state.s_machine m.run_state.world d1 w3 → (values : List ℤ) → values ≡ m.run_state.world.values
    → (modes : List (Option ℕ)) → modes ≡ m.standing.calendar.modes → (m1 : Standing) → Onward t code es at 1 m1 (phase_path t code es at 1) [] None → IsToClose t code es at m1 w3 values modes
to_close m es at t code same same_code ok later u steps r seen before d1 w3 opened values values_are modes modes_are m1 writes =
    let were = before ∙ u.before.values.values.values in
    record {
      writes = writes;
      now = values_at m.object es at t w3.values same (opened_values m es at ok later u steps r seen were d1 w3 opened);
      noted = (noted_of m es at t values modes u same values_are modes_are).noted;
      reads = reads_at m.object es at t code w3 same same_code (closed_values m es at ok later u steps r seen were d1 w3 opened);
    }

pub to_close_and_begin : (m : Seen) (es : List Event) (at : ℕ) (t : Tables) (code : ECode) (ss : List Schedule) (takes : List ℕ) → t ≡ m.object.tables → code ≡ m.object.ecode → ss ≡ m.object.schedules
    → takes ≡ m.run_state.takes → IsAccepted m.object → m.run_state.reading ≤ at → IsUpTo m es at → some_round_begins m.object.tables at ≡ true → (d1 : Round) → IsAtEnd m.object.tables (schedules_of m.object) es at d1
    → (m1 : Standing) (w3 : Content) (values : List ℤ) (modes : List (Option ℕ))
    → IsToClose t code es at m1 w3 values modes → IsToCloseAndBegin t code (instrs_of ss) es at takes m.list d1 m1 w3 values modes
to_close_and_begin m es at t code ss takes same same_code same_schedules are ok later u b d1 ends m1 w3 values modes q =
    subst (λ z. IsToCloseAndBegin t code (instrs_of z) es at takes m.list d1 m1 w3 values modes) (sym same_schedules)
    (record { closes = q; begins = begins_at m.object es at t code takes m.run_state.takes m.list d1 same same_code are (to_begin m es at ok later u d1 b ends) })
