-- What an instant is given: the machine that its fields hold stands before it, under the names of its parts.
use Rattle.std.proofs.Common.{◌≡◌, ◌≤◌, ℕ, true, List, [], ℤ, Option, None, refl, sym, subst}
use Rattle.htl_machine.proofs.Words.{Event, Tables, SInstr, Schedule, ECode, Round, Standing, Content, FollowsCode, Onward, phase_path, IsAccepted, IsToClose, IsToCloseAndBegin, Seen, IsUpTo, schedule_by, IsReadyAt, IsOpened, instrs_of, some_round_begins}
use Rattle.htl_machine.proofs.{After.over, Ready.ready, ToClose.follows_at, ToClose.to_close, ToClose.to_close_and_begin}

-- a machine before an instant, whose tables and code are named otherwise
pub record IsGiven (m : Seen) (es : List Event) (at : ℕ) (t : Tables) (code : ECode) (idle : List SInstr) : Type 0 where
  pub tables : t ≡ m.object.tables
  pub code_is : code ≡ m.object.ecode
  pub accepted : IsAccepted m.object
  pub none : idle ≡ []
  pub later : m.run_state.reading ≤ at
  pub up : IsUpTo m es at
  pub ready : IsReadyAt m es at (schedule_by m.object idle m.list)
  pub follows : FollowsCode t code es at m.standing

-- the machine as its contracts see it is that of its fields
pub given : (m v : Seen) (es : List Event) (at : ℕ) (t : Tables) (code : ECode) (idle : List SInstr) → m ≡ v → IsAccepted m.object → idle ≡ [] → t ≡ m.object.tables → code ≡ m.object.ecode → v.run_state.reading ≤ at → IsUpTo v es at
    → IsGiven m es at t code idle
given m v es at t code idle is ok none same same_code read before =
    let later = subst (λ (z : Seen). z.run_state.reading ≤ at) (sym is) read in
    let u = subst (λ (z : Seen). IsUpTo z es at) (sym is) before in
    record {
      tables = same;
      code_is = same_code;
      accepted = ok;
      none = none;
      later = later;
      up = u;
      ready = ready m es at idle ok u later none;
      follows = follows_at m.object es at t code m.standing same same_code u.before.values.triggers;
    }

module _ (m : Seen) (es : List Event) (at : ℕ) (t : Tables) (code : ECode) (idle : List SInstr) (k : IsGiven m es at t code idle) where
  module _ (seen : List ℤ) (before : seen ≡ m.run_state.world.values) (d1 : Round) (w3 : Content)
      (opened : IsOpened m.object.tables m.object.ecode es at (schedule_by m.object idle m.list) m.run_state.shows seen m.run_state.s_machine m.run_state.world d1 w3)
      (values : List ℤ) (values_are : values ≡ m.run_state.world.values) (modes : List (Option ℕ)) (modes_are : modes ≡ m.standing.calendar.modes)
      (m1 : Standing) (writes : Onward t code es at 1 m1 (phase_path t code es at 1) [] None) where
    -- once the first part is done, the last can be
    pub given_closes : IsToClose t code es at m1 w3 values modes
    given_closes =
        to_close m es at t code k.tables k.code_is k.accepted k.later k.up (schedule_by m.object idle m.list) k.ready seen before d1 w3 opened values values_are modes modes_are m1 writes

    -- and a list can begin
    pub given_begins : (ss : List Schedule) (takes : List ℕ) → ss ≡ m.object.schedules → takes ≡ m.run_state.takes → some_round_begins m.object.tables at ≡ true → IsToCloseAndBegin t code (instrs_of ss) es at takes m.list d1 m1 w3 values modes
    given_begins ss takes same_schedules are b =
        let ends = over m es at k.accepted k.later k.up (schedule_by m.object idle m.list) idle refl k.none k.ready d1 opened.w1 b opened.records in
        to_close_and_begin m es at t code ss takes k.tables k.code_is same_schedules are k.accepted k.later k.up b d1 ends.1 m1 w3 values modes given_closes
