-- A machine that is spent keeps its object, its sizes and its idle list, and nothing else.
use Rattle.std.proofs.Common.{◌≡◌, ◌≤◌, ℕ, Bool, true, false, [], length, sym, ◌∙◌}
use Rattle.htl_machine.proofs.Words.{IsAccepted, Seen, IsFitted, Noted, Path, Sensors}

on_and_off : {A : Type 0} (b : Bool) → b ≡ true → b ≡ false → A
on_and_off b on off = absurd (let same : true ≡ false = sym on ∙ off in cc)

pub spent_fits : (m : Seen) (sensors : Sensors) (noted : Noted) (path : Path) (due : ℕ) → m.run_state.spent ≡ true → IsAccepted m.object → length sensors.shows ≡ length m.object.tables.comms
    → length m.run_state.takes ≡ length m.object.tables.invs → path.count ≤ 128 → path.idle.instrs ≡ [] → IsFitted m sensors noted path due
spent_fits m sensors noted path due spent accepted shows takes few empty = record {
  accepted = accepted;
  all_shows = shows;
  all_takes = takes;
  few = few;
  stands = λ free. on_and_off m.run_state.spent spent free;
  marked = λ free. on_and_off m.run_state.spent spent free;
  waiting = λ free. on_and_off m.run_state.spent spent free;
  empty = empty;
  quiet = λ free. on_and_off m.run_state.spent spent free;
}
