use Rattle.std.proofs.Common.{◌<◌, ◌∙◌, ℕ, None, ap, arith, get_or, length, subst, sym}
use Rattle.htl_times.proofs.{Words.KeptApart, Words.Tables, Words.frame_limit, Words.instrs_of, Words.kept_12, Words.kept_apart, Words.nodes, AcceptedRuns.all_no_later, AcceptedRuns.of_object}
use Rattle.htl_times.specs.{Busy.IsBusiestOf, Response.IsLatestOf}
use Rattle.htl_times.proofs.latest.latest_finishes.Goals as goal

pub note_tables-requires-clause-limits : goal.note_tables-requires-clause-limits
note_tables-requires-clause-limits c = ap frame_limit c.tables.ensures.value ∙ c.tables.ensures.accepted.spelled.formed.ranges.frames

pub note_tables-requires-clause-formed : goal.note_tables-requires-clause-formed
note_tables-requires-clause-formed c =
    let o = c.args.o.now in
    subst (λ (t : Tables). KeptApart t 12) (sym c.tables.ensures.value) (kept_apart o.tables 12 (kept_12 o.tables c.tables.ensures.accepted.spelled.formed.formed))

pub note_tables-requires-clause-lists : goal.note_tables-requires-clause-lists
note_tables-requires-clause-lists c = ap length c.schedules.ensures ∙ c.tables.ensures.accepted.spelled.formed.ranges.schedules ∙ sym (ap nodes c.tables.ensures.value)

pub returns : goal.returns
returns c =
    let o = c.args.o.now in
    let latest : (i : ℕ) → i < length c.args.rows.now → IsLatestOf o.tables (instrs_of o.schedules) i (get_or c.note_tables.new.rows i None) =
    of_object o c.tables.result.now c.schedules.result.now (length c.args.rows.now) c.note_tables.new.rows c.tables.ensures.value c.schedules.ensures c.note_tables.ensures.latest in
    record {
      latest = latest;
      no_later = all_no_later o c.note_tables.new.rows c.tables.ensures.accepted (λ i below. latest i (omega (arith, below, c.note_tables.ensures.len)));
      busiest = subst (λ (t : Tables). IsBusiestOf t c.note_tables.result) c.tables.ensures.value c.note_tables.ensures.busiest;
      len = c.note_tables.ensures.len;
    }
