use Rattle.std.proofs.Common.{◌∙◌, None, ap, sym, subst, map, length, replicate, arith}
use Rattle.htl_machine.proofs.{Words.length-map, Words.Inv, Words.task_worst, Words.Round, Words.IsPath, Calling.first_is, Quiet.nothing_due, ShownOn.noted_marks, ShownOn.none_waits}
use Rattle.htl_machine.proofs.machine.Machine.at_start.Goals as goal

pub returns : goal.returns
returns c =
    first_is c.args.l.now c.args.show c.args.world c.args.emach _ _ _ _ (c.new-2.ensures.shows ∙ c.in_ok-shows.ensures)
    (c.new-3.ensures ∙ c.in_ok-takes.ensures ∙ ap (λ z. map (λ (x : Inv). task_worst z x.task) z.invs) c.tables-t.ensures.value) c.new-4.ensures.round c.in_ok-path.ensures.list

pub invariant_of-result : goal.invariant_of-result
invariant_of-result c =
    record {
      accepted = c.tables-t.ensures.accepted;
      all_shows = ap length (c.new-2.ensures.shows ∙ c.in_ok-shows.ensures) ∙ c.requires.values;
      all_takes = ap length (c.new-3.ensures ∙ c.in_ok-takes.ensures) ∙ length-map c.tables-t.result.now.invs (λ (x : Inv). task_worst c.tables-t.result.now x.task) ∙ ap (λ z. length z.invs) c.tables-t.ensures.value;
      few = omega (arith, c.in_ok-path.ensures.path.few);
      stands = λ free. subst (λ t. IsPath t c.in_ok-path.path c.new-4.result.jobs) c.tables-t.ensures.value (subst (IsPath c.tables-t.result.now c.in_ok-path.path) (sym (ap (λ (r : Round). r.jobs) c.new-4.ensures.round)) c.in_ok-path.ensures.path);
      marked = λ free.
          noted_marks c.new-5.result c.args.world.values c.args.emach.calendar.modes (c.new-5.ensures.values ∙ c.in_ok-values.ensures)
          (c.new-5.ensures.modes ∙ c.in_ok-modes.ensures ∙ ap (λ z. replicate (length z.modules) None) c.tables-t.ensures.value ∙ sym c.requires.modes);
      waiting = λ free. none_waits c.args.l.now.tables c.new-2.result c.args.world.values (c.new-2.ensures.shows ∙ c.in_ok-shows.ensures);
      empty = c.in_ok-path.ensures.idle;
      quiet = λ free. nothing_due _ _;
    }
