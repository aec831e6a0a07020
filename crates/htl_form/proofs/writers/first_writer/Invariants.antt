use Rattle.std.proofs.Common.{◌≡◌, drop}
use Rattle.htl_form.proofs.Words.{first_from, writer_before}
use Rattle.htl_form.proofs.writers.first_writer.Given as goal

abbrev pub invariant-loop-l : goal.invariant-loop-l
invariant-loop-l l =
    first_from (writer_before l.t l.k l.inv l.j l.what.comm l.what.number) l.l (drop l.l l.t.invs)
    ≡ first_from (writer_before l.t l.k l.inv l.j l.what.comm l.what.number) 0 l.t.invs
