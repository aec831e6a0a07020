use Rattle.htl_walk.proofs.{Words.arith, Words.rules, Words.get_or, Words.None, Words.refl, Words.cell, Words.writes_to, Words.one_writer, Words.inv_of, Masks.writers_all}
use Rattle.htl_walk.proofs.writers.fill_writers.Goals as goal

pub loop-q-preserved : goal.loop-q-preserved
loop-q-preserved c =
    record {
      len = search rules;
      says = λ p r within.
          one_writer (λ r. writes_to (inv_of c.args.t.now (get_or c.args.standing.now r None)) p) c.loop-q.q r (cell c.loop-q.table p r) (cell c.mark_position.new.table p r)
          (writes_to (inv_of c.args.t.now (get_or c.args.standing.now c.loop-q.q None)) p) (c.loop-q.invariant.says p r within) refl (c.mark_position.ensures.rows p r (omega arith));
    }

pub returns-clause-writers : goal.returns-clause-writers
returns-clause-writers c = writers_all c.args.t.now c.args.standing.now c.loop-q.q c.loop-q.table (omega arith) (λ p r within. c.loop-q.invariant.says p r (omega arith))
