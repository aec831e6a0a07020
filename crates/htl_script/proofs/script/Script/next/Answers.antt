use Rattle.htl_script.proofs.script.Script.next.Goals as goal

pub returns-clause-answer : goal.returns-clause-answer
returns-clause-answer g c = rw c.new.ensures at (rw c.prepare.ensures.stream at c.next.ensures.answer)

pub returns-clause-event : goal.returns-clause-event
returns-clause-event g c = rw c.new.ensures at (rw c.prepare.ensures.stream at c.next.ensures.event)

pub returns-clause-lines : goal.returns-clause-lines
returns-clause-lines g c = rw c.prepare.ensures.stream at c.next.ensures.lines
