use Rattle.htl_object.proofs.{Words.Task, Words.owned, Words.same_name, Naming.differs_mapped}
use Rattle.htl_object.proofs.declaration_reader.note_task.Goals as goal

pub returns-clause-differs : goal.returns-clause-differs
returns-clause-differs c =
    differs_mapped (same_name (owned c.args.«module» c.args.name)) (λ (x : Task). owned x.«module» x.name) c.args._before.now c.args.noted.now c.add.result c.requires c.add.ensures.differs
