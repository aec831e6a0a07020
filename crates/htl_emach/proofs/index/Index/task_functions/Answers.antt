use Rattle.std.proofs.Common.{◌≡◌, length, ap, arith, ◌∙◌}
use Rattle.htl_emach.proofs.{Words.count_before, Words.Indices, IndexedPorts.count_few}
use Rattle.htl_emach.proofs.index.Index.task_functions.Goals as goal

pub returns-clause-few : goal.returns-clause-few
returns-clause-few c =
    let value : c.self.inside.count ≡ count_before (length c.args.t.now.tasks) c.args.t.now.tasks = ap (λ (i : Indices). i.count) (c.self.view_is ∙ c.requires.index) in
    let few = count_few c.args.t.now c.keeps_ranges.ensures.ranges (length c.args.t.now.tasks) in
    omega (arith, value, few, c.keeps_ranges.ensures.ranges.few_tasks)
