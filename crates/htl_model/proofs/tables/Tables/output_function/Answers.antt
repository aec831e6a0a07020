use Rattle.std.proofs.Common.{◌≡◌, ◌∙◌, sym, ap, arith}
use Rattle.htl_model.specs.Tables.{Tables, count_before}
use Rattle.htl_model.proofs.SelectionLaws.{output_within}
use Rattle.htl_model.proofs.tables.Tables.output_function.Goals as goal

pub returns-clause-within : goal.returns-clause-within
returns-clause-within c =
    let tasks : c.as_slice-tasks.result.now ≡ c.args.self.now.tasks = c.as_slice-tasks.ensures ∙ sym (ap (λ (t : Tables). t.tasks) c.parts.ensures.value) in
    omega (arith, ap (count_before c.args.task) tasks, output_within c.args.self.now c.args.task c.args.output c.parts.ensures.ranges c.requires.task c.requires.output, c.functions_before.ensures.value)
