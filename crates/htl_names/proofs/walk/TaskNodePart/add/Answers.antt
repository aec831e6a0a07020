use Rattle.std.proofs.Common.{append_assoc, append-nil, ◌∷◌, ◌++◌, map, ap, ◌∙◌}
use Rattle.htl_names.proofs.{Words.out_of, Words.entry, Words.param_entry, Words.task_key, Walking.map_at_all}
use Rattle.htl_names.proofs.walk.TaskNodePart.add.Goals as goal

pub returns-in-Concrete : goal.returns-in-Concrete
returns-in-Concrete c = λ done.
    let outs = c.add_outs.ensures done in
    let inputs = c.add_all.ensures outs.0 in
    let head = c.declare_with.ensures inputs.0 in
    let params = c.of-params.ensures in
    let tasks = c.of-tasks.ensures in
    let x = c.args.self.now in
    let name = entry (task_key c.args.list.program c.args.list.«module» x.name.name) c.args.place x.name in
    let all = map_at_all (param_entry c.args.list.program c.args.list.«module» c.args.place) x.inputs (map (λ o. o.param) (map out_of c.in-Concrete.outs)) in (
      head.0,
      simp (outs.1, inputs.1, head.1, c.as_slice-inputs.ensures, c.as_slice.ensures, params, tasks, c.in-Concrete.is, append_assoc, append-nil)
          (let entries = ap (λ es. c.args.into.now.rows.entries ++ name ∷ es) (append-nil _ ∙ all) in cc),
    )
