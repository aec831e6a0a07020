use Rattle.std.proofs.Common.{◌≡◌, sym, ap, ◌∙◌}
use Rattle.htl_model.specs.{Tables.Tables, declared.parts.Inv.Inv}
use Rattle.htl_open.proofs.Found.{found_at}
use Rattle.htl_times_top.proofs.Names.{named}
use Rattle.htl_times_top.proofs.lines.put_name.Goals as goal

pub returns-clause-bytes : goal.returns-clause-bytes
returns-clause-bytes c =
    let t : Tables = c.args.t.now in
    let invs : c.as_slice.result.now ≡ t.invs = c.as_slice.ensures ∙ ap (λ (t : Tables). t.invs) (sym c.parts.ensures.value) in
    let at = found_at Inv c.as_slice.result.now t.invs c.args.inv c.in-Some.item.now invs c.in-Some.ensures.lookup.0 c.in-Some.ensures.lookup.1 in
    named t c.args.inv c.in-Some.item.now at c.args.line.now c.text-5.new.self
    (rw (
      c.text-4.ensures.bytes,
      c.text-3.ensures.bytes,
      c.text-2.ensures.bytes,
      c.text.ensures.bytes,
      c.module_name.ensures.name,
      c.mode_module.ensures,
      c.mode_name.ensures.name,
      c.task_name.ensures.name,
    ) at c.text-5.ensures.bytes)
