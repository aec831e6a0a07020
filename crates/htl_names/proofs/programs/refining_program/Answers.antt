use Rattle.std.proofs.Common.{◌∙◌, sym, ap, Option, Some, None}
use Rattle.htl_names.proofs.Words.{Id, look_up, key_in, program_key}
use Rattle.htl_names.proofs.programs.refining_program.Goals as goal

pub returns : goal.returns
returns c =
    let names = c.args.symbols.now in
    c.get.ensures ∙ ap (λ k. look_up k names) (c.key.ensures ∙ ap (λ s. key_in s c.in_ok-id.id.name) c.of.ensures)
    ∙ sym (ap (λ (o : Option Id). elim o [ Some id ↦ look_up (program_key id.name) names | None ↦ None ]) c.in_ok-id.was)
