use Rattle.std.proofs.Common.{◌<◌, sym, ◌∙◌, ap, arith, Some}
use Rattle.htl_form.proofs.{Words.slice_get_within, Words.port_writers, Words.rewritten_fault, PortLaws.none_before}
use Rattle.htl_form.proofs.ports.rewritten_fault.Goals as goal

pub returns-then-count-lt2 : goal.returns-then-count-lt2
returns-then-count-lt2 c =
    let few : port_writers c.args.t.now c.in-Port.port < 2 = omega (arith, c.writers-count.ensures) in
    none_before c.args.t.now c.in-Port.port c.args.site.number c.args.site.inv.now c.args.site.place c.requires.inv (c.requires.output ∙ ap (λ e. Some e) c.in-Port.is) few
    ∙ ap (λ e. rewritten_fault c.args.t.now c.args.site.number c.args.site.inv.now c.args.site.place e) (sym c.in-Port.is)

pub is_written_before-requires-clause-j : goal.is_written_before-requires-clause-j
is_written_before-requires-clause-j c = slice_get_within c.args.site.inv.now.writes c.args.site.place c.args.site.end c.requires.output
