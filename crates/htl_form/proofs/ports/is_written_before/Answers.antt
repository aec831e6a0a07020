use Rattle.std.proofs.Common.{ℕ, Bool, ◌||◌, ltb, take, sym, ◌∙◌, ap}
use Rattle.htl_model.specs.PortWriters.{port_uses}
use Rattle.htl_form.proofs.PortLaws.{first_before}
use Rattle.htl_form.proofs.ports.is_written_before.Goals as goal

pub returns-then-is_below : goal.returns-then-is_below
returns-then-is_below c =
    c.if-is_below.true
    ∙ ap (λ (b : Bool). b || ltb 0 (port_uses c.args.port (take c.args.j c.args.inv.now.writes))) (sym c.if-is_below.true ∙ c.is_below.ensures)
    ∙ first_before c.args.t.now c.args.port c.args.k c.args.inv.now c.args.j c.first_writer.result c.first_writer.ensures

pub returns-else-is_below : goal.returns-else-is_below
returns-else-is_below c =
    ap (λ (n : ℕ). ltb 0 n) c.uses.ensures.count
    ∙ ap (λ ends. ltb 0 (port_uses c.args.port (take c.args.j ends))) c.as_slice-writes.ensures
    ∙ ap (λ (b : Bool). b || ltb 0 (port_uses c.args.port (take c.args.j c.args.inv.now.writes))) (sym c.if-is_below.false ∙ c.is_below.ensures)
    ∙ first_before c.args.t.now c.args.port c.args.k c.args.inv.now c.args.j c.first_writer.result c.first_writer.ensures
