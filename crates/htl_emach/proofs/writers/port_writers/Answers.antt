use Rattle.std.proofs.Common.{◌≡◌, ◌<◌, length, drop, None, sym, ap, ◌∙◌, subst, arith}
use Rattle.htl_emach.proofs.{Words.Tables, Words.writer_of, PortEntries.writer_on, PortEntries.as_listed}
use Rattle.htl_emach.proofs.writers.port_writers.Goals as goal

pub returns : goal.returns
returns c =
    let t = c.args.t.now in
    let ports : c.as_slice-ports.result.now ≡ t.ports = c.as_slice-ports.ensures ∙ sym (ap (λ (x : Tables). x.ports) c.parts-parts.ensures.value) in
    let invs : c.as_slice-invs.result.now ≡ t.invs = c.as_slice-invs.ensures ∙ sym (ap (λ (x : Tables). x.invs) c.parts-parts.ensures.value) in
    let none : c.loop-left.left ≡ 0 = omega (arith, c.loop-left-test.false) in
    as_listed (writer_of t) (length t.ports) None c.loop-left.list (c.loop-left.invariant.1 ∙ ap length ports) (λ p less.
    c.loop-left.invariant.2 p (subst (λ ps. p < length ps) (sym ports) less)
    ∙ ap (λ n. writer_on c.as_slice-ports.result.now p n (drop n c.as_slice-invs.result.now)) none
    ∙ ap (λ ps. writer_on ps p 0 c.as_slice-invs.result.now) ports
    ∙ ap (λ is. writer_on t.ports p 0 is) invs)
