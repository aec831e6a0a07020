use Rattle.std.proofs.Common.{◌≡◌, ◌<◌, ◌++◌, ◌∷◌, [], arith, length, ap, ap₂, ◌∙◌, sym, pos, rules, to_z, of_z, w64}
use Rattle.std.proofs.lemmas.List.{take_more, take_all}
use Rattle.htl_machine.proofs.memory.seen_values.Goals as goal

pub loop-c-preserved : goal.loop-c-preserved
loop-c-preserved c =
    let room : c.loop-c.c < length c.args.world.now.values = omega (arith, c.loop-c-test.true, ap length (c.as_slice-count.ensures ∙ sym (ap (λ z. z.comms) c.parts.ensures.value)), c.requires) in
    let is : to_z w64 (of_z w64 c.value.result) ≡ c.value.result = search rules in
    c.in_ok-push.ensures.items ∙ ap₂ (λ xs x. xs ++ x ∷ []) c.loop-c.invariant (is ∙ c.value.ensures) ∙ sym (take_more c.args.world.now.values c.loop-c.c (pos 0) room)

pub returns : goal.returns
returns c =
    c.loop-c.invariant
    ∙ take_all c.loop-c.c c.args.world.now.values (omega (arith, c.loop-c-test.false, ap length (c.as_slice-count.ensures ∙ sym (ap (λ z. z.comms) c.parts.ensures.value)), c.requires))
