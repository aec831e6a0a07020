use Rattle.std.proofs.Common.{◌≡◌, ◌+◌, ◌-◌, suc, drop, arith, ap, ◌∙◌}
use Rattle.htl_model.specs.Frames.{ways, node_of, nodes_of}
use Rattle.htl_model.proofs.FrameSteps.{node_step, nodes_small}
use Rattle.htl_model.proofs.nodes.node_number.Goals as goal

pub loop-i-init : goal.loop-i-init
loop-i-init c = record {
  behind = c.requires.paths;
  some = c.requires.some;
  below = c.requires.nodes;
  small = nodes_small c.args.radices.now c.args.paths c.args.nodes c.requires.paths c.requires.nodes c.requires.some c.requires.few c.requires.short;
  node = let none : c.args.j - 0 ≡ c.args.j = omega arith in omega (arith, ap (λ k. node_of c.args.radices.now c.args.path k) none);
  few = omega arith;
}

pub nonzero_div-n : goal.nonzero_div-n
nonzero_div-n c = (node_step c.args.radices.now c.loop-i.i c.args.path c.loop-i.behind c.loop-i.below (omega (arith, c.requires.within)) c.loop-i.invariant.behind c.loop-i.invariant.some c.loop-i.invariant.below).1

pub overflow_mul-n : goal.overflow_mul-n
overflow_mul-n c =
    let s = node_step c.args.radices.now c.loop-i.i c.args.path c.loop-i.behind c.loop-i.below (omega (arith, c.requires.within)) c.loop-i.invariant.behind c.loop-i.invariant.some c.loop-i.invariant.below in
    omega (arith, s.4, c.loop-i.invariant.small)

pub overflow_add-n-in-loop-i : goal.overflow_add-n-in-loop-i
overflow_add-n-in-loop-i c =
    let s = node_step c.args.radices.now c.loop-i.i c.args.path c.loop-i.behind c.loop-i.below (omega (arith, c.requires.within)) c.loop-i.invariant.behind c.loop-i.invariant.some c.loop-i.invariant.below in
    omega (arith, s.4, c.loop-i.invariant.small)

pub overflow_add-n-in-loop-i-2 : goal.overflow_add-n-in-loop-i-2
overflow_add-n-in-loop-i-2 c =
    let s = node_step c.args.radices.now c.loop-i.i c.args.path c.loop-i.behind c.loop-i.below (omega (arith, c.requires.within)) c.loop-i.invariant.behind c.loop-i.invariant.some c.loop-i.invariant.below in
    omega (arith, s.4, c.loop-i.invariant.small, c.loop-i.invariant.few, c.requires.within, c.requires.short)

pub loop-i-preserved : goal.loop-i-preserved
loop-i-preserved c =
    let s = node_step c.args.radices.now c.loop-i.i c.args.path c.loop-i.behind c.loop-i.below (omega (arith, c.requires.within)) c.loop-i.invariant.behind c.loop-i.invariant.some c.loop-i.invariant.below in
    let left : c.args.j - c.loop-i.i ≡ suc (c.args.j - (c.loop-i.i + 1)) = omega arith in
    let at = ap (λ k. node_of (drop c.loop-i.i c.args.radices.now) c.args.path k) left ∙ s.5 (c.args.j - (c.loop-i.i + 1)) in
    record {
      behind = s.0;
      some = s.1;
      below = s.2;
      small = omega (arith, s.3, c.loop-i.invariant.small);
      node = omega (arith, at, c.loop-i.invariant.node);
      few = omega (arith, s.4, c.loop-i.invariant.small, c.loop-i.invariant.few);
    }

pub nonzero_div-result : goal.nonzero_div-result
nonzero_div-result c =
    let end : c.loop-i.i ≡ c.args.j = omega arith in
    (node_step c.args.radices.now c.args.j c.args.path c.loop-i.behind c.loop-i.below c.requires.within (c.loop-i.invariant.behind ∙ ap (λ i. ways (drop i c.args.radices.now)) end) c.loop-i.invariant.some (c.loop-i.invariant.below ∙ ap (λ i. nodes_of (drop i c.args.radices.now)) end)).1

pub overflow_mul-result : goal.overflow_mul-result
overflow_mul-result c =
    let end : c.loop-i.i ≡ c.args.j = omega arith in
    let s = node_step c.args.radices.now c.args.j c.args.path c.loop-i.behind c.loop-i.below c.requires.within (c.loop-i.invariant.behind ∙ ap (λ i. ways (drop i c.args.radices.now)) end) c.loop-i.invariant.some (c.loop-i.invariant.below ∙ ap (λ i. nodes_of (drop i c.args.radices.now)) end) in
    omega (arith, s.4, c.loop-i.invariant.small)

pub overflow_add-result-2 : goal.overflow_add-result-2
overflow_add-result-2 c =
    let end : c.loop-i.i ≡ c.args.j = omega arith in
    let s = node_step c.args.radices.now c.args.j c.args.path c.loop-i.behind c.loop-i.below c.requires.within (c.loop-i.invariant.behind ∙ ap (λ i. ways (drop i c.args.radices.now)) end) c.loop-i.invariant.some (c.loop-i.invariant.below ∙ ap (λ i. nodes_of (drop i c.args.radices.now)) end) in
    (omega (arith, s.4, c.loop-i.invariant.small, c.loop-i.invariant.few, c.requires.within, c.requires.short))

pub returns : goal.returns
returns c =
    let end : c.loop-i.i ≡ c.args.j = omega arith in
    let s = node_step c.args.radices.now c.args.j c.args.path c.loop-i.behind c.loop-i.below c.requires.within (c.loop-i.invariant.behind ∙ ap (λ i. ways (drop i c.args.radices.now)) end) c.loop-i.invariant.some (c.loop-i.invariant.below ∙ ap (λ i. nodes_of (drop i c.args.radices.now)) end) in
    let none : c.args.j - c.args.j ≡ 0 = omega arith in
    let at = ap (λ i. node_of (drop i c.args.radices.now) c.args.path (c.args.j - i)) end ∙ ap (λ k. node_of (drop c.args.j c.args.radices.now) c.args.path k) none ∙ s.6 in
    omega (arith, at, c.loop-i.invariant.node)
