use Rattle.std.proofs.Common.{◌++◌, ◌<◌, ◌≤◌, ◌∙◌, ℕ, List, [], length, map, ap, sym, arith}
use Rattle.htl_patch.proofs.{Words.nat_tests, Words.flat_map, Words.mode_of_module, Words.modes_of, Words.mode_children, Words.frame, Words.combined, Words.Frame, ChildLaws.given_cond, ChildLaws.given_all, ChildLaws.map_flat}
use Rattle.htl_patch.proofs.order.push_children.Goals as goal

pub loop-m-preserved : goal.loop-m-preserved
loop-m-preserved c =
    let g = c.args.g.now in
    let less : c.loop-m.m < length (combined g).modes = grind (arith, nat_tests, c.loop-m-test.true, c.mode_count-count.ensures.count) in
    let give : ℕ → List Frame = λ m. map (frame c.args.steps) (mode_children g m) in
    given_cond (mode_of_module c.args.u) (record { name = []; «module» = 0; period = 0 }) (combined g).modes give c.loop-m.m c.loop-m.into.items c.push_mode.new.into.items
    (c.args.into.now.items ++ flat_map give (modes_of (combined g) c.args.u)) less c.in_ok-push_mode.ensures c.loop-m.invariant

pub returns : goal.returns
returns c =
    let g = c.args.g.now in
    let most : length (combined g).modes ≤ c.loop-m.m = grind (arith, nat_tests, c.loop-m-test.false, c.mode_count-count.ensures.count) in
    let give : ℕ → List Frame = λ m. map (frame c.args.steps) (mode_children g m) in
    given_all (mode_of_module c.args.u) (record { name = []; «module» = 0; period = 0 }) (combined g).modes give c.loop-m.m c.loop-m.into.items
    (c.args.into.now.items ++ flat_map give (modes_of (combined g) c.args.u)) most c.loop-m.invariant
    ∙ ap (λ (fs : List Frame). c.args.into.now.items ++ fs) (sym (map_flat (frame c.args.steps) (mode_children g) (modes_of (combined g) c.args.u)))
