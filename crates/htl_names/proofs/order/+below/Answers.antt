use Rattle.std.proofs.Common.{arith, ◌≡◌, ◌-◌, ◌++◌, ℕ, List, Option, Some, map, sym, ap, ◌∙◌, flat_map}
use Rattle.htl_names.proofs.{Words.common_steps, Words.mode_of, Words.tree_of, Words.PlainMode, Words.flat_map_at, Words.mode_in, Words.mode_children, Words.program_modules, Words.ModuleAt, Words.below, Walking.children_start}
use Rattle.htl_names.proofs.Walking.{flat_map_inside, next_item}
use Rattle.htl_names.proofs.order.+below.Goals as goal

pub put_module-loop-k-preserved : goal.put_module-loop-k-preserved
put_module-loop-k-preserved t c =
    let place = mode_in c.args.«module» c.loop-k.k in
    let under = λ (o : Option ℕ). flat_map (below (c.args.steps - 1) c.args.symbols.now (tree_of c.args.tree.now)) (program_modules (tree_of c.args.tree.now) (Some place) o) in
    let put = c.in_ok-put_program.ensures ∙ ap (λ o. c.loop-k.into.items ++ under o) c.refining_program-program.ensures in
    next_item _ mode_of c.modes_at-modes.result.now c.loop-k.k c.index-modes-k.result c.loop-k.into.items c.put_program.new.into.items _ c.loop-k-test.true c.index-modes-k.is put c.loop-k.invariant

pub put_module-returns : goal.put_module-returns
put_module-returns t c =
    let s = c.args.«module» in
    let under = below (c.args.steps - 1) c.args.symbols.now (tree_of c.args.tree.now) in
    let children = mode_children c.args.symbols.now (tree_of c.args.tree.now) s.program s.«module» in
    let modes = c.modes_at-modes.result.now in
    let start = c.push.new.self.items in
    let put : c.loop-k.into.items ≡ start ++ flat_map_at (λ (m : ℕ) (x : PlainMode). flat_map under (children m x)) 0 (map mode_of modes) = grind (arith, common_steps) in
    put ∙ ap (λ (xs : List ModuleAt). start ++ xs) (sym (flat_map_inside under children 0 (map mode_of modes)))
    ∙ children_start c.args.steps c.args.symbols.now (tree_of c.args.tree.now) s modes c.args.into.now.items start (omega (arith, c.if-steps-eq0.false)) c.modes_at-modes.ensures c.in_ok-push.ensures.items
