use Rattle.std.proofs.Common.{◌<◌, ◌+◌, ◌∷◌, ◌++◌, ◌∙◌, [], length, true, false, map, replicate, sym, ap, arith}
use Rattle.htl_names.proofs.{Words.length-map, Words.get_or_default, Words.edge_targets, Words.set, Reaching.Searches, Reaching.owed, Reaching.search_start, Reaching.search_asked, Reaching.marks_reached}
use Rattle.htl_names.proofs.programs.reach.Goals as goal

pub loop-p-init : goal.loop-p-init
loop-p-init c =
    let rows = c.args.rows.now in
    search_start (map edge_targets rows) c.in_ok-seen.seen.items c.push.new.self.items
    (c.in_ok-seen.ensures.items_if_clones_equal (λ y same. same) ∙ ap (λ n. replicate n false) (sym (length-map rows edge_targets)))
    (c.in_ok-push.ensures.items ∙ ap (λ xs. xs ++ 0 ∷ []) c.new-waiting.ensures.items)

step : (c : goal.In_ok-put_targets) → Searches (map edge_targets c.args.rows.now) (set c.loop-p.seen.items c.in-Some.p true) c.put_targets.new.into.items
    × (owed (set c.loop-p.seen.items c.in-Some.p true) (map edge_targets c.args.rows.now) + length c.put_targets.new.into.items
    < owed c.loop-p.seen.items (map edge_targets c.args.rows.now) + length c.loop-p.waiting.items)
step c =
    let seen = c.loop-p.seen.items in
    let p = c.in-Some.p in
    let small : p < length seen = omega (arith, c.if-p-len.true, c.len.ensures) in
    search_asked c.args.rows.now seen c.loop-p.waiting.items c.pop.new.self.items c.put_targets.new.into.items p c.index-rows-p.result small c.index-rows-p.is
    (get_or_default seen p _ c.index.result.now small ∙ sym c.index.ensures ∙ c.if-not-index.true) c.in-Some.ensures.items
    (c.in_ok-put_targets.ensures ∙ ap (λ row. c.pop.new.self.items ++ edge_targets row) c.as_slice.ensures) c.loop-p.invariant

pub loop-p-smaller-then-not-index : goal.loop-p-smaller-then-not-index
loop-p-smaller-then-not-index c = (step c).1

pub loop-p-preserved-then-not-index : goal.loop-p-preserved-then-not-index
loop-p-preserved-then-not-index c = (step c).0

pub returns : goal.returns
returns c = marks_reached (map edge_targets c.args.rows.now) c.loop-p.seen.items c.loop-p.waiting.items (omega (arith, c.loop-p.waiting.ok.0, c.in_default.ensures.cases.0)) c.loop-p.invariant
