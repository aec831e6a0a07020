use Rattle.std.proofs.Common.{◌≡◌, ◌∙◌, List, length, sym, ap, arith}
use Rattle.htl_model.proofs.{Words.Inv, Words.places_from, Words.is_running, Words.Tables, RootModeLaws.count_here, RootModeLaws.count_over, RootModeLaws.positions_met, RootModeLaws.none_left}
use Rattle.htl_model.proofs.selections.position_count.Goals as goal
use Rattle.htl_model.proofs.selections.position_count.Goals.{then-is_running, else-is_running}

pub loop-k-preserved : goal.loop-k-preserved
loop-k-preserved c =
    let test = λ (i : Inv). is_running c.args.t.now c.root_modes-modes.result i.mode in
    let whole = length (places_from test 0 c.as_slice-invs.result.now) in
    elim c.if-is_running.branch [
      | then-is_running w ↦
          (count_here test c.as_slice-invs.result.now c.loop-k.k c.index-invs-k.result (omega (arith, c.loop-k-test.true)) c.index-invs-k.is c.loop-k.n c.if-is_running.n whole (ap test c.index-invs-k.is ∙ sym c.is_running.ensures ∙ w.if-is_running.true) w.n-is c.loop-k.invariant.0, omega (arith, w.n-is, c.loop-k.invariant.1))
      | else-is_running w ↦
          (count_over test c.as_slice-invs.result.now c.loop-k.k c.index-invs-k.result (omega (arith, c.loop-k-test.true)) c.index-invs-k.is c.loop-k.n c.if-is_running.n whole (ap test c.index-invs-k.is ∙ sym c.is_running.ensures ∙ w.if-is_running.false) w.n-is c.loop-k.invariant.0, omega (arith, w.n-is, c.loop-k.invariant.1))
    ]

pub returns : goal.returns
returns c =
    let invs : c.as_slice-invs.result.now ≡ c.args.t.now.invs = c.as_slice-invs.ensures ∙ sym (ap (λ (t : Tables). t.invs) c.lists.ensures) in
    let met = positions_met c.args.t.now c.args.selection c.root_modes-modes.result c.requires.ranges c.root_modes-modes.ensures in
    let end = none_left (λ (i : Inv). is_running c.args.t.now c.root_modes-modes.result i.mode) c.as_slice-invs.result.now c.loop-k.k c.loop-k-test.false in
    omega (arith, ap length met, ap (λ (is : List Inv). length (places_from (λ (i : Inv). is_running c.args.t.now c.root_modes-modes.result i.mode) 0 is)) invs, ap length end, c.loop-k.invariant.0)
