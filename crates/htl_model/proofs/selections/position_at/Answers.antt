use Rattle.std.proofs.Common.{◌≡◌, ◌∙◌, ℕ, List, drop, get_or, sym, ap, arith}
use Rattle.htl_model.proofs.{Words.Inv, Words.places_from, Words.is_running, Words.Tables, RootModeLaws.found_here, RootModeLaws.found_later, RootModeLaws.found_over, RootModeLaws.positions_met, RootModeLaws.none_left}
use Rattle.htl_model.proofs.selections.position_at.Goals as goal
use Rattle.htl_model.proofs.selections.position_at.Goals.{then-is_running+else-left-eq0, else-is_running}

pub returns-then-left-eq0 : goal.returns-then-left-eq0
returns-then-left-eq0 c =
    let test = λ (i : Inv). is_running c.args.t.now c.root_modes-modes.result i.mode in
    let invs : c.as_slice-invs.result.now ≡ c.args.t.now.invs = c.as_slice-invs.ensures ∙ sym (ap (λ (t : Tables). t.invs) c.lists.ensures) in
    let met = positions_met c.args.t.now c.args.selection c.root_modes-modes.result c.requires.ranges c.root_modes-modes.ensures in
    let zero : c.loop-k.left ≡ 0 = omega (arith, c.if-left-eq0.true) in
    found_here test c.as_slice-invs.result.now c.loop-k.k c.index-invs-k.result (omega (arith, c.loop-k-test.true)) c.index-invs-k.is (get_or (places_from test 0 c.as_slice-invs.result.now) c.args.place 0)
    (ap test c.index-invs-k.is ∙ sym c.is_running.ensures ∙ c.if-is_running.true) (ap (λ (i : ℕ). get_or (places_from test c.loop-k.k (drop c.loop-k.k c.as_slice-invs.result.now)) i 0) (sym zero) ∙ c.loop-k.invariant)
    ∙ ap (λ (is : List Inv). get_or (places_from test 0 is) c.args.place 0) invs ∙ sym (ap (λ z. get_or z c.args.place 0) met)

pub loop-k-preserved : goal.loop-k-preserved
loop-k-preserved c =
    let test = λ (i : Inv). is_running c.args.t.now c.root_modes-modes.result i.mode in
    let whole = get_or (places_from test 0 c.as_slice-invs.result.now) c.args.place 0 in
    elim c.if-is_running.branch [
      | then-is_running+else-left-eq0 w ↦
          found_later test c.as_slice-invs.result.now c.loop-k.k c.index-invs-k.result (omega (arith, c.loop-k-test.true)) c.index-invs-k.is c.loop-k.left c.if-is_running.left whole (ap test c.index-invs-k.is ∙ sym c.is_running.ensures ∙ w.if-is_running.true)
          (omega (arith, w.if-left-eq0.false)) w.left-is c.loop-k.invariant
      | else-is_running w ↦
          found_over test c.as_slice-invs.result.now c.loop-k.k c.index-invs-k.result (omega (arith, c.loop-k-test.true)) c.index-invs-k.is c.loop-k.left c.if-is_running.left whole (ap test c.index-invs-k.is ∙ sym c.is_running.ensures ∙ w.if-is_running.false) w.left-is c.loop-k.invariant
    ]

pub returns : goal.returns
returns c =
    let test = λ (i : Inv). is_running c.args.t.now c.root_modes-modes.result i.mode in
    let invs : c.as_slice-invs.result.now ≡ c.args.t.now.invs = c.as_slice-invs.ensures ∙ sym (ap (λ (t : Tables). t.invs) c.lists.ensures) in
    let met = positions_met c.args.t.now c.args.selection c.root_modes-modes.result c.requires.ranges c.root_modes-modes.ensures in
    let end = none_left test c.as_slice-invs.result.now c.loop-k.k c.loop-k-test.false in
    sym (ap (λ z. get_or z c.loop-k.left 0) end) ∙ c.loop-k.invariant ∙ ap (λ (is : List Inv). get_or (places_from test 0 is) c.args.place 0) invs ∙ sym (ap (λ z. get_or z c.args.place 0) met)
