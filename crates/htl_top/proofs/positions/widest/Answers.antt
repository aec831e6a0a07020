use Rattle.std.proofs.Common.{◌≡◌, ◌+◌, ◌<◌, ℕ, suc, max, Bool, true, false, cond, eqb, List, ◌∷◌, get_or, length, drop, add-one, sym, ap, ◌∙◌, arith, nat_cmp}
use Rattle.htl_top.proofs.Vocabulary.{drop-cons, eq-eqb, ne_eqb, nat_tests, ord_max, most_invs, places_from, mode_of_module, invs_of, Tables, Mode}
use Rattle.htl_top.proofs.positions.widest.Goals as goal
use Rattle.htl_top.proofs.positions.widest.Goals.{then-modes-k, else-modes-k}

greater_is : (a b : ℕ) → ord_max nat_cmp a b ≡ max a b
greater_is a b = grind (arith, nat_tests)

-- the modes of a module from one on
module _ (t : Tables) (u k : ℕ) (x : Mode) (below_end : k < length t.modes) where
  abbrev from_here : ℕ → List ℕ
  from_here j = places_from (mode_of_module u) j (drop j t.modes)

  first_of_them : (b : Bool) → eqb (get_or t.modes k x).«module» u ≡ b → from_here k ≡ cond b (k ∷ from_here (k + 1)) (from_here (k + 1))
  first_of_them b e =
      ap (places_from (mode_of_module u) k) (drop-cons t.modes k x below_end) ∙ ap (λ (b : Bool). cond b (k ∷ from_here (suc k)) (from_here (suc k))) e
      ∙ ap (λ (j : ℕ). cond b (k ∷ from_here j) (from_here j)) (sym (add-one k))

  -- one of the module is counted
  counted : (most now more total : ℕ) → (get_or t.modes k x).«module» ≡ u → more ≡ length (invs_of t k) → now ≡ ord_max nat_cmp most more → max most (most_invs t (from_here k)) ≡ total
      → max now (most_invs t (from_here (k + 1))) ≡ total
  counted most now more total of_it is greater so_far =
      omega (arith, is, greater, greater_is most more, so_far, ap (most_invs t) (first_of_them true (eq-eqb (get_or t.modes k x).«module» u of_it)))

  -- one of another is not
  passed_by : (most now total : ℕ) → ((get_or t.modes k x).«module» ≡ u → ⊥) → now ≡ most → max most (most_invs t (from_here k)) ≡ total → max now (most_invs t (from_here (k + 1))) ≡ total
  passed_by most now total other same so_far = omega (arith, same, so_far, ap (most_invs t) (first_of_them false (ne_eqb (get_or t.modes k x).«module» u other)))

pub loop-k-preserved : goal.loop-k-preserved
loop-k-preserved c =
    let t : Tables = c.args.t.now in
    let modes : c.as_slice-modes.result.now ≡ t.modes = c.as_slice-modes.ensures ∙ ap (λ (t : Tables). t.modes) (sym c.parts.ensures.value) in
    let x = c.index-modes-k.result in
    let below_end : c.loop-k.k < length t.modes = omega (arith, ap (λ (ms : List Mode). length ms) modes, c.loop-k-test.true) in
    let same = ap (λ (ms : List Mode). (get_or ms c.loop-k.k x).«module») modes in
    elim c.if-modes-k.branch [
      | then-modes-k w ↦
          counted t c.args.unit c.loop-k.k x below_end c.loop-k.most c.if-modes-k.most (get_or c.args.counts.now c.loop-k.k 0) _ (sym same ∙ w.if-modes-k.true)
          (c.requires.counts c.loop-k.k (omega (arith, c.requires.few, below_end))) (w.most-is ∙ w.max-most.ensures) c.loop-k.invariant
      | else-modes-k w ↦ passed_by t c.args.unit c.loop-k.k x below_end c.loop-k.most c.if-modes-k.most _ (λ e. w.if-modes-k.false (same ∙ e)) w.most-is c.loop-k.invariant
    ]
