use Rattle.std.proofs.Common.{arith, ◌≡◌, List, [], ◌∷◌, length, refl, sym, ◌∙◌}
use Rattle.htl_text.proofs.Writing.{Adds-no_items, Adds-items}
use Rattle.htl_text.proofs.printer.in_brackets.Goals as goal
use Rattle.htl_text.proofs.printer.in_brackets.Goals.{in-Some, in_default}

no_items : {X : Type 0} (xs : List X) → length xs ≡ 0 → xs ≡ []
no_items [] e = refl
no_items (x ∷ xs) e = absurd (omega (arith, e))

pub returns : goal.returns
returns g c =
    elim c.match-split_first.branch [
      | in-Some w ↦ Adds-items g.T.Print.tokens c.args.items.now c.args.out.now c.tokens.new.self c.match-split_first.out c.tokens-2.new.self
          c.tokens.ensures c.tokens-2.ensures w.in-Some.first.now w.in-Some.rest.now (sym c.as_slice.ensures ∙ w.in-Some.ensures.cases.0) w.print.new.out w.print.ensures
          (rw w.out-is w.after_commas.ensures)
      | in_default w ↦ Adds-no_items g.T.Print.tokens c.args.items.now c.args.out.now c.tokens.new.self c.match-split_first.out c.tokens-2.new.self
          c.tokens.ensures c.tokens-2.ensures (no_items c.args.items.now (rw c.as_slice.ensures at w.in_default.ensures.cases)) w.out-is
    ]
