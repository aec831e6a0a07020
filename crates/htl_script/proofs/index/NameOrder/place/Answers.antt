use Rattle.std.proofs.Common.{◌+◌, ◌-◌, ◌/◌, ℕ, List, get_or, take, Option, Ok, Err, sym, subst, arith}
use Rattle.htl_script.proofs.{Words.Keyed, Words.tables_of, Words.name_of, Words.AreRising, Words.IsPlace, Words.keyed, Words.keyed_name, Orders.less_before, Orders.greater_after, Orders.equal_name}
use Rattle.htl_script.proofs.index.NameOrder.place.Goals as goal

pub halves-preserved-in-Less : goal.halves-preserved-in-Less
halves-preserved-in-Less c =
    let m = c.self.inside in
    let name : ℕ → Option (List ℕ) = keyed_name (name_of (tables_of c.args.parts.now) c.args.kind) in
    let rising : AreRising name (take m.count m.numbers) = subst (λ (k : Keyed). AreRising name k.numbers) (sym c.self.view_is) c.requires.rising in
    let middle = c.halves.low + (c.halves.high - c.halves.low) / 2 in (
      omega arith,
      omega arith,
      λ j h. less_before name (take m.count m.numbers) (keyed c.args.text.now) rising j middle (omega arith) (omega arith) c.in-Less.ensures,
      c.halves.invariant.3,
    )

pub halves-preserved : goal.halves-preserved
halves-preserved c =
    let m = c.self.inside in
    let name : ℕ → Option (List ℕ) = keyed_name (name_of (tables_of c.args.parts.now) c.args.kind) in
    let rising : AreRising name (take m.count m.numbers) = subst (λ (k : Keyed). AreRising name k.numbers) (sym c.self.view_is) c.requires.rising in
    let middle = c.halves.low + (c.halves.high - c.halves.low) / 2 in (
      omega arith,
      omega arith,
      c.halves.invariant.2,
      λ j from below. greater_after name (take m.count m.numbers) (keyed c.args.text.now) rising middle j from below c.in-Greater.ensures,
    )

pub returns-in-Equal : goal.returns-in-Equal
returns-in-Equal c =
    let m = c.self.inside in
    let name : ℕ → Option (List ℕ) = keyed_name (name_of (tables_of c.args.parts.now) c.args.kind) in
    let middle = c.halves.low + (c.halves.high - c.halves.low) / 2 in
    subst (λ (k : Keyed). IsPlace name k.numbers (keyed c.args.text.now) (Ok middle)) c.self.view_is
    (omega arith, equal_name (name (get_or (take m.count m.numbers) middle 0)) (keyed c.args.text.now) c.in-Equal.ensures)

pub returns : goal.returns
returns c =
    let name : ℕ → Option (List ℕ) = keyed_name (name_of (tables_of c.args.parts.now) c.args.kind) in
    subst (λ (k : Keyed). IsPlace name k.numbers (keyed c.args.text.now) (Err c.halves.low)) c.self.view_is
    (omega arith, c.halves.invariant.2, λ j from below. c.halves.invariant.3 j (omega arith) below)
