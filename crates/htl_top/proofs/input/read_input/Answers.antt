use Rattle.std.proofs.Common.{List, ℕ, arith, refl, subst, sym, length, take, length-take-le, ap}
use Rattle.htl_top.proofs.Inputs.{AreRead, read_start, taken_read, taken_more}
use Rattle.htl_top.proofs.input.read_input.Goals as goal

pub pieces-init : goal.pieces-init
pieces-init g c =
    let rest = g.R.Source.rest c.args.input.now in (
      subst (λ (bs : List ℕ). AreRead bs rest rest) (sym c.new-bytes.ensures.items) (read_start rest),
      refl,
      refl,
      omega (arith, ap (λ (bs : List ℕ). length bs) c.new-bytes.ensures.items),
    )

pub returns-in_default-clause-taken : goal.returns-in_default-clause-taken
returns-in_default-clause-taken g c =
    taken_read c.pieces.bytes.items 1052672 (g.R.Source.rest c.args.input.now) (g.R.Source.rest c.pieces.input) (g.R.Source.rest c.read.new.self)
    c.pieces.invariant.0 (omega (arith, c.pieces.invariant.3)) c.in_default.ensures.bytes

pub returns-then-count-eq0-clause-taken : goal.returns-then-count-eq0-clause-taken
returns-then-count-eq0-clause-taken g c =
    taken_more c.pieces.bytes.items (take c.in-Ok.count c.read.new.buf) 1048576 1052672 (g.R.Source.rest c.args.input.now) (g.R.Source.rest c.pieces.input) (g.R.Source.rest c.read.new.self)
    c.pieces.invariant.0 c.in-Ok.ensures.bytes.0 c.pieces.invariant.3
    (omega (arith, length-take-le c.in-Ok.count c.read.new.buf c.in-Ok.ensures.bound, c.in-Ok.ensures.bound, c.read.auto.buf, c.pieces.invariant.2))

pub returns-then-is_err-clause-taken : goal.returns-then-is_err-clause-taken
returns-then-is_err-clause-taken g c =
    taken_more c.pieces.bytes.items (take c.in-Ok.count c.read.new.buf) 1048576 1052672 (g.R.Source.rest c.args.input.now) (g.R.Source.rest c.pieces.input) (g.R.Source.rest c.read.new.self)
    c.pieces.invariant.0 c.in-Ok.ensures.bytes.0 c.pieces.invariant.3
    (omega (arith, length-take-le c.in-Ok.count c.read.new.buf c.in-Ok.ensures.bound, c.in-Ok.ensures.bound, c.read.auto.buf, c.pieces.invariant.2))

pub returns-then-len-gt-MAX_SOURCE-clause-taken : goal.returns-then-len-gt-MAX_SOURCE-clause-taken
returns-then-len-gt-MAX_SOURCE-clause-taken g c =
    taken_more c.pieces.bytes.items (take c.in-Ok.count c.read.new.buf) 1048576 1052672 (g.R.Source.rest c.args.input.now) (g.R.Source.rest c.pieces.input) (g.R.Source.rest c.read.new.self)
    c.pieces.invariant.0 c.in-Ok.ensures.bytes.0 c.pieces.invariant.3
    (omega (arith, length-take-le c.in-Ok.count c.read.new.buf c.in-Ok.ensures.bound, c.in-Ok.ensures.bound, c.read.auto.buf, c.pieces.invariant.2))
