use Rattle.std.proofs.Common.{◌≡◌, Some, sym, ◌∙◌, ap, subst, arith}
use Rattle.htl_object.proofs.{ObjectLaws.object_said, ObjectLaws.fault_said, ObjectLaws.one_spelling, ObjectLaws.one_object, ObjectLaws.not_refused, Words.first_bad, Words.object_at, Words.IsBytes, Words.Malformed}
use Rattle.htl_object.specs.declared.decoding.DecodeFault.TheVariants as fault
use Rattle.htl_object.proofs.decoding.decode.Goals as goal

pub object-requires : goal.object-requires
object-requires c = subst IsBytes (sym c.new-cursor.ensures) (λ i. omega (arith, c.type_inv.bytes i))

pub returns-in-Ok-clause-found : goal.returns-in-Ok-clause-found
returns-in-Ok-clause-found c =
    one_spelling c.args.bytes.now (λ i. omega (arith, c.type_inv.bytes i)) c.in-Ok.o (object_said c.args.bytes.now c.in-Ok.o c.object.new.cursor (ap object_at (sym c.new-cursor.ensures) ∙ c.in-Ok.ensures))

pub returns-in-Ok-clause-only : goal.returns-in-Ok-clause-only
returns-in-Ok-clause-only c = λ o h e.
    let f = one_spelling c.args.bytes.now (λ i. omega (arith, c.type_inv.bytes i)) c.in-Ok.o (object_said c.args.bytes.now c.in-Ok.o c.object.new.cursor (ap object_at (sym c.new-cursor.ensures) ∙ c.in-Ok.ensures)) in
    one_object c.in-Ok.o o f.0 h (sym f.1 ∙ e)

pub returns-in-Ok-clause-exact : goal.returns-in-Ok-clause-exact
returns-in-Ok-clause-exact c = object_said c.args.bytes.now c.in-Ok.o c.object.new.cursor (ap object_at (sym c.new-cursor.ensures) ∙ c.in-Ok.ensures)

pub returns-in-Err-Bad-clause-exact : goal.returns-in-Err-Bad-clause-exact
returns-in-Err-Bad-clause-exact c =
    fault_said c.args.bytes.now c.in-Err-Bad.bad (ap object_at (sym c.new-cursor.ensures) ∙ (rw c.in-Err-Bad.field-0-is at c.in-Err-Bad.ensures)) ∙ ap (λ (m : Malformed). Some m) (sym c.placed.ensures)

pub returns-in-Err-Bad-clause-only : goal.returns-in-Err-Bad-clause-only
returns-in-Err-Bad-clause-only c =
    let told : first_bad c.args.bytes.now ≡ Some c.placed.result = fault_said c.args.bytes.now c.in-Err-Bad.bad (ap object_at (sym c.new-cursor.ensures) ∙ (rw c.in-Err-Bad.field-0-is at c.in-Err-Bad.ensures)) ∙ ap (λ (m : Malformed). Some m) (sym c.placed.ensures) in
    not_refused c.args.bytes.now (fault.Malformed c.placed.result) (λ i. omega (arith, c.type_inv.bytes i)) told
