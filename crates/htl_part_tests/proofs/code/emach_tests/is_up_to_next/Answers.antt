use Rattle.std.proofs.Common.{◌≤◌, Some, None, arith}
use Rattle.std.proofs.lemmas.Bool.Decides.{nat_tests}
use Rattle.htl_emach.proofs.Earliest.{up_to_next}
use Rattle.htl_part_tests.proofs.code.emach_tests.is_up_to_next.Goals as goal

pub returns-in-Some : goal.returns-in-Some
returns-in-Some c = λ yes.
    let late : c.args.at ≤ c.in-Some.next = grind (arith, nat_tests) in
    up_to_next c.args.m.now (Some c.in-Some.next) c.args.at c.in-Some.ensures.next late

pub returns-in-None : goal.returns-in-None
returns-in-None c = λ yes. up_to_next c.args.m.now None c.args.at c.in-None.ensures.next tt
