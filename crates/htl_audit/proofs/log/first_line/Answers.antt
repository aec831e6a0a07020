use Rattle.std.proofs.Common.{◌+◌, ◌-◌, ◌≡◌, ◌≤◌, length, take, drop, ap, sym, arith}
use Rattle.std.proofs.lemmas.List.{take_all, length-drop}
use Rattle.htl_audit.proofs.Reading.{is_fed, is_last}
use Rattle.htl_audit.proofs.log.first_line.Goals as goal

pub returns-in-Some-clause-line : goal.returns-in-Some-clause-line
returns-in-Some-clause-line c =
    let place = c.in-Some.place in
    let bytes = c.args.bytes.now in
    let short : length (drop (place + 1) bytes) ≤ length bytes - (place + 1) = omega (arith, length-drop (place + 1) bytes) in
    is_fed bytes _ place (sym c.in-Some.ensures.first) (take_all (length bytes - (place + 1)) (drop (place + 1) bytes) short)

pub returns-in-None-clause-line : goal.returns-in-None-clause-line
returns-in-None-clause-line c =
    let bytes = c.args.bytes.now in
    let none : length bytes - length bytes ≡ 0 = omega arith in
    is_last bytes _ (sym c.in-None.ensures.first) c.requires (ap (λ n. length (take n (drop (length bytes) bytes))) none)
