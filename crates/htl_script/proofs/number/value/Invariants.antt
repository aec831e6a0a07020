use Rattle.std.proofs.Common.{◌≡◌, take, true}
use Rattle.htl_script.proofs.Words.{fold, with_digit_capped}
use Rattle.std.specs.{List.list_all, Char.is_ascii_digit}
use Rattle.htl_script.proofs.number.value.Given as goal

-- the digits so far are digits, and the number is theirs
abbrev pub invariant-loop-b : goal.invariant-loop-b
invariant-loop-b l =
    (l.n ≡ fold with_digit_capped 0 (take l.b-index l.field)) × (list_all is_ascii_digit (take l.b-index l.field) ≡ true)
