use Rattle.std.proofs.Common.{◌≡◌, None}
use Rattle.htl_espell.proofs.Words.{IsStartOf, departure_before}
use Rattle.htl_espell.proofs.spelling.check_modes.Given as goal

abbrev pub invariant-loop-m : goal.invariant-loop-m
invariant-loop-m l = record { kept : departure_before l.t l.code l.m ≡ None; same : l.instrs ≡ l.code.instrs; start : IsStartOf l.t l.m l.start }
