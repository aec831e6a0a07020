use Rattle.std.proofs.Common.{◌≡◌, drop}
use Rattle.htl_form.proofs.Words.{slice_get, places_from, mode_of_module}
use Rattle.htl_form.proofs.periods.first_mode.Given as goal

abbrev pub invariant-loop-m : goal.invariant-loop-m
invariant-loop-m l = slice_get (places_from (mode_of_module l.«module») l.m (drop l.m l.modes)) 0 ≡ slice_get (places_from (mode_of_module l.«module») 0 l.modes) 0
