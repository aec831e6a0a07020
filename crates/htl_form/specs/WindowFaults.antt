-- What the tests of the rules on windows and worst cases find.
use Rattle.std.specs.Prelude.{not, ltb}
use Rattle.htl_model.specs.{declared.parts.Inv.Inv, Tables.Tables, Tables.mode_period, Tables.task_worst, Tables.release, Tables.window_end, Found.Found, Found.unless}

abbrev pub window_fault : Tables → Inv → Found
window_fault t i = unless (ltb (release t i) (window_end t i)) (release t i) (window_end t i)

abbrev pub worst_case_fault : Tables → Inv → Found
worst_case_fault t i = unless (not (ltb (mode_period t i.mode) (task_worst t i.task))) (task_worst t i.task) (mode_period t i.mode)
