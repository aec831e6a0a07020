use Rattle.htl_console.proofs.Writing.{WasPut-first, WasPut-more, WasPut-last, Puts-cut}
use Rattle.htl_top.proofs.slack.write_slack.Goals as goal

pub returns-in-Err : goal.returns-in-Err
returns-in-Err g c =
    Puts-cut _ _ _ _ _ _ _ (Puts-cut _ _ _ _ _ _ _ (rw (c.as_bytes.ensures.bytes, c.slack_line-first.ensures, c.task_worst.ensures) at c.in-Err.ensures))

pub returns-in-Err-put_all : goal.returns-in-Err-put_all
returns-in-Err-put_all g c =
    let head = WasPut-first _ _ _ _ _ _ (rw (c.as_bytes.ensures.bytes, c.slack_line-first.ensures, c.task_worst.ensures) at c.in_default.ensures) in
    Puts-cut _ _ _ _ _ _ _
    (WasPut-last _ _ _ _ _ _ _ _ _ head (rw (c.as_bytes-2.ensures.bytes, c.above_line-second.ensures, c.limit_for.ensures) at c.in-Err-put_all.ensures))

pub returns : goal.returns
returns g c =
    let head = WasPut-first _ _ _ _ _ _ (rw (c.as_bytes.ensures.bytes, c.slack_line-first.ensures, c.task_worst.ensures) at c.in_default.ensures) in
    let above = WasPut-more _ _ _ _ _ _ _ _ _ head (rw (c.as_bytes-2.ensures.bytes, c.above_line-second.ensures, c.limit_for.ensures) at c.in_default-put_all.ensures) in
    WasPut-last _ _ _ _ _ _ _ _ _ above (rw c.as_slice.ensures at c.show_schedules.ensures)
