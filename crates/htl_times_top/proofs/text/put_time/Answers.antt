use Rattle.htl_console.proofs.Writing.{WasPut-first, WasPut-last, Puts-cut}
use Rattle.htl_times_top.proofs.text.put_time.Goals as goal

pub returns-in-Err : goal.returns-in-Err
returns-in-Err g c = Puts-cut _ _ _ _ _ _ _ (rw (c.as_bytes.ensures.bytes, c.time_front-front.ensures) at c.in-Err.ensures)

pub returns : goal.returns
returns g c =
    let front = WasPut-first _ _ _ _ _ _ (rw (c.as_bytes.ensures.bytes, c.time_front-front.ensures) at c.in_default.ensures) in
    WasPut-last _ _ _ _ _ _ _ _ _ front (rw (c.as_bytes-2.ensures.bytes, c.line_end-end.ensures) at c.put_all-2.ensures)
