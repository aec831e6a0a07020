use Rattle.htl_console.proofs.Writing.{WasPut-first, WasPut-more, WasPut-last, Puts-cut}
use Rattle.htl_console.proofs.listing.show.Goals as goal

pub returns-in-Err : goal.returns-in-Err
returns-in-Err g c = Puts-cut _ _ _ _ _ _ _ (Puts-cut _ _ _ _ _ _ _ (Puts-cut _ _ _ _ _ _ _ c.in-Err.ensures))

pub returns-in-Err-show_tables : goal.returns-in-Err-show_tables
returns-in-Err-show_tables g c =
    let head = WasPut-first _ _ _ _ _ _ c.in_default.ensures in
    Puts-cut _ _ _ _ _ _ _ (Puts-cut _ _ _ _ _ _ _ (WasPut-last _ _ _ _ _ _ _ _ _ head c.in-Err-show_tables.ensures))

pub returns-in-Err-show_code : goal.returns-in-Err-show_code
returns-in-Err-show_code g c =
    let head = WasPut-first _ _ _ _ _ _ c.in_default.ensures in
    let tables = WasPut-more _ _ _ _ _ _ _ _ _ head c.in_default-show_tables.ensures in
    Puts-cut _ _ _ _ _ _ _ (WasPut-last _ _ _ _ _ _ _ _ _ tables (rw c.as_slice.ensures at c.in-Err-show_code.ensures))

pub returns : goal.returns
returns g c =
    let head = WasPut-first _ _ _ _ _ _ c.in_default.ensures in
    let tables = WasPut-more _ _ _ _ _ _ _ _ _ head c.in_default-show_tables.ensures in
    let code = WasPut-more _ _ _ _ _ _ _ _ _ tables (rw c.as_slice.ensures at c.in_default-show_code.ensures) in
    WasPut-last _ _ _ _ _ _ _ _ _ code c.show_schedules.ensures
