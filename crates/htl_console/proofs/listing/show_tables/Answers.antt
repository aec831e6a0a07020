use Rattle.std.proofs.Common.{◌≡◌, List, map, ap, sym, ◌∙◌}
use Rattle.htl_model.specs.{declared.function.Function.Function, Tables.Tables, Tables.fun_of}
use Rattle.htl_console.proofs.Writing.{WasPut-first, WasPut-more, WasPut-last, Puts-cut}
use Rattle.htl_console.proofs.listing.show_tables.Goals as goal

pub returns-in-Err : goal.returns-in-Err
returns-in-Err g c =
    let comms : c.as_slice.result.now ≡ c.args.t.now.comms = c.as_slice.ensures ∙ sym (ap (λ (t : Tables). t.comms) c.parts-parts.ensures.value) in
    Puts-cut _ _ _ _ _ _ _ (Puts-cut _ _ _ _ _ _ _ (Puts-cut _ _ _ _ _ _ _ (Puts-cut _ _ _ _ _ _ _ (rw comms at c.in-Err.ensures))))

pub returns-in-Err-show_modules : goal.returns-in-Err-show_modules
returns-in-Err-show_modules g c =
    let comms : c.as_slice.result.now ≡ c.args.t.now.comms = c.as_slice.ensures ∙ sym (ap (λ (t : Tables). t.comms) c.parts-parts.ensures.value) in
    let done-0 = WasPut-first _ _ _ _ _ _ (rw comms at c.in_default.ensures) in
    let modules : c.as_slice-2.result.now ≡ c.args.t.now.modules = c.as_slice-2.ensures ∙ sym (ap (λ (t : Tables). t.modules) c.parts-parts.ensures.value) in
    Puts-cut _ _ _ _ _ _ _ (Puts-cut _ _ _ _ _ _ _ (Puts-cut _ _ _ _ _ _ _ (WasPut-last _ _ _ _ _ _ _ _ _ done-0 (rw modules at c.in-Err-show_modules.ensures))))

pub returns-in-Err-show_modes : goal.returns-in-Err-show_modes
returns-in-Err-show_modes g c =
    let comms : c.as_slice.result.now ≡ c.args.t.now.comms = c.as_slice.ensures ∙ sym (ap (λ (t : Tables). t.comms) c.parts-parts.ensures.value) in
    let done-0 = WasPut-first _ _ _ _ _ _ (rw comms at c.in_default.ensures) in
    let modules : c.as_slice-2.result.now ≡ c.args.t.now.modules = c.as_slice-2.ensures ∙ sym (ap (λ (t : Tables). t.modules) c.parts-parts.ensures.value) in
    let done-1 = WasPut-more _ _ _ _ _ _ _ _ _ done-0 (rw modules at c.in_default-show_modules.ensures) in
    let modes : c.as_slice-3.result.now ≡ c.args.t.now.modes = c.as_slice-3.ensures ∙ sym (ap (λ (t : Tables). t.modes) c.parts-parts.ensures.value) in
    Puts-cut _ _ _ _ _ _ _ (Puts-cut _ _ _ _ _ _ _ (WasPut-last _ _ _ _ _ _ _ _ _ done-1 (rw modes at c.in-Err-show_modes.ensures)))

pub returns-in-Err-show_invs : goal.returns-in-Err-show_invs
returns-in-Err-show_invs g c =
    let comms : c.as_slice.result.now ≡ c.args.t.now.comms = c.as_slice.ensures ∙ sym (ap (λ (t : Tables). t.comms) c.parts-parts.ensures.value) in
    let done-0 = WasPut-first _ _ _ _ _ _ (rw comms at c.in_default.ensures) in
    let modules : c.as_slice-2.result.now ≡ c.args.t.now.modules = c.as_slice-2.ensures ∙ sym (ap (λ (t : Tables). t.modules) c.parts-parts.ensures.value) in
    let done-1 = WasPut-more _ _ _ _ _ _ _ _ _ done-0 (rw modules at c.in_default-show_modules.ensures) in
    let modes : c.as_slice-3.result.now ≡ c.args.t.now.modes = c.as_slice-3.ensures ∙ sym (ap (λ (t : Tables). t.modes) c.parts-parts.ensures.value) in
    let done-2 = WasPut-more _ _ _ _ _ _ _ _ _ done-1 (rw modes at c.in_default-show_modes.ensures) in
    let invs : c.as_slice-4.result.now ≡ c.args.t.now.invs = c.as_slice-4.ensures ∙ sym (ap (λ (t : Tables). t.invs) c.parts-parts.ensures.value) in
    Puts-cut _ _ _ _ _ _ _ (WasPut-last _ _ _ _ _ _ _ _ _ done-2 (rw invs at c.in-Err-show_invs.ensures))

pub returns : goal.returns
returns g c =
    let comms : c.as_slice.result.now ≡ c.args.t.now.comms = c.as_slice.ensures ∙ sym (ap (λ (t : Tables). t.comms) c.parts-parts.ensures.value) in
    let done-0 = WasPut-first _ _ _ _ _ _ (rw comms at c.in_default.ensures) in
    let modules : c.as_slice-2.result.now ≡ c.args.t.now.modules = c.as_slice-2.ensures ∙ sym (ap (λ (t : Tables). t.modules) c.parts-parts.ensures.value) in
    let done-1 = WasPut-more _ _ _ _ _ _ _ _ _ done-0 (rw modules at c.in_default-show_modules.ensures) in
    let modes : c.as_slice-3.result.now ≡ c.args.t.now.modes = c.as_slice-3.ensures ∙ sym (ap (λ (t : Tables). t.modes) c.parts-parts.ensures.value) in
    let done-2 = WasPut-more _ _ _ _ _ _ _ _ _ done-1 (rw modes at c.in_default-show_modes.ensures) in
    let invs : c.as_slice-4.result.now ≡ c.args.t.now.invs = c.as_slice-4.ensures ∙ sym (ap (λ (t : Tables). t.invs) c.parts-parts.ensures.value) in
    let done-3 = WasPut-more _ _ _ _ _ _ _ _ _ done-2 (rw invs at c.in_default-show_invs.ensures) in
    let functions : map fun_of c.as_slice-5.result.now ≡ c.args.t.now.functions = ap (λ (fs : List Function). map fun_of fs) c.as_slice-5.ensures ∙ sym (ap (λ (t : Tables). t.functions) c.parts-parts.ensures.value) in
    WasPut-last _ _ _ _ _ _ _ _ _ done-3 (rw functions at c.show_functions.ensures)
