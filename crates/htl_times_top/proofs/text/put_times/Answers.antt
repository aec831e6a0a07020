use Rattle.std.proofs.Common.{◌≡◌, sym, ap, ◌∙◌}
use Rattle.htl_console.proofs.Writing.{WasPut-first, WasPut-last}
use Rattle.htl_model.specs.Tables.{Tables}
use Rattle.htl_times_top.proofs.text.put_times.Goals as goal

pub returns : goal.returns
returns g c =
    let invs : c.as_slice.result.now ≡ c.args.t.now.invs = c.as_slice.ensures ∙ ap (λ (t : Tables). t.invs) (sym c.parts.ensures.value) in
    WasPut-last _ _ _ _ _ _ _ _ _ (WasPut-first _ _ _ _ _ _ (rw invs at c.in_default.ensures)) c.put_frame.ensures
