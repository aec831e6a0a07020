use Rattle.std.proofs.Common.{◌≡◌, sym, ◌∙◌, ap}
use Rattle.htl_load.proofs.Words.{Tables, switch_type_at}
use Rattle.htl_load.proofs.functions.switch_fits.Goals as goal

pub fits_at-requires-clause-types : goal.fits_at-requires-clause-types
fits_at-requires-clause-types c =
    let switches : c.as_slice.result.now ≡ c.args.t.now.switches = c.as_slice.ensures ∙ sym (ap (λ (t : Tables). t.switches) c.parts.ensures.value) in
    switch_type_at c.args.t.now c.as_slice.result.now c.args.switch c.args.id c.index-as_slice-switch.result _ switches c.requires.switch c.index-as_slice-switch.is c.requires.id c.fill_types-count.ensures.types
