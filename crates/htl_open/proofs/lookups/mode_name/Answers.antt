use Rattle.std.proofs.Common.{◌≡◌, List, ℕ, [], Option, Some, None, ap, sym, ◌∙◌}
use Rattle.htl_model.specs.{Tables.Tables, declared.parts.Mode.Mode}
use Rattle.htl_open.proofs.Found.{found_at, none_at}
use Rattle.htl_open.proofs.lookups.mode_name.Goals as goal

abbrev name_of : Option Mode → List ℕ
name_of (Some x) = x.name
name_of None = []

pub returns-in-Some-clause-name : goal.returns-in-Some-clause-name
returns-in-Some-clause-name c =
    let same : c.as_slice.result.now ≡ c.args.t.now.modes = c.as_slice.ensures ∙ ap (λ (t : Tables). t.modes) (sym c.parts.ensures.value) in
    let at = found_at Mode c.as_slice.result.now c.args.t.now.modes c.args.mode c.in-Some.mode.now same c.in-Some.ensures.lookup.0 c.in-Some.ensures.lookup.1 in
    c.as_bytes.ensures.value ∙ sym (ap name_of at)

pub returns-in-None-clause-name : goal.returns-in-None-clause-name
returns-in-None-clause-name c =
    let same : c.as_slice.result.now ≡ c.args.t.now.modes = c.as_slice.ensures ∙ ap (λ (t : Tables). t.modes) (sym c.parts.ensures.value) in
    sym (ap name_of (none_at Mode c.as_slice.result.now c.args.t.now.modes c.args.mode same c.in-None.ensures.lookup.3))
