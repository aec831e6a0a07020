use Rattle.std.proofs.Common.{◌≡◌, ◌∙◌, ℕ, Bool, true, false, cond, List, Some, None, ap, sym, refl}
use Rattle.htl_script.proofs.Words.{both_ways, IsSome, option_map, nat_cmp, slice_cmp, Ordering}
use Rattle.htl_script.proofs.index.compare_sensor.Goals as goal

compared : (sensor : Bool) (name text : List ℕ) (r : Ordering) → IsSome (cond sensor (Some name) None) → r ≡ slice_cmp nat_cmp name text
    → option_map (λ own. slice_cmp nat_cmp own text) (cond sensor (Some name) None) ≡ Some r
compared true name text r some is = ap Some (sym is)
compared false name text r some is = absurd (both_ways false refl some)

pub returns : goal.returns
returns c =
    let c0 = c.args.comm.now in
    compared c0.sensor c0.name c.args.text.now c.cmp.result c.requires (c.cmp.ensures ∙ ap (λ n. slice_cmp nat_cmp n c.args.text.now) c.as_bytes.ensures.value)
