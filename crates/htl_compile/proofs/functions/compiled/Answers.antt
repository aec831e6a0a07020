use Rattle.std.proofs.Common.{map, ap, sym, ◌∙◌, subst}
use Rattle.htl_compile.proofs.{Words.FitPlaces, Words.AreInRange, Words.Tables, Words.fun_of, CodedLaws.coded_fit, CodedLaws.coded_in_range, FunctionLaws.rebuilt}
use Rattle.htl_compile.proofs.functions.compiled.Goals as goal

pub new-requires-2 : goal.new-requires-2
new-requires-2 c =
    subst (λ (u : Tables). AreInRange u) (rebuilt c.args.t c.into_parts-comms.result c.new.result c.into_parts-comms.ensures.value (ap (map fun_of) c.new.ensures ∙ c.in-Ok.ensures.codes))
    (coded_in_range c.args.t c.into_parts-comms.ensures.ranges c.requires c.in-Ok.ensures.typed)

pub returns-clause-fits : goal.returns-clause-fits
returns-clause-fits c =
    subst (λ (u : Tables). FitPlaces u) (rebuilt c.args.t c.into_parts-comms.result c.new.result c.into_parts-comms.ensures.value (ap (map fun_of) c.new.ensures ∙ c.in-Ok.ensures.codes) ∙ sym c.new-2.ensures)
    (coded_fit c.args.t c.into_parts-comms.ensures.ranges c.requires c.in-Ok.ensures.typed)
