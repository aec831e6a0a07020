use Rattle.std.proofs.Common.{map, ◌∙◌, ap, subst}
use Rattle.htl_object.proofs.{Words.AreInRange, Words.Tables, Words.Compiled, Words.fun_of, Words.Code, Words.Anchors, Assembled.assembled, Assembled.whole, ListRanges.lists_in_range}
use Rattle.htl_object.proofs.assembly.assemble.Goals as goal

pub into_object-requires : goal.into_object-requires
into_object-requires c =
    subst (λ (t : Tables). AreInRange t)
    (assembled c.args.l (map fun_of c.in_ok-functions.functions.items) (c.in_ok-functions.ensures ∙ ap (map (λ (x : Code). Compiled x)) (c.into_vec.ensures ∙ c.replace-codes.ensures.value)))
    (lists_in_range c.args.l c.requires)

pub returns : goal.returns
returns c =
    c.into_object.ensures
    ∙ whole c.args.l (map fun_of c.in_ok-functions.functions.items) c.in_ok-ecode.ecode.enter c.in_ok-ecode.ecode.begin c.in_ok-ecode.ecode.decide
    (c.in_ok-functions.ensures ∙ ap (map (λ (x : Code). Compiled x)) (c.into_vec.ensures ∙ c.replace-codes.ensures.value))
    (c.in_ok-ecode.ensures.enter ∙ ap (map (λ (a : Anchors). a.enter)) c.as_slice.ensures)
    (c.in_ok-ecode.ensures.begin ∙ ap (map (λ (a : Anchors). a.begin)) c.as_slice.ensures)
    (c.in_ok-ecode.ensures.decide ∙ ap (map (λ (a : Anchors). a.decide)) c.as_slice.ensures)
