use Rattle.std.proofs.Common.{◌≡◌, List, get_or, slice_get, true, false, Some, sym, ap, ◌∙◌, subst}
use Rattle.htl_load.proofs.Words.{FunctionType, output_type, IsFunctionOf, Tables, fun_of, Function, function_at}
use Rattle.htl_load.proofs.functions.fits_at.Goals as goal

there : (c : goal.After-fits) → slice_get c.args.t.now.functions c.args.id ≡ Some (fun_of c.index-functions-id.result)
there c =
    function_at c.args.t.now c.parts.result.now.functions c.args.id c.index-functions-id.result (ap (λ (u : Tables). u.functions) c.parts.ensures.value) c.requires.within
    (c.index-functions-id.is ∙ ap (λ (l : List Function). get_or l c.args.id c.index-functions-id.result) c.as_slice-functions.ensures)

pub returns-clause-fits : goal.returns-clause-fits
returns-clause-fits c = λ yes f g a b.
    let one : output_type c.args.args.now c.args.want ≡ f = (let z : Some (output_type c.args.args.now c.args.want) ≡ Some f = sym c.requires.types ∙ a in cc) in
    let two : fun_of c.index-functions-id.result ≡ g = (let z : Some (fun_of c.index-functions-id.result) ≡ Some g = sym (there c) ∙ b in cc) in
    subst (λ (h : FunctionType). IsFunctionOf h g) one (subst (IsFunctionOf (output_type c.args.args.now c.args.want)) two (c.fits.ensures.0 yes))

pub returns-clause-unfit : goal.returns-clause-unfit
returns-clause-unfit c = λ no all.
    let yes : c.fits.result ≡ true = c.fits.ensures.1 (all _ _ c.requires.types (there c)) in
    (let z : true ≡ false = sym yes ∙ no in cc)
