use Rattle.std.proofs.Common.{◌≡◌, ◌∙◌, length, refl, sym, arith, subst, add-one, ℕ, inr}
use Rattle.htl_names.proofs.{Words.common_steps, Words.slice_get_read, Words.AreApartTo, SymbolLaws.repeats_here, SymbolLaws.apart_here}
use Rattle.htl_names.proofs.symbols.declare.Goals as goal

pub returns-in-Some : goal.returns-in-Some
returns-in-Some c =
    let es = c.args.entries.now in
    let k = c.loop-k.k in
    let e = c.index-entries-k.result in
    let here = slice_get_read es (length es) k e refl c.loop-k-test.true c.index-entries-k.is in
    let repeats = repeats_here es k e c.loop-k.symbols c.in-Some.field-0 c.loop-k.invariant.seen (sym c.in-Some.is ∙ c.in_ok-add.ensures.old) in
    inr (k, e, here, repeats, refl, c.loop-k.invariant.apart)

pub loop-k-preserved : goal.loop-k-preserved
loop-k-preserved c =
    let es = c.args.entries.now in
    let k = c.loop-k.k in
    let e = c.index-entries-k.result in
    let here = slice_get_read es (length es) k e refl c.loop-k-test.true c.index-entries-k.is in
    let added = c.in_ok-add.ensures.added c.in_default.is in
    record {
      seen = grind (arith, common_steps);
      apart = subst (λ (n : ℕ). AreApartTo n es) (sym (add-one k))
          (apart_here es k e c.loop-k.symbols c.loop-k.invariant.seen (sym c.in_ok-add.ensures.old ∙ c.in_default.is) here c.loop-k.invariant.apart);
    }

pub returns : goal.returns
returns c =
    let whole : c.loop-k.k ≡ length c.args.entries.now = omega arith in
    (grind (arith, common_steps), subst (λ (n : ℕ). AreApartTo n c.args.entries.now) whole c.loop-k.invariant.apart)
