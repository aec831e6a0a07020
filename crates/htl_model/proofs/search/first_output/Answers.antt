use Rattle.std.proofs.Common.{sym, ◌≡◌, get_or, Some, subst, List}
use Rattle.htl_model.proofs.{Words.slice_get-get_or, Words.End, Words.EndSite, Words.slice_get, FirstLaws.nothing_first}
use Rattle.htl_model.specs.declared.parts.End.TheVariants as E
use Rattle.htl_model.proofs.search.first_output.Goals as goal

pub returns-then-not-judges_outputs : goal.returns-then-not-judges_outputs
returns-then-not-judges_outputs g c =
    sym (nothing_first ((g.C.Tries.tests c.args.t.now c.args.rule).output c.args.k c.args.inv.now) 0 c.args.inv.now.writes (c.judges_outputs.ensures c.if-not-judges_outputs.true c.args.t.now c.args.k c.args.inv.now))

pub of_output-requires-clause-output : goal.of_output-requires-clause-output
of_output-requires-clause-output g c =
    subst (λ (s : EndSite). slice_get s.inv.now.writes s.place ≡ Some s.end) (sym c.site_at-site.ensures)
    (subst (λ (ends : List End). slice_get ends c.loop-j.j ≡ Some (get_or c.as_slice-ends.result.now c.loop-j.j (E.Comm 0 0))) c.as_slice-ends.ensures
    (slice_get-get_or c.as_slice-ends.result.now c.loop-j.j (E.Comm 0 0) c.loop-j-test.true))
