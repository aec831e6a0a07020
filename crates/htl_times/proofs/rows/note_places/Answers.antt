use Rattle.std.proofs.Common.{◌≡◌, ◌<◌, ◌+◌, List, Option, length, get_or, slice_get, Some, refl, sym, ap, ◌∙◌, subst, arith, add-one}
use Rattle.std.proofs.lemmas.Option.{slice_get-get_or}
use Rattle.htl_times.proofs.{Words.path_places, Words.no_place, Words.instrs_of, Best.path_begins, Best.position_more, Best.path_ends, Best.rows_kept}
use Rattle.htl_times.specs.{Noting.AreBestTo, Noting.AreBestBefore, Noting.IsToldBy, Noting.rows_after, Response.worst_finish, declared.greatest.Greatest.Greatest}
use Rattle.htl_times.proofs.rows.note_places.Goals as goal

pub loop-k-init : goal.loop-k-init
loop-k-init c = record { best = path_begins c.args.p.t.now (instrs_of c.args.p.lists.now) c.args.p.path c.args.rows.now c.requires.best; same = refl }

pub loop-k-preserved : goal.loop-k-preserved
loop-k-preserved c =
    let t = c.args.p.t.now in
    let lists = instrs_of c.args.p.lists.now in
    let path = c.args.p.path in
    let k = c.loop-k.k in
    let x = get_or c.args.places.now k no_place in
    let below : k < length c.args.places.now = omega arith in
    let at : slice_get (path_places t path) k ≡ Some x = ap (λ xs. slice_get xs k) (sym c.requires.places) ∙ slice_get-get_or c.args.places.now k no_place below in
    let told : IsToldBy x (worst_finish t lists path k) c.told.result = subst (λ o. IsToldBy x o c.told.result) (c.requires.finishes k (omega (arith, below, c.requires.same))) c.told.ensures in
    let more = position_more t lists path k x c.loop-k.rows c.told.result at told c.loop-k.invariant.best in
    record {
      best = subst (λ rows. AreBestTo t lists path (k + 1) rows) (sym c.note.ensures) (subst (λ n. AreBestTo t lists path n (rows_after c.loop-k.rows path c.told.result)) (sym (add-one k)) more);
      same = ap (λ (rows : List (Option Greatest)). length rows) c.note.ensures ∙ rows_kept c.loop-k.rows path c.told.result ∙ c.loop-k.invariant.same;
    }

pub returns-clause-best : goal.returns-clause-best
returns-clause-best c =
    let t = c.args.p.t.now in
    let lists = instrs_of c.args.p.lists.now in
    let path = c.args.p.path in
    let end : c.loop-k.k ≡ length (path_places t path) = omega (arith, c.loop-k-test.false, c.loop-k.auto.k-end, ap (λ xs. length xs) c.requires.places) in
    subst (λ n. AreBestBefore t lists n c.loop-k.rows) (sym (add-one path)) (path_ends t lists path c.loop-k.rows (subst (λ n. AreBestTo t lists path n c.loop-k.rows) end c.loop-k.invariant.best))
