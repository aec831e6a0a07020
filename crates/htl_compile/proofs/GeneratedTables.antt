-- The tables of the generated source.
use Rattle.std.proofs.Common.{refl}
use Rattle.htl_compile.proofs.Words.{BulkHasTables, Compiled, IsExpressionOf, generated, Formula, Fun, FunctionType, IsTyped, tables_of_tree}

typed : (f : FunctionType) (g : Fun) → IsExpressionOf f g → IsTyped f g
typed f (Formula first e) h = h
typed f (Compiled code) h = absurd h

pub bulk_has_tables : BulkHasTables
bulk_has_tables n some few =
    let g = generated n some few in
    let ok = g.faultless in (
      tables_of_tree g.programs,
      record { list = g.list; reads = record { tokens = g.tokens; short = g.short }; programs = g.programs; spelled = g.spelled; named = ok.named; is = refl },
      λ k f e a b. typed f e (ok.typed k f e a b),
      ok.formed,
      ok.schedulable,
    )
