use Rattle.htl_top.proofs.{Vocabulary.ℕ, Vocabulary.List, Vocabulary.sym, Vocabulary.subst, Vocabulary.IsCompiledTo, Vocabulary.bulk_bytes, Bulking.bulk_put}
use Rattle.htl_top.proofs.bulk.bulk.Goals as goal

pub run_generated-requires : goal.run_generated-requires
run_generated-requires g c = (
  c.args.modules,
  c.requires.some,
  c.requires.few,
  subst (λ (bs : List ℕ). IsCompiledTo (bulk_bytes c.args.modules) bs) (sym c.as_slice.ensures.value) c.in-Ok.ensures,
)

pub returns-in-Ok-clause-answer : goal.returns-in-Ok-clause-answer
returns-in-Ok-clause-answer g c =
    bulk_put c.args.modules c.in-Ok.object.items c.as_slice.result.now (g.W.Sink.written c.args.out.now) (g.W.Sink.written c.run_generated.new.out) (g.W.Sink.faults c.args.out.now)
    (g.W.Sink.faults c.run_generated.new.out) c.run_generated.result c.as_slice.ensures.value c.in-Ok.ensures c.run_generated.ensures.answer
