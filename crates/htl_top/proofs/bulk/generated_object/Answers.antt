use Rattle.std.proofs.Common.{◌≤◌, List, ℕ, length, ◌∙◌, sym, subst}
use Rattle.htl_top.proofs.{Bulking.only_memory, Vocabulary.IsCompiledTo, Vocabulary.IsNotCompiled, Vocabulary.source_fits}
use Rattle.htl_top.proofs.bulk.generated_object.Goals as goal

pub compile_source-requires : goal.compile_source-requires
compile_source-requires c =
    subst (λ (bs : List ℕ). length bs ≤ 1048576) (sym (c.as_slice.ensures.value ∙ c.in-Ok.ensures)) (source_fits c.args.modules c.requires.some c.requires.few)

pub returns-in-Ok-compile_source : goal.returns-in-Ok-compile_source
returns-in-Ok-compile_source c =
    subst (λ (bs : List ℕ). IsCompiledTo bs c.in-Ok-compile_source.object.items) (c.as_slice.ensures.value ∙ c.in-Ok.ensures) c.in-Ok-compile_source.ensures.compiled

pub memory_of-requires : goal.memory_of-requires
memory_of-requires c =
    only_memory c.args.modules c.in-Err-compile_source.refusal c.requires.some c.requires.few
    (subst (λ (bs : List ℕ). IsNotCompiled bs c.in-Err-compile_source.refusal) (c.as_slice.ensures.value ∙ c.in-Ok.ensures) c.in-Err-compile_source.ensures.fault)
