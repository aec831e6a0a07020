use Rattle.std.proofs.Common.{refl, rules}
use Rattle.htl_platform.proofs.KeyLaws.{Holds-step, keys-next}
use Rattle.htl_platform.proofs.keys.keys_of.Goals as goal

pub loop-k-preserved : goal.loop-k-preserved
loop-k-preserved c =
    Holds-step _ (λ a b. refl) _ c.loop-k.keys.keys c.in_ok-key_of.field-0 _ _ c.in_ok-insert.ensures.keys c.loop-k.invariant
    (keys-next c.args.modules.now c.args.tasks.now c.loop-k.k c.index-tasks-k.result c.in_ok-key_of.field-0.items c.index-tasks-k.is (search rules) c.in_ok-key_of.ensures.bytes)
