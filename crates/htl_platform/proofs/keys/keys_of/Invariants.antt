use Rattle.htl_platform.proofs.Words.{take, Holds, keys_of}
use Rattle.htl_platform.proofs.keys.keys_of.Given as goal

abbrev pub invariant-loop-k : goal.invariant-loop-k
invariant-loop-k l = Holds l.keys.keys (keys_of l.fn.modules (take l.k l.fn.tasks))
