use Rattle.htl_names.proofs.Words.{names_in, AddsWith, using, use_in, drop, map}
use Rattle.htl_names.proofs.recorder.Recorder.mention_all.Given as goal

abbrev pub invariant-loop-k : goal.invariant-loop-k
invariant-loop-k l =
    AddsWith (using (map (use_in l.scope l.below) (names_in (drop l.k l.nodes)))) (using (map (use_in l.scope l.below) (names_in l.nodes))) l.initial.self l.self
