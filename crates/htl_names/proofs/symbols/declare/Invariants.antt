use Rattle.std.proofs.Common.{◌≡◌, map, take}
use Rattle.htl_names.proofs.Words.{pair_of, AreApartTo}
use Rattle.htl_names.proofs.symbols.declare.Given as goal

abbrev pub invariant-loop-k : goal.invariant-loop-k
invariant-loop-k l =
    record {
      seen : l.symbols ≡ map pair_of (take l.k l.entries);
      apart : AreApartTo l.k l.entries;
    }
