use Rattle.std.proofs.Common.{◌≡◌, ◌≤◌, ◌<◌, ◌-◌, ℕ, length, Some}
use Rattle.htl_script.proofs.Words.{Less, Greater, tables_of, name_of, compared, keyed, keyed_name}
use Rattle.htl_script.proofs.index.NameOrder.place.Given as goal

abbrev pub invariant-halves : goal.invariant-halves
invariant-halves l =
    (l.low ≤ l.high) × (l.high ≤ length l.numbers)
    × ((j : ℕ) → j < l.low → compared (keyed_name (name_of (tables_of l.parts) l.kind)) l.numbers (keyed l.text) j ≡ Some Less)
    × ((j : ℕ) → l.high ≤ j → j < length l.numbers → compared (keyed_name (name_of (tables_of l.parts) l.kind)) l.numbers (keyed l.text) j ≡ Some Greater)

abbrev pub decreases-halves : goal.decreases-halves
decreases-halves l = l.high - l.low
