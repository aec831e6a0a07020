use Rattle.std.proofs.Common.{◌≡◌, [], ◌-◌}
use Rattle.htl_object.specs.Reading.{items_at}
use Rattle.htl_object.proofs.items.noted_items.Given as goal

-- what is left to read gives what all gives, and what is noted is that of the items found
abbrev pub invariant-loop : goal.invariant-loop
invariant-loop g l =
    record {
      read : items_at (g.T.NotedItem.item_at l.around) (l.count - l.counter) l.found.items l.cursor ≡ items_at (g.T.NotedItem.item_at l.around) l.count [] l.fn.cursor;
      noted : g.T.NotedItem.notes l.noted l.found.items;
    }
