-- What a drawer answers.
use Rattle.std.proofs.Common.{ℕ, ◌≤◌, List, length, Ok, Err, sym, subst}
use Rattle.std.specs.{declared.alloc.Global.Global, declared.result.Result.Result, declared.vec.Vec.Vec}
use Rattle.htl_edge.specs.{Entries.IsCopy, Fakes.DrawerState, Fakes.Finds, Fakes.IsDrawerFetch, declared.shelf.ShelfFault.ShelfFault}
use Rattle.htl_edge.specs.declared.shelf.ShelfFault.TheVariants.{Failed, TooLong, Memory}

-- a copy of the bytes that were found is what a fetch answers
pub IsDrawerFetch-copy : (old : DrawerState) (name bytes : List ℕ) (limit : ℕ) (result : Result (Vec ℕ Global) ShelfFault)
    → Finds old name bytes → IsCopy bytes limit result → IsDrawerFetch old name limit result
IsDrawerFetch-copy old name bytes limit (Ok copied) found h =
    subst (λ bs. Finds old name bs × (length bs ≤ limit)) (sym h.0) (found, h.1)
IsDrawerFetch-copy old name bytes limit (Err (TooLong seen)) found h = (bytes, found, h.0, h.1)
IsDrawerFetch-copy old name bytes limit (Err Failed) found h = absurd h
IsDrawerFetch-copy old name bytes limit (Err Memory) found h = (bytes, found, h)
