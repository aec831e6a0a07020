-- What holds of the runs of a patched object.
use Rattle.std.specs.Prelude.{ℕ, List}
use Rattle.htl_model.specs.declared.event.Event.{Event}
use Rattle.htl_object.specs.{Accepted.IsAccepted, Ranges.IsInRange, declared.object.Object.Object}
use Rattle.htl_patch.specs.{Combined.Replacement, Object.CanPatch}
use Rattle.htl_exchange.specs.Exchange.{AreRootsUnreached, ShowsTheSame, TakesTheSamePath}

-- the law of the exchange: what neither refinement reaches shows the same at each instant, whatever the sensors show
abbrev pub UnreachedShowsTheSame : Type 0
UnreachedShowsTheSame =
    (o donor : Object) (unit mode : List ℕ) (g : Replacement) → IsAccepted o → IsInRange donor → CanPatch o donor unit mode g
    → (es : List Event) (now : ℕ) → ShowsTheSame o.tables g es now

-- where neither refinement reaches the mode of a root module, each frame takes the path that it took, with the same root jobs
abbrev pub UnreachedTakesTheSamePaths : Type 0
UnreachedTakesTheSamePaths =
    (o donor : Object) (unit mode : List ℕ) (g : Replacement) → IsAccepted o → IsInRange donor → CanPatch o donor unit mode g
    → AreRootsUnreached o.tables g → (es : List Event) (start : ℕ) → TakesTheSamePath o.tables g es start
