-- What an accepted object has: its runs, and its rows.
use Rattle.std.specs.Prelude.{◌≡◌, ℕ, ◌<◌, List, length, slice_get, Option, Some, None}
use Rattle.htl_model.specs.{declared.event.Event.Event, declared.parts.Inv.Inv, Selections.root_modules}
use Rattle.htl_walk.specs.NodeWalks.{instrs_of}
use Rattle.htl_refine.specs.{Records.AreTookWithin, ServedFrames.IsFeasibleRun}
use Rattle.htl_object.specs.{Accepted.IsAccepted, declared.object.Object.Object}
use Rattle.htl_times.specs.{declared.greatest.Greatest.Greatest, Response.IsLatestOf}

-- runs of an accepted object with a root module, in which no job takes longer than its worst case, are such runs
abbrev pub AcceptedIsFeasible : Type 0
AcceptedIsFeasible = (o : Object) (es : List Event) → IsAccepted o → AreTookWithin o.tables es → 0 < length (root_modules o.tables) → IsFeasibleRun o.tables (instrs_of o.schedules) es

-- each invocation without a parent has a latest finish: a path runs its mode, and there its job finishes
abbrev pub EachRootHasRow : Type 0
EachRootHasRow = (o : Object) (i : ℕ) (x : Inv) (row : Option Greatest) → IsAccepted o → slice_get o.tables.invs i ≡ Some x → x.parent ≡ None → IsLatestOf o.tables (instrs_of o.schedules) i row → (l : Greatest) × (row ≡ Some l)
