-- What follows of the text of latest finishes.
use Rattle.std.specs.Prelude.{ℕ, ◌≡◌, List, slice_get, get_or, Option, Some, None}
use Rattle.htl_model.specs.declared.parts.Inv.{Inv}
use Rattle.htl_object.specs.{Accepted.IsAccepted, declared.object.Object.Object}
use Rattle.htl_times.specs.{Laws.IsInWindow, declared.greatest.Greatest.Greatest}
use Rattle.htl_times_top.specs.{Answers.AreTimes, Texts.times_text}

-- an object has one such text
abbrev pub OneText : Type 0
OneText =
    (o : Object) (rows others : List (Option Greatest)) (busiest another : Option Greatest) → AreTimes o rows busiest → AreTimes o others another
    → times_text o.tables rows busiest ≡ times_text o.tables others another

-- of an accepted object each latest finish lies behind the release and by the window's end, so that what is told as left is what is
abbrev pub LeftIsTrue : Type 0
LeftIsTrue =
    (o : Object) (rows : List (Option Greatest)) (busiest : Option Greatest) (i : ℕ) (x : Inv) (l : Greatest) → IsAccepted o → AreTimes o rows busiest
    → slice_get o.tables.invs i ≡ Some x → get_or rows i None ≡ Some l → IsInWindow o.tables x l
