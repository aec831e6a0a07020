-- What a reader of events has read behind its call, where no event was given yet.
use Rattle.std.proofs.Common.{◌≡◌, ◌≤◌, ℕ, List, [], length, Option, Ok, refl, sym, subst}
use Rattle.htl_script.proofs.{Words.prepend_known-nil, Words.Tables, Words.Past, Words.Ahead, Words.LinesAhead, Words.ahead_of, Words.IsLinePlace, Words.ReadsOn, Words.Gives, Words.IsSame, Words.LosesPiece, Streaming.gives_on}
use Rattle.htl_script.proofs.Taken.{taken_none, taken_on_line}

pub record IsSoFar (t : Tables) (first now : Ahead) (known rest : Option (List ℕ)) : Type 0 where
  pub gives : Gives first.ahead.over now.ahead.over known rest (IsSame t first now)
  pub takes : LosesPiece {T = Unit {0}} {E = Unit {0}} first now known rest (Ok tt)

pub so_far_none : (t : Tables) (first : Ahead) (known : Option (List ℕ)) → IsSoFar t first first known known
so_far_none t first known =
    record {
      gives = record { front = []; lost = prepend_known-nil known; ends = λ was over. was over; kept = λ over. (refl, over); fact = λ later ok. refl };
      takes = taken_none first known tt;
    }

-- the reader of lines reads on
pub so_far_on : (t : Tables) (first now : Ahead) (past : Past) (a b : LinesAhead) (known rest left : Option (List ℕ)) → ahead_of a past ≡ now → IsSoFar t first now known rest → ReadsOn a b rest left → IsLinePlace b.place
    → length b.ahead.bytes ≤ 256 → IsSoFar t first (ahead_of b past) known left
so_far_on t first now past a b known rest left is was reads at few =
    let here = subst (λ (z : Ahead). IsSoFar t first z known rest) (sym is) was in
    record { gives = gives_on t first past a b known rest left here.gives reads; takes = taken_on_line first past a b known rest left tt here.takes reads at few }
