-- Worked examples: two root modules of periods 10 and 20, whose jobs a and b take 3 and 9 ticks.
use Rattle.std.specs.Prelude.{◌≡◌, ◌-◌, List, [], ◌∷◌, Some, None, refl, map}
use Rattle.htl_times.proofs.Words.{Dispatch, End, SInstr, two_periods}
use Rattle.htl_times.specs.{Busy.busy, Noting.greater_of, Response.worst_finish, Roots.root_of}

abbrev node_lists : List (List SInstr)
node_lists = (Dispatch 0 3 ∷ Dispatch 1 10 ∷ End ∷ []) ∷ (Dispatch 1 12 ∷ Dispatch 2 15 ∷ End ∷ []) ∷ []

-- a finishes 3 ticks after its first round begins, b 12, and a 5 ticks after its second round begins, at 10
finishes : map (worst_finish two_periods node_lists 0) (0 ∷ 1 ∷ 2 ∷ 3 ∷ []) ≡ Some 3 ∷ Some 12 ∷ Some 15 ∷ None ∷ []
finishes = refl

-- of the two finishes of a the latest
latest : greater_of (greater_of None 3 0) (15 - 10) 0 ≡ Some (record { ticks = 5; path = 0 })
latest = refl

-- twice 3 ticks, and 9
all_busy : busy two_periods 0 ≡ 15
all_busy = refl

own_root : map (root_of two_periods) (0 ∷ 1 ∷ []) ≡ Some 0 ∷ Some 1 ∷ []
own_root = refl
