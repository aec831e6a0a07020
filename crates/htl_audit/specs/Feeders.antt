-- Who feeds whom, by invocation.
use Rattle.std.specs.Prelude.{ℕ, suc, Bool, true, cond, not, ◌&&◌, ◌||◌, List, [], ◌∷◌, length}
use Rattle.htl_model.specs.{declared.parts.Inv.Inv, Lists.list_to, PortOrder.feeds, Tables.Tables}
use Rattle.htl_audit.specs.Keeping.{Roster, has_job, is_full}

-- those of the invocations from number n on that feed invocation i
abbrev pub feeders_from : Tables → ℕ → ℕ → List Inv → List ℕ
feeders_from t i n [] = []
feeders_from t i n (x ∷ xs) = let rest = feeders_from t i (suc n) xs in cond (feeds t n i) (n ∷ rest) rest

abbrev pub feeders_of : Tables → ℕ → List ℕ
feeders_of t i = feeders_from t i 0 t.invs

abbrev pub all_feeders : Tables → List (List ℕ)
all_feeders t = list_to (feeders_of t) (length t.invs)

-- the job of an invocation, if it has one, has all its ticks
abbrev pub is_done_at : Roster → List ℕ → ℕ → Bool
is_done_at o sums n = not (has_job o n) || is_full o sums n

-- so it is of each of these
abbrev pub are_done : Roster → List ℕ → List ℕ → Bool
are_done o sums [] = true
are_done o sums (n ∷ ns) = is_done_at o sums n && are_done o sums ns
