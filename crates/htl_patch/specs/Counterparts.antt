-- The invocations of the host's mode that stand for those of the donor's, by the names of tasks.
use Rattle.std.specs.Prelude.{ℕ, cond, List, length, Option, None}
use Rattle.htl_model.specs.Lists.{list_to}
use Rattle.htl_patch.specs.{Joining.first, Combined.Replacement, Combined.invs_named, Combined.invoked_name, Combined.belongs_to_mode}

-- the host's invocation that stands for invocation p of the donor, where that is one of the donor's mode
abbrev pub counterpart : Replacement → ℕ → Option ℕ
counterpart g p = cond (belongs_to_mode g.donor g.replacing_mode p) (first (invs_named g.host g.patched_mode (invoked_name g.donor p))) None

-- for each invocation of the donor
abbrev pub all_counterparts : Replacement → List (Option ℕ)
all_counterparts g = list_to (counterpart g) (length g.donor.invs)
