-- Accepted objects.
use Rattle.htl_ecode.specs.Spelling.{Spells}
use Rattle.htl_model.specs.{Broken.Formed, FunctionTypes.FitPlaces}
use Rattle.htl_object.specs.{Ranges.IsInRange, declared.object.Object.Object}
use Rattle.htl_walk.specs.{Feasible.AreFeasible, NodeWalks.instrs_of}

-- an object in range that breaks no form rule
pub record IsFormed (o : Object) : Type 0 where
  pub ranges : IsInRange o
  pub formed : Formed o.tables

-- whose functions are verified code of the types of their places, and whose E code spells the tables
pub record IsSpelled (o : Object) : Type 0 where
  pub formed : IsFormed o
  pub functions : FitPlaces o.tables
  pub code : Spells o.tables o.ecode

-- and whose schedules every path accepts
pub record IsAccepted (o : Object) : Type 0 where
  pub spelled : IsSpelled o
  pub feasible : AreFeasible o.tables (instrs_of o.schedules)
