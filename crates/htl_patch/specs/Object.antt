-- The object in which the refinement of a mode is a donor's.
use Rattle.std.specs.Prelude.{ℕ, List, Some, ◌≡◌}
use Rattle.htl_ecode.specs.Layout.{layout}
use Rattle.htl_model.specs.{Broken.Formed, FunctionTypes.FitPlaces}
use Rattle.htl_object.specs.declared.object.Object.{Object}
use Rattle.htl_patch.specs.{Joining.replacement_of, Joining.Joins, Patched.patched, Combined.Replacement}

-- the patched tables, their E code in the generated layout, and the schedules and the platform of the host
abbrev pub patched_object : Object → Replacement → Object
patched_object o g = record { tables = patched g; ecode = layout (patched g); schedules = o.schedules; platform = o.platform }

-- the refinement of the mode of these names in the donor can be taken over
pub record CanPatch (o donor : Object) (unit mode : List ℕ) (g : Replacement) : Type 0 where
  pub modes : replacement_of o.tables donor.tables unit mode ≡ Some g
  pub joins : Joins g
  pub formed : Formed (patched g)
  pub functions : FitPlaces (patched g)
