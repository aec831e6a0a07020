use Rattle.htl_refine.proofs.PlaceOrder.{places_ordered}
use Rattle.htl_refine.proofs.laws.places_ordered.Goals as goal

pub returns : goal.returns
returns c = places_ordered
