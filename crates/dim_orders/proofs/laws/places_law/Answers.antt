use Rattle.dim_orders.proofs.PlaceLemmas.{places}
use Rattle.dim_orders.proofs.laws.places_law.Goals as goal

pub returns : goal.returns
returns c = places
