-- What a worker leaves of its caller.
use Rattle.std.specs.Prelude.{◌≡◌}
use Rattle.dim_mutex.specs.Views.{DomainView, CallerView, IsCallerOf}

-- it is still a caller of the domain, with its number
pub record StaysCaller (d : DomainView) (c c' : CallerView) : Type 0 where
  pub caller : IsCallerOf d c'
  pub number : c'.known.number ≡ c.known.number
