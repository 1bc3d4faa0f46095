-- What contracts see of a frame.
use Rattle.std.specs.Prelude.{ℕ, List}

pub record FrameValue : Type 0 where
  pub from : ℕ
  pub to : ℕ
  pub tops : List ℕ
  pub bottom : ℕ
