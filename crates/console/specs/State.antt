-- What a console holds, as its contracts see it.
use Rattle.std.specs.Prelude.{List}
use Rattle.lanes.specs.declared.Lane.{Lane}

-- a method of the type M, and ten lanes
pub record State (M : Type 0) : Type 0 where
  pub method : M
  pub lanes : List Lane
