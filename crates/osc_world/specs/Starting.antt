-- The parts of a world before its first event.
use Rattle.std.specs.Prelude.{◌≡◌}
use Rattle.osc_world.specs.Starts.{Beginning, first_nodes}
use Rattle.osc_world.specs.declared.start.Parts.{Parts}

-- the nodes with which the world begins, and the grants
pub record AreParts (start : Beginning) (parts : Parts) : Type 0 where
  pub minted : parts.minted.items ≡ start.minted
  pub nodes : parts.nodes ≡ first_nodes start
