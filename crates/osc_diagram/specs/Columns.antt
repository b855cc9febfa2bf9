-- The nodes of a diagram.
use Rattle.std.specs.Prelude.{◌≡◌, List, [], ◌∷◌, ◌++◌, map}
use Rattle.osc_diagram.specs.declared.chart.chart.Column.{Column}
pub use Rattle.osc_script.specs.{address_of, name_of}
use Rattle.osc_script.specs.declared.node.NodeName.{NodeName}
use Rattle.osc_script.specs.declared.node.NodeName.TheVariants.{Client, Proxy, Server, Stranger}
use Rattle.osc_simulation.specs.Names.{Names}

-- clients, proxies, the server, the stranger
abbrev pub nodes_of : Names → List NodeName
nodes_of names = map Client names.clients ++ map Proxy names.proxies ++ Server ∷ Stranger ∷ []

-- a column for each of the nodes, by its name and where it is
pub record AreColumns (nodes : List NodeName) (columns : List Column) : Type 0 where
  pub names : map (λ column. column.name.now) columns ≡ map name_of nodes
  pub at : map (λ column. column.at) columns ≡ map address_of nodes
