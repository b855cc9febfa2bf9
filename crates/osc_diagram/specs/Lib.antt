pub mod Columns
pub mod Keys
pub mod Scenes
pub mod Runs
pub mod Marks
pub mod Diagrams
pub mod Chart
pub use Diagrams.{IsDiagram, IsDiagramOf, Shows}
