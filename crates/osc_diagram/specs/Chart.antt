pub mod Chart
pub mod Drawing
pub mod Capture
pub mod Label
pub mod Text
pub mod Keys
pub mod Picture
pub use Chart.{column_of, is_met}
pub use Label.{label}
pub use Text.{chart_text}
pub use Capture.{capture}
pub use Keys.{key_line}
pub use Picture.{picture}
