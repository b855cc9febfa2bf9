-- Definitions that the contracts cite.
pub mod Bitmap
pub mod Window
unfoldable pub use Bitmap.{numbers_of}
pub use Bitmap.{is_marked, least_below}
unfoldable pub use Window.{width}
pub use Window.{AreAccepted, IsFresh, IsRising, IsWindow, IsWindowOf, is_fresh, is_near, put, window_of, with_accepted}
