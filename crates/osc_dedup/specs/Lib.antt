-- Definitions that the contracts cite.
pub mod Table
pub mod Keys
pub mod History
pub use History.{AreInOrder, IsThere, Note, table_of, unreplaced}
pub use Keys.{AllLiveUntil, AreGone, Key, entries_of, entry_of, is_other, nothing, others, same_key, stays, while_alive}
pub use Table.{Entry, alive, is_alive, is_of, looked, most_entries, staying, with_note}
