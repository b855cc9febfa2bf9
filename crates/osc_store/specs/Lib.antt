-- Definitions that the contracts cite.
pub mod Rows
pub mod Starting
pub mod Keeping
pub mod Causes
pub mod Opening
pub mod Belonging
pub mod Inner
pub use Belonging.{BelongTogether, EndTwoCommits, EndsCommit, GivesVersion, IsDamagedLog, IsForeignLog, IsHollow, IsLogged, IsMark, LacksLog, Refuses, RefusesPair, SaysOther, version_in}
pub use Causes.{Excuses, IsNamedBy, WhyNotKept, by_fault, is_of_disk, of_open, of_probe, told}
pub use Keeping.{HasTable, Keeps, MayHold, MayLeave, Writes}
pub use Opening.{Fails, Fault, Fits, HasSound, IsFullLeft, IsOnlyRead, IsOtherVersion, IsOver, IsOwnList, IsTooLong, Lists, NamesSize, Shows, WhyNotOpened, faults_left, faults_of, image_of, outcomes_of, tally_left}
pub use Rows.{Holds, changed, format_value, key_of, row_of, rows_of}
pub use Starting.{FindsTree, HoldsTree, IsEmpty, IsStore, IsUnmade, IsWhole, Leaves, ListsTable, ReadsAs, page, schema, statement}
