-- Whether a database file and what stands beside it as its log belong together, as far as their bytes tell.
use Rattle.std.specs.Prelude.{◌≡◌, ◌≢◌, ◌⊎◌, ◌≤◌, ◌<◌, ◌+◌, ◌/◌, ◌^◌, ℕ, List, length, nat_lt, if◌then◌else◌}
use Rattle.sqlite_wal.specs.Format.{be32, page_number}
use Rattle.sqlite_wal.specs.PageSize.{IsPageSize}
use Rattle.sqlite_wal.specs.Recovery.{Image, IsLogFor, Replays, frame, frame_at}
use Rattle.osc_store.specs.declared.error.OpenStoreError.{OpenStoreError}
use Rattle.osc_store.specs.declared.error.OpenStoreError.TheVariants.{DamagedLog, EmptyFile, ForeignLog, NoLog}

-- the user version of a database file: bytes 60 to 63 of its header
abbrev pub version_in : List ℕ → ℕ
version_in db = if nat_lt (length db) 64 then 0 else be32 db 60

-- A user version that is a mark: changes may stand in the log alone. It begins with twelve bits that are the same in all marks, and goes on
-- with twenty of its own.
abbrev pub IsMark : ℕ → Type 0
IsMark version = version / 2 ^ 20 ≡ 0x05c

-- the user version of the commits in the log of a file with a mark, which go on with the same twenty bits
abbrev pub IsLogged : ℕ → Type 0
IsLogged version = version / 2 ^ 20 ≡ 0x05d

abbrev pub logged_for : ℕ → ℕ
logged_for mark = mark + 2 ^ 20

-- Of the frames that recovery takes from a log, the last of the database's first page gives it this user version: bytes 60 to 63 of the page,
-- which stands 24 bytes into the frame.
pub record GivesVersion (log : List ℕ) (version : ℕ) : Type 0 where
  pub size : ℕ
  pub sized : IsPageSize size
  pub frames : ℕ
  pub replays : Replays size log frames
  pub at : ℕ
  pub taken : at < frames
  pub first : page_number (frame size log at) ≡ 1
  pub last : (i : ℕ) → at < i → i < frames → page_number (frame size log i) ≢ 1
  pub is : version ≡ be32 log (frame_at size at + 84)

-- the file says that it holds the whole store, or that a log with other commits belongs to it
abbrev pub SaysOther : ℕ → ℕ → Type 0
SaysOther file version = (file ≡ 0) ⊎ (IsMark file × (version ≢ logged_for file))

-- the log is that of a marked file, and not of this one
pub record IsForeignLog (image : Image) : Type 0 where
  pub version : ℕ
  pub given : GivesVersion image.log version
  pub logged : IsLogged version
  pub other : SaysOther (version_in image.db) version

-- the file says that a log belongs to it, and there is none: what stands there is shorter than the 32 bytes of a log's header
pub record LacksLog (image : Image) : Type 0 where
  pub marked : IsMark (version_in image.db)
  pub missing : length image.log < 32

-- the file has nothing, or its first byte, beside a log with room for a frame, which has 24 bytes before its page
pub record IsHollow (image : Image) : Type 0 where
  pub empty : length image.db ≤ 1
  pub logged : 56 ≤ length image.log

-- The log has the whole of this frame, which has the two salts of the log's header and ends a commit: it says how many pages the database has
-- then.
pub record EndsCommit (size : ℕ) (log : List ℕ) (i : ℕ) : Type 0 where
  pub within : frame_at size i + (24 + size) ≤ length log
  pub salt : be32 log (frame_at size i + 8) ≡ be32 log 16
  pub other_salt : be32 log (frame_at size i + 12) ≡ be32 log 20
  pub commits : be32 log (frame_at size i + 4) ≢ 0

-- two commits end past this frame
pub record EndTwoCommits (size : ℕ) (log : List ℕ) (past : ℕ) : Type 0 where
  pub one : ℕ
  pub past_it : past < one
  pub first : EndsCommit size log one
  pub other : ℕ
  pub later : one < other
  pub second : EndsCommit size log other

-- The log is damaged before its end: two commits end past the first frame that recovery doesn't take. A power cut breaks the last commit alone.
pub record IsDamagedLog (log : List ℕ) : Type 0 where
  pub size : ℕ
  pub sized : IsPageSize size
  pub is_log : IsLogFor size log
  pub frames : ℕ
  pub replays : Replays size log frames
  pub two : EndTwoCommits size log frames

-- what a start takes for one store
pub record BelongTogether (image : Image) : Type 0 where
  pub log : ¬ LacksLog image
  pub file : ¬ IsHollow image
  pub own : ¬ IsForeignLog image

-- why the two aren't taken for one store, where `other` is said of each error that tells something else
abbrev pub RefusesPair : Image → Type 0 → OpenStoreError → Type 0
RefusesPair image other EmptyFile = IsHollow image
RefusesPair image other NoLog = LacksLog image
RefusesPair image other ForeignLog = IsForeignLog image
RefusesPair image other _ = other

-- the same, or why the log is refused
abbrev pub Refuses : Image → Type 0 → OpenStoreError → Type 0
Refuses image other EmptyFile = IsHollow image
Refuses image other NoLog = LacksLog image
Refuses image other ForeignLog = IsForeignLog image
Refuses image other DamagedLog = IsDamagedLog image.log
Refuses image other _ = other
