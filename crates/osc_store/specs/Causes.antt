-- Why a call fails.
use Rattle.std.specs.Prelude.{◌≡◌, ℕ, ◌+◌, ◌^◌, ◌<◌, Bool, IsTrue, true, false, List, length, Option, Some, None, ⊤}
use Rattle.osc_model.specs.declared.resource.Resource.{Resource}
use Rattle.sqlite_trees.specs.declared.error.StoreError.{StoreError}
use Rattle.sqlite_trees.specs.declared.error.StoreError.TheVariants as call
use Rattle.sqlite_store.specs.declared.error.OpenError.{OpenError as FileError}
use Rattle.sqlite_store.specs.declared.error.OpenError.TheVariants as file
use Rattle.sqlite_wal.specs.declared.error.Error.{Error as LogError}
use Rattle.sqlite_wal.specs.declared.error.Error.TheVariants as log
use Rattle.osc_store.specs.declared.error.KeepError.{KeepError}
use Rattle.osc_store.specs.declared.error.KeepError.TheVariants as keeping
use Rattle.osc_store.specs.declared.error.OpenStoreError.{OpenStoreError}
use Rattle.osc_store.specs.declared.error.OpenStoreError.TheVariants as opening

abbrev pub told : StoreError → KeepError
told call.OutOfMemory = keeping.OutOfMemory
told call.Io = keeping.Failed
told call.Corrupt = keeping.Damaged
told call.Full = keeping.Full
told call.Broken = keeping.Closed
told call.Unstorable = keeping.TooLong

abbrev pub of_open : FileError → OpenStoreError
of_open file.OutOfMemory = opening.OutOfMemory
of_open file.Io = opening.Failed
of_open file.Full = opening.Full
of_open file.Refused = opening.Damaged

abbrev pub of_probe : LogError → OpenStoreError
of_probe log.OutOfMemory = opening.OutOfMemory
of_probe (log.Io e) = opening.Failed
of_probe log.Full = opening.Full
of_probe _ = opening.Damaged

-- why a call of an open store may fail, where `fault` says that the disk failed during it or was full
abbrev pub Excuses : Type 0 → Type 0 → StoreError → Type 0
Excuses fault long call.OutOfMemory = ⊤
Excuses fault long call.Io = fault
Excuses fault long call.Corrupt = fault
Excuses fault long call.Full = fault
Excuses fault long call.Broken = ⊥
Excuses fault long call.Unstorable = long

-- Why a change may not be kept, where `fault` says that the disk failed meanwhile or was full. Memory that is refused has no cause: nothing
-- tells that there was none.
abbrev pub WhyNotKept : Type 0 → Type 0 → KeepError → Type 0
WhyNotKept fault long keeping.OutOfMemory = ⊤
WhyNotKept fault long keeping.Full = fault
WhyNotKept fault long keeping.Failed = fault
WhyNotKept fault long keeping.Damaged = fault
WhyNotKept fault long keeping.Closed = ⊥
WhyNotKept fault long keeping.TooLong = long

-- the three that are told of a disk
abbrev pub is_of_disk : KeepError → Bool
is_of_disk keeping.Full = true
is_of_disk keeping.Failed = true
is_of_disk keeping.Damaged = true
is_of_disk _ = false

-- A failure of the disk is told by its name, the one that the store last answered where it keeps that.
abbrev pub IsNamedBy : Option StoreError → KeepError → Type 0
IsNamedBy blamed e = (kind : StoreError) → blamed ≡ Some kind → IsTrue (is_of_disk e) → e ≡ told kind

-- a row has at most a billion bytes, 18 of them for each of its three columns
abbrev pub IsTooLong : List ℕ → Option Resource → Type 0
IsTooLong path None = ⊥
IsTooLong path (Some resource) = 10 ^ 9 < 54 + length path + length resource.payload

-- the error of a store that was just opened, where the files say later which failure of the disk it was
abbrev pub of_call : StoreError → OpenStoreError
of_call call.OutOfMemory = opening.OutOfMemory
of_call _ = opening.Failed

-- a failure of the disk, by its name
abbrev pub by_fault : StoreError → OpenStoreError → OpenStoreError
by_fault call.Corrupt opening.Failed = opening.Damaged
by_fault call.Full opening.Failed = opening.Full
by_fault kind e = e

-- what is told of the content of the files
abbrev pub is_of_content : OpenStoreError → Bool
is_of_content opening.NoStore = true
is_of_content opening.OtherVersion = true
is_of_content opening.Damaged = true
is_of_content opening.Full = true
is_of_content opening.EmptyFile = true
is_of_content opening.NoLog = true
is_of_content opening.ForeignLog = true
is_of_content opening.DamagedLog = true
is_of_content _ = false

-- the files aren't taken for one store
abbrev pub is_refusal : OpenStoreError → Bool
is_refusal opening.EmptyFile = true
is_refusal opening.NoLog = true
is_refusal opening.ForeignLog = true
is_refusal opening.DamagedLog = true
is_refusal _ = false
