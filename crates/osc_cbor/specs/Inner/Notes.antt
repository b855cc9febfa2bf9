-- What a pass over the bytes notes: spellings with the shortest heads, and where the keys of maps are among them. No public
-- contract rests on this.
use Rattle.std.specs.Prelude.{◌≡◌, ℕ, ◌+◌, ◌*◌, ◌≤◌, List, [], ◌∷◌, ◌++◌, length, get_or, take, drop, map, count_by, Result, Ok, Err}
use Rattle.std.specs.Str.{bytes_eq}
use Rattle.osc_cbor.specs.Data.{DataItem, Pairs, no_pairs, pair}
use Rattle.osc_cbor.specs.Spelling.{spelling, pairs_spelling}
use Rattle.osc_cbor.specs.declared.error.ReadError.{ReadError}
use Rattle.osc_cbor.specs.declared.error.ReadError.TheVariants.{DuplicateKey}
use Rattle.osc_cbor.specs.declared.keys.Key.{Key}
use Rattle.osc_cbor.specs.declared.keys.Stop.{Stop}
use Rattle.osc_cbor.specs.declared.keys.Stop.TheVariants.{Fault, Unsure}
use Rattle.osc_cbor.specs.declared.keys.KeyOrder.{KeyOrder}
use Rattle.osc_cbor.specs.declared.keys.KeyOrder.TheVariants.{Apart, Repeated, Unordered}

-- ---- what is noted

-- bytes were noted after those before, or there was no room
abbrev pub Noted : {X : Type 0} → List ℕ → List ℕ → List ℕ → Result X Stop → Type 0
Noted old bytes new (Ok x) = new ≡ old ++ bytes
Noted old bytes new (Err e) = (e ≡ Unsure) × (new ≡ old)

-- a key was noted that is from an index to the end of what is spelled
abbrev pub KeyNoted : {X : Type 0} → ℕ → List ℕ → List Key → List Key → Result X Stop → Type 0
KeyNoted start spelled old new (Ok x) = (key : Key) × (new ≡ old ++ key ∷ []) × (key.start ≡ start) × (key.end ≡ length spelled)
KeyNoted start spelled old new (Err e) = (e ≡ Unsure) × (new ≡ old)

-- some bytes more
abbrev pub Grows : List ℕ → List ℕ → Type 0
Grows old new = (more : List ℕ) × (new ≡ old ++ more)

-- ---- keys

-- the bytes of a key
abbrev pub piece : List ℕ → Key → List ℕ
piece spelled key = drop key.start (take key.end spelled)

abbrev pub pieces : List ℕ → List Key → List (List ℕ)
pieces spelled keys = map (piece spelled) keys

-- the first four bytes as a number, as if zeros followed
abbrev pub first_four : List ℕ → ℕ
first_four bytes = 16777216 * get_or bytes 0 0 + 65536 * get_or bytes 1 0 + 256 * get_or bytes 2 0 + get_or bytes 3 0

-- how often these bytes are among others
abbrev pub times : List ℕ → List (List ℕ) → ℕ
times x rows = count_by (bytes_eq x) rows

abbrev pub AreApart : List (List ℕ) → Type 0
AreApart rows = (x : List ℕ) → times x rows ≤ 1

abbrev pub Repeats : List (List ℕ) → Type 0
Repeats rows = (x : List ℕ) × (2 ≤ times x rows)

abbrev pub Says : KeyOrder → List (List ℕ) → Type 0
Says Apart rows = AreApart rows
Says Repeated rows = Repeats rows
Says Unordered rows = Unit {0}

-- what the keys so far say of a map: one came twice, or all are apart and this is claimed
pub data Judged {X : Type 0} (rows : List (List ℕ)) (read : Result X ReadError) (Claim : Type 0) : Type 0 where
  again : Repeats rows → read ≡ Err DuplicateKey → Judged rows read Claim
  apart : AreApart rows → Claim → Judged rows read Claim

abbrev pub key_spellings : Pairs → List (List ℕ)
key_spellings no_pairs = []
key_spellings (pair k v ps) = spelling k ∷ key_spellings ps

-- ---- what a pass gives

-- where something ends, with its spelling noted; or its fault; or nothing, without room
abbrev pub Passes : {X A : Type 0} → (A → List ℕ) → (X → List ℕ) → List ℕ → List ℕ → Result X Stop → Result (A × List ℕ) ReadError → Type 0
Passes {A = A} spelled now old new (Ok x) read = (d : A) × (read ≡ Ok (d, now x)) × (new ≡ old ++ spelled d)
Passes spelled now old new (Err (Fault e)) read = read ≡ Err e
Passes spelled now old new (Err Unsure) read = Unit {0}

-- the same of what follows a head, whose spelling begins with the head
abbrev pub PassesBehind : {X : Type 0} → List ℕ → (X → List ℕ) → List ℕ → List ℕ → Result X Stop → Result (DataItem × List ℕ) ReadError → Type 0
PassesBehind head now old new (Ok x) read = (d : DataItem) × (read ≡ Ok (d, now x)) × (part : List ℕ) × (new ≡ old ++ part) × (head ++ part ≡ spelling d)
PassesBehind head now old new (Err (Fault e)) read = read ≡ Err e
PassesBehind head now old new (Err Unsure) read = Unit {0}

-- the same of pairs whose keys are noted and not yet compared
abbrev pub PassesPairs : {X : Type 0} → List (List ℕ) → (X → List ℕ) → List ℕ → List ℕ → Result X Stop → Result (Pairs × List ℕ) ReadError → Type 0
PassesPairs rows now old new result read = Judged rows read (Passes pairs_spelling now old new result read)
