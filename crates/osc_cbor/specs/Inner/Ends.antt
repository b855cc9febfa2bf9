-- What a pass over the bytes gives: where an item ends, or the fault of its reading. No public contract rests on this.
use Rattle.std.specs.Prelude.{◌≡◌, ◌<◌, ◌-◌, ◌++◌, List, get_or, ℕ, Result, Ok, Err}
use Rattle.osc_cbor.specs.Data.{Pairs, no_pairs, pair_count}
use Rattle.osc_cbor.specs.Reading.{Found, pairs_from}
use Rattle.osc_cbor.specs.Spelling.{SpellsPairs}
use Rattle.osc_cbor.specs.declared.error.ReadError.{ReadError}

abbrev pub Ends : {X A : Type 0} → (X → List ℕ) → Result X ReadError → Result (A × List ℕ) ReadError → Type 0
Ends {A = A} now (Ok x) read = (d : A) × (read ≡ Ok (d, now x))
Ends now (Err e) read = read ≡ Err e

-- `index` pairs were passed, and those that are left are read as all are
pub record Passed (inner : List ℕ → Found) (count index : ℕ) (bytes rest : List ℕ) : Type 0 where
  pub before : Pairs
  pub front : List ℕ
  pub spelled : SpellsPairs front before
  pub counted : pair_count before ≡ index
  pub whole : bytes ≡ front ++ rest
  pub fits : (i : ℕ) → get_or rest i 0 < 256
  pub left : pairs_from inner before (count - index) rest ≡ pairs_from inner no_pairs count bytes
