-- How long: what the options spell that bound a time.
use Rattle.std.specs.Prelude.{◌≡◌, ◌==◌, ◌<◌, ◌^◌, ◌-◌, ◌*◌, ◌+◌, ◌++◌, ◌∷◌, [], ℕ, List, Option, Some, None, if◌then◌else◌, min}
use Rattle.osc_script.specs.{SpellsNumber}
use Rattle.osc_words.specs.declared.times.Patience.{Patience}
use Rattle.osc_words.specs.declared.token_words.Expiry.{Expiry}
use Rattle.osc_words.specs.declared.token_words.Expiry.TheVariants.{At, After}

-- how many seconds the unit of this letter is: s, m, h or d
abbrev pub seconds_in : ℕ → Option ℕ
seconds_in letter =
    if letter == 115 then Some 1
    else if letter == 109 then Some 60
    else if letter == 104 then Some 3600
    else if letter == 100 then Some 86400
    else None

-- a number in decimal digits, and the letter of its unit after it: that number of seconds, of 64 bits
pub record SpellsTime (text : List ℕ) (seconds : ℕ) : Type 0 where
  pub digits : List ℕ
  pub letter : ℕ
  pub spelled : text ≡ digits ++ letter ∷ []
  pub unit : ℕ
  pub is_unit : seconds_in letter ≡ Some unit
  pub count : ℕ
  pub number : SpellsNumber digits count
  pub value : seconds ≡ count * unit
  pub fits : seconds < 2 ^ 64

-- when a token is over: from a second on, or a time after it is issued, or never
abbrev pub IsExpiry : Option (List ℕ) → Option (List ℕ) → Option Expiry → Type 0
IsExpiry (Some text) None (Some (At second)) = SpellsNumber text second
IsExpiry None (Some text) (Some (After seconds)) = SpellsTime text seconds
IsExpiry None None None = Unit {0}
IsExpiry second time expiry = ⊥

-- the second from which on a token is over that is issued at this second
abbrev pub second_of : ℕ → Expiry → ℕ
second_of now (At second) = second
second_of now (After seconds) = min (now + seconds) (2 ^ 64 - 1)

-- a number of seconds: that number of milliseconds, or as many as a number of 64 bits counts
pub record SpellsTimeout (text : List ℕ) (millis : ℕ) : Type 0 where
  pub seconds : ℕ
  pub number : SpellsNumber text seconds
  pub value : millis ≡ min (seconds * 1000) (2 ^ 64 - 1)

-- how long a client waits: a number of turns, however long they take, or a number of seconds, however many turns that is
abbrev pub IsPatience : Option (List ℕ) → Option (List ℕ) → Patience → Type 0
IsPatience (Some text) None patience = SpellsNumber text patience.turns × (patience.millis ≡ 2 ^ 64 - 1)
IsPatience None (Some text) patience = SpellsTimeout text patience.millis × (patience.turns ≡ 2 ^ 64 - 1)
IsPatience number seconds patience = ⊥

-- a number of seconds, where there is a text; where there is none, without an end
abbrev pub SpellsPatience : Option (List ℕ) → Patience → Type 0
SpellsPatience (Some text) patience = SpellsTimeout text patience.millis × (patience.turns ≡ 2 ^ 64 - 1)
SpellsPatience None patience = (patience.turns ≡ 2 ^ 64 - 1) × (patience.millis ≡ 2 ^ 64 - 1)
