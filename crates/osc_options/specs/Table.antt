-- The options that are recognised, and what their numbers say (RFC 7252 sections 5.4.6, 5.10 and 12.2, RFC 8613 section 4.1).
use Rattle.std.specs.Prelude.{ℕ, ◌/◌, ◌%◌, Bool, true, false, ◌==◌, List, [], ◌∷◌, Option, Some, None, find}
use Rattle.osc_options.specs.declared.table.Class.{Class}
use Rattle.osc_options.specs.declared.table.Class.TheVariants.{E, U}
use Rattle.osc_options.specs.declared.table.Rule.{Rule}

-- an odd number is critical
abbrev pub is_critical : ℕ → Bool
is_critical number = number % 2 == 1

-- a number in which the bit of value 2 is set is unsafe to forward
abbrev pub is_unsafe : ℕ → Bool
is_unsafe number = number / 2 % 2 == 1

-- number, shortest and longest value in bytes, whether it may repeat, and its class
abbrev pub rule : ℕ → ℕ → ℕ → Bool → Class → Rule
rule number shortest longest repeats class = record { number = number; shortest = shortest; longest = longest; repeats = repeats; class = class }

abbrev pub rules : List Rule
rules =
    rule 1 0 8 true E  -- If-Match
    ∷ rule 3 1 255 false U  -- Uri-Host
    ∷ rule 4 1 8 true E  -- ETag
    ∷ rule 5 0 0 false E  -- If-None-Match
    ∷ rule 7 0 2 false U  -- Uri-Port
    ∷ rule 8 0 255 true E  -- Location-Path
    ∷ rule 9 0 255 false U  -- OSCORE
    ∷ rule 11 0 255 true E  -- Uri-Path
    ∷ rule 12 0 2 false E  -- Content-Format
    ∷ rule 14 0 4 false E  -- Max-Age
    ∷ rule 15 0 255 true E  -- Uri-Query
    ∷ rule 17 0 2 false E  -- Accept
    ∷ rule 20 0 255 true E  -- Location-Query
    ∷ rule 35 1 1034 false U  -- Proxy-Uri
    ∷ rule 39 1 255 false U  -- Proxy-Scheme
    ∷ rule 60 0 4 false E  -- Size1
    ∷ []

abbrev pub rule_of : ℕ → Option Rule
rule_of number = find (λ r. r.number == number) rules

-- what isn't in the table is encrypted
abbrev pub class_of_rule : Option Rule → Class
class_of_rule None = E
class_of_rule (Some r) = r.class

abbrev pub class_of : ℕ → Class
class_of number = class_of_rule (rule_of number)
