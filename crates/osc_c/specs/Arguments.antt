-- What numbers and bytes stand for, as arguments.
use Rattle.std.specs.Prelude.{◌≡◌, ℕ, ◌⊎◌, ℤ, ◌≤ℤ◌, pos, negsuc, Option, Some, None, MatchOption}
use Rattle.osc_c.specs.declared.calls.outcome.Outcome.{Outcome}
use Rattle.osc_c.specs.declared.calls.outcome.Outcome.TheVariants.{BadArgument, Done, NoMemory, Nothing}

-- a Content-Format by its number, and -1 for none
abbrev pub format_number : Option ℕ → ℤ
format_number None = negsuc 0
format_number (Some format) = pos format

abbrev pub IsFormat : ℤ → Option ℕ → Type 0
IsFormat number format = number ≡ format_number format

abbrev pub IsFormatNumber : ℤ → Type 0
IsFormatNumber number = (negsuc 0 ≤ℤ number) × (number ≤ℤ pos 65535)

-- The arguments don't fit, whatever memory there is; or they do, and there was no memory.
abbrev pub IsUnfit : Type 0 → Outcome → Type 0
IsUnfit Fit outcome = ((outcome ≡ BadArgument) × ¬ Fit) ⊎ ((outcome ≡ NoMemory) × Fit)

-- a number is told, where there is one
abbrev pub Tells : Option ℕ → ℕ → Outcome → ℕ → Type 0
Tells number old outcome new = MatchOption number ((outcome ≡ Nothing) × (new ≡ old)) (λ number. (outcome ≡ Done) × (new ≡ number))
