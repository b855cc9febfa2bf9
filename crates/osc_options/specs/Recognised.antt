-- Which options of a message are recognised (RFC 7252 sections 5.4.1, 5.4.2, 5.4.3 and 5.4.5).
use Rattle.std.specs.Prelude.{ℕ, Bool, false, not, ◌&&◌, ◌||◌, ◌==◌, nat_le, if◌then◌else◌, List, [], ◌∷◌, length, Option, Some, None}
use Rattle.osc_coap.specs.{NumberAndValue}
use Rattle.osc_options.specs.declared.table.Rule.{Rule}
use Rattle.osc_options.specs.Table.{is_critical, is_unsafe, rule_of}

-- Its length is right, and it is no second copy of one that doesn't repeat. Options are in the order of their
-- numbers, so a copy is right after an option of its own number, here called `before`; no option of the table
-- has number 0, so that one is before the first.
abbrev pub fits : ℕ → NumberAndValue → Option Rule → Bool
fits before option None = false
fits before option (Some rule) =
    nat_le rule.shortest (length option.1) && nat_le (length option.1) rule.longest && (rule.repeats || not (option.0 == before))

abbrev pub is_recognised : ℕ → NumberAndValue → Bool
is_recognised before option = fits before option (rule_of option.0)

-- the options that are recognised
abbrev pub recognised : ℕ → List NumberAndValue → List NumberAndValue
recognised before [] = []
recognised before (option ∷ options) =
    if is_recognised before option then option ∷ recognised option.0 options else recognised option.0 options

-- the first critical option that is not, by its number
abbrev pub unrecognised_critical : ℕ → List NumberAndValue → Option ℕ
unrecognised_critical before [] = None
unrecognised_critical before (option ∷ options) =
    if is_critical option.0 && not (is_recognised before option) then Some option.0 else unrecognised_critical option.0 options

-- whether an option that isn't recognised is unsafe to forward; the options follow one of number `before`
abbrev pub has_unrecognised_unsafe : ℕ → List NumberAndValue → Bool
has_unrecognised_unsafe before [] = false
has_unrecognised_unsafe before (option ∷ options) =
    (is_unsafe option.0 && not (is_recognised before option)) || has_unrecognised_unsafe option.0 options
