-- How OSCORE splits a message in two, and makes one of the two again (RFC 8613 sections 4.1 and 5.3).
use Rattle.std.specs.Prelude.{ℕ, ◌≤◌, Bool, true, false, not, ◌==◌, nat_lt, if◌then◌else◌, List, [], ◌∷◌, filter}
use Rattle.std.specs.List.{list_any}
use Rattle.osc_coap.specs.{NumberAndValue, payload_of}
use Rattle.osc_coap.specs.Message.{Message}
use Rattle.osc_coap.specs.Plaintext.{Plaintext}
use Rattle.osc_options.specs.declared.table.Class.{Class}
use Rattle.osc_options.specs.declared.table.Class.TheVariants.{E, U}
use Rattle.osc_options.specs.Numbers.{oscore}
use Rattle.osc_options.specs.Table.{class_of}

-- ---- the options of a message, by class (section 4.1)

abbrev pub same_class : Class → Class → Bool
same_class E E = true
same_class E U = false
same_class U E = false
same_class U U = true

-- the options of one class, in their order
abbrev pub of_class : Class → List NumberAndValue → List NumberAndValue
of_class class options = filter (λ option. same_class class (class_of option.0)) options

-- the options that stay outside: those of class U; OSCORE's own, option 9, is written again each time
abbrev pub outer_options : List NumberAndValue → List NumberAndValue
outer_options options = filter (λ option. not (option.0 == oscore)) (of_class U options)

-- the options that are encrypted
abbrev pub inner_options : List NumberAndValue → List NumberAndValue
inner_options options = of_class E options

-- ---- two lists of options in one

-- an option put after those of no larger number
abbrev pub insert : NumberAndValue → List NumberAndValue → List NumberAndValue
insert option [] = option ∷ []
insert option (first ∷ options) = if nat_lt option.0 first.0 then option ∷ first ∷ options else first ∷ insert option options

-- the options of two lists in the order of their numbers: each inner one is put after the others of no larger number, so
-- that of each number the outer options come first and then the inner ones (the law `merged_options`)
abbrev pub merge : List NumberAndValue → List NumberAndValue → List NumberAndValue
merge outer [] = outer
merge outer (option ∷ inner) = merge (insert option outer) inner

-- the options of one number, in their order
abbrev pub of_number : ℕ → List NumberAndValue → List NumberAndValue
of_number number options = filter (λ option. option.0 == number) options

-- numbers that don't fall, from this one on
abbrev pub AreInOrder : ℕ → List NumberAndValue → Type 0
AreInOrder before [] = Unit {0}
AreInOrder before (option ∷ options) = (before ≤ option.0) × AreInOrder option.0 options

-- ---- messages

-- what is encrypted of a message (section 5.3)
abbrev pub plaintext_of : Message → Plaintext
plaintext_of message = record { code = message.code; options = inner_options message.options; payload = message.payload }

-- the message that is sent in place of one (section 4.1): another code, option 9 with this value beside the options that
-- stay outside, and what was encrypted as its payload
abbrev pub protected : Message → ℕ → List ℕ → List ℕ → Message
protected message code value payload = record message {
  code = code;
  options = merge (outer_options message.options) ((oscore, value) ∷ []);
  payload = payload_of payload;
}

-- the message that results from a protected one and the plaintext in it: what is of class E outside, and what is of class U
-- inside, is left out
abbrev pub unprotected : Message → Plaintext → Message
unprotected outer inner = record outer {
  code = inner.code;
  options = merge (outer_options outer.options) (inner_options inner.options);
  payload = inner.payload;
}

-- whether OSCORE's own option is among these
abbrev pub has_oscore : List NumberAndValue → Bool
has_oscore options = list_any (λ option. option.0 == oscore) options
