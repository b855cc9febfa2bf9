-- Words without a fault enter a subcommand of the program.
use Rattle.std.proofs.Common.{◌≡◌, ◌∙◌, refl, ap, sym, List, [], ◌∷◌, Bool, true, false, not, ◌&&◌, ◌||◌, Option, Some, None, is_some, inl, inr, codes}
use Rattle.std.specs.Prelude.{find, option_map, option_and_then}
use Rattle.std.specs.List.{list_all, list_any}
use Rattle.std.specs.Str.{bytes_eq}
use Rattle.std.proofs.lemmas.Bool.{and_parts, cases_Bool}
use Rattle.std.proofs.lemmas.Slice.Eq.{bytes_eq-Decides}
use Rattle.clap.specs.Words.{Row, Shape, Text, built, fault_of, subcommand_of}
use Rattle.clap.specs.Kinds.{Kinds, check_kinds, or_else}
use Rattle.clap.specs.Faults.{check_fault, defaults_fault, entered_fault, level_fault, settle_fault, walk_fault}
use Rattle.clap.specs.Simple.{label_of, rows_at, argument_words, names_of}
use Rattle.clap.specs.Walk.{Held, Names, answers_to, finished, nothing_held, settled, stop_after, walk, walk_from}
use Rattle.osc_words.specs.{program}
use Rattle.osc_words.specs.Inner.Reading.{IsKnown, is_subcommand}
use Rattle.osc_words.proofs.NoHelp.{is_no_help, walk_goes_on}

last_nil : (a b c d e : Kinds) → or_else a (or_else b (or_else c (or_else d e))) ≡ [] → (a ≡ []) × (e ≡ [])
last_nil [] [] [] [] e h = (refl, h)
last_nil [] [] [] (k ∷ ks) e h = cc
last_nil [] [] (k ∷ ks) d e h = cc
last_nil [] (k ∷ ks) c d e h = cc
last_nil (k ∷ ks) b c d e h = cc

has_subcommand : (help argument has : Bool) → check_kinds help (not has && true) argument ≡ [] → has ≡ true
has_subcommand help argument true h = refl
has_subcommand true argument false h = cc
has_subcommand false argument false h = cc

-- a level that fails in nothing has a walk without a fault, and a subcommand where it wants one
level_enters : (s : Shape) (names : Names) (h : Held) (words : List Text) (has : Bool) (below : Kinds)
    → s.subcommand_required ≡ true → level_fault s names h words has below ≡ [] → (walk_fault s names (walk_from h) words ≡ []) × (has ≡ true)
level_enters s names h words has below required e =
    let end = (walk s.rules names h words).held in
    let parts : (walk_fault s names (walk_from h) words ≡ []) × (check_fault s (finished s.rules end) has ≡ []) =
    last_nil (walk_fault s names (walk_from h) words) below (settle_fault s.rules s.args_override_self end) (defaults_fault (settled s.rules end).rows s.rules)
    (check_fault s (finished s.rules end) has) e in
    (parts.0, has_subcommand _ _ has (rw required at parts.1))

-- ---- the names

abbrev has_none : List Text → Bool
has_none [] = true
has_none (alias ∷ aliases) = false

-- `help`, which has no other name
abbrev is_help : Shape → Bool
is_help s = has_none s.aliases && bytes_eq s.name (codes "help")

abbrev is_ours : Shape → Bool
is_ours s = is_subcommand s.name || is_help s

-- only `help` itself answers to `help`
answers_help : (aliases : List Text) (own name : Text) → has_none aliases ≡ true → bytes_eq own (codes "help") ≡ true
    → (bytes_eq own name || list_any (λ alias. bytes_eq alias name) aliases) ≡ true → not (bytes_eq name (codes "help")) ≡ true → is_subcommand own ≡ true
answers_help (alias ∷ aliases) own name none help hit unhelped = cc
answers_help [] own name none help hit unhelped =
    let same : own ≡ name = (bytes_eq-Decides own name).0 (or_false (bytes_eq own name) hit) in
    no_longer (bytes_eq name (codes "help")) (ap (λ t. bytes_eq t (codes "help")) (sym same) ∙ help) unhelped
  where
    or_false : (b : Bool) → (b || false) ≡ true → b ≡ true
    or_false true h = refl
    or_false false h = cc

    no_longer : (b : Bool) → b ≡ true → not b ≡ true → is_subcommand own ≡ true
    no_longer true h unhelped = cc
    no_longer false h unhelped = cc

one_of_ours : (s : Shape) (name : Text) → is_ours s ≡ true → answers_to name (label_of s) ≡ true → not (bytes_eq name (codes "help")) ≡ true
    → is_subcommand s.name ≡ true
one_of_ours s name ours hit unhelped = go (is_subcommand s.name) refl ours
  where
    go : (b : Bool) → b ≡ is_subcommand s.name → (b || is_help s) ≡ true → is_subcommand s.name ≡ true
    go true e h = sym e
    go false e h =
        let parts = and_parts (has_none s.aliases) (bytes_eq s.name (codes "help")) h in
        answers_help s.aliases s.name name parts.0 parts.1 hit unhelped

-- the rows of the subcommand that answers to the name
abbrev answer : List Shape → Text → List Text → Option (Text × List Row)
answer shapes name words = option_map (λ s. rows_at s words) (find (λ s. answers_to name (label_of s)) shapes)

known_among : (shapes : List Shape) (name : Text) (words : List Text) → list_all is_ours shapes ≡ true → not (bytes_eq name (codes "help")) ≡ true
    → is_some (answer shapes name words) ≡ true → IsKnown (answer shapes name words)
known_among [] name words all unhelped h = absurd cc
known_among (s ∷ shapes) name words all unhelped h =
    let parts = and_parts (is_ours s) (list_all is_ours shapes) all in
    elim (cases_Bool (answers_to name (label_of s))) [
      | inl hit ↦ rw hit (one_of_ours s name parts.0 hit unhelped)
      | inr miss ↦ rw miss (known_among shapes name words parts.1 unhelped (rw miss at h))
    ]

known_at : (shapes : List Shape) (stop : Option (Text × List Text)) → list_all is_ours shapes ≡ true → is_no_help stop ≡ true
    → is_some (option_and_then (λ p. answer shapes p.0 p.1) stop) ≡ true → IsKnown (option_and_then (λ p. answer shapes p.0 p.1) stop)
known_at shapes None all unhelped h = absurd cc
known_at shapes (Some p) all unhelped h = known_among shapes p.0 p.1 all unhelped h

pub words_known : (words : List Text) → fault_of program words ≡ [] → IsKnown (subcommand_of program words)
words_known words h =
    let whole = built program in
    let given = argument_words program words in
    let stop = stop_after whole.top.rules (names_of whole) given in
    let enters : (walk_fault whole.top (names_of whole) (walk_from nothing_held) given ≡ []) × (is_some (subcommand_of program words) ≡ true) =
    level_enters whole.top (names_of whole) nothing_held given (is_some (subcommand_of program words)) (entered_fault whole stop) refl h in
    known_at whole.subs stop refl (walk_goes_on whole.top (names_of whole) (walk_from nothing_held) given refl refl enters.0) enters.1
