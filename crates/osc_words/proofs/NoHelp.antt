-- A walk without a fault doesn't stop at `help`.
use Rattle.std.proofs.Common.{◌≡◌, ◌∙◌, refl, ap, sym, List, [], ◌∷◌, Bool, true, false, cond, not, ◌&&◌, Option, Some, None, is_some, codes}
use Rattle.std.specs.Prelude.{fold}
use Rattle.std.specs.Option.{option_map_or}
use Rattle.std.specs.Str.{bytes_eq}
use Rattle.clap.specs.Words.{Rule, Shape, Text}
use Rattle.clap.specs.Lexer.{long_of, short_of}
use Rattle.clap.specs.Kinds.{Kinds, or_else}
use Rattle.clap.specs.Faults.{other_fault, step_fault, turn_fault, walk_fault, word_fault}
use Rattle.clap.specs.Walk.{Held, Names, Outcome, Step, Waiting, Walk, done, waits, plain, refused, idle, positional, next, trailing, subcommand, value, after_flag, after_step, arg_by_index, arg_by_long, bundle, long_met, long_or_other, plain_word, short_or_plain, subcommand_met, subcommand_or_other, to_positional, walked, walked_from, word_met}
use Rattle.clap.specs.Walk.{option as waits_for}
use Rattle.clap.specs.declared.error.kind.ErrorKind.TheVariants.{DisplayHelp, InvalidSubcommand}

-- where a walk stopped isn't `help`
abbrev pub is_no_help : Option (Text × List Text) → Bool
is_no_help stop = option_map_or (λ p. not (bytes_eq p.0 (codes "help"))) stop true

-- the word names no subcommand
abbrev is_other : Step → Bool
is_other (subcommand name) = false
is_other step = true

-- ---- words that name no subcommand

plain_other : (rules : List Rule) (waiting : Waiting) (word : Text) (h : Held) → is_other (plain_word rules waiting word h).1 ≡ true
plain_other rules idle word h = refl
plain_other rules (waits_for id) word h = refl
plain_other rules positional word h = refl

flag_other : (rules : List Rule) (waiting : Waiting) (word : Text) (h : Held) (o : Outcome) → is_other (after_flag rules waiting word h o).1 ≡ true
flag_other rules waiting word h done = refl
flag_other rules waiting word h (waits id) = refl
flag_other rules waiting word h plain = plain_other rules waiting word h
flag_other rules waiting word h refused = plain_other rules waiting word h

short_other : (rules : List Rule) (waiting : Waiting) (word : Text) (flags : Option Text) (h : Held) → is_other (short_or_plain rules waiting word flags h).1 ≡ true
short_other rules waiting word (Some flags) h = flag_other rules waiting word (bundle rules flags h).0 (bundle rules flags h).1
short_other rules waiting word None h = plain_other rules waiting word h

long_other : (rules : List Rule) (waiting : Waiting) (word : Text) (long : Option (Text × Option Text)) (h : Held)
    → is_other (long_or_other rules waiting word long h).1 ≡ true
long_other rules waiting word (Some p) h =
    flag_other rules waiting word (long_met rules (arg_by_long rules p.0) p.1 h).0 (long_met rules (arg_by_long rules p.0) p.1 h).1
long_other rules waiting word None h = short_other rules waiting word (short_of word) h

-- ---- one word

positional_goes_on : (rules : List Rule) (found : Option Rule) (word : Text) (w : Walk) (h : Held) → w.stopped ≡ None
    → is_no_help (to_positional rules found word w h).stopped ≡ true
positional_goes_on rules None word w h none = ap is_no_help none
positional_goes_on rules (Some a) word w h none = refl

other_goes_on : (rules : List Rule) (word : Text) (w : Walk) (h : Held) (step : Step) → w.stopped ≡ None → is_other step ≡ true
    → is_no_help (after_step rules word w h step).stopped ≡ true
other_goes_on rules word w h (next waiting) none is = ap is_no_help none
other_goes_on rules word w h (trailing position) none is = ap is_no_help none
other_goes_on rules word w h (subcommand name) none is = cc
other_goes_on rules word w h value none is = positional_goes_on rules (arg_by_index rules w.position) word w h none

-- a subcommand that is met without a fault isn't `help`
met_not_help : (is disabled : Bool) → disabled ≡ false → cond (is && not disabled) (DisplayHelp ∷ InvalidSubcommand ∷ []) [] ≡ [] → not is ≡ true
met_not_help true true enabled h = cc
met_not_help true false enabled h = cc
met_not_help false disabled enabled h = refl

met_goes_on : (s : Shape) (w : Walk) (met : Option Text) (word : Text) → s.disable_help_subcommand ≡ false → w.stopped ≡ None
    → other_fault s met word w.held ≡ []
    → is_no_help (after_step s.rules word w (subcommand_or_other s.rules met w.waiting w.position word w.held).0 (subcommand_or_other s.rules met w.waiting w.position word w.held).1).stopped ≡ true
met_goes_on s w (Some name) word enabled none fault = met_not_help (bytes_eq name (codes "help")) s.disable_help_subcommand enabled fault
met_goes_on s w None word enabled none fault = go (bytes_eq word (45 ∷ 45 ∷ []))
  where
    at : Bool → Held × Step
    at b = cond b (w.held, trailing w.position) (long_or_other s.rules w.waiting word (long_of word) w.held)

    go : (b : Bool) → is_no_help (after_step s.rules word w (at b).0 (at b).1).stopped ≡ true
    go true = ap is_no_help none
    go false =
        let met = long_or_other s.rules w.waiting word (long_of word) w.held in
        other_goes_on s.rules word w met.0 met.1 none (long_other s.rules w.waiting word (long_of word) w.held)

word_goes_on : (s : Shape) (names : Names) (w : Walk) (word : Text) → s.disable_help_subcommand ≡ false → w.stopped ≡ None
    → word_fault s names w.is_trailing w.waiting word w.held ≡ [] → is_no_help (walked_from s.rules names None w word).stopped ≡ true
word_goes_on s names w word enabled none fault = go w.is_trailing fault
  where
    at : Bool → Held × Step
    at b = word_met s.rules names b w.waiting w.position word w.held

    go : (b : Bool) → word_fault s names b w.waiting word w.held ≡ [] → is_no_help (after_step s.rules word w (at b).0 (at b).1).stopped ≡ true
    go true fault = positional_goes_on s.rules (arg_by_index s.rules w.position) word w w.held none
    go false fault = met_goes_on s w (subcommand_met names w.waiting word) word enabled none fault

-- ---- all words

both_none : (a b : Kinds) → or_else a b ≡ [] → (a ≡ []) × (b ≡ [])
both_none [] b h = (refl, h)
both_none (k ∷ ks) b h = cc

first_none : (stop : Option (Text × List Text)) (a b : Kinds) → stop ≡ None → cond (is_some stop) [] (or_else a b) ≡ [] → a ≡ []
first_none None a b e h = (both_none a b h).0
first_none (Some p) a b e h = cc

turn_goes_on : (s : Shape) (names : Names) (w : Walk) (word : Text) → s.disable_help_subcommand ≡ false → is_no_help w.stopped ≡ true
    → turn_fault s names w word ≡ [] → is_no_help (walked s.rules names w word).stopped ≡ true
unfolding walked
turn_goes_on s names w word enabled before fault = go w.stopped refl
  where
    go : (stop : Option (Text × List Text)) → stop ≡ w.stopped → is_no_help (walked_from s.rules names stop w word).stopped ≡ true
    go (Some p) e = ap is_no_help e ∙ before
    go None e =
        let met = word_met s.rules names w.is_trailing w.waiting w.position word w.held in
        word_goes_on s names w word enabled (sym e)
        (first_none w.stopped (word_fault s names w.is_trailing w.waiting word w.held) (step_fault s w.position met.0 met.1) (sym e) fault)

pub walk_goes_on : (s : Shape) (names : Names) (w : Walk) (words : List Text) → s.disable_help_subcommand ≡ false → is_no_help w.stopped ≡ true
    → walk_fault s names w words ≡ [] → is_no_help (fold (walked s.rules names) w words).stopped ≡ true
unfolding walk_fault
walk_goes_on s names w [] enabled before fault = before
walk_goes_on s names w (word ∷ rest) enabled before fault =
    let parts = both_none (turn_fault s names w word) (walk_fault s names (walked s.rules names w word) rest) fault in
    walk_goes_on s names (walked s.rules names w word) rest enabled (turn_goes_on s names w word enabled before parts.0) parts.1
