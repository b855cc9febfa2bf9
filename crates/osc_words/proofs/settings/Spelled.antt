-- What is at a key, and what it spells.
use Rattle.std.proofs.Common.{◌≡◌, ℕ, ℤ, Bool, List, Option, Some, None, Result, Ok, Err, refl, sym, ap, subst, ◌∙◌, inl, inr, if◌then◌else◌, MatchResult}
use Rattle.std.specs.Option.{is_some, option_and_then}
use Rattle.toml.specs.Data.{Data, Items, Members, string, integer, boolean, array, table, as_str, as_integer, as_bool, as_array, as_table, get_member}
use Rattle.osc_words.specs.Settings.{IsBooleanAt, SpelledAt, IsPathText, IsTarget, IsTargetTable, IsFaultAt, IsItemFault, IsKeyFault, IsTargetFault, IsTextAt, name_of}
use Rattle.osc_words.specs.Settings.Inner.Reading.{IsRefusal, SpellsPath, read_at, text_at, untyped_at}
use Rattle.osc_words.specs.declared.settings.proxy.TargetSetting.{TargetSetting}
use Rattle.osc_words.specs.declared.settings.error.KeyFault.TheVariants.{Missing, Wrong}
use Rattle.osc_words.specs.declared.settings.error.SettingsError.{SettingsError}
use Rattle.osc_words.specs.declared.settings.error.ValueError.{ValueError}
use Rattle.osc_words.specs.declared.settings.error.ValueError.TheVariants.{Bad, Memory}
use Rattle.osc_words.specs.declared.settings.key.SettingsKey.{SettingsKey}
use Rattle.osc_words.specs.declared.settings.key.SettingsKey.TheVariants as key

-- ---- values by their types

pub is_text : (d : Data) (text : List ℕ) → as_str d ≡ Some text → d ≡ string text
is_text (string t) text e = ap string cc
is_text d text e = absurd cc

pub is_integer : (d : Data) (n : ℤ) → as_integer d ≡ Some n → d ≡ integer n
is_integer (integer m) n e = ap integer cc
is_integer d n e = absurd cc

pub is_array : (d : Data) (items : Items) → as_array d ≡ Some items → d ≡ array items
is_array (array ds) items e = ap array cc
is_array d items e = absurd cc

pub is_table : (d : Data) (document : Members) → as_table d ≡ Some document → d ≡ table document
is_table (table ms) document e = ap table cc
is_table d document e = absurd cc

-- the value that was found, by its type
there : {A : Type 0} (get : Data → Option A) (made : A → Data) (o : Option Data) (x : A)
    → ((d : Data) (x : A) → get d ≡ Some x → d ≡ made x) → option_and_then get o ≡ Some x → o ≡ Some (made x)
there get made None x is e = absurd cc
there get made (Some d) x is e = ap Some (is d x e)

not_there : {A : Type 0} (get : Data → Option A) (made : A → Data) (o : Option Data) → ((x : A) → get (made x) ≡ Some x) → option_and_then get o ≡ None → (x : A) → ¬ (o ≡ Some (made x))
not_there get made o is none x e =
    let found : option_and_then get o ≡ Some x = ap (option_and_then get) e ∙ is x in
    absurd cc

-- ---- texts

text_there : (key text : List ℕ) (document : Members) → text_at key document ≡ Some text → get_member key document ≡ Some (string text)
text_there key text document e = there as_str string (get_member key document) text is_text e

one_text : (found : Option Data) (text other : List ℕ) → found ≡ Some (string text) → found ≡ Some (string other) → other ≡ text
one_text found text other e f = cc

-- such a value doesn't be at the key, and what does is of another type, if anything is there
untyped : {X : Type 0} (key : SettingsKey) (Stands : List ℕ → Members → X → Type 0) (document : Members)
    → ((x : X) → ¬ Stands (name_of key) document x) → IsKeyFault (IsFaultAt key Stands document) (untyped_at key document)
untyped key Stands document none = by (get_member (name_of key) document) refl
  where
    by : (o : Option Data) → get_member (name_of key) document ≡ o → IsFaultAt key Stands document (if is_some o then Wrong key else Missing key)
    by None e = inr (e, refl)
    by (Some d) e = inl (ap is_some e, none, refl)

pub untyped_as : {X : Type 0} (key : SettingsKey) (Stands : List ℕ → Members → X → Type 0) (document : Members) (error : SettingsError) → error ≡ untyped_at key document
    → ((x : X) → ¬ Stands (name_of key) document x) → IsKeyFault (IsFaultAt key Stands document) error
untyped_as key Stands document error e none = subst (IsKeyFault (IsFaultAt key Stands document)) (sym e) (untyped key Stands document none)

read : {X : Type 0} (key : SettingsKey) (Spells : List ℕ → X → Type 0) (document : Members) (text : List ℕ) (r : Result X ValueError)
    → text_at (name_of key) document ≡ Some text → MatchResult r (Spells text) (IsRefusal (Spells text))
    → MatchResult (read_at key r) (SpelledAt (name_of key) Spells document) (IsKeyFault (IsFaultAt key (λ name. SpelledAt name Spells) document))
read key Spells document text (Ok x) e h = (text, text_there (name_of key) text document e, h)
read key Spells document text (Err Bad) e h = inl (
  ap is_some (text_there (name_of key) text document e),
  (λ x s. h x (subst (λ t. Spells t x) (one_text (get_member (name_of key) document) text s.0 (text_there (name_of key) text document e) s.1) s.2)),
  refl,
)
read key Spells document text (Err Memory) e h = tt

pub spelled_read : {X : Type 0} (key : SettingsKey) (Spells : List ℕ → X → Type 0) (document : Members) (text : List ℕ) (r : Result X ValueError) (result : Result X SettingsError)
    → text_at (name_of key) document ≡ Some text → MatchResult r (Spells text) (IsRefusal (Spells text)) → result ≡ read_at key r
    → MatchResult result (SpelledAt (name_of key) Spells document) (IsKeyFault (IsFaultAt key (λ name. SpelledAt name Spells) document))
spelled_read key Spells document text r result e h is =
    subst (λ it. MatchResult it (SpelledAt (name_of key) Spells document) (IsKeyFault (IsFaultAt key (λ name. SpelledAt name Spells) document))) (sym is)
    (read key Spells document text r e h)

pub unspelled : {X : Type 0} (key : SettingsKey) (Spells : List ℕ → X → Type 0) (document : Members) (error : SettingsError)
    → text_at (name_of key) document ≡ None → error ≡ untyped_at key document → IsKeyFault (IsFaultAt key (λ name. SpelledAt name Spells) document) error
unspelled key Spells document error none is =
    untyped_as key (λ name. SpelledAt name Spells) document error is (λ x s. not_there as_str string (get_member (name_of key) document) (λ t. refl) none s.0 s.1)

pub no_text : (key : SettingsKey) (document : Members) (error : SettingsError)
    → text_at (name_of key) document ≡ None → error ≡ untyped_at key document → IsKeyFault (IsFaultAt key IsTextAt document) error
no_text key document error none is = untyped_as key IsTextAt document error is (not_there as_str string (get_member (name_of key) document) (λ t. refl) none)

-- ---- integers

-- an integer is at the key, and is the number of this
abbrev pub NumberedAt : {X : Type 0} → (ℤ → X → Type 0) → List ℕ → Members → X → Type 0
NumberedAt Numbers key document x = (number : ℤ) × (get_member key document ≡ Some (integer number)) × Numbers number x

one_number : (found : Option Data) (n m : ℤ) → found ≡ Some (integer n) → found ≡ Some (integer m) → m ≡ n
one_number found n m e f = cc

number_there : (key : List ℕ) (document : Members) (number : ℤ) → option_and_then as_integer (get_member key document) ≡ Some number → get_member key document ≡ Some (integer number)
number_there key document number e = there as_integer integer (get_member key document) number is_integer e

read_number : {X : Type 0} (key : SettingsKey) (Numbers : ℤ → X → Type 0) (document : Members) (number : ℤ) (r : Result X ValueError)
    → option_and_then as_integer (get_member (name_of key) document) ≡ Some number → MatchResult r (Numbers number) (IsRefusal (Numbers number))
    → MatchResult (read_at key r) (NumberedAt Numbers (name_of key) document) (IsKeyFault (IsFaultAt key (NumberedAt Numbers) document))
read_number key Numbers document number (Ok x) e h = (number, number_there (name_of key) document number e, h)
read_number key Numbers document number (Err Bad) e h = inl (
  ap is_some (number_there (name_of key) document number e),
  (λ x s. h x (subst (λ n. Numbers n x) (one_number (get_member (name_of key) document) number s.0 (number_there (name_of key) document number e) s.1) s.2)),
  refl,
)
read_number key Numbers document number (Err Memory) e h = tt

pub number_read : {X : Type 0} (key : SettingsKey) (Numbers : ℤ → X → Type 0) (document : Members) (number : ℤ) (r : Result X ValueError) (result : Result X SettingsError)
    → option_and_then as_integer (get_member (name_of key) document) ≡ Some number → MatchResult r (Numbers number) (IsRefusal (Numbers number)) → result ≡ read_at key r
    → MatchResult result (NumberedAt Numbers (name_of key) document) (IsKeyFault (IsFaultAt key (NumberedAt Numbers) document))
number_read key Numbers document number r result e h is =
    subst (λ it. MatchResult it (NumberedAt Numbers (name_of key) document) (IsKeyFault (IsFaultAt key (NumberedAt Numbers) document))) (sym is)
    (read_number key Numbers document number r e h)

pub no_number_there : {X : Type 0} (key : SettingsKey) (Numbers : ℤ → X → Type 0) (document : Members) (error : SettingsError)
    → option_and_then as_integer (get_member (name_of key) document) ≡ None → error ≡ untyped_at key document → IsKeyFault (IsFaultAt key (NumberedAt Numbers) document) error
no_number_there key Numbers document error none is =
    untyped_as key (NumberedAt Numbers) document error is (λ x s. not_there as_integer integer (get_member (name_of key) document) (λ n. refl) none s.0 s.1)

-- ---- booleans

is_boolean : (d : Data) (b : Bool) → as_bool d ≡ Some b → d ≡ boolean b
is_boolean (boolean a) b e = ap boolean cc
is_boolean d b e = absurd cc

pub boolean_there : (key : List ℕ) (document : Members) (b : Bool) → option_and_then as_bool (get_member key document) ≡ Some b → IsBooleanAt key document b
boolean_there key document b e = there as_bool boolean (get_member key document) b is_boolean e

pub no_boolean : (key : SettingsKey) (document : Members) (error : SettingsError)
    → option_and_then as_bool (get_member (name_of key) document) ≡ None → error ≡ untyped_at key document → IsKeyFault (IsFaultAt key IsBooleanAt document) error
no_boolean key document error none is = untyped_as key IsBooleanAt document error is (not_there as_bool boolean (get_member (name_of key) document) (λ b. refl) none)

-- ---- arrays

pub items_there : (key : List ℕ) (document : Members) (items : Items) → option_and_then as_array (get_member key document) ≡ Some items → get_member key document ≡ Some (array items)
items_there key document items e = there as_array array (get_member key document) items is_array e

pub no_items_there : (key : List ℕ) (document : Members) → option_and_then as_array (get_member key document) ≡ None → (items : Items) → ¬ (get_member key document ≡ Some (array items))
no_items_there key document none = not_there as_array array (get_member key document) (λ ds. refl) none

-- ---- items of arrays

pub path_read : (value : Data) (text : List ℕ) (r : Result (List ℕ) ValueError) → as_str value ≡ Some text
    → MatchResult r (SpellsPath text) (IsRefusal (SpellsPath text)) → MatchResult r (IsPathText value) (IsRefusal (IsPathText value))
path_read value text (Ok path) e h = (is_text value text e ∙ ap string (sym h.0), h.1)
path_read value text (Err Bad) e h = λ path s.
    let other : string path ≡ string text = sym s.0 ∙ is_text value text e in
    let same : path ≡ text = cc in
    h path (same, s.1)
path_read value text (Err Memory) e h = tt

pub no_path : (value : Data) → as_str value ≡ None → (path : List ℕ) → ¬ IsPathText value path
no_path value none path s =
    let found : as_str value ≡ Some path = ap as_str s.0 in
    absurd cc

pub target_read : (value : Data) (document : Members) (r : Result TargetSetting SettingsError) → as_table value ≡ Some document
    → MatchResult r (IsTarget document) (IsKeyFault (IsTargetFault document)) → MatchResult r (IsTargetTable value) (IsKeyFault (IsItemFault value))
target_read value document (Ok target) e h = (document, is_table value document e, h)
target_read value document (Err error) e h = subst (λ it. IsKeyFault (IsItemFault it) error) (sym (is_table value document e)) h

pub no_target : (value : Data) → as_table value ≡ None → IsItemFault value (Wrong key.Target)
no_target (table document) none = absurd cc
no_target value none = refl
