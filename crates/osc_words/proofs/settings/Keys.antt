-- The keys of a table are those of its members.
use Rattle.std.proofs.Common.{◌≡◌, Bool, true, false, not, if◌then◌else◌, List, [], ◌∷◌, refl, ap, string_bytes, String, Option, Some, None, option_map, Global}
use Rattle.std.specs.List.{find, list_any}
use Rattle.std.specs.Map.{keys_of}
use Rattle.std.specs.Option.{is_some}
use Rattle.std.specs.Str.{bytes_eq}
use Rattle.toml.specs.View.{members_view}
use Rattle.toml.specs.declared.value.Value.{Value}
use Rattle.osc_words.specs.Settings.{other_key, name_of}
use Rattle.osc_words.specs.declared.settings.key.SettingsKey.{SettingsKey}

pub first_member : (keys : List SettingsKey) (es : List (String Global × Value))
    → option_map (λ name. string_bytes name) (find (λ name. not (list_any (λ key. bytes_eq (string_bytes name) (name_of key)) keys)) (keys_of es)) ≡ other_key keys (members_view es)
first_member keys [] = refl
first_member keys (e ∷ es) = by (list_any (λ key. bytes_eq (string_bytes e.0) (name_of key)) keys) (first_member keys es)
  where
    by : (known : Bool)
        → option_map (λ name. string_bytes name) (find (λ name. not (list_any (λ key. bytes_eq (string_bytes name) (name_of key)) keys)) (keys_of es)) ≡ other_key keys (members_view es)
        → option_map (λ name. string_bytes name) (if not known then Some e.0 else find (λ name. not (list_any (λ key. bytes_eq (string_bytes name) (name_of key)) keys)) (keys_of es))
        ≡ if known then other_key keys (members_view es) else Some (string_bytes e.0)
    by true rest = rest
    by false rest = refl

-- something is there by whatever it is seen as
pub some_alike : {A B : Type 0} (f : A → B) (o : Option A) (p : Option B) → option_map f o ≡ p → is_some o ≡ is_some p
some_alike f None p e = ap is_some e
some_alike f (Some x) p e = ap is_some e

pub seen_some : {A B : Type 0} (f : A → B) (o : Option A) (p : Option B) (x : A) → option_map f o ≡ p → o ≡ Some x → p ≡ Some (f x)
seen_some f None p x e h = absurd cc
seen_some f (Some y) p x e h = let same : y ≡ x = cc in cc

pub seen_none : {A B : Type 0} (f : A → B) (o : Option A) (p : Option B) → option_map f o ≡ p → o ≡ None → p ≡ None
seen_none f None p e h = cc
seen_none f (Some y) p e h = absurd cc

-- and nothing is there where nothing was found
pub none_there : {A : Type 0} (o : Option A) → is_some o ≡ false → o ≡ None
none_there None e = refl
none_there (Some x) e = absurd cc

pub some_there : {A : Type 0} (o : Option A) → is_some o ≡ true → o ≡ None → ⊥
some_there None e h = absurd cc
some_there (Some x) e h = absurd cc
