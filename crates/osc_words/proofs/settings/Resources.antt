-- The resources of a server's settings.
use Rattle.std.proofs.Common.{◌≡◌, ℕ, true, List, Some, None, Result, Ok, Err, sym, ap, subst, ◌∙◌, inl, MatchResult}
use Rattle.std.specs.Option.{is_some}
use Rattle.toml.specs.Data.{Data, Members, string, table, as_str, as_table, get_member}
use Rattle.osc_words.specs.Settings.{IsFaultAt, IsKeyFault, IsWrongAt, name_of, AreResources, AreResourcesAt, IsPathOf, IsResource, IsResourceTable}
use Rattle.osc_words.specs.Settings.Inner.Reading.{IsRefusal, SpellsPath}
use Rattle.osc_words.specs.declared.settings.error.SettingsError.{SettingsError}
use Rattle.osc_words.specs.declared.settings.error.ValueError.{ValueError}
use Rattle.osc_words.specs.declared.settings.error.ValueError.TheVariants.{Bad, Memory}
use Rattle.osc_words.specs.declared.settings.key.SettingsKey.TheVariants as key
use Rattle.osc_words.specs.declared.settings.resource.ResourceSetting.{ResourceSetting}
use Rattle.osc_words.proofs.settings.Parts.{wrong_at}
use Rattle.osc_words.proofs.settings.Spelled.{is_table}

-- a part that isn't one is in no whole
pub refused_within : {X Y : Type 0} (P : X → Type 0) (Q : Y → Type 0) (error : ValueError) → ((y : Y) → Q y → (x : X) × P x) → IsRefusal P error → IsRefusal Q error
refused_within P Q Bad has none = λ y q. let found = has y q in none found.0 found.1
refused_within P Q Memory has none = tt

pub or_none : {R : Type 0} (listed : R → List ResourceSetting) (document : Members) (r : Result R SettingsError)
    → is_some (get_member (name_of key.Resource) document) ≡ true
    → MatchResult r (λ x. AreResourcesAt (name_of key.Resource) document (listed x)) (IsKeyFault (IsFaultAt key.Resource AreResourcesAt document))
    → MatchResult r (λ x. AreResources document (listed x)) (IsKeyFault (IsWrongAt key.Resource AreResourcesAt document))
or_none listed document (Ok x) there h = inl h
or_none listed document (Err error) there h = wrong_at key.Resource AreResourcesAt document error there h

-- ---- a table

one_table : (value : Data) (document other : Members) → value ≡ table document → value ≡ table other → other ≡ document
one_table value document other e f = let both : table document ≡ table other = sym e ∙ f in cc

pub resource_read : (value : Data) (document : Members) (r : Result ResourceSetting ValueError) → as_table value ≡ Some document
    → MatchResult r (IsResource document) (IsRefusal (IsResource document)) → MatchResult r (IsResourceTable value) (IsRefusal (IsResourceTable value))
resource_read value document (Ok resource) e h = (document, is_table value document e, h)
resource_read value document (Err Bad) e h = λ resource s.
    h resource (subst (λ (it : Members). IsResource it resource) (one_table value document s.0 (is_table value document e) s.1) s.2)
resource_read value document (Err Memory) e h = tt

pub no_table : (value : Data) → as_table value ≡ None → (resource : ResourceSetting) → ¬ IsResourceTable value resource
no_table value none resource s =
    let found : as_table value ≡ Some s.0 = ap as_table s.1 in
    absurd cc

-- ---- a path

pub path_in : (value : Data) (text : List ℕ) (r : Result (List ℕ) ValueError) → as_str value ≡ Some text
    → MatchResult r (SpellsPath text) (IsRefusal (SpellsPath text)) → MatchResult r (IsPathOf (Some value)) (IsRefusal (IsPathOf (Some value)))
path_in (string t) text r e h =
    let same : text ≡ t = cc in
    subst (λ (word : List ℕ). MatchResult r (IsPathOf (Some (string word))) (IsRefusal (IsPathOf (Some (string word))))) same h
path_in value text r e h = absurd cc
