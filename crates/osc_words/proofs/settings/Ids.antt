-- The ids that are revoked at each start.
use Rattle.std.proofs.Common.{◌≡◌, ℕ, true, List, [], Option, Some, None, Result, Ok, Err, refl, sym, ap, subst, ◌∙◌, inl, inr, MatchResult}
use Rattle.std.specs.Option.{is_some}
use Rattle.toml.specs.Data.{Data, Members, string, as_str, get_member}
use Rattle.osc_model.specs.{revoked_path}
use Rattle.osc_words.specs.Settings.{IsRevocationPath, SpelledAt, IsFaultAt, IsIdBelow, IsKeyFault, IsLeftOut, IsRevokedId, IsRevokedIdsFault, name_of, AreRevokedIds, AreRevokedIdsAt, SpellsBytes}
use Rattle.osc_words.specs.Settings.Inner.Reading.{IsRefusal}
use Rattle.osc_words.specs.declared.settings.error.SettingsError.{SettingsError}
use Rattle.osc_words.specs.declared.settings.error.ValueError.{ValueError}
use Rattle.osc_words.specs.declared.settings.error.ValueError.TheVariants.{Bad, Memory}
use Rattle.osc_words.specs.declared.settings.key.SettingsKey.TheVariants as key
use Rattle.osc_words.proofs.settings.Parts.{fault_within, wrong_at}
use Rattle.osc_words.proofs.settings.Spelled.{is_text}

-- ---- one id

-- digits that are too many or none are no id
pub unread_id : (root text : List ℕ) (error : ValueError) → IsRefusal (SpellsBytes 0 64 text) error → IsRefusal (IsIdBelow root text) error
unread_id root text Bad none = λ id is. none id is.0
unread_id root text Memory none = tt

-- nor is one of which no path is made
pub no_path_below : (root text id : List ℕ) → SpellsBytes 0 64 text id → revoked_path root id ≡ None → (other : List ℕ) → ¬ IsIdBelow root text other
no_path_below root text id spelled none other is =
    let both : Ok id ≡ Ok other = sym spelled.digits ∙ is.0.digits in
    let same : id ≡ other = cc in
    let made : Some is.1.0 ≡ None = sym is.1.1 ∙ (ap (revoked_path root) (sym same) ∙ none) in
    absurd cc

pub id_read : (root : List ℕ) (value : Data) (text : List ℕ) (r : Result (List ℕ) ValueError) → as_str value ≡ Some text
    → MatchResult r (IsIdBelow root text) (IsRefusal (IsIdBelow root text)) → MatchResult r (IsRevokedId root value) (IsRefusal (IsRevokedId root value))
id_read root value text (Ok id) e h = (text, is_text value text e, h)
id_read root value text (Err Bad) e h = λ id s.
    let both : string s.0 ≡ string text = sym s.1 ∙ is_text value text e in
    let same : s.0 ≡ text = cc in
    h id (subst (λ t. IsIdBelow root t id) same s.2)
id_read root value text (Err Memory) e h = tt

pub no_id : (root : List ℕ) (value : Data) → as_str value ≡ None → (id : List ℕ) → ¬ IsRevokedId root value id
no_id root value none id s =
    let found : as_str value ≡ Some s.0 = ap as_str s.1 in
    absurd cc

-- ---- at the key

pub ids_read : {R : Type 0} (root : List ℕ) (listed : R → List (List ℕ)) (document : Members) (r : Result R SettingsError)
    → is_some (get_member (name_of key.RevokedIds) document) ≡ true → SpelledAt (name_of key.Revoked) IsRevocationPath document root
    → MatchResult r (λ x. AreRevokedIdsAt root (name_of key.RevokedIds) document (listed x)) (IsKeyFault (IsFaultAt key.RevokedIds (AreRevokedIdsAt root) document))
    → MatchResult r (λ x. AreRevokedIds (Some root) document (listed x)) (IsKeyFault (IsRevokedIdsFault document))
ids_read root listed document (Ok x) there rooted h = inl h
ids_read root listed document (Err error) there rooted h =
    fault_within _ (IsRevokedIdsFault document) error (λ fault wrong. inr (root, rooted, wrong)) (wrong_at key.RevokedIds (AreRevokedIdsAt root) document error there h)

-- none are there
pub no_ids : (root : Option (List ℕ)) (document : Members) → IsLeftOut (name_of key.RevokedIds) document → AreRevokedIds root document []
no_ids None document out = (out, refl)
no_ids (Some root) document out = inr (out, refl)
