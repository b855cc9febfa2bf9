use Rattle.std.proofs.Common.{◌≡◌, ℕ, List, Option, inl, inr, subst}
use Rattle.std.proofs.lemmas.Result.{err_from_is_err_and}
use Rattle.toml.specs.Data.{Members}
use Rattle.toml.specs.View.{table_view}
use Rattle.osc_words.specs.Settings.{IsBooleanAt, IsSecondsAt, ListedAt, SpelledAt, IsFaultAt, IsOther, IsRevokedIdsFault, IsServerFault, IsStoreDiskFault, IsTextAt, IsWrongAt, AreAddressesAt, AreResourcesAt, AreRevokedIds, IsPathText, server_keys, IsFileName, IsRevocationPath, SpellsBytes}
use Rattle.osc_words.specs.declared.settings.key.SettingsKey.TheVariants as key
use Rattle.osc_words.proofs.settings.Parts.{fault_within, may_found, seconds_found, subtrees_found}
use Rattle.osc_words.proofs.settings.server.settings_in.Goals as goal

-- the ids are below the revocation path that was read
below : (document : Members) (ids : List (List ℕ)) (found root : Option (List ℕ)) → found ≡ root → AreRevokedIds found document ids → AreRevokedIds root document ids
below document ids found root same is = subst (λ (r : Option (List ℕ)). AreRevokedIds r document ids) same is

pub returns-in_err-only : goal.returns-in_err-only
returns-in_err-only c =
    let p = err_from_is_err_and c.from_residual.result c.from_residual.ensures.1 in
    let document = table_view c.args.table.now in
    rw (p.1, p.2) (fault_within (IsOther server_keys document) (IsServerFault document) c.in_err-only.field-0.0 (λ fault h. inl h) c.in_err-only.ensures)

pub returns-in_err-bind : goal.returns-in_err-bind
returns-in_err-bind c =
    let p = err_from_is_err_and c.from_residual-in_err-bind.result c.from_residual-in_err-bind.ensures.1 in
    let document = table_view c.args.table.now in
    rw (p.1, p.2) (fault_within (IsFaultAt key.Bind AreAddressesAt document) (IsServerFault document) c.in_err-bind.field-0.0 (λ fault h. inr (c.in_ok-only.ensures, inl h)) c.in_err-bind.ensures)

pub returns-in_err-key : goal.returns-in_err-key
returns-in_err-key c =
    let p = err_from_is_err_and c.from_residual-in_err-key.result c.from_residual-in_err-key.ensures.1 in
    let document = table_view c.args.table.now in
    rw (p.1, p.2) (fault_within (IsFaultAt key.Key (λ name. SpelledAt name (SpellsBytes 16 16)) document) (IsServerFault document) c.in_err-key.field-0.0 (λ fault h. inr (c.in_ok-only.ensures, inr ((c.in_ok-bind.bind.items, c.in_ok-bind.ensures), inl h))) c.in_err-key.ensures)

pub returns-in_err-old_key : goal.returns-in_err-old_key
returns-in_err-old_key c =
    let p = err_from_is_err_and c.from_residual-in_err-old_key.result c.from_residual-in_err-old_key.ensures.1 in
    let document = table_view c.args.table.now in
    rw (p.1, p.2) (fault_within (IsWrongAt key.OldKey (λ name. SpelledAt name (SpellsBytes 16 16)) document) (IsServerFault document) c.in_err-old_key.field-0.0 (λ fault h. inr (c.in_ok-only.ensures, inr ((c.in_ok-bind.bind.items, c.in_ok-bind.ensures), inr ((c.in_ok-key.key, c.in_ok-key.ensures), inl h)))) c.in_err-old_key.ensures)

pub returns-in_err-audience : goal.returns-in_err-audience
returns-in_err-audience c =
    let p = err_from_is_err_and c.from_residual-in_err-audience.result c.from_residual-in_err-audience.ensures.1 in
    let document = table_view c.args.table.now in
    rw (p.1, p.2) (fault_within (IsFaultAt key.Audience IsTextAt document) (IsServerFault document) c.in_err-audience.field-0.0 (λ fault h. inr (c.in_ok-only.ensures, inr ((c.in_ok-bind.bind.items, c.in_ok-bind.ensures), inr ((c.in_ok-key.key, c.in_ok-key.ensures), inr (may_found key.OldKey (SpellsBytes 16 16) document c.in_ok-old_key.old_key c.in_ok-old_key.ensures, inl h))))) c.in_err-audience.ensures)

pub returns-in_err-open : goal.returns-in_err-open
returns-in_err-open c =
    let p = err_from_is_err_and c.from_residual-in_err-open.result c.from_residual-in_err-open.ensures.1 in
    let document = table_view c.args.table.now in
    rw (p.1, p.2) (fault_within (IsFaultAt key.Open (λ name. ListedAt name IsPathText) document) (IsServerFault document) c.in_err-open.field-0.0 (λ fault h. inr (c.in_ok-only.ensures, inr ((c.in_ok-bind.bind.items, c.in_ok-bind.ensures), inr ((c.in_ok-key.key, c.in_ok-key.ensures), inr (may_found key.OldKey (SpellsBytes 16 16) document c.in_ok-old_key.old_key c.in_ok-old_key.ensures, inr ((c.in_ok-audience.audience, c.in_ok-audience.ensures), inl h)))))) c.in_err-open.ensures)

pub returns-in_err-revoked : goal.returns-in_err-revoked
returns-in_err-revoked c =
    let p = err_from_is_err_and c.from_residual-in_err-revoked.result c.from_residual-in_err-revoked.ensures.1 in
    let document = table_view c.args.table.now in
    rw (p.1, p.2) (fault_within (IsWrongAt key.Revoked (λ name. SpelledAt name IsRevocationPath) document) (IsServerFault document) c.in_err-revoked.field-0.0 (λ fault h. inr (c.in_ok-only.ensures, inr ((c.in_ok-bind.bind.items, c.in_ok-bind.ensures), inr ((c.in_ok-key.key, c.in_ok-key.ensures), inr (may_found key.OldKey (SpellsBytes 16 16) document c.in_ok-old_key.old_key c.in_ok-old_key.ensures, inr ((c.in_ok-audience.audience, c.in_ok-audience.ensures), inr ((c.in_ok-open.«open».items, c.in_ok-open.ensures), inl h))))))) c.in_err-revoked.ensures)

pub returns-in_err-revoked_ids : goal.returns-in_err-revoked_ids
returns-in_err-revoked_ids c =
    let p = err_from_is_err_and c.from_residual-in_err-revoked_ids.result c.from_residual-in_err-revoked_ids.ensures.1 in
    let document = table_view c.args.table.now in
    rw (p.1, p.2) (fault_within (IsRevokedIdsFault document) (IsServerFault document) c.in_err-revoked_ids.field-0.0 (λ fault h. inr (c.in_ok-only.ensures, inr ((c.in_ok-bind.bind.items, c.in_ok-bind.ensures), inr ((c.in_ok-key.key, c.in_ok-key.ensures), inr (may_found key.OldKey (SpellsBytes 16 16) document c.in_ok-old_key.old_key c.in_ok-old_key.ensures, inr ((c.in_ok-audience.audience, c.in_ok-audience.ensures), inr ((c.in_ok-open.«open».items, c.in_ok-open.ensures), inr (may_found key.Revoked IsRevocationPath document c.in_ok-revoked.revoked c.in_ok-revoked.ensures, inl h)))))))) c.in_err-revoked_ids.ensures)

pub returns-in_err-context_seconds : goal.returns-in_err-context_seconds
returns-in_err-context_seconds c =
    let p = err_from_is_err_and c.from_residual-in_err-context_seconds.result c.from_residual-in_err-context_seconds.ensures.1 in
    let document = table_view c.args.table.now in
    rw (p.1, p.2) (fault_within (IsWrongAt key.ContextSeconds IsSecondsAt document) (IsServerFault document) c.in_err-context_seconds.field-0.0 (λ fault h. inr (c.in_ok-only.ensures, inr ((c.in_ok-bind.bind.items, c.in_ok-bind.ensures), inr ((c.in_ok-key.key, c.in_ok-key.ensures), inr (may_found key.OldKey (SpellsBytes 16 16) document c.in_ok-old_key.old_key c.in_ok-old_key.ensures, inr ((c.in_ok-audience.audience, c.in_ok-audience.ensures), inr ((c.in_ok-open.«open».items, c.in_ok-open.ensures), inr (may_found key.Revoked IsRevocationPath document c.in_ok-revoked.revoked c.in_ok-revoked.ensures, inr ((c.in_ok-revoked.revoked, c.in_ok-revoked_ids.revoked_ids.items, c.in_ok-revoked.ensures, below document c.in_ok-revoked_ids.revoked_ids.items _ _ c.as_ref.ensures.value c.in_ok-revoked_ids.ensures), inl h))))))))) c.in_err-context_seconds.ensures)

pub returns-in_err-reserved_id : goal.returns-in_err-reserved_id
returns-in_err-reserved_id c =
    let p = err_from_is_err_and c.from_residual-in_err-reserved_id.result c.from_residual-in_err-reserved_id.ensures.1 in
    let document = table_view c.args.table.now in
    rw (p.1, p.2) (fault_within (IsWrongAt key.ReservedId (λ name. SpelledAt name (SpellsBytes 0 64)) document) (IsServerFault document) c.in_err-reserved_id.field-0.0 (λ fault h. inr (c.in_ok-only.ensures, inr ((c.in_ok-bind.bind.items, c.in_ok-bind.ensures), inr ((c.in_ok-key.key, c.in_ok-key.ensures), inr (may_found key.OldKey (SpellsBytes 16 16) document c.in_ok-old_key.old_key c.in_ok-old_key.ensures, inr ((c.in_ok-audience.audience, c.in_ok-audience.ensures), inr ((c.in_ok-open.«open».items, c.in_ok-open.ensures), inr (may_found key.Revoked IsRevocationPath document c.in_ok-revoked.revoked c.in_ok-revoked.ensures, inr ((c.in_ok-revoked.revoked, c.in_ok-revoked_ids.revoked_ids.items, c.in_ok-revoked.ensures, below document c.in_ok-revoked_ids.revoked_ids.items _ _ c.as_ref.ensures.value c.in_ok-revoked_ids.ensures), inr (seconds_found key.ContextSeconds document c.in_ok-context_seconds.field-0 c.in_ok-context_seconds.ensures, inl h)))))))))) c.in_err-reserved_id.ensures)

pub returns-in_err-subtrees : goal.returns-in_err-subtrees
returns-in_err-subtrees c =
    let p = err_from_is_err_and c.from_residual-in_err-subtrees.result c.from_residual-in_err-subtrees.ensures.1 in
    let document = table_view c.args.table.now in
    rw (p.1, p.2) (fault_within (IsWrongAt key.Subtrees IsBooleanAt document) (IsServerFault document) c.in_err-subtrees.field-0.0 (λ fault h. inr (c.in_ok-only.ensures, inr ((c.in_ok-bind.bind.items, c.in_ok-bind.ensures), inr ((c.in_ok-key.key, c.in_ok-key.ensures), inr (may_found key.OldKey (SpellsBytes 16 16) document c.in_ok-old_key.old_key c.in_ok-old_key.ensures, inr ((c.in_ok-audience.audience, c.in_ok-audience.ensures), inr ((c.in_ok-open.«open».items, c.in_ok-open.ensures), inr (may_found key.Revoked IsRevocationPath document c.in_ok-revoked.revoked c.in_ok-revoked.ensures, inr ((c.in_ok-revoked.revoked, c.in_ok-revoked_ids.revoked_ids.items, c.in_ok-revoked.ensures, below document c.in_ok-revoked_ids.revoked_ids.items _ _ c.as_ref.ensures.value c.in_ok-revoked_ids.ensures), inr (seconds_found key.ContextSeconds document c.in_ok-context_seconds.field-0 c.in_ok-context_seconds.ensures, inr (may_found key.ReservedId (SpellsBytes 0 64) document c.in_ok-reserved_id.field-0 c.in_ok-reserved_id.ensures, inl h))))))))))) c.in_err-subtrees.ensures)

pub returns-in_err-store : goal.returns-in_err-store
returns-in_err-store c =
    let p = err_from_is_err_and c.from_residual-in_err-store.result c.from_residual-in_err-store.ensures.1 in
    let document = table_view c.args.table.now in
    rw (p.1, p.2) (fault_within (IsWrongAt key.Store (λ name. SpelledAt name IsFileName) document) (IsServerFault document) c.in_err-store.field-0.0 (λ fault h. inr (c.in_ok-only.ensures, inr ((c.in_ok-bind.bind.items, c.in_ok-bind.ensures), inr ((c.in_ok-key.key, c.in_ok-key.ensures), inr (may_found key.OldKey (SpellsBytes 16 16) document c.in_ok-old_key.old_key c.in_ok-old_key.ensures, inr ((c.in_ok-audience.audience, c.in_ok-audience.ensures), inr ((c.in_ok-open.«open».items, c.in_ok-open.ensures), inr (may_found key.Revoked IsRevocationPath document c.in_ok-revoked.revoked c.in_ok-revoked.ensures, inr ((c.in_ok-revoked.revoked, c.in_ok-revoked_ids.revoked_ids.items, c.in_ok-revoked.ensures, below document c.in_ok-revoked_ids.revoked_ids.items _ _ c.as_ref.ensures.value c.in_ok-revoked_ids.ensures), inr (seconds_found key.ContextSeconds document c.in_ok-context_seconds.field-0 c.in_ok-context_seconds.ensures, inr (may_found key.ReservedId (SpellsBytes 0 64) document c.in_ok-reserved_id.field-0 c.in_ok-reserved_id.ensures, inr (subtrees_found document c.in_ok-subtrees.field-0 c.in_ok-subtrees.ensures, inl h)))))))))))) c.in_err-store.ensures)

pub returns-in_err-store_disk : goal.returns-in_err-store_disk
returns-in_err-store_disk c =
    let p = err_from_is_err_and c.from_residual-in_err-store_disk.result c.from_residual-in_err-store_disk.ensures.1 in
    let document = table_view c.args.table.now in
    rw (p.1, p.2) (fault_within (IsStoreDiskFault document) (IsServerFault document) c.in_err-store_disk.field-0.0 (λ fault h. inr (c.in_ok-only.ensures, inr ((c.in_ok-bind.bind.items, c.in_ok-bind.ensures), inr ((c.in_ok-key.key, c.in_ok-key.ensures), inr (may_found key.OldKey (SpellsBytes 16 16) document c.in_ok-old_key.old_key c.in_ok-old_key.ensures, inr ((c.in_ok-audience.audience, c.in_ok-audience.ensures), inr ((c.in_ok-open.«open».items, c.in_ok-open.ensures), inr (may_found key.Revoked IsRevocationPath document c.in_ok-revoked.revoked c.in_ok-revoked.ensures, inr ((c.in_ok-revoked.revoked, c.in_ok-revoked_ids.revoked_ids.items, c.in_ok-revoked.ensures, below document c.in_ok-revoked_ids.revoked_ids.items _ _ c.as_ref.ensures.value c.in_ok-revoked_ids.ensures), inr (seconds_found key.ContextSeconds document c.in_ok-context_seconds.field-0 c.in_ok-context_seconds.ensures, inr (may_found key.ReservedId (SpellsBytes 0 64) document c.in_ok-reserved_id.field-0 c.in_ok-reserved_id.ensures, inr (subtrees_found document c.in_ok-subtrees.field-0 c.in_ok-subtrees.ensures, inr (may_found key.Store IsFileName document c.in_ok-store.field-0 c.in_ok-store.ensures, inl h))))))))))))) c.in_err-store_disk.ensures)

pub returns-in_err-resources : goal.returns-in_err-resources
returns-in_err-resources c =
    let p = err_from_is_err_and c.from_residual-in_err-resources.result c.from_residual-in_err-resources.ensures.1 in
    let document = table_view c.args.table.now in
    rw (p.1, p.2) (fault_within (IsWrongAt key.Resource AreResourcesAt document) (IsServerFault document) c.in_err-resources.field-0.0 (λ fault h. inr (c.in_ok-only.ensures, inr ((c.in_ok-bind.bind.items, c.in_ok-bind.ensures), inr ((c.in_ok-key.key, c.in_ok-key.ensures), inr (may_found key.OldKey (SpellsBytes 16 16) document c.in_ok-old_key.old_key c.in_ok-old_key.ensures, inr ((c.in_ok-audience.audience, c.in_ok-audience.ensures), inr ((c.in_ok-open.«open».items, c.in_ok-open.ensures), inr (may_found key.Revoked IsRevocationPath document c.in_ok-revoked.revoked c.in_ok-revoked.ensures, inr ((c.in_ok-revoked.revoked, c.in_ok-revoked_ids.revoked_ids.items, c.in_ok-revoked.ensures, below document c.in_ok-revoked_ids.revoked_ids.items _ _ c.as_ref.ensures.value c.in_ok-revoked_ids.ensures), inr (seconds_found key.ContextSeconds document c.in_ok-context_seconds.field-0 c.in_ok-context_seconds.ensures, inr (may_found key.ReservedId (SpellsBytes 0 64) document c.in_ok-reserved_id.field-0 c.in_ok-reserved_id.ensures, inr (subtrees_found document c.in_ok-subtrees.field-0 c.in_ok-subtrees.ensures, inr (may_found key.Store IsFileName document c.in_ok-store.field-0 c.in_ok-store.ensures, inr ((c.in_ok-store_disk.field-0, c.in_ok-store_disk.ensures), h)))))))))))))) c.in_err-resources.ensures)
