use Rattle.std.proofs.Common.{◌≡◌, ℕ, ◌<◌, true, List, length, get_or, set, Option, Some, refl, sym, ap, ◌∙◌, arith}
use Rattle.std.specs.Prelude.{option_and_then, slice_get}
use Rattle.std.proofs.lemmas.List.{get_or-set_same, length-set}
use Rattle.std.proofs.lemmas.Option.{slice_get-get_or}
use Rattle.osc_window.specs.{IsFresh}
use Rattle.osc_authz.specs.SecurityContext.{SecurityContext}
use Rattle.osc_authz.specs.{confirmed_at, has_id, taking}
use Rattle.osc_authz.specs.declared.token_entry.TokenEntry.{TokenEntry}
use Rattle.osc_authz.proofs.Lookups.{HoldOf, accepted_here, each_of, found_here, is_placed}
use Rattle.osc_authz.proofs.table.take_number.Goals as goal

fresh : (c : goal.After-index-table-index)
    → HoldOf (λ held. has_id c.args.id.now held ≡ true → IsFresh held.window c.args.number) (get_or c.args.table.now c.in-Some.index c.index-table-index.result)
fresh c =
    each_of (λ held. IsFresh held.window c.args.number) c.args.id.now c.args.table.now c.requires.fresh.0 c.in-Some.index c.index-table-index.result c.requires.table c.requires.fresh.1 c.requires.fresh.2
    (found_here c.args.id.now c.args.number c.args.table.now c.in-Some.index c.index-table-index.result (sym c.place_of_id.ensures ∙ c.in-Some.is)).0

pub accept-requires-clause-there : goal.accept-requires-clause-there
accept-requires-clause-there c =
    (found_here c.args.id.now c.args.number c.args.table.now c.in-Some.index c.index-table-index.result (sym c.place_of_id.ensures ∙ c.in-Some.is)).1

pub accept-requires-clause-confirmed : goal.accept-requires-clause-confirmed
accept-requires-clause-confirmed c = (fresh c).confirmed

pub accept-requires-clause-pending : goal.accept-requires-clause-pending
accept-requires-clause-pending c = (fresh c).pending

pub unreachable-requires : goal.unreachable-requires
unreachable-requires c =
    is_placed c.args.id.now c.args.number c.args.table.now c.requires.fresh.0 c.requires.fresh.1 (sym c.place_of_id.ensures ∙ c.in-None.is)

-- the confirmed context of an entry that was put at a place
confirmed_in : (table : List TokenEntry) (i : ℕ) (new : TokenEntry) (held : SecurityContext) → i < length table → new.confirmed ≡ Some held
    → confirmed_at i (set table i new) ≡ Some held
confirmed_in table i new held within is =
    let there : slice_get (set table i new) i ≡ Some new =
    slice_get-get_or (set table i new) i new (omega (arith, within, length-set table i new)) ∙ ap Some (get_or-set_same table i new new within) in
    ap (λ (found : Option TokenEntry). option_and_then (λ entry. entry.confirmed) found) there ∙ is

-- the context is the only one that has the ID
alone : (c : goal.After-accept)
    → HoldOf (λ context. has_id c.args.id.now context ≡ true → context ≡ c.requires.fresh.0) (get_or c.args.table.now c.in-Some.index c.index-table-index.result)
alone c =
    each_of (λ context. context ≡ c.requires.fresh.0) c.args.id.now c.args.table.now c.requires.fresh.0 c.in-Some.index c.index-table-index.result c.requires.table c.requires.fresh.1 refl
    (found_here c.args.id.now c.args.number c.args.table.now c.in-Some.index c.index-table-index.result (sym c.place_of_id.ensures ∙ c.in-Some.is)).0

pub returns-clause-right : goal.returns-clause-right
returns-clause-right c = rw c.requires.fresh.1 (c.accept.ensures.right c.requires.fresh.0 (alone c).confirmed (alone c).pending)

pub returns-clause-placed : goal.returns-clause-placed
returns-clause-placed c =
    let within = (found_here c.args.id.now c.args.number c.args.table.now c.in-Some.index c.index-table-index.result (sym c.place_of_id.ensures ∙ c.in-Some.is)).0 in
    let confirmed = c.accept.ensures.confirmed c.requires.fresh.0 (alone c).confirmed (alone c).pending in
    rw c.requires.fresh.1 (confirmed_in c.args.table.now c.in-Some.index c.accept.new.self (taking c.args.number c.requires.fresh.0) within confirmed)

pub returns-clause-accepted : goal.returns-clause-accepted
returns-clause-accepted c =
    rw c.accept.ensures.accepted
    (accepted_here c.args.id.now c.args.number c.args.table.now c.in-Some.index c.index-table-index.result c.requires.table (sym c.place_of_id.ensures ∙ c.in-Some.is))
