use Rattle.std.proofs.Common.{◌≡◌, List, ◌++◌, length, sym, subst, take, drop, Some, ap, ◌∙◌, arith}
use Rattle.std.proofs.lemmas.List.{take_at}
use Rattle.osc_authz.specs.declared.token_entry.TokenEntry.{TokenEntry}
use Rattle.osc_authz.specs.Inner.Places.{IsIndex}
use Rattle.osc_authz.specs.{IsTable, accepted, with_id}
use Rattle.osc_authz.proofs.AgreementLemmas.{few_accepted}
use Rattle.osc_authz.proofs.KeptPlaces.{kept_accepted}
use Rattle.osc_authz.proofs.Lookups.{found_again}
use Rattle.osc_authz.proofs.TableLaws.{accepted_is_table}
use Rattle.osc_authz.proofs.desk.ServerDesk.accept.Goals as goal

pub accept-requires-clause-fresh : goal.accept-requires-clause-fresh
accept-requires-clause-fresh c = (c.requires.fresh.0, rw c.deref_mut.ensures.value (rw (← c.self.view_is) at c.requires.fresh.1), c.requires.fresh.2)

-- the table as it is written back
written : (c : goal.After-self-1) → take c.self.inside.table.len (c.accept.new.table ++ drop (length c.accept.new.table) c.self.inside.table.items) ≡ c.accept.new.table
written c =
    take_at c.accept.new.table (drop (length c.accept.new.table) c.self.inside.table.items) c.self.inside.table.len (omega (arith, c.accept.auto.table, c.deref_mut.ensures.len))

same : (c : goal.After-self-1)
    → take c.self.inside.table.len (c.accept.new.table ++ drop (length c.accept.new.table) c.self.inside.table.items) ≡ accepted c.args.id.now c.args.number c.self.inside.table.items
same c =
    let new : c.accept.new.table ≡ accepted c.args.id.now c.args.number c.self.inside.table.items = c.accept.ensures.accepted ∙ ap (accepted c.args.id.now c.args.number) c.deref_mut.ensures.value in
    written c ∙ new

kept : (c : goal.After-self-1) → IsTable (take c.self.inside.table.len (c.accept.new.table ++ drop (length c.accept.new.table) c.self.inside.table.items))
kept c = rw (same c) (accepted_is_table c.args.id.now c.args.number c.self.inside.table.items c.self.invariant.0)

pub invariant_of-self : goal.invariant_of-self
invariant_of-self c = (
  kept c,
  subst (λ (table : List TokenEntry). IsIndex c.accept.new.places table) (sym (written c)) c.accept.ensures.index,
  rw (same c) (few_accepted c.args.id.now c.args.number c.self.inside.rules.remembered c.self.inside.table.items c.self.invariant.2),
  rw (same c) (kept_accepted c.self.inside.rules.reserved c.args.id.now c.args.number c.self.inside.table.items c.self.invariant.3),
)

pub returns-clause-table : goal.returns-clause-table
returns-clause-table c = kept c

pub returns-clause-found : goal.returns-clause-found
returns-clause-found c =
    let held = c.requires.fresh.0 in
    let there : with_id c.args.id.now c.self.inside.table.items ≡ Some held = rw (← c.self.view_is) at c.requires.fresh.1 in
    rw (c.requires.fresh.1, same c) (found_again c.args.id.now c.args.number c.self.inside.table.items held c.self.invariant.0.own_ids there)
