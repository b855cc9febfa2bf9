use Rattle.std.proofs.Common.{false, sym, ap, ◌∙◌}
use Rattle.std.specs.Option.{option_map_or}
use Rattle.osc_authz.specs.declared.token_entry.TokenEntry.{TokenEntry}
use Rattle.osc_authz.specs.{has_id}
use Rattle.osc_authz.proofs.Lookups.{is_placed}
use Rattle.osc_authz.proofs.PlaceLemmas.{stays_indexed}
use Rattle.osc_authz.proofs.table.confirms.Goals as goal

pub unreachable-requires : goal.unreachable-requires
unreachable-requires c = is_placed c.args.id.now 0 c.args.table.now c.requires.there.0 c.requires.there.1 (sym c.place_of_id.ensures ∙ c.in-None.is)

pub returns : goal.returns
returns c = λ none number.
    let here = c.index-table-index.result in
    stays_indexed c.args.id.now number c.args.table.now c.args.places.now c.in-Some.index here c.requires.table c.requires.index
    (sym c.place_of_id.ensures ∙ c.in-Some.is)
    (ap (λ (entry : TokenEntry). option_map_or (has_id c.args.id.now) entry.pending false) (sym c.index-table-index.is) ∙ sym c.awaits.ensures ∙ none)
