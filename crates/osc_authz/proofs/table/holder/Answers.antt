use Rattle.std.proofs.Common.{Some, sym, ap, ◌∙◌}
use Rattle.osc_authz.specs.declared.token_entry.TokenEntry.{TokenEntry}
use Rattle.osc_authz.proofs.PlaceLemmas.{holder_there, holder_nowhere}
use Rattle.osc_authz.proofs.table.holder.Goals as goal

pub returns-in-Some : goal.returns-in-Some
returns-in-Some c =
    ap Some (c.token.ensures ∙ ap (λ (entry : TokenEntry). entry.id) c.index-table-index.is)
    ∙ holder_there c.args.id.now c.args.table.now c.in-Some.index c.index-table-index.result (sym c.place_of_id.ensures ∙ c.in-Some.is)

pub returns-in-None : goal.returns-in-None
returns-in-None c = holder_nowhere c.args.id.now c.args.table.now (sym c.place_of_id.ensures ∙ c.in-None.is)
