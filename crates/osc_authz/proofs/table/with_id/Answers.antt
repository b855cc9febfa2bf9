use Rattle.std.proofs.Common.{◌++◌, sym, ap, ◌∙◌, find}
use Rattle.osc_authz.specs.declared.token_entry.TokenEntry.{TokenEntry}
use Rattle.osc_authz.specs.{has_id, listed}
use Rattle.osc_authz.proofs.PlaceLemmas.{found_there, found_nowhere}
use Rattle.osc_authz.proofs.table.with_id.Goals as goal

pub returns-in-Some : goal.returns-in-Some
returns-in-Some c =
    c.with_id.ensures
    ∙ ap (λ (entry : TokenEntry). find (has_id c.args.id.now) (listed entry.confirmed ++ listed entry.pending)) c.index-table-index.is
    ∙ found_there c.args.id.now c.args.table.now c.in-Some.index c.index-table-index.result (sym c.place_of_id.ensures ∙ c.in-Some.is)

pub returns-in-None : goal.returns-in-None
returns-in-None c = found_nowhere c.args.id.now c.args.table.now (sym c.place_of_id.ensures ∙ c.in-None.is)
