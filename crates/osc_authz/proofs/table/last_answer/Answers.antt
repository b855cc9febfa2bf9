use Rattle.std.proofs.Common.{sym, ap, ◌∙◌}
use Rattle.osc_authz.specs.declared.token_entry.TokenEntry.{TokenEntry}
use Rattle.osc_authz.specs.{last_in}
use Rattle.osc_authz.proofs.LastAnswers.{last_there, last_nowhere}
use Rattle.osc_authz.proofs.table.last_answer.Goals as goal

pub returns-in-Some : goal.returns-in-Some
returns-in-Some c =
    c.last_answer.ensures
    ∙ ap (λ (entry : TokenEntry). last_in c.args.id.now entry) c.index-table-index.is
    ∙ last_there c.args.id.now c.args.table.now c.in-Some.index c.index-table-index.result (sym c.place_of_id.ensures ∙ c.in-Some.is)

pub returns-in-None : goal.returns-in-None
returns-in-None c = last_nowhere c.args.id.now c.args.table.now (sym c.place_of_id.ensures ∙ c.in-None.is)
