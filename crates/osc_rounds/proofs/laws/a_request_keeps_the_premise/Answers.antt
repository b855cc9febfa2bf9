use Rattle.osc_rounds.proofs.AskRound.{lawful_context}
use Rattle.osc_rounds.proofs.Premises.{request_among}
use Rattle.osc_rounds.proofs.laws.a_request_keeps_the_premise.Goals as goal

pub returns : goal.returns
returns c = λ minted old all table now request reply asked served answered is_table here notes among p.
    request_among minted old all now request reply asked served answered (lawful_context table request.held is_table here) notes among p
