use Rattle.std.proofs.Common.{ap, sym, ◌∙◌}
use Rattle.osc_message.specs.{messages}
use Rattle.osc_message.proofs.endpoint.Endpoint.next_deadline.Goals as goal

pub returns-clause-open : goal.returns-clause-open
returns-clause-open g c = λ some. c.deadline.ensures.open (λ none. some (ap (λ e. e.sending) (sym c.self.view_is) ∙ ap messages (sym c.deref.ensures.value ∙ none)))
