use Rattle.std.proofs.Common.{◌≡◌, ℕ, List, true, not, ap, sym, ◌∙◌}
use Rattle.std.specs.Prelude.{filter}
use Rattle.osc_message.specs.{EndpointState}
use Rattle.osc_proxy.specs.{is_of_over, is_overdue}
use Rattle.osc_proxy.specs.declared.exchanges.Exchange.{Exchange}
use Rattle.osc_proxy.proofs.Over.{all_over, one_over}
use Rattle.osc_proxy.proofs.exchanges.Exchanges.withdraw_over.Goals as goal

pub loop-exchange-preserved-then-is_overdue : goal.loop-exchange-preserved-then-is_overdue
loop-exchange-preserved-then-is_overdue c =
    let now = c.args.now in
    let here = c.loop-exchange.endpoint in
    let exchange = c.in-Some.exchange.now in
    let rest = c.next.new.self in
    let over : is_overdue now exchange ≡ true = sym c.is_overdue.ensures ∙ c.if-is_overdue.true in
    ap (λ (e : EndpointState). record e { sending = filter (λ message. not (is_of_over now rest message)) e.sending }) c.withdraw.ensures
    ∙ one_over now c.in-Some.field-0-0 exchange rest here over
    ∙ ap (λ (all : List (ℕ × Exchange)). record here { sending = filter (λ message. not (is_of_over now all message)) here.sending }) (sym c.in-Some.ensures.steps)
    ∙ c.loop-exchange.invariant

pub returns : goal.returns
returns c =
    let now = c.args.now in
    let here = c.loop-exchange.endpoint in
    sym (all_over now here)
    ∙ ap (λ (all : List (ℕ × Exchange)). record here { sending = filter (λ message. not (is_of_over now all message)) here.sending }) (sym c.in-None.ensures.steps.0)
    ∙ c.loop-exchange.invariant
