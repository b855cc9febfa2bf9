use Rattle.std.proofs.Common.{ℕ, ◌++◌, List, ap, sym, ◌∙◌, append-nil}
use Rattle.std.specs.List.{filter_map}
use Rattle.osc_message.specs.{tick_gives_up}
use Rattle.osc_message.specs.declared.name.MessageName.{MessageName}
use Rattle.osc_proxy.specs.{is_given_up}
use Rattle.osc_proxy.specs.Inner.Over.{own_given_up}
use Rattle.osc_proxy.specs.declared.exchanges.Exchange.{Exchange}
use Rattle.osc_proxy.proofs.GivenUp.{given_up_same}
use Rattle.osc_proxy.proofs.exchanges.Exchanges.given_up.Goals as goal

pub returns : goal.returns
returns c = λ key exchange is.
    let all = tick_gives_up c.args.endpoint.now.pace c.args.now c.args.endpoint.now.sending in
    let here = c.loop-exchange in
    ap (λ (names : List MessageName). is_given_up names exchange)
    (sym (append-nil here.names.items)
    ∙ ap (λ (rest : List (ℕ × Exchange)). here.names.items ++ filter_map (λ entry. own_given_up all entry.1) rest) (sym c.in-None.ensures.steps.0)
    ∙ here.invariant.names)
    ∙ given_up_same all c.args.self.now key exchange is
