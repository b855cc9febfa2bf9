use Rattle.std.proofs.Common.{◌≡◌, drop, false, sym, ◌∙◌, subst}
use Rattle.std.proofs.lemmas.Option.{same_Some}
use Rattle.osc_proxy.specs.{HasOwnTokens, answers}
use Rattle.osc_proxy.specs.declared.exchanges.Exchange.{Exchange}
use Rattle.osc_proxy.proofs.Tokens.{first_of, found_by_own, none_elsewhere, none_of, none_without}
use Rattle.osc_proxy.proofs.exchanges.Exchanges.find.Goals as goal

pub returns-in_default : goal.returns-in_default
returns-in_default c =
    let table = c.args.self.now in
    let own : HasOwnTokens table = subst HasOwnTokens c.self.view_is c.self.invariant.1 in
    sym (none_without table c.args.from c.args.message.now own (sym c.token.ensures.value ∙ none_of c.token.result.now c.in_default.len_below))

pub returns-in-None : goal.returns-in-None
returns-in-None c =
    let table = c.args.self.now in
    let bytes = c.token.result.now in
    let own : HasOwnTokens table = subst HasOwnTokens c.self.view_is c.self.invariant.1 in
    let token = sym c.token.ensures.value ∙ first_of bytes 0 c.in-len1-up.len_at_least in
    let empty = rw c.in-None.is at c.get.ensures in
    sym (none_elsewhere table c.args.from c.args.message.now _ (drop 1 bytes) own token (λ exchange is. absurd (cc (sym is ∙ sym empty))))

pub returns-then-answers : goal.returns-then-answers
returns-then-answers c =
    let table = c.args.self.now in
    let own : HasOwnTokens table = subst HasOwnTokens c.self.view_is c.self.invariant.1 in
    let here = rw c.in-Some.is at c.get.ensures in
    sym (found_by_own table c.args.from c.args.message.now _ c.in-Some.exchange.now own (sym here) (sym c.answers.ensures ∙ c.if-answers.true))

pub returns-else-answers : goal.returns-else-answers
returns-else-answers c =
    let table = c.args.self.now in
    let from = c.args.from in
    let message = c.args.message.now in
    let bytes = c.token.result.now in
    let own : HasOwnTokens table = subst HasOwnTokens c.self.view_is c.self.invariant.1 in
    let token = sym c.token.ensures.value ∙ first_of bytes 0 c.in-len1-up.len_at_least in
    let here = rw c.in-Some.is at c.get.ensures in
    let fails : answers from message c.in-Some.exchange.now ≡ false = sym c.answers.ensures ∙ c.if-answers.false in
    sym (none_elsewhere table from message _ (drop 1 bytes) own token
    (λ exchange is. subst (λ (e : Exchange). answers from message e ≡ false) (same_Some c.in-Some.exchange.now exchange (here ∙ is)) fails))
