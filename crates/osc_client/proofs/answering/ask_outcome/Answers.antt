use Rattle.std.proofs.Common.{◌≡◌, ◌∙◌, sym, true, refl}
use Rattle.osc_options.specs.{has_oscore}
use Rattle.osc_client.specs.{malformed}
use Rattle.osc_client.proofs.answering.ask_outcome.Goals as goal

pub returns-in-Err-clause-comes : goal.returns-in-Err-clause-comes
returns-in-Err-clause-comes g c =
    let protected : has_oscore c.args.message.now.options ≡ true = sym c.has_option.ensures ∙ c.if-not-has_option.false in
    malformed protected (λ response is. let wrong = c.in-Err.ensures.only response is in cc) refl
