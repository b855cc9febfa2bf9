use Rattle.std.proofs.Common.{refl, sym, true, ◌∙◌, ◌≡◌}
use Rattle.osc_options.specs.{has_unrecognised_unsafe}
use Rattle.osc_proxy.proofs.route.route_of.Goals as goal

pub returns-then-survey : goal.returns-then-survey
returns-then-survey c =
    let named = c.something_is_named.ensures c.args.message.now.options in
    let unsafe : has_unrecognised_unsafe 0 c.args.message.now.options ≡ true = sym c.proxy_survey_of-survey.ensures.unsafe_option ∙ c.if-survey.true in
    (named.0, named.1, rw unsafe refl)
