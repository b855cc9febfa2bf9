use Rattle.std.proofs.Common.{List, ℕ, subst, sym, ◌∙◌}
use Rattle.std.proofs.lemmas.Option.{same_Some}
use Rattle.std.proofs.lemmas.Result.{IfOk-weaker}
use Rattle.osc_protect.specs.{SaysRequest}
use Rattle.osc_server.proofs.serving.sealed_request.Goals as goal

pub returns-clause-found : goal.returns-clause-found
returns-clause-found c =
    IfOk-weaker c.read_request.result _ _ (λ request says. record { bytes = c.args.value.now; option = c.requires; says = says }) c.read_request.ensures.found

pub returns-clause-only : goal.returns-clause-only
returns-clause-only c = λ request is.
    c.read_request.ensures.only request
    (subst (λ (bytes : List ℕ). SaysRequest bytes c.args.message.now request) (same_Some is.bytes c.args.value.now (sym is.option ∙ c.requires)) is.says)
