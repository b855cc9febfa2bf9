use Rattle.std.proofs.Common.{◌≡◌, ◌∙◌, ap, rules}
use Rattle.std.proofs.lemmas.Result.{IfOk-weaker}
use Rattle.osc_model.specs.declared.step.ClientResult.TheVariants.{Made}
use Rattle.osc_programs.specs.declared.asking.AskEnd.TheVariants.{Told}
use Rattle.osc_programs.proofs.Contexts.{exchange_made, exchanged_as, holds_context, one_unused}
use Rattle.osc_programs.proofs.context.made_by.Goals as goal

pub text_of-requires : goal.text_of-requires
text_of-requires g c =
    let learnt : c.in-Told-Made.field-0 ≡ Made = search rules in
    let found = exchange_made _ _ _ _ c.in_ok-ended.ensures.exchanges.1 (c.in-Told-Made.is ∙ ap Told learnt) in
    holds_context _ found.0 found.1

pub returns-in-Told-Made-clause-made : goal.returns-in-Told-Made-clause-made
returns-in-Told-Made-clause-made g c =
    let learnt : c.in-Told-Made.field-0 ≡ Made = search rules in
    let is = c.in-Told-Made.is ∙ ap Told learnt in
    let made = c.in_ok-ended.ensures.exchanges in
    let found = exchange_made _ _ _ _ made.1 is in
    IfOk-weaker c.text_of.result _ _
    (λ text has. (
      made.0,
      has.0,
      exchanged_as _ _ _ _ _ _ is made.1,
      made.2,
      one_unused _ has.0 found.0 found.1 has.1,
      has.2,
    ))
    c.text_of.ensures.text
