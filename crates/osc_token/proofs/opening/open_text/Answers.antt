use Rattle.osc_cose.specs.declared.error.OpenEncrypt0Error.TheVariants.{Memory}
use Rattle.osc_token.proofs.OpeningLemmas.{found_of, only_of, both_ok}
use Rattle.osc_token.proofs.opening.open_text.Goals as goal

pub returns-clause-opened : goal.returns-clause-opened
returns-clause-opened g c =
    found_of _ c.open0.result c.text_opened.result c.text_opened.ensures.answer (both_ok _ _ c.open0.result c.open0.ensures.named c.open0.ensures.opened)

pub returns-clause-only : goal.returns-clause-only
returns-clause-only g c = λ text named sealed.
    only_of text Memory c.open0.result c.text_opened.result c.text_opened.ensures.answer c.text_opened.ensures.memory (c.open0.ensures.only text named sealed)
