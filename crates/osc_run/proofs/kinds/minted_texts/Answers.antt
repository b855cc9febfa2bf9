use Rattle.osc_run.proofs.MintedTexts.{minted_text}
use Rattle.osc_run.proofs.kinds.minted_texts.Goals as goal

pub returns : goal.returns
returns c = minted_text c.minted_texts.ensures
