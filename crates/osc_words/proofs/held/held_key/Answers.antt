use Rattle.std.proofs.Common.{subst, List, ℕ}
use Rattle.std.specs.Str.{IsUtf8}
use Rattle.osc_words.proofs.HexText.{no_text}
use Rattle.osc_words.proofs.held.held_key.Goals as goal

pub returns-in-Err : goal.returns-in-Err
returns-in-Err c = no_text 16 16 _ (subst (λ (text : List ℕ). ¬ IsUtf8 text) c.without_end.ensures c.in-Err.ensures.cases.0)
