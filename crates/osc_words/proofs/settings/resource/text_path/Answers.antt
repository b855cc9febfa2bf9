use Rattle.std.proofs.Common.{ℕ, List, Bor}
use Rattle.toml.specs.View.{view}
use Rattle.osc_words.proofs.settings.Keys.{seen_some}
use Rattle.osc_words.proofs.settings.Resources.{path_in}
use Rattle.osc_words.proofs.settings.resource.text_path.Goals as goal

pub returns-in-Some : goal.returns-in-Some
returns-in-Some c =
    let there = seen_some (λ (text : Bor (List ℕ)). text.now) c.as_str.result _ c.in-Some.text c.as_str.ensures c.in-Some.is in
    path_in (view c.args.value.now) c.in-Some.text.now c.path.result there c.path.ensures
