use Rattle.std.proofs.Common.{ℕ, List, Bor}
use Rattle.toml.specs.View.{table_view}
use Rattle.osc_words.specs.declared.settings.key.SettingsKey.TheVariants as key
use Rattle.osc_words.proofs.settings.Keys.{seen_none}
use Rattle.osc_words.proofs.settings.Spelled.{no_text}
use Rattle.osc_words.proofs.settings.server.audience.Goals as goal

pub returns-in-None : goal.returns-in-None
returns-in-None c =
    let none = seen_none (λ (text : Bor (List ℕ)). text.now) c.text_at.result _ c.text_at.ensures c.in-None.is in
    no_text key.Audience (table_view c.args.table.now) c.untyped_at.result none c.untyped_at.ensures
