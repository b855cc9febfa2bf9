use Rattle.std.proofs.Common.{MatchResult, rules, sym, ◌∙◌}
use Rattle.toml.specs.View.{table_view}
use Rattle.osc_words.specs.Settings.Inner.Reading.{IsRefusal}
use Rattle.osc_words.specs.Settings.{IsSeconds}
use Rattle.osc_words.proofs.settings.Spelled.{number_read, no_number_there}
use Rattle.osc_words.proofs.settings.document.seconds_at.Goals as goal

pub returns-in-Some : goal.returns-in-Some
returns-in-Some c =
    let read : MatchResult c.seconds.result (IsSeconds c.in-Some.number) (IsRefusal (IsSeconds c.in-Some.number)) = search (rules, c.seconds.ensures) in
    number_read c.args.key IsSeconds (table_view c.args.table.now) c.in-Some.number c.seconds.result c.read_at.result (sym c.integer_at.ensures ∙ c.in-Some.is) read c.read_at.ensures

pub returns-in-None : goal.returns-in-None
returns-in-None c = no_number_there c.args.key IsSeconds (table_view c.args.table.now) c.untyped_at.result (sym c.integer_at.ensures ∙ c.in-None.is) c.untyped_at.ensures
