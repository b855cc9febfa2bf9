use Rattle.std.proofs.Common.{sym, ◌∙◌}
use Rattle.osc_words.proofs.settings.Hexadecimal.{array_read, no_array}
use Rattle.osc_words.proofs.settings.values.array.Goals as goal

pub returns-in-Ok : goal.returns-in-Ok
returns-in-Ok g c = array_read g.row.N c.args.text.now c.in-Ok.bytes (sym c.from_hex.ensures ∙ c.in-Ok.is)

pub returns-in-Err : goal.returns-in-Err
returns-in-Err g c = no_array g.row.N c.args.text.now c.in-Err.field-0 (sym c.from_hex.ensures ∙ c.in-Err.is)
