use Rattle.std.proofs.Common.{List, ℕ}
use Rattle.std.proofs.lemmas.Result.{err_from_is_err_and}
use Rattle.osc_words.specs.Settings.{IsRevocationPath}
use Rattle.osc_words.specs.Settings.Inner.Reading.{IsRefusal, SpellsPath}
use Rattle.osc_words.specs.declared.settings.error.ValueError.{ValueError}
use Rattle.osc_words.specs.declared.settings.error.ValueError.TheVariants.{Bad, Memory}
use Rattle.osc_words.proofs.settings.values.revocation_path.Goals as goal

-- what is no path is no path of so few segments
refused : (text : List ℕ) (error : ValueError) → IsRefusal (SpellsPath text) error → IsRefusal (IsRevocationPath text) error
refused text Bad none = λ path is. none path (is.0, is.1)
refused text Memory none = tt

pub returns-in_err-path : goal.returns-in_err-path
returns-in_err-path c =
    let p = err_from_is_err_and c.from_residual.result c.from_residual.ensures.1 in
    rw (p.1, p.2) (refused c.args.text.now c.in_err-path.field-0.0 c.in_err-path.ensures)
