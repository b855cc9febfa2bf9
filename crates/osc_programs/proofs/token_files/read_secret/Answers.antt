use Rattle.std.proofs.Common.{arith}
use Rattle.std.specs.Option.{option_and_then}
use Rattle.std.proofs.lemmas.Result.{err_from_is_err_and}
use Rattle.osc_words.specs.declared.hidden_option.HiddenOption.TheVariants as hidden
use Rattle.osc_programs.proofs.KeyFiles.{holds_none}
use Rattle.osc_programs.proofs.token_files.read_secret.Goals as goal

pub returns-in_err-bytes : goal.returns-in_err-bytes
returns-in_err-bytes g c =
    let p = err_from_is_err_and c.from_residual.result c.from_residual.ensures.1 in
    rw (p.1, p.2) (holds_none 1 64 hidden.Secret (option_and_then g.S.Read.remaining c.args.file) c.in_err-bytes.field-0.0 (omega arith) c.in_err-bytes.ensures.fault)
