use Rattle.clap.specs.Words.{found_of, rows_of}
use Rattle.osc_words.proofs.Parts.{claims_said}
use Rattle.osc_words.proofs.token_words.claims.Goals as goal

pub returns : goal.returns
returns c =
    claims_said (rows_of (found_of c.args.options.now)) _ c.in_ok-audience.ensures c.in_ok-number.ensures c.in_ok-expires.ensures c.in_ok-required_bytes.ensures c.in_ok-salt.ensures
    c.in_ok-bytes.ensures c.in_ok-algorithm.ensures c.in_ok-scope.ensures
