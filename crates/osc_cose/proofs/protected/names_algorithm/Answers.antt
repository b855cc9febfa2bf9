use Rattle.std.proofs.Common.{◌≢◌, []}
use Rattle.osc_cose.proofs.ProtectedLemmas.{names_from_value, value_from_names, none_names, some_bytes}
use Rattle.osc_cose.proofs.protected.names_algorithm.Goals as goal

pub returns-in-Some : goal.returns-in-Some
returns-in-Some c =
    let bytes = c.args.bytes.now in
    let item = c.in-Some.item in
    let found = rw c.in-Some.is at c.whole.ensures in
    let some : bytes ≢ [] = some_bytes bytes (cc) in (
      λ e. names_from_value bytes item found.0 (c.has_algorithm.ensures.0 e),
      λ n. c.has_algorithm.ensures.1 (value_from_names bytes item found.1 some n),
    )

pub returns-in-None : goal.returns-in-None
returns-in-None c =
    let bytes = c.args.bytes.now in
    let none = rw c.in-None.is at c.whole.ensures in
    (λ e. cc, λ n. absurd (none_names bytes none (some_bytes bytes (cc)) n))
