use Rattle.osc_cose.specs.{IsProtected}
use Rattle.osc_cose.proofs.ProtectedLemmas.{protected_in_map, some_bytes}
use Rattle.osc_cose.proofs.protected.is_protected.Goals as goal

pub returns-else-is_empty : goal.returns-else-is_empty
returns-else-is_empty c =
    let bytes = c.args.bytes.now in (
      λ e. IsProtected.holds (c.is_whole_map.ensures.0 e).0 (c.is_whole_map.ensures.0 e).1,
      λ p. c.is_whole_map.ensures.1 (protected_in_map bytes (some_bytes bytes (cc)) p),
    )
