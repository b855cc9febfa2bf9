use Rattle.std.proofs.Common.{◌≡◌, ◌++◌, length, map}
use Rattle.osc_model.specs.{pieces}
use Rattle.osc_model.proofs.revocation.add_pieces.Given as goal

-- what was added, and then the pieces of the rest, are the pieces of all
abbrev pub invariant-pieces : goal.invariant-pieces
invariant-pieces l =
    map (λ segment. segment.now) l.segments.items ++ pieces (length l.rest) l.rest
    ≡ map (λ segment. segment.now) l.initial.segments.items ++ pieces (length l.initial.rest) l.initial.rest

abbrev pub decreases-pieces : goal.decreases-pieces
decreases-pieces l = length l.rest
