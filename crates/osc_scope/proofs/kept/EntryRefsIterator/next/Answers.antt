use Rattle.std.proofs.Common.{length}
use Rattle.std.proofs.lemmas.List.Elements.{All-rest}
use Rattle.osc_scope.specs.Inner.Kept.{IsWithin}
use Rattle.osc_scope.proofs.kept.EntryRefsIterator.next.Goals as goal

pub invariant_of-self : goal.invariant_of-self
invariant_of-self c =
    All-rest (IsWithin (length c.self.inside.texts.now)) c.in_ok-first.first.now c.in_ok-first.rest.now c.self.inside.left.now c.in_ok-first.ensures.cases.0 c.self.invariant
