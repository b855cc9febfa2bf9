use Rattle.std.proofs.Common.{refl}
use Rattle.osc_coap.proofs.HeaderLaws.{spelling-header}
use Rattle.osc_coap.proofs.laws.one_spelling.Goals as goal

pub returns-clause-spelled : goal.returns-clause-spelled
returns-clause-spelled c = λ m lawful. record { lawful = lawful; whole = refl }

pub returns-clause-only : goal.returns-clause-only
returns-clause-only c = λ bytes m spells. spells.whole

pub returns-clause-header : goal.returns-clause-header
returns-clause-header c = λ bytes m spells. rw spells.whole (spelling-header m spells.lawful)
