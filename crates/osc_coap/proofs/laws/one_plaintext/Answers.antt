use Rattle.std.proofs.Common.{refl}
use Rattle.osc_coap.proofs.PlaintextLaws.{same_plaintext}
use Rattle.osc_coap.proofs.laws.one_plaintext.Goals as goal

pub returns-clause-one : goal.returns-clause-one
returns-clause-one c = same_plaintext

pub returns-clause-spelled : goal.returns-clause-spelled
returns-clause-spelled c = λ p lawful. record { lawful = lawful; whole = refl }

pub returns-clause-only : goal.returns-clause-only
returns-clause-only c = λ bytes p spells. spells.whole
