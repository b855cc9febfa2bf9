use Rattle.std.proofs.Common.{ap, ◌∙◌}
use Rattle.osc_coap.specs.{message_at, plaintext_at}
use Rattle.osc_coap.proofs.MessageLaws.{message_takes, message_again}
use Rattle.osc_coap.proofs.PlaintextLaws.{plaintext_takes, plaintext_again}
use Rattle.osc_coap.proofs.laws.reading.Goals as goal

pub returns-clause-message : goal.returns-clause-message
returns-clause-message c = message_takes

pub returns-clause-message_again : goal.returns-clause-message_again
returns-clause-message_again c = λ bytes m spells. ap message_at spells.whole ∙ message_again m spells.lawful

pub returns-clause-plaintext : goal.returns-clause-plaintext
returns-clause-plaintext c = plaintext_takes

pub returns-clause-plaintext_again : goal.returns-clause-plaintext_again
returns-clause-plaintext_again c = λ bytes p spells. ap plaintext_at spells.whole ∙ plaintext_again p spells.lawful
