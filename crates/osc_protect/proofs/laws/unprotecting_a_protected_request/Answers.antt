use Rattle.std.proofs.Common.{ap, ◌∙◌}
use Rattle.osc_coap.specs.Message.{Message}
use Rattle.osc_options.specs.{plaintext_of, unprotected}
use Rattle.osc_protect.specs.{request_value}
use Rattle.osc_protect.proofs.LawMessages.{request_says}
use Rattle.osc_protect.proofs.laws.unprotecting_a_protected_request.Goals as goal

pub returns-clause-request : goal.returns-clause-request
returns-clause-request g c = λ name number m p short fits made.
    request_says g.A.Ciphers.is_sealing g.A.Ciphers.TAG g.met.A.Ciphers.one_text g.met.A.Ciphers.sealed_length c.option_of_a_protected_message.ensures name number m p short fits made

pub returns-clause-again : goal.returns-clause-again
returns-clause-again g c = λ name number m p lawful none made. (
  c.one_plaintext.ensures.spelled (plaintext_of m) (c.splitting_what_is_lawful.ensures.plaintext m lawful),
  ap (λ (q : Message). unprotected q (plaintext_of m)) made.whole ∙ c.merging_what_was_split.ensures m 2 (request_value name number) made.sealed lawful none,
)
