use Rattle.std.proofs.Common.{ap, ◌∙◌}
use Rattle.osc_coap.specs.Message.{Message}
use Rattle.osc_options.specs.{plaintext_of, unprotected}
use Rattle.osc_protect.specs.{response_value}
use Rattle.osc_protect.proofs.LawMessages.{response_says}
use Rattle.osc_protect.proofs.laws.unprotecting_a_protected_response.Goals as goal

pub returns-clause-response : goal.returns-clause-response
returns-clause-response g c = λ name number own m p fits made.
    response_says g.A.Ciphers.is_sealing g.A.Ciphers.TAG g.met.A.Ciphers.one_text g.met.A.Ciphers.sealed_length c.option_of_a_protected_message.ensures name number own m p fits made

pub returns-clause-again : goal.returns-clause-again
returns-clause-again g c = λ name number own m p lawful none made. (
  c.one_plaintext.ensures.spelled (plaintext_of m) (c.splitting_what_is_lawful.ensures.plaintext m lawful),
  ap (λ (q : Message). unprotected q (plaintext_of m)) made.whole ∙ c.merging_what_was_split.ensures m 68 (response_value own) made.sealed lawful none,
)
