use Rattle.osc_authz.proofs.OneNameLaws.{one_name}
use Rattle.osc_authz.proofs.laws.one_name.Goals as goal

pub returns : goal.returns
returns g c = λ before after now draw post answer claims entries client begun finished size nonce holds posts ok finishes.
    one_name g.A.Aead.is_sealing c.posts_that_agree.ensures c.what_is_written.ensures.post c.what_is_written.ensures.answer c.one_payload.ensures.post c.one_payload.ensures.answer
    c.minted_tokens.ensures c.minted_texts.ensures c.one_token.ensures
    before after now draw post answer claims entries client begun finished size nonce holds posts ok finishes
