use Rattle.osc_rounds.proofs.ExchangeNotes.{TokenLaws, exchange_heard, exchange_notes}
use Rattle.osc_rounds.proofs.laws.what_an_exchange_notes.Goals as goal

pub returns-clause-notes : goal.returns-clause-notes
returns-clause-notes g c =
    let laws : TokenLaws g.A.Ciphers.is_sealing = record {
      welcome = c.welcome_posts.ensures;
      agreed = c.posts_that_agree.ensures;
      written = c.what_is_written.ensures.post;
      one_post = c.one_payload.ensures.post;
      minted = c.minted_tokens.ensures;
      one_token = c.one_token.ensures;
    } in
    λ client begun server agreed asked_at now draw server_draw at server_at claims entries message first second made lawful straight may exchanges out hears is.
    exchange_notes g.A.Ciphers.is_sealing c.one_reception.ensures client begun server agreed asked_at now draw server_draw at server_at message first second
    lawful straight exchanges out hears laws claims entries may made is

pub returns-clause-heard : goal.returns-clause-heard
returns-clause-heard g c =
    λ client begun server agreed asked_at now later draw server_draw at server_at claims entries message first second id lawful straight may exchanges out hears other unheard.
    exchange_heard g.A.Ciphers.is_sealing c.one_reception.ensures client begun server agreed asked_at now draw server_draw at server_at message first second
    lawful straight exchanges out hears later id other unheard
