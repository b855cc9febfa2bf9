use Rattle.osc_loss.proofs.Staying.{StayLaws, ready_at_first}
use Rattle.osc_loss.proofs.laws.a_context_stays.Goals as goal

pub returns : goal.returns
returns g c =
    let laws : StayLaws = record {
      added = c.one_more_context.ensures;
      taken = c.numbers_taken.ensures;
      tokens = c.answers_stay.ensures.tokens;
      meant_is = c.meant_contexts.ensures;
      one_context = c.one_context.ensures.of_token;
    } in
    λ request token all start last goes has leaves live.
    ready_at_first g.A.Ciphers.is_sealing laws request token request.route all start last goes has leaves live
