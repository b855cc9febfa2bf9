use Rattle.osc_run.proofs.GenuineRuns.{one_history_of}
use Rattle.osc_run.proofs.LawsBelow.{Laws}
use Rattle.osc_run.proofs.laws.one_history.Goals as goal

pub returns : goal.returns
returns c =
    let laws : Laws = record {
      one_more_legal = c.one_more_entry.ensures.legal;
      one_more_effect = c.one_more_entry.ensures.effects;
      never_out_of_memory = c.never_out_of_memory.ensures;
      least_code = c.replies_are_responses.ensures.least;
      most_code = c.replies_are_responses.ensures.most;
      one_plaintext = c.one_plaintext.ensures.one;
      a_written_reply = c.a_written_reply.ensures.spelled;
      a_reply_is_read_again = c.a_reply_is_read_again.ensures;
      nonces_of_a_key = c.nonces_of_a_key.ensures;
      one_master_salt = c.one_master_salt.ensures;
      nonces_of_a_salt = c.nonces_of_a_salt.ensures.server;
      fresh_after = c.fresh_after.ensures;
      aad_tells_the_number = c.aad_tells_the_number.ensures;
    } in
    λ w reached premise. one_history_of laws w reached.0 reached.1 premise
