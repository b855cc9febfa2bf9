use Rattle.std.proofs.Common.{refl, arith}
use Rattle.osc_authz.specs.{post_item, answer_item}
use Rattle.osc_authz.proofs.ExchangeLemmas.{post_pairs, answer_pairs, post_has_spelling, answer_has_spelling}
use Rattle.osc_authz.proofs.laws.what_is_written.Goals as goal

pub returns-clause-post : goal.returns-clause-post
returns-clause-post c = λ token nonce1 client_id t least most id. record {
  fields = post_pairs token nonce1 client_id;
  whole = record {
    spelled = c.what_is_written.ensures.spells (post_item token nonce1 client_id) (post_has_spelling token nonce1 client_id t most id);
    shallow = omega arith;
  };
  token_field = refl;
  nonce1_field = refl;
  nonce1_size = (least, most);
  id_field = refl;
  id_size = id;
}

pub returns-clause-answer : goal.returns-clause-answer
returns-clause-answer c = λ nonce2 server_id least most id. record {
  fields = answer_pairs nonce2 server_id;
  whole = record {
    spelled = c.what_is_written.ensures.spells (answer_item nonce2 server_id) (answer_has_spelling nonce2 server_id most id);
    shallow = omega arith;
  };
  nonce2_field = refl;
  nonce2_size = (least, most);
  id_field = refl;
  id_size = id;
}
