use Rattle.std.proofs.Common.{refl, ap, sym, ◌∙◌, subst}
use Rattle.osc_client.specs.State.{State as Client}
use Rattle.osc_model.specs.Grant.{Grant}
use Rattle.osc_run.specs.{IsTextOf}
use Rattle.osc_world.proofs.start.enrolled.Goals as goal

pub returns-clause-text : goal.returns-clause-text
returns-clause-text g c =
    let claims = c.args.holder.claims in
    let made = c.in_ok-desk.ensures in
    let found = made.scope in
    let grant : Grant =
    record {
      id = claims.material.id;
      secret = claims.material.secret;
      salt = claims.material.salt;
      id_context = claims.material.id_context;
      alg = claims.material.alg;
      scope = c.in_ok-desk.field-0.scope;
      not_before = claims.not_before;
      expires = claims.expires;
      holder = c.args.number;
    } in
    subst (λ text. IsTextOf grant text) (sym made.text)
    (c.minted_texts.ensures claims found.0 grant c.fits.ensures found.1 refl refl found.2 refl refl)

pub returns-clause-enrolled : goal.returns-clause-enrolled
returns-clause-enrolled g c =
    let claims = c.args.holder.claims in
    let client = c.in_ok-client.ensures in
    let made = c.in_ok-desk.ensures in
    let found = made.scope in
    let sealed = made.sealed in
    let desk = sealed.2 in
    record {
      entries = found.0;
      scope = found.1;
      ciphertext = sealed.0;
      sealed = sealed.1;
      granted = λ j. record {
        grant = record {
          id = claims.material.id;
          secret = claims.material.secret;
          salt = claims.material.salt;
          id_context = claims.material.id_context;
          alg = claims.material.alg;
          scope = found.2 j;
          not_before = claims.not_before;
          expires = claims.expires;
          holder = c.args.number;
        };
        text = made.text j;
      };
      client = record {
        at = refl;
        next_hop = ap (λ (k : Client). k.next_hop) client;
        origin = ap (λ (k : Client). k.origin) client;
        desk = record {
          token_is = ap (λ (k : Client). k.desk.token) client ∙ desk.token_is;
          secret = ap (λ (k : Client). k.desk.secret) client ∙ desk.secret;
          salt = ap (λ (k : Client). k.desk.salt) client ∙ desk.salt;
          id_context = ap (λ (k : Client). k.desk.id_context) client ∙ desk.id_context;
          alg = ap (λ (k : Client). k.desk.alg) client ∙ desk.alg;
        };
        context = ap (λ (k : Client). k.context) client;
        waiting = ap (λ (k : Client). k.waiting) client;
        endpoint = ap (λ (k : Client). k.endpoint) client;
      };
    }
