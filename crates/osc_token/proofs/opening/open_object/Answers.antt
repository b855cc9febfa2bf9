use Rattle.std.proofs.Common.{◌≡◌, [], sym, subst, ◌∙◌}
use Rattle.osc_cose.specs.{enc_structure}
use Rattle.osc_token.proofs.OpeningLemmas.{not_both, some_bytes}
use Rattle.osc_token.proofs.opening.open_object.Goals as goal

pub returns-in_ok-note-in-Some-2-clause-opened :
    goal.returns-in_ok-note-in-Some-2-clause-opened
returns-in_ok-note-in-Some-2-clause-opened g c =
    let opened = rw c.in-Some-2.is at c.in_ok-text.ensures.opened in (
      c.in-Some.iv.now,
      c.in-Some-2.text,
      record {
        named = (some_bytes c.args.object.now.protected (sym c.is_empty.ensures ∙ c.if-is_empty.false), opened.0);
        has_iv = c.in-Some.ensures.found.0;
        iv_size = c.in-Some.ensures.found.1;
        sealed = opened.1;
      },
      rw c.as_slice.ensures at c.in_ok-note-in-Some-2.ensures,
    )

pub returns-in-None-clause-only : goal.returns-in-None-clause-only
returns-in-None-clause-only g c = λ iv text holds.
    let object = c.args.object.now in
    let same : iv ≡ c.in-Some.iv.now = cc (holds.has_iv, c.in-Some.ensures.found.0) in
    let sealed = subst (λ x. g.A.Aead.is_sealing c.args.key.now x (enc_structure object.protected []) text object.ciphertext) same holds.sealed in
    absurd (not_both _ _ (c.in_ok-text.ensures.only text holds.named.1 sealed) c.in-None.is)
