-- The notes of a step tell of its datagrams.
use Rattle.std.proofs.Common.{◌≡◌, ℕ, false, List, [], ◌∷◌, ◌++◌, Option, Some, None, refl, sym, subst, ap, ◌∙◌}
use Rattle.std.specs.List.{All}
use Rattle.std.proofs.lemmas.List.Elements.{All-nil, All-push}
use Rattle.std.proofs.lemmas.Option.{same_Some}
use Rattle.osc_model.specs.{read_as, code, bare, quiet, sends}
use Rattle.osc_model.specs.Arrival.{Arrival}
use Rattle.osc_model.specs.StepNotes.{StepNotes}
use Rattle.osc_model.specs.declared.algorithm.Algorithm.TheVariants.{EightByteTag}
use Rattle.osc_model.specs.declared.bytes.Bytes.{Bytes}
use Rattle.osc_model.specs.declared.context.Side.TheVariants.{Server}
use Rattle.osc_model.specs.declared.reply.Reply.{Reply}
use Rattle.osc_model.specs.declared.step.Datagram.{Datagram}
use Rattle.osc_model.specs.declared.step.Note.{Note}
use Rattle.osc_model.specs.declared.step.Step.{Step}
use Rattle.osc_authz.specs.{DeskState, Posts, no_post, not_genuine, opened}
use Rattle.osc_authz.specs.declared.post.Post.{Post}
use Rattle.osc_coap.specs.{Spells}
use Rattle.osc_coap.specs.Message.{Message}
use Rattle.osc_context.specs.{algorithm_of, key_of}
use Rattle.osc_coap.specs.declared.kind.Kind.{Kind}
use Rattle.osc_coap.specs.declared.kind.Kind.TheVariants.{Confirmable, NonConfirmable, Acknowledgement, Reset}
use Rattle.osc_message.specs.{AnswersAlone, IsAlone, ignores, noted_reply, rejects, repeats, reply_start, reset, rejection, again, datagram}
use Rattle.osc_message.specs.declared.heard.Heard.{Heard}
use Rattle.osc_message.specs.declared.heard.Heard.TheVariants as heard
use Rattle.osc_options.specs.{etag_option, format_option, max_age_option, with_reply, has_oscore, reply_text}
use Rattle.osc_protect.specs.{aad_of, plain_bytes, request_nonce}
use Rattle.osc_ccm.specs.{Sealings}
use Rattle.osc_run.specs.{IsOpenOf, IsSealOf, opening_note, reply_note}
use Rattle.osc_token.specs.{token_note}
use Rattle.osc_server.specs.{case_of, Answers, AnswersNew, AnswersProtected, Serves, again_to, answered_again, notes_of_post, post_reply, posting, refusal_age, refusal_code, refusal_number, refused_for, reply_to, refused, served, AreTold, IsOpenedOf, IsToldOf, request_came, sealed_before, sealed_now, sent_before, token_came, unprotected}
use Rattle.osc_server.specs.State.{State}
use Rattle.osc_server.specs.declared.case.RequestCase.{RequestCase}
use Rattle.osc_server.specs.declared.case.RequestCase.TheVariants as case

-- ---- replies without protection have no option 9

no_oscore : (etag : Option (List ℕ)) (format : Option ℕ) → has_oscore (etag_option etag ++ format_option format) ≡ false
no_oscore None None = refl
no_oscore None (Some format) = refl
no_oscore (Some tag) None = refl
no_oscore (Some tag) (Some format) = refl

no_oscore_aged : (age : Option ℕ) → has_oscore (max_age_option age) ≡ false
no_oscore_aged None = refl
no_oscore_aged (Some seconds) = refl

module _ (is_sealing : Sealings)
    (law : (message : Message) (reply : Reply) → plain_bytes (with_reply message reply) ≡ reply_text reply)
    (old : State) (came : Arrival (List ℕ)) where
  one_told : (sent : Datagram) (notes : StepNotes) → IsToldOf is_sealing old came notes sent → All (λ it. IsToldOf is_sealing old came notes it) (sent ∷ [])
  one_told sent notes told = All-push (λ it. IsToldOf is_sealing old came notes it) [] sent (All-nil (λ it. IsToldOf is_sealing old came notes it)) told

  -- what is noted as opened came
  abbrev OpensCame : StepNotes → Type 0
  OpensCame notes = (note : Note) → notes.opens ≡ Some note → IsOpenedOf is_sealing old note came.what

  opens_nothing : OpensCame quiet
  opens_nothing = λ note e. absurd (cc)

  told_nothing : AreTold is_sealing old came (record { out = []; notes = quiet })
  told_nothing = record { out = All-nil (λ it. IsToldOf is_sealing old came quiet it); seals = λ note e. absurd (cc); opens = λ note e. absurd (cc) }

  -- an unprotected message, in a step that seals nothing
  told_plain : (notes : StepNotes) (answer : Message) → notes.seals ≡ None → OpensCame notes → has_oscore answer.options ≡ false → AreTold is_sealing old came (record { out = datagram came.from answer ∷ []; notes = notes })
  told_plain notes answer none opens plain = record {
    out = one_told (datagram came.from answer) notes (unprotected answer refl plain);
    seals = λ note e. absurd (cc (none, e));
    opens = opens;
  }

  told_again : (id : ℕ) (reply : Option Bytes) → noted_reply old.endpoint.seen came.at came.from id ≡ reply → AreTold is_sealing old came (record { out = again came.from reply; notes = quiet })
  told_again id None e = told_nothing
  told_again id (Some again) e = record {
    out = one_told (record { to = came.from; bytes = again }) quiet (sent_before id e);
    seals = λ note e. absurd (cc);
    opens = opens_nothing;
  }

  as_sent : (step it : Step) → step ≡ it → AreTold is_sealing old came it → AreTold is_sealing old came step
  as_sent step it e told = subst (AreTold is_sealing old came) (sym e) told

  served_told : (message : Message) (step : Step) (new : State) → Spells came.what message → Serves is_sealing old (read_as came message) step new → AreTold is_sealing old came step
  served_told message step new spelled it =
      let own = opening_note it.held.name it.request.number it.text in
      let opening : IsOpenOf is_sealing own came.what = record {
        message = message;
        spelled = spelled;
        sealed = it.request.sealed;
        payload = it.opened.meant.is_request.says.payload;
        is_sealed = it.opened.opens;
      } in
      let note = reply_note it.held.name it.request.number it.reply in
      let sealing = subst (λ text. is_sealing (algorithm_of it.held.name) (key_of it.held.name Server) (request_nonce it.held.name it.request.number) (aad_of it.held.name it.request.number) text it.protected.sealed)
      (law (reply_start came.draw old.endpoint.next_id message it.reply.code.0) it.reply) it.protected.is_sealed in
      let seal : IsSealOf is_sealing note (datagram came.from it.answer) = record {
        message = it.answer;
        bytes = refl;
        sealed = it.protected.sealed;
        payload = ap (λ m. m.payload) it.protected.whole;
        is_sealed = sealing;
      } in
      as_sent step _ it.sent.sent (record {
        out = one_told (datagram came.from it.answer) _ (sealed_now note refl seal);
        seals = λ other e. (datagram came.from it.answer, refl, subst (λ n. IsSealOf is_sealing n (datagram came.from it.answer)) (same_Some note other e) seal);
        opens = λ other e. request_came (subst (λ n. IsOpenOf is_sealing n came.what) (same_Some own other e) opening);
      })

  protected_told : (message : Message) (step : Step) (new : State) → Spells came.what message → AnswersProtected is_sealing old (read_as came message) step new → AreTold is_sealing old came step
  protected_told message step new spelled (refused refusal why sends) = as_sent step _ sends.sent (told_plain (refused_for (refusal_code refusal) (Some (refusal_number refusal))) _ refl opens_nothing (no_oscore_aged (refusal_age refusal)))
  protected_told message step new spelled (answered_again request held last again stale sends) =
      as_sent step _ sends.sent (record {
        out = one_told (datagram came.from (again_to old.endpoint (read_as came message) last)) quiet (sealed_before message request held last spelled again refl);
        seals = λ note e. absurd (cc);
        opens = opens_nothing;
      })
  protected_told message step new spelled (served it) = served_told message step new spelled it

  replied_told : (request : Message) (reply : Reply) (notes : StepNotes) (step : Step) → notes.seals ≡ None → OpensCame notes → step ≡ record { out = datagram came.from (reply_to old.endpoint (read_as came request) reply) ∷ []; notes = notes } → AreTold is_sealing old came step
  replied_told request reply notes step none opens e =
      as_sent step _ e (told_plain notes (reply_to old.endpoint (read_as came request) reply) none opens (no_oscore reply.etag reply.format))

  -- a token that was opened came in the post
  posted_opens : (message : Message) (post : Post) (after : DeskState) → Spells came.what message
      → Posts (is_sealing EightByteTag) old.desk (posting old.tree (read_as came message)) post after → OpensCame (notes_of_post post)
  posted_opens message post after spelled (no_post none is same) = λ note e. let nothing : post.opened ≡ None = ap (λ (p : Post). p.opened) is in absurd (cc)
  posted_opens message post after spelled (not_genuine token nonce1 client_id is_post none is same) = λ note e.
      let nothing : post.opened ≡ None = ap (λ (p : Post). p.opened) is in absurd (cc)
  posted_opens message post after spelled (opened key nonce1 client_id its answer opens its_key answers is) = λ note e.
      let some : post.opened ≡ Some (token_note key its.protected its.iv its.text) = ap (λ (p : Post). p.opened) is in
      token_came message key nonce1 client_id its spelled opens its_key (same_Some note (token_note key its.protected its.iv its.text) (sym e ∙ some))

  told_of : (out : List Datagram) → IsAlone old.endpoint.seen came.at came.from out → AreTold is_sealing old came (sends out)
  told_of out (ignores is) = rw is told_nothing
  told_of out (rejects id spelled is) = rw is (told_plain quiet (reset id) refl opens_nothing refl)
  told_of out (repeats id is) = rw is (told_again id (noted_reply old.endpoint.seen came.at came.from id) refl)

  rejection_told : (kind : Kind) (id : ℕ) → AreTold is_sealing old came (sends (rejection came.from kind id))
  rejection_told Confirmable id = told_plain quiet (reset id) refl opens_nothing refl
  rejection_told NonConfirmable id = told_nothing
  rejection_told Acknowledgement id = told_nothing
  rejection_told Reset id = told_nothing

  told_new : (message : Message) (it : RequestCase) (step : Step) (new : State) → Spells came.what message → AnswersNew is_sealing old (read_as came message) it step new
      → AreTold is_sealing old came step
  told_new message case.Unused step new spelled (e, same) = as_sent step _ e (rejection_told message.kind message.id)
  told_new message case.BadOption step new spelled it = replied_told message (bare (code 4 2)) (refused_for (code 4 2) None) step refl opens_nothing it.sent
  told_new message case.ProxyAsked step new spelled it = replied_told message (bare (code 5 5)) (refused_for (code 5 5) None) step refl opens_nothing it.sent
  told_new message (case.Protected value) step new spelled it = protected_told message step new spelled it
  told_new message case.Posted step new spelled it =
      replied_told message (post_reply it.post.answer) (notes_of_post it.post) step refl (posted_opens message it.post new.desk spelled it.posts) it.sent.sent
  told_new message case.NotPosted step new spelled it = replied_told message (bare (code 4 5)) (refused_for (code 4 5) None) step refl opens_nothing it.sent
  told_new message (case.OpenGet granted) step new spelled it = replied_told message it.reply quiet step refl opens_nothing it.replies.sent
  told_new message case.Unauthorised step new spelled it = replied_told message (bare (code 4 1)) (refused_for (code 4 1) None) step refl opens_nothing it.sent

  -- what the message layer answers is one of its three answers; a message is the one that came
  pub told : (it : Heard) (step : Step) (new : State) → AnswersAlone old.endpoint.seen came.at came.from it
      → ((message : Message) → it ≡ heard.Message message → Spells came.what message) → Answers is_sealing old came it step new → AreTold is_sealing old came step
  told (heard.Alone out) step new alone spelled (e, same) = as_sent step _ e (told_of out alone)
  told (heard.Empty kind id) step new alone spelled (e, same) = as_sent step _ e told_nothing
  told (heard.Message message) step new alone spelled it = told_new message (case_of old.open_scope message) step new (spelled message refl) it
