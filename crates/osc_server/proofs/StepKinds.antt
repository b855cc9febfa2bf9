-- Each step is one of the kinds that a run has.
use Rattle.std.proofs.Common.{◌≡◌, ℕ, ◌≤◌, Bool, List, length, Option, Some, None, Result, Ok, Err, refl, sym, subst, ap}
use Rattle.osc_model.specs.{apply_read, read_as, quiet}
use Rattle.osc_model.specs.Arrival.{Arrival}
use Rattle.osc_model.specs.StepNotes.{StepNotes}
use Rattle.osc_model.specs.Tree.{Tree}
use Rattle.osc_model.specs.declared.algorithm.Algorithm.TheVariants.{EightByteTag}
use Rattle.osc_model.specs.declared.node.Moment.{Moment}
use Rattle.osc_model.specs.declared.reply.Reply.{Reply}
use Rattle.osc_model.specs.declared.step.RefusedRequest.{RefusedRequest}
use Rattle.osc_model.specs.declared.step.Step.{Step}
use Rattle.osc_coap.specs.Message.{Message}
use Rattle.osc_message.specs.declared.heard.Heard.{Heard}
use Rattle.osc_message.specs.declared.heard.Heard.TheVariants as heard
use Rattle.osc_context.specs.{greatest_number}
use Rattle.osc_window.specs.{IsFresh}
use Rattle.osc_ccm.specs.{Sealings}
use Rattle.osc_authz.specs.{OfToken, of_tokens, DeskState, LastAnswerState, Posts, IsTable, accepted, answered_by, holder_at, meant}
use Rattle.osc_authz.specs.SecurityContext.{SecurityContext}
use Rattle.osc_authz.specs.Posting.{Posting}
use Rattle.osc_authz.specs.declared.error.PostError.{PostError}
use Rattle.osc_authz.specs.declared.token_entry.TokenEntry.{TokenEntry}
use Rattle.osc_authz.specs.declared.post.Post.{Post}
use Rattle.osc_authz.specs.declared.post.PostAnswer.{PostAnswer}
use Rattle.osc_authz.specs.declared.post.PostReply.{PostReply}
use Rattle.osc_authz.specs.declared.post.PostReply.TheVariants.{New, Known}
use Rattle.osc_authz.specs.declared.rules.ContextRules.{ContextRules}
use Rattle.osc_run.specs.{opening_note, reply_note, Replies as AppliesTo, IsServerIdle, IsPosted, IsServed, ServerStep, ServerIdle, Posted, Served, ServerRestarted}
use Rattle.osc_options.specs.{read_request, IsWithinRanges}
use Rattle.osc_server.specs.{case_of, core, again, Answers, AnswersNew, AnswersPost, AnswersProtected, Sends, Serves, answer_to, answered_again, nonce_of_post, notes_of_post, posting, notes_of_request, refusal_of_post, refused, served}
use Rattle.osc_server.specs.State.{State}
use Rattle.osc_server.specs.declared.case.RequestCase.{RequestCase}
use Rattle.osc_server.specs.declared.case.RequestCase.TheVariants as case

-- ---- what the crates below know of the kinds

pub record Laws (is_sealing : Sealings) : Type 0 where
  pub agrees : (before after : DeskState) (posting : Posting) (post : Post) (answer : PostAnswer)
      → length posting.draw.0 ≡ 32 → Posts (is_sealing EightByteTag) before posting post after → post.answer ≡ Ok (New answer) → IsTable after.table
      → IsPosted (record { contexts = of_tokens before.table; tree = posting.on.tree; rules = before.rules }) posting.on.at
      (record quiet { opens = post.opened; drawn = Some answer.nonce2; holder = post.holder })
      (record { contexts = of_tokens after.table; tree = posting.on.tree; rules = after.rules })
  pub refuses : (before after : DeskState) (posting : Posting) (post : Post) (error : PostError) (why : Option RefusedRequest)
      → Posts (is_sealing EightByteTag) before posting post after → post.answer ≡ Err error
      → IsServerIdle (record { contexts = of_tokens before.table; tree = posting.on.tree; rules = before.rules }) posting.on.at
      (record quiet { opens = post.opened; refused = why; holder = post.holder })
      (record { contexts = of_tokens after.table; tree = posting.on.tree; rules = after.rules })
  pub knows : (before after : DeskState) (posting : Posting) (post : Post) (answer : PostAnswer)
      → Posts (is_sealing EightByteTag) before posting post after → post.answer ≡ Ok (Known answer)
      → IsServerIdle (record { contexts = of_tokens before.table; tree = posting.on.tree; rules = before.rules }) posting.on.at
      (record quiet { opens = post.opened; holder = post.holder })
      (record { contexts = of_tokens after.table; tree = posting.on.tree; rules = after.rules })
  pub opens : (now : Moment) (kid : List ℕ) (kid_context : Option (List ℕ)) (table : List TokenEntry) (held : SecurityContext) (number : ℕ) (text : List ℕ) (reply : Reply) (tree after : Tree) (rules : ContextRules)
      → IsTable table → meant (record { at = now; tree = tree }) kid kid_context table ≡ Some held
      → number ≤ greatest_number → IsFresh held.window number
      → IsWithinRanges reply → AppliesTo tree (apply_read rules.revoked tree held.scope (read_request text)) reply after
      → IsServed (record { contexts = of_tokens table; tree = tree; rules = rules }) now
      (record quiet {
        seals = Some (reply_note held.name number reply);
        opens = Some (opening_note held.name number text);
        served = Some (record { context = held.name; number = number; plaintext = text; request = read_request text; moment = now; reply = reply });
        holder = holder_at kid table;
      })
      (record { contexts = of_tokens (accepted kid number table); tree = after; rules = rules })
  pub stay : (answers : Bool) (id : List ℕ) (last : LastAnswerState) (table : List TokenEntry)
      → of_tokens (answered_by answers id last table) ≡ of_tokens (accepted id last.number table)

-- ---- a step that does nothing for a run

nothing : (old : State) (now : Moment) (why : Option RefusedRequest) (notes : StepNotes) → notes ≡ record quiet { refused = why } → ServerStep (core old) now notes (core old)
nothing old now why notes e = ServerIdle (record {
  opened = None;
  refused = why;
  noted = e;
  contexts = record { only = λ c here. here; live = λ c here live. here };
  tree = refl;
  rules = refl;
})

refusing : (old : State) (now : Moment) (why : Option RefusedRequest) (step : Step) (new : State) → step.notes ≡ record quiet { refused = why } → new.tree ≡ old.tree → new.desk ≡ old.desk → ServerStep (core old) now step.notes (core new)
refusing old now why step new noted tree desk =
    subst (λ t. ServerStep (core old) now step.notes (record { contexts = of_tokens new.desk.table; tree = t; rules = new.desk.rules })) (sym tree)
    (subst (λ d. ServerStep (core old) now step.notes (record { contexts = of_tokens d.table; tree = old.tree; rules = d.rules })) (sym desk)
    (nothing old now why step.notes noted))

pub quietly : (old : State) (now : Moment) (step : Step) (new : State) → step.notes ≡ quiet → new.tree ≡ old.tree → new.desk ≡ old.desk → ServerStep (core old) now step.notes (core new)
quietly old now step new noted tree desk = refusing old now None step new noted tree desk

-- a server that starts again
pub restarts : (old new : State) (now : Moment) → new ≡ again old → ServerStep (core old) now quiet (core new)
restarts old new now e = ServerRestarted (record { noted = refl; is = ap core e })

sends_idly : (old : State) (came : Arrival Message) (answer : Message) (why : Option RefusedRequest) (step : Step) (new : State) → Sends old came answer (record quiet { refused = why }) step new → ServerStep (core old) came.at step.notes (core new)
sends_idly old came answer why step new it =
    refusing old came.at why step new (ap (λ s. s.notes) it.sent) (ap (λ s. s.tree) it.kept) (ap (λ s. s.desk) it.kept)

-- ---- the kinds

module _ (is_sealing : Sealings) (laws : Laws is_sealing) (old : State) (step : Step) (new : State) (before : IsTable old.desk.table) (after : IsTable new.desk.table) where
  post_kind : (came : Arrival Message) (post : Post) (answer : Result PostReply PostError) → length came.draw.0 ≡ 32 → post.answer ≡ answer
      → Posts (is_sealing EightByteTag) old.desk (posting old.tree came) post new.desk
      → ServerStep (core old) came.at (record quiet { opens = post.opened; drawn = nonce_of_post answer; refused = refusal_of_post answer; holder = post.holder }) (record { contexts = of_tokens new.desk.table; tree = old.tree; rules = new.desk.rules })
  post_kind came post (Ok (Known answer)) drawn e posts = ServerIdle (laws.knows old.desk new.desk (posting old.tree came) post answer posts e)
  post_kind came post (Ok (New answer)) drawn e posts = Posted (laws.agrees old.desk new.desk (posting old.tree came) post answer drawn posts e after)
  post_kind came post (Err error) drawn e posts = ServerIdle (laws.refuses old.desk new.desk (posting old.tree came) post error (refusal_of_post (Err error)) posts e)

  posted_kind : (came : Arrival Message) → length came.draw.0 ≡ 32 → AnswersPost is_sealing old came step new → ServerStep (core old) came.at step.notes (core new)
  posted_kind came drawn it =
      subst (λ notes. ServerStep (core old) came.at notes (core new)) (sym (ap (λ s. s.notes) it.sent.sent))
      (subst (λ t. ServerStep (core old) came.at (notes_of_post it.post) (record { contexts = of_tokens new.desk.table; tree = t; rules = new.desk.rules })) (sym (ap (λ s. s.tree) it.sent.kept))
      (post_kind came it.post it.post.answer drawn refl it.posts))

  served_kind : (came : Arrival Message) → Serves is_sealing old came step new → ServerStep (core old) came.at step.notes (core new)
  served_kind came it =
      subst (λ notes. ServerStep (core old) came.at notes (core new)) (sym (ap (λ s. s.notes) it.sent.sent))
      (subst (λ d. ServerStep (core old) came.at (notes_of_request came.at it.held (holder_at it.request.kid old.desk.table) it.request.number it.text it.reply) (record { contexts = of_tokens d.table; tree = new.tree; rules = d.rules })) (sym (ap (λ s. s.desk) it.sent.kept))
      (subst (λ (contexts : List OfToken). ServerStep (core old) came.at (notes_of_request came.at it.held (holder_at it.request.kid old.desk.table) it.request.number it.text it.reply)
      (record { contexts = contexts; tree = new.tree; rules = old.desk.rules }))
      (sym (laws.stay old.desk.rules.answers it.request.kid (answer_to came it.request it.protected.sealed) old.desk.table))
      (Served (laws.opens came.at it.request.kid it.request.kid_context old.desk.table it.held it.request.number it.text it.reply old.tree new.tree old.desk.rules
      before it.opened.meant.is_meant it.opened.meant.is_request.says.spelled.lawful.number it.opened.fresh it.within it.applied))))

  protected_kind : (came : Arrival Message) → AnswersProtected is_sealing old came step new → ServerStep (core old) came.at step.notes (core new)
  protected_kind came (refused refusal why sends) = sends_idly old came _ _ step new sends
  protected_kind came (answered_again request held last again stale sends) = sends_idly old came _ None step new sends
  protected_kind came (served it) = served_kind came it

  new_kind : (came : Arrival Message) (it : RequestCase) → length came.draw.0 ≡ 32 → AnswersNew is_sealing old came it step new → ServerStep (core old) came.at step.notes (core new)
  new_kind came case.Unused drawn (e, same) = quietly old came.at step new (ap (λ s. s.notes) e) (ap (λ s. s.tree) same) (ap (λ s. s.desk) same)
  new_kind came case.BadOption drawn it = sends_idly old came _ _ step new it
  new_kind came case.ProxyAsked drawn it = sends_idly old came _ _ step new it
  new_kind came (case.Protected value) drawn it = protected_kind came it
  new_kind came case.Posted drawn it = posted_kind came drawn it
  new_kind came case.NotPosted drawn it = sends_idly old came _ _ step new it
  new_kind came (case.OpenGet granted) drawn it = sends_idly old came _ _ step new it.replies
  new_kind came case.Unauthorised drawn it = sends_idly old came _ _ step new it

  pub kind_of : (came : Arrival (List ℕ)) (it : Heard) → length came.draw.0 ≡ 32 → Answers is_sealing old came it step new → ServerStep (core old) came.at step.notes (core new)
  kind_of came (heard.Alone out) drawn (e, same) = quietly old came.at step new (ap (λ s. s.notes) e) (ap (λ s. s.tree) same) (ap (λ s. s.desk) same)
  kind_of came (heard.Empty kind id) drawn (e, same) = quietly old came.at step new (ap (λ s. s.notes) e) (ap (λ s. s.tree) same) (ap (λ s. s.desk) same)
  kind_of came (heard.Message message) drawn it = new_kind (read_as came message) (case_of old.open_scope message) drawn it
