-- What a server keeps as an answer was sealed.
use Rattle.std.proofs.Common.{◌≡◌, ◌⊎◌, ℕ, Bool, List, [], Option, Some, inl, inr, sym, ap, subst}
use Rattle.osc_model.specs.{read_as}
use Rattle.osc_model.specs.Arrival.{Arrival}
use Rattle.osc_model.specs.StepNotes.{StepNotes}
use Rattle.osc_model.specs.declared.algorithm.Algorithm.TheVariants.{EightByteTag}
use Rattle.osc_model.specs.declared.step.Step.{Step}
use Rattle.osc_coap.specs.Message.{Message}
use Rattle.osc_message.specs.declared.heard.Heard.{Heard}
use Rattle.osc_message.specs.declared.heard.Heard.TheVariants as heard
use Rattle.osc_ccm.specs.{Sealings}
use Rattle.osc_protect.specs.{plain_bytes}
use Rattle.osc_authz.specs.{DeskState, IsTable, Keeps, LastAnswerState, Posts, answered_by, taking, with_id}
use Rattle.osc_authz.specs.Posting.{Posting}
use Rattle.osc_authz.specs.SecurityContext.{SecurityContext}
use Rattle.osc_authz.specs.declared.post.Post.{Post}
use Rattle.osc_authz.specs.declared.token_entry.TokenEntry.{TokenEntry}
use Rattle.osc_server.specs.{Answers, AnswersNew, AnswersProtected, KeepsSealed, Sends, Serves, WasSealed, answer_to, answered_again, case_of, posting, refused, reply_to, served}
use Rattle.osc_server.specs.State.{State}
use Rattle.osc_server.specs.declared.case.RequestCase.{RequestCase}
use Rattle.osc_server.specs.declared.case.RequestCase.TheVariants as case
use Rattle.osc_server.proofs.Requests.{is_found}

module _ (is_sealing : Sealings)
    (posted : (before after : DeskState) (posting : Posting) (post : Post) (held : SecurityContext) (last : LastAnswerState)
    → Posts (is_sealing EightByteTag) before posting post after → Keeps held last after.table → Keeps held last before.table)
    (serving : (answers : Bool) (id : List ℕ) (own last : LastAnswerState) (table : List TokenEntry) (held other : SecurityContext)
    → IsTable table → with_id id table ≡ Some held → Keeps other last (answered_by answers id own table)
    → Keeps other last table ⊎ ((other ≡ taking own.number held) × (last ≡ own))) where
  pub same_desk : (old new : State) → new.desk ≡ old.desk → KeepsSealed is_sealing old → KeepsSealed is_sealing new
  same_desk old new same kept held last k = kept held last (subst (λ (d : DeskState). Keeps held last d.table) same k)

  module _ (old : State) (step : Step) (new : State) (is_table : IsTable old.desk.table) (kept : KeepsSealed is_sealing old) where
    sent : (came : Arrival Message) (answer : Message) (notes : StepNotes) → Sends old came answer notes step new → KeepsSealed is_sealing new
    sent came answer notes it = same_desk old new (ap (λ (s : State). s.desk) it.kept) kept

    serves : (came : Arrival Message) → Serves is_sealing old came step new → KeepsSealed is_sealing new
    serves came it held last k =
        by (serving old.desk.rules.answers it.request.kid own last old.desk.table it.held held is_table
        (is_found (record { at = came.at; tree = old.tree }) it.request.kid it.request.kid_context old.desk.table it.held it.opened.meant.is_meant).same
        (subst (λ (s : State). Keeps held last s.desk.table) it.sent.kept k))
      where
        own : LastAnswerState
        own = answer_to came it.request it.protected.sealed

        first : WasSealed is_sealing (taking own.number it.held) own
        first = record { text = plain_bytes (reply_to old.endpoint came it.reply); is_sealed = it.protected.is_sealed }

        by : Keeps held last old.desk.table ⊎ ((held ≡ taking own.number it.held) × (last ≡ own)) → WasSealed is_sealing held last
        by (inl older) = kept held last older
        by (inr is) =
            subst (λ (c : SecurityContext). WasSealed is_sealing c last) (sym is.0)
            (subst (λ (l : LastAnswerState). WasSealed is_sealing (taking own.number it.held) l) (sym is.1) first)

    protected : (came : Arrival Message) → AnswersProtected is_sealing old came step new → KeepsSealed is_sealing new
    protected came (refused refusal why sends) = sent came _ _ sends
    protected came (answered_again request held last again stale sends) = sent came _ _ sends
    protected came (served it) = serves came it

    new_kept : (came : Arrival Message) (it : RequestCase) → AnswersNew is_sealing old came it step new → KeepsSealed is_sealing new
    new_kept came case.Unused (e, same) = same_desk old new (ap (λ (s : State). s.desk) same) kept
    new_kept came case.BadOption it = sent came _ _ it
    new_kept came case.ProxyAsked it = sent came _ _ it
    new_kept came (case.Protected value) it = protected came it
    new_kept came case.Posted it = λ held last k. kept held last (posted old.desk new.desk (posting old.tree came) it.post held last it.posts k)
    new_kept came case.NotPosted it = sent came _ _ it
    new_kept came (case.OpenGet granted) it = sent came _ _ it.replies
    new_kept came case.Unauthorised it = sent came _ _ it

    pub heard_kept : (came : Arrival (List ℕ)) (it : Heard) → Answers is_sealing old came it step new → KeepsSealed is_sealing new
    heard_kept came (heard.Alone out) (e, same) = same_desk old new (ap (λ (s : State). s.desk) same) kept
    heard_kept came (heard.Empty kind id) (e, same) = same_desk old new (ap (λ (s : State). s.desk) same) kept
    heard_kept came (heard.Message message) it = new_kept (read_as came message) (case_of old.open_scope message) it
