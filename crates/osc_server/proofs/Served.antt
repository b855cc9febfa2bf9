-- A protected request that is served.
use Rattle.std.proofs.Common.{◌≡◌, ℕ, Bool, true, false, List, [], ◌∷◌, Option, None, Some, refl, sym, subst, ap, ◌∙◌}
use Rattle.osc_model.specs.{apply_read}
use Rattle.osc_model.specs.Arrival.{Arrival}
use Rattle.osc_model.specs.Tree.{Tree}
use Rattle.osc_model.specs.declared.bytes.Bytes.{Bytes}
use Rattle.osc_model.specs.declared.step.Datagram.{Datagram}
use Rattle.osc_model.specs.declared.step.Note.{Note}
use Rattle.osc_model.specs.declared.step.Step.{Step}
use Rattle.osc_coap.specs.Message.{Message}
use Rattle.osc_authz.specs.{DeskState, LastAnswerState, accepted, answered_by, holder_at, taking}
use Rattle.osc_authz.specs.SecurityContext.{SecurityContext}
use Rattle.osc_authz.specs.declared.token_entry.TokenEntry.{TokenEntry}
use Rattle.osc_ccm.specs.{Sealings, Tags}
use Rattle.osc_protect.specs.{SealedRequest}
use Rattle.osc_run.specs.{opening_note, Replies as AppliesTo}
use Rattle.osc_options.specs.{read_request}
use Rattle.osc_message.specs.{datagram}
use Rattle.osc_server.specs.Inner.Parts.{IsReady, IsReplied, IsServedAs, IsTakenFor, Standing, if_kept, kept_answer, kept_sealed, noted_by, with_kept}
use Rattle.osc_server.specs.State.{State}
use Rattle.osc_server.specs.{Met, IsOpened, Serves, answer_to, served_desk}
use Rattle.osc_server.specs.declared.serving.SealedAnswer.{SealedAnswer}
use Rattle.osc_server.specs.declared.serving.ReservedAnswer.{ReservedAnswer}

-- what serves of this server
abbrev pub standing : State → Standing
standing old = record { tree = old.tree; desk = old.desk; endpoint = old.endpoint }

pub serves : (is_sealing : Sealings) (old : State) (came : Arrival Message) (request : SealedRequest) (served : SealedAnswer) (tree : Tree) (desk : DeskState) (step : Step) (new : State)
    → IsServedAs is_sealing (standing old) came request served tree desk
    → step ≡ record { out = served.out; notes = served.notes }
    → new ≡ record old {
      tree = tree;
      desk = desk;
      endpoint = noted_by old.endpoint came served.reply;
    }
    → Serves is_sealing old came step new
serves is_sealing old came request served tree desk step new is sent kept =
    let same : tree ≡ new.tree = sym (ap (λ s. s.tree) kept) in
    record {
      request = request;
      held = is.held;
      text = is.text;
      opened = is.opened;
      reply = is.replied.reply;
      within = is.replied.within;
      applied = subst (λ t. AppliesTo old.tree (apply_read old.desk.rules.revoked old.tree is.held.scope (read_request is.text)) is.replied.reply t) same is.replied.applied;
      answer = is.replied.answer;
      protected = is.replied.protected;
      sent = record {
        spelled = is.replied.sends.spelled;
        sent = sent ∙ ap (λ (out : List Datagram). record { out = out; notes = served.notes }) is.replied.sends.sent
            ∙ ap (λ notes. record { out = datagram came.from is.replied.answer ∷ []; notes = notes }) is.replied.noted;
        kept = kept ∙ (λ i. record old {
          tree = same i;
          desk = is.kept i;
          endpoint = noted_by old.endpoint came (is.replied.sends.kept i);
        });
      };
    }

-- what becomes of it, and the desk then
abbrev IsRepliedAnd : Sealings → Standing → Arrival Message → SealedRequest → SecurityContext → ℕ → List ℕ → SealedAnswer → Tree → DeskState → Type 0
IsRepliedAnd is_sealing old came request held number text served new desk =
    (replied : IsReplied is_sealing old came (record { held = held; holder = holder_at request.kid old.desk.table; number = number; text = text }) served new)
    × (desk ≡ served_desk old.desk came request replied.protected.sealed)

-- the same under the context as it is once it took the number
pub served_as : (is_sealing : Sealings) (old : Standing) (came : Arrival Message) (request : SealedRequest)
    (held context : SecurityContext) (taken number : ℕ) (text : List ℕ) (served : SealedAnswer) (new : Tree) (desk : DeskState)
    → IsOpened is_sealing (record { tree = old.tree; table = old.desk.table }) came request held text → context ≡ taking taken held → number ≡ request.number
    → (replied : IsReplied is_sealing old came (record { held = context; holder = holder_at request.kid old.desk.table; number = number; text = text }) served new)
    → desk ≡ served_desk old.desk came request replied.protected.sealed
    → IsServedAs is_sealing old came request served new desk
served_as is_sealing old came request held context taken number text served new desk opened is same replied kept =
    let both : IsRepliedAnd is_sealing old came request (taking taken held) request.number text served new desk =
    subst (λ (c : SecurityContext). IsRepliedAnd is_sealing old came request c request.number text served new desk) is
    (subst (λ (n : ℕ). IsRepliedAnd is_sealing old came request context n text served new desk) same (replied, kept))
    in
    let it = both.0 in
    record {
      held = held;
      text = text;
      opened = opened;
      replied = record {
        reply = it.reply;
        within = it.within;
        applied = it.applied;
        answer = it.answer;
        protected = it.protected;
        sends = it.sends;
        noted = it.noted;
      };
      kept = both.1;
    }

-- the answer that is kept, where answers are
pub kept_as : (answers : Bool) (came : Arrival Message) (request : SealedRequest) (number : ℕ) (reply : List ℕ) (sealed : Option (List ℕ)) → number ≡ request.number
    → sealed ≡ if_kept answers request.sealed → kept_answer came.from number reply sealed ≡ if_kept answers (answer_to came request reply)
kept_as answers came request number reply sealed same is = (λ i. kept_answer came.from (same i) reply (is i)) ∙ by answers
  where
    by : (b : Bool) → kept_answer came.from request.number reply (if_kept b request.sealed) ≡ if_kept b (answer_to came request reply)
    by true = refl
    by false = refl

-- the table with it
pub with_kept_as : (answers : Bool) (id : List ℕ) (last : LastAnswerState) (table : List TokenEntry)
    → with_kept id (if_kept answers last) (accepted id last.number table) ≡ answered_by answers id last table
with_kept_as true id last table = refl
with_kept_as false id last table = refl

-- what is noted of the opening, with the memory beside it
pub ready : (is_sealing : Sealings) (tag : Tags) (answers : Bool) (server : Met) (came : Arrival Message) (request : SealedRequest) (note : Note) (taken : ReservedAnswer)
    → taken.note ≡ note → IsTakenFor tag server.tree taken → taken.holder ≡ holder_at request.kid server.table → kept_sealed taken.room.kept ≡ if_kept answers request.sealed
    → (held : SecurityContext) × IsOpened is_sealing server came request held note.plaintext × (note ≡ opening_note held.name request.number note.plaintext)
    → IsReady is_sealing tag answers server came request taken
ready is_sealing tag answers server came request note taken same room holder kept opened =
    let it : (held : SecurityContext) × IsOpened is_sealing server came request held taken.note.plaintext × (taken.note ≡ opening_note held.name request.number taken.note.plaintext) =
    subst (λ (n : Note). (held : SecurityContext) × IsOpened is_sealing server came request held n.plaintext × (n ≡ opening_note held.name request.number n.plaintext)) (sym same) opened
    in
    record { held = it.0; opened = it.1; noted = it.2; room = room; holder = holder; kept = kept }
