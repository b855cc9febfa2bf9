-- What a server sends for each thing that it hears, and what it keeps after it.
use Rattle.std.specs.Prelude.{◌≡◌, ℕ, List, [], ◌∷◌, Option, Some, None, Result, Ok, Err, codes, unwrap_or}
use Rattle.osc_model.specs.Refusals as refusal
use Rattle.osc_model.specs.{ace_cbor, apply, apply_read, MayReply, read_as, code, bare, sends, quiet}
use Rattle.osc_model.specs.Arrival.{Arrival}
use Rattle.osc_model.specs.StepNotes.{StepNotes}
use Rattle.osc_model.specs.Tree.{Tree}
use Rattle.osc_model.specs.declared.algorithm.Algorithm.TheVariants.{EightByteTag}
use Rattle.osc_model.specs.declared.code.Code.{Code}
use Rattle.osc_model.specs.declared.context.Side.TheVariants.{Client}
use Rattle.osc_model.specs.declared.node.Moment.{Moment}
use Rattle.osc_model.specs.declared.reply.Reply.{Reply}
use Rattle.osc_model.specs.declared.request.Request.{Request}
use Rattle.osc_model.specs.declared.step.RefusedRequest.{RefusedRequest}
use Rattle.osc_model.specs.declared.step.Step.{Step}
use Rattle.osc_cbor.specs.{spelling as item_spelling}
use Rattle.osc_coap.specs.{Spells, spelling}
use Rattle.osc_coap.specs.Message.{Message}
use Rattle.osc_options.specs.{with_reply, with_error, read_request, IsWithinRanges}
use Rattle.osc_message.specs.declared.heard.Heard.{Heard}
use Rattle.osc_message.specs.declared.heard.Heard.TheVariants as heard
use Rattle.osc_message.specs.declared.handling.Handling.TheVariants.{Dropped, Answered}
use Rattle.osc_message.specs.{EndpointState, settled, rejection, reply_start, replied, datagram}
use Rattle.osc_context.specs.{algorithm_of, key_of}
use Rattle.osc_window.specs.{IsFresh}
use Rattle.osc_protect.specs.{aad_of, SealedRequest, IsRequest, IsProtectedResponse, request_nonce, response_with}
use Rattle.osc_ccm.specs.{Sealings}
use Rattle.osc_authz.specs.{answer_of, post_number, answer_item, Posts, code_of, holder_at, last_at, meant, answered_by}
use Rattle.osc_authz.specs.Desk.{DeskState}
use Rattle.osc_authz.specs.LastAnswer.{LastAnswerState}
use Rattle.osc_authz.specs.SecurityContext.{SecurityContext}
use Rattle.osc_authz.specs.Posting.{Posting}
use Rattle.osc_authz.specs.declared.error.PostError.{PostError}
use Rattle.osc_authz.specs.declared.post.Post.{Post}
use Rattle.osc_authz.specs.declared.token_entry.TokenEntry.{TokenEntry}
use Rattle.osc_authz.specs.declared.post.PostReply.{PostReply}
use Rattle.osc_authz.specs.declared.post.PostReply.TheVariants.{New, Known}
use Rattle.osc_run.specs.{opening_note, reply_note, Replies as AppliesTo}
use Rattle.osc_server.specs.Case.{case_of}
use Rattle.osc_server.specs.State.{State}
use Rattle.osc_server.specs.declared.case.RequestCase.{RequestCase}
use Rattle.osc_server.specs.declared.case.RequestCase.TheVariants.{Unused, BadOption, ProxyAsked, Protected, Posted, NotPosted, OpenGet, Unauthorised}
use Rattle.osc_server.specs.declared.refusal.Refusal.{Refusal}
use Rattle.osc_server.specs.declared.refusal.Refusal.TheVariants.{Malformed, NoContext, Replayed, NotGenuine}

-- ---- answers to a new request

-- the message layer once a request is answered: the answer is noted for a repeat; where it is a message of the server's own, that
-- message's ID is taken
abbrev pub answered : EndpointState → Arrival Message → Message → EndpointState
answered endpoint came answer =
    settled (replied came.draw came.what endpoint) came.at came.from (heard.Message came.what) (Answered (Some (spelling answer)))

-- A new request is answered once, by this message: it goes out, as bytes that are read again as it, and this much is noted of the
-- step. `before` has the resources and the desk as the request left them.
pub record Sends (before : State) (came : Arrival Message) (answer : Message) (notes : StepNotes) (step : Step) (new : State) : Type 0 where
  pub sent : step ≡ record { out = datagram came.from answer ∷ []; notes = notes }
  pub spelled : Spells (spelling answer) answer
  pub kept : new ≡ record before { endpoint = answered before.endpoint came answer }

-- the message that carries the reply: the acknowledgement of a confirmable request (RFC 7252 section 5.2.1), and a message of
-- the server's own for another (section 5.2.3)
abbrev pub reply_to : EndpointState → Arrival Message → Reply → Message
reply_to endpoint came reply = with_reply (reply_start came.draw endpoint.next_id came.what reply.code.0) reply

-- a reply without protection, and nothing else
abbrev pub AnswersWith : State → Arrival Message → Reply → Step → State → Type 0
AnswersWith old came reply step new = Sends old came (reply_to old.endpoint came reply) quiet step new

-- what is noted of a request that isn't served: the code that it is answered, and the number of the reason, where the code alone doesn't
-- tell it
abbrev pub refused_for : Code → Option ℕ → StepNotes
refused_for why reason = record quiet { refused = Some (record { code = why; reason = reason }) }

-- a request that isn't served is answered by this code alone
abbrev pub Refuses : State → Arrival Message → Code → Step → State → Type 0
Refuses old came why step new = Sends old came (reply_to old.endpoint came (bare why)) (refused_for why None) step new

-- a GET on an open path is answered as the machine answers it under the open scope, or for lack of memory with 5.00
pub record AnswersGet (old : State) (came : Arrival Message) (request : Request) (step : Step) (new : State) : Type 0 where
  pub reply : Reply
  pub may : MayReply (apply old.desk.rules.revoked old.tree old.open_scope request) reply
  pub replies : AnswersWith old came reply step new

-- ---- posts to authz-info

-- what is posted: the payload of the message, where it has one
abbrev pub posting : Tree → Arrival Message → Posting
posting tree came = record { on = record { at = came.at; tree = tree }; body = unwrap_or came.what.payload []; draw = came.draw }

-- 2.01 with the nonce and the recipient ID of the server as application/ace+cbor (RFC 9203 section 4.2), or the code of the
-- refusal (RFC 9200 section 5.10.1)
abbrev pub post_reply : Result PostReply PostError → Reply
post_reply (Ok reply) = record {
  code = code 2 1;
  etag = None;
  format = Some ace_cbor;
  payload = item_spelling (answer_item (answer_of reply).nonce2 ((answer_of reply).recipient_id ∷ []));
}
post_reply (Err error) = bare (code_of error)

-- the nonce that a post drew: where it made a context
abbrev pub nonce_of_post : Result PostReply PostError → Option (List ℕ)
nonce_of_post (Ok (New answer)) = Some answer.nonce2
nonce_of_post (Ok (Known answer)) = None
nonce_of_post (Err error) = None

-- why a post was refused, if it was
abbrev pub refusal_of_post : Result PostReply PostError → Option RefusedRequest
refusal_of_post (Ok reply) = None
refusal_of_post (Err error) = Some (record { code = code_of error; reason = Some (post_number error) })

abbrev pub notes_of_post : Post → StepNotes
notes_of_post post = record quiet { opens = post.opened; drawn = nonce_of_post post.answer; refused = refusal_of_post post.answer; holder = post.holder }

-- ---- protected requests

-- What a request that isn't served is told, without protection (RFC 8613 section 8.2): a code, a Max-Age, and a text.
abbrev pub refusal_code : Refusal → Code
refusal_code Malformed = code 4 2
refusal_code NoContext = code 4 1
refusal_code Replayed = code 4 1
refusal_code NotGenuine = code 4 0

-- the number by which programs name it
abbrev pub refusal_number : Refusal → ℕ
refusal_number Malformed = refusal.malformed
refusal_number NoContext = refusal.no_context
refusal_number Replayed = refusal.replay
refusal_number NotGenuine = refusal.not_genuine

abbrev pub refusal_age : Refusal → Option ℕ
refusal_age Malformed = None
refusal_age NoContext = Some 0
refusal_age Replayed = Some 0
refusal_age NotGenuine = None

abbrev pub refusal_text : Refusal → List ℕ
refusal_text Malformed = codes "Failed to decode COSE"
refusal_text NoContext = codes "Security context not found"
refusal_text Replayed = codes "Replay detected"
refusal_text NotGenuine = codes "Decryption failed"

abbrev pub refusal_to : EndpointState → Arrival Message → Refusal → Message
refusal_to endpoint came refusal =
    let why = refusal_code refusal in
    with_error (reply_start came.draw endpoint.next_id came.what why.0) why.0 (refusal_age refusal) (refusal_text refusal)

-- the contexts and the resources of a server, which a protected request meets
pub record Met : Type 0 where
  pub tree : Tree
  pub table : List TokenEntry

abbrev pub met : State → Met
met state = record { tree = state.tree; table = state.desk.table }

-- the live context that a request means, if there is one
abbrev pub context_for : Met → Arrival Message → SealedRequest → Option SecurityContext
context_for server came request = meant (record { at = came.at; tree = server.tree }) request.kid request.kid_context server.table

-- the message says this, and there is a live context that it means
pub record IsMeant (server : Met) (came : Arrival Message) (request : SealedRequest) (held : SecurityContext) : Type 0 where
  pub is_request : IsRequest came.what request
  pub is_meant : context_for server came request ≡ Some held

-- ---- a request that comes again

-- this is the answer to it: it is from the same peer, has the same number and carries the same sealed
pub record IsAnswerTo (came : Arrival Message) (request : SealedRequest) (last : LastAnswerState) : Type 0 where
  pub from : came.from ≡ last.from
  pub number : request.number ≡ last.number
  pub sealed : request.sealed ≡ last.sealed

-- the live context that it means keeps the answer to it
pub record IsAgain (server : Met) (came : Arrival Message) (request : SealedRequest) (held : SecurityContext) (last : LastAnswerState) : Type 0 where
  pub meant : IsMeant server came request held
  pub kept : last_at request.kid server.table ≡ Some last
  pub answer : IsAnswerTo came request last

-- What the first reply carried sealed, in the message that answers this one: under the request's nonce, so without a Partial IV of its own
-- (RFC 8613 section 8.3).
abbrev pub again_to : EndpointState → Arrival Message → LastAnswerState → Message
again_to endpoint came last = response_with None (reply_start came.draw endpoint.next_id came.what 68) last.reply

-- the answer to a request that is served, whose reply carries this sealed
abbrev pub answer_to : Arrival Message → SealedRequest → List ℕ → LastAnswerState
answer_to came request reply = record { from = came.from; number = request.number; sealed = request.sealed; reply = reply }

-- the desk once it is served: its context took the number, and where answers are kept, this one is
abbrev pub served_desk : DeskState → Arrival Message → SealedRequest → List ℕ → DeskState
served_desk desk came request reply = record desk { table = answered_by desk.rules.answers request.kid (answer_to came request reply) desk.table }

-- ---- what is noted of a request that is served

-- what is noted of a request that is served under this context, which the token of this id made
abbrev pub notes_of_request : Moment → SecurityContext → Option (List ℕ) → ℕ → List ℕ → Reply → StepNotes
notes_of_request now held holder number text reply = record quiet {
  seals = Some (reply_note held.name number reply);
  opens = Some (opening_note held.name number text);
  served = Some (record { context = held.name; number = number; plaintext = text; request = read_request text; moment = now; reply = reply });
  holder = holder;
}

-- `is_sealing algorithm` is the relation of the algorithm's cipher
module _ (is_sealing : Sealings) where
  -- this text is sealed in it
  abbrev pub IsSealed : SecurityContext → SealedRequest → List ℕ → Type 0
  IsSealed held request text =
      is_sealing (algorithm_of held.name) (key_of held.name Client) (request_nonce held.name request.number) (aad_of held.name request.number) text request.sealed

  -- why a protected request isn't served: the first of these that applies (RFC 8613 section 8.2)
  abbrev pub IsRefused : Met → Arrival Message → Refusal → Type 0
  IsRefused server came Malformed = (request : SealedRequest) → ¬ IsRequest came.what request
  IsRefused server came NoContext =
      (request : SealedRequest) × IsRequest came.what request × (context_for server came request ≡ None)
  IsRefused server came Replayed =
      (request : SealedRequest) × (held : SecurityContext) × IsMeant server came request held × (¬ IsFresh held.window request.number)
      × ((last : LastAnswerState) → ¬ IsAgain server came request held last)
  IsRefused server came NotGenuine =
      (request : SealedRequest) × (held : SecurityContext) × IsMeant server came request held × IsFresh held.window request.number
      × ((text : List ℕ) → ¬ IsSealed held request text)

  -- the request opens to this text, under a context that it means, at a fresh number
  pub record IsOpened (server : Met) (came : Arrival Message) (request : SealedRequest) (held : SecurityContext) (text : List ℕ) : Type 0 where
    pub meant : IsMeant server came request held
    pub fresh : IsFresh held.window request.number
    pub opens : IsSealed held request text

  -- A request that opens is applied to the resources under its context's scope, and answered under its own nonce (section 8.3).
  -- The context's window takes its number, the context is confirmed, and where answers are kept, this one is.
  pub record Serves (old : State) (came : Arrival Message) (step : Step) (new : State) : Type 0 where
    pub request : SealedRequest
    pub held : SecurityContext
    pub text : List ℕ
    pub opened : IsOpened (met old) came request held text
    pub reply : Reply
    pub within : IsWithinRanges reply
    pub applied : AppliesTo old.tree (apply_read old.desk.rules.revoked old.tree held.scope (read_request text)) reply new.tree
    pub answer : Message
    pub protected : IsProtectedResponse is_sealing held.name request.number None (reply_to old.endpoint came reply) answer
    pub sent : Sends (record old { tree = new.tree; desk = served_desk old.desk came request protected.sealed })
        came answer (notes_of_request came.at held (holder_at request.kid old.desk.table) request.number text reply) step new

  pub data AnswersProtected (old : State) (came : Arrival Message) (step : Step) (new : State) : Type 0 where
    refused : (refusal : Refusal) → IsRefused (met old) came refusal
        → Sends old came (refusal_to old.endpoint came refusal) (refused_for (refusal_code refusal) (Some (refusal_number refusal))) step new
        → AnswersProtected old came step new
    -- the reply that was sealed before goes out again, and but for the message layer nothing is done
    answered_again : (request : SealedRequest) (held : SecurityContext) (last : LastAnswerState) → IsAgain (met old) came request held last
        → (¬ IsFresh held.window request.number)
        → Sends old came (again_to old.endpoint came last) quiet step new
        → AnswersProtected old came step new
    served : Serves old came step new → AnswersProtected old came step new

  -- a post is judged by the desk, whose answer goes out; tokens are sealed under the algorithm whose tag has 8 bytes
  pub record AnswersPost (old : State) (came : Arrival Message) (step : Step) (new : State) : Type 0 where
    pub post : Post
    pub posts : Posts (is_sealing EightByteTag) old.desk (posting old.tree came) post new.desk
    pub sent : Sends (record old { desk = new.desk }) came (reply_to old.endpoint came (post_reply post.answer)) (notes_of_post post) step new

  -- ---- the table

  -- A new message, in each case. 4.02 Bad Option, 5.05 Proxying Not Supported, 4.05 Method Not Allowed and 4.01 Unauthorized go without
  -- payload. Of the tree nothing goes out unprotected but what answers a GET on an open path.
  abbrev pub AnswersNew : State → Arrival Message → RequestCase → Step → State → Type 0
  AnswersNew old came Unused step new = (step ≡ sends (rejection came.from came.what.kind came.what.id)) × (new ≡ old)
  AnswersNew old came BadOption step new = Refuses old came (code 4 2) step new
  AnswersNew old came ProxyAsked step new = Refuses old came (code 5 5) step new
  AnswersNew old came (Protected bytes) step new = AnswersProtected old came step new
  AnswersNew old came Posted step new = AnswersPost old came step new
  AnswersNew old came NotPosted step new = Refuses old came (code 4 5) step new
  AnswersNew old came (OpenGet granted) step new = AnswersGet old came granted.request step new
  AnswersNew old came Unauthorised step new = Refuses old came (code 4 1) step new

  -- What the message layer answers by itself changes nothing; an empty message is settled there; a new message is answered as its case says.
  abbrev pub Answers : State → Arrival (List ℕ) → Heard → Step → State → Type 0
  Answers old came (heard.Alone out) step new = (step ≡ sends out) × (new ≡ old)
  Answers old came (heard.Empty kind id) step new =
      (step ≡ sends []) × (new ≡ record old { endpoint = settled old.endpoint came.at came.from (heard.Empty kind id) Dropped })
  Answers old came (heard.Message message) step new = AnswersNew old (read_as came message) (case_of old.open_scope message) step new
