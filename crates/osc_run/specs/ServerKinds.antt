-- The kinds of step that a server may take. Beyond what its kind names, a step seals nothing, adds no context and no entry, drops
-- no context that lives, and changes neither a context that stays nor a resource. The rules of contexts stay what they are.
use Rattle.std.specs.Prelude.{◌≡◌, ◌≢◌, ℕ, ◌≤◌, true, false, IsTrue, List, [], ◌∷◌, length, Option, Some, Ok}
use Rattle.osc_model.specs.{Outcome, apply_read, is_revoked, out_of_memory, takes_memory, quiet}
use Rattle.osc_model.specs.Scope.{Scope}
use Rattle.osc_model.specs.StepNotes.{StepNotes}
use Rattle.osc_model.specs.Tree.{Tree}
use Rattle.osc_model.specs.declared.context.ContextName.{ContextName}
use Rattle.osc_model.specs.declared.context.Side.TheVariants.{Server}
use Rattle.osc_model.specs.declared.node.Moment.{Moment}
use Rattle.osc_model.specs.declared.reply.Reply.{Reply}
use Rattle.osc_model.specs.declared.step.Note.{Note}
use Rattle.osc_model.specs.declared.step.RefusedRequest.{RefusedRequest}
use Rattle.osc_context.specs.{longest_id, greatest_number}
use Rattle.osc_window.specs.{IsFresh}
use Rattle.osc_protect.specs.{request_nonce, note_of}
use Rattle.osc_token.specs.{ComesTo, token_note}
use Rattle.osc_token.specs.declared.claims.Claims.{Claims}
use Rattle.osc_authz.specs.{is_allowed, new_context, OfToken, IsLive, AreKept, HasAdded, HasTaken, In}
use Rattle.osc_authz.specs.Standing.{Standing}
use Rattle.osc_authz.specs.declared.agreed_post.AgreedPost.{AgreedPost}
use Rattle.osc_run.specs.States.{ServerState}
use Rattle.osc_options.specs.{read_request, reply_text, IsWithinRanges}

-- ---- words

-- what a server opens of a request with this number (RFC 8613 section 8.2)
abbrev pub opening_note : ContextName → ℕ → List ℕ → Note
opening_note context number text = note_of context Server number (request_nonce context number) text

-- what it seals of the reply: under the request's nonce and associated data (sections 5.2 and 5.4)
abbrev pub reply_note : ContextName → ℕ → Reply → Note
reply_note context number reply = note_of context Server number (request_nonce context number) (reply_text reply)

-- what its contexts are judged by at a moment: that, and the resources before the step
abbrev pub standing : ServerState → Moment → Standing
standing server now = record { at = now; tree = server.tree }

-- The machine's reply, and the tree after it; or, where the machine answers 2.01, 2.04 or 2.05, 5.00 for lack of memory, and
-- the tree as it was.
pub data Replies (old : Tree) (outcome : Outcome) (reply : Reply) (new : Tree) : Type 0 where
  Applied : reply ≡ outcome.reply → new ≡ outcome.tree → Replies old outcome reply new
  OutOfMemory : IsTrue (takes_memory outcome.reply) → reply ≡ out_of_memory → new ≡ old → Replies old outcome reply new

-- ---- kinds

-- Nothing comes from it, though something may have opened: a token whose claims are then refused, say. A request may be refused.
-- Contexts that don't live may go.
pub record IsServerIdle (old : ServerState) (now : Moment) (notes : StepNotes) (new : ServerState) : Type 0 where
  pub opened : Option Note
  pub refused : Option RefusedRequest
  pub noted : notes ≡ record quiet { opens = opened; refused = refused }
  pub contexts : AreKept (standing old now) old.contexts new.contexts
  pub tree : new.tree ≡ old.tree
  pub rules : new.rules ≡ old.rules

-- A token opens, its claims are granted, the server takes its scope, and its id isn't revoked. One pending context with the input material, the scope and the times of these claims
-- is added, in the place of the pending one of the token's id. Its master salt has the nonce that the server drew, its IDs differ,
-- and its replay window is empty (RFC 9203 section 4.3).
pub record IsPosted (old : ServerState) (now : Moment) (notes : StepNotes) (new : ServerState) : Type 0 where
  pub key : List ℕ
  pub protected : List ℕ
  pub iv : List ℕ
  pub text : List ℕ
  pub audience : List ℕ
  pub claims : Claims
  pub scope : Scope
  pub granted : ComesTo text audience now (Ok (claims, scope))
  pub allowed : is_allowed old.rules scope ≡ true
  pub unrevoked : is_revoked old.rules.revoked old.tree claims.material.id ≡ false
  pub post : AgreedPost
  pub short : length post.client_id ≤ longest_id
  pub size : length post.answer.nonce2 ≡ 8
  pub apart : post.answer.recipient_id ∷ [] ≢ post.client_id
  pub noted : notes ≡ record quiet { opens = Some (token_note key protected iv text); drawn = Some post.answer.nonce2; holder = Some claims.material.id }
  pub contexts : HasAdded (standing old now) claims.material.id (new_context old.rules now claims scope post) old.contexts new.contexts
  pub tree : new.tree ≡ old.tree
  pub rules : new.rules ≡ old.rules

-- A request opens under a context that is held and lives, at a fresh number (RFC 8613 sections 7.4 and 8.2). The window takes the
-- number, and the context is confirmed, in the place of an older confirmed one of its token's id. The machine applies the plaintext
-- under the context's scope, and the one reply is sealed under the request's nonce and associated data (section 8.3). One entry is
-- served.
pub record IsServed (old : ServerState) (now : Moment) (notes : StepNotes) (new : ServerState) : Type 0 where
  pub context : OfToken
  pub is_held : In context old.contexts
  pub is_live : IsLive (standing old now) context.held
  pub number : ℕ
  pub lawful : number ≤ greatest_number
  pub fresh : IsFresh context.held.window number
  pub text : List ℕ
  pub reply : Reply
  pub within : IsWithinRanges reply
  pub tree : Replies old.tree (apply_read old.rules.revoked old.tree context.held.scope (read_request text)) reply new.tree
  pub noted : notes
      ≡ record quiet {
        seals = Some (reply_note context.held.name number reply);
        opens = Some (opening_note context.held.name number text);
        served = Some (record { context = context.held.name; number = number; plaintext = text; request = read_request text; moment = now; reply = reply });
        holder = Some context.token;
      }
  pub contexts : HasTaken (standing old now) number context old.contexts new.contexts
  pub rules : new.rules ≡ old.rules

-- The server starts again: no context is left, and each resource stays.
pub record IsServerRestarted (old : ServerState) (notes : StepNotes) (new : ServerState) : Type 0 where
  pub noted : notes ≡ quiet
  pub is : new ≡ record old { contexts = [] }

-- From old to new the server takes one step at this moment.
pub data ServerStep (old : ServerState) (now : Moment) (notes : StepNotes) (new : ServerState) : Type 0 where
  ServerIdle : IsServerIdle old now notes new → ServerStep old now notes new
  Posted : IsPosted old now notes new → ServerStep old now notes new
  Served : IsServed old now notes new → ServerStep old now notes new
  ServerRestarted : IsServerRestarted old notes new → ServerStep old now notes new
