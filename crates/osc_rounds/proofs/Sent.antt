-- A request goes out where its client has a context and waits for nothing; and what is true of each client says of it then.
use Rattle.std.proofs.Common.{◌≡◌, ◌∙◌, sym, ap, subst, refl, ℕ, ◌+◌, ◌^◌, ◌<◌, ◌≤◌, [], ◌∷◌, length, Option, Some, None, arith}
use Rattle.std.specs.Prelude.{◌≢◌, IfSome}
use Rattle.std.proofs.lemmas.Option.{same_Some}
use Rattle.osc_model.specs.{token_drawn, quiet}
use Rattle.osc_model.specs.declared.node.Draw.{Draw}
use Rattle.osc_model.specs.declared.request.Request.{Request}
use Rattle.osc_model.specs.declared.step.ClientResult.TheVariants as result
use Rattle.osc_model.specs.declared.step.Step.{Step}
use Rattle.osc_coap.specs.{Spells, spelling}
use Rattle.osc_coap.specs.Message.{Message}
use Rattle.osc_message.specs.{own_id, datagram}
use Rattle.osc_context.specs.{greatest_number}
use Rattle.osc_ccm.specs.{Sealings, Tags}
use Rattle.osc_protect.specs.{HasShortContext, IsProtectedRequest, plain_bytes}
use Rattle.osc_authz.specs.{ClientContextState}
use Rattle.osc_run.specs.{request_note}
use Rattle.osc_client.specs.{IsLawfulClient, Asked, Asks, IsFree, IsHindered, IsRefused, asks, hindered, busy, exhausted, too_long, opened, plain_of, plain_request, HostAndPort, IsLawfulOrigin, through}
use Rattle.osc_client.specs.Sending.{no_context}
use Rattle.osc_client.specs.State.{State as Client}
use Rattle.osc_client.specs.declared.waiting.Awaited.TheVariants.{Ask}
use Rattle.osc_client.specs.declared.waiting.Waiting.{Waiting}

module _ (is_sealing : Sealings) (tag : Tags)
    (client asked : Client) (asks_for : Asked) (first : Step) where
  abbrev draw : Draw
  draw = asks_for.draw

  abbrev request : Request
  request = asks_for.request

  -- what is known of one that went out under this context
  pub record IsSent (context : ClientContextState) : Type 0 where
    pub message : Message
    pub free : IsFree is_sealing tag client request draw context
    pub made : IsProtectedRequest is_sealing context.name context.next (plain_of client draw request) message
    pub spelled : Spells (spelling message) message
    pub told : first
        ≡ record {
          out = datagram client.next_hop message ∷ [];
          notes = record quiet { seals = Some (request_note context.name context.next (plain_bytes (plain_of client draw request))) };
        }
    pub kept : asked
        ≡ opened (record client { context = Some (record context { next = context.next + 1 }) }) asks_for.at draw message
        (Ask (record { number = context.next }))

  not_hindered : (context : ClientContextState) (number : ℕ) → client.waiting ≡ None → client.context ≡ Some context → context.next ≤ greatest_number
      → first.notes.result ≢ Some (result.Refused 14) → IsRefused number client first asked → IsHindered is_sealing tag client request draw number → ⊥
  not_hindered context number idle has few fits refused (busy is other) = other idle
  not_hindered context number idle has few fits refused (no_context is also none) = let wrong : Some context ≡ None = sym has ∙ none in cc
  not_hindered context number idle has few fits refused (exhausted is other also found above) =
      let same : context ≡ other = same_Some context other (sym has ∙ found) in
      omega (arith, above, few, ap (λ (k : ClientContextState). k.next) same)
  not_hindered context number idle has few fits refused (too_long is other also found lawful unfit) =
      fits (ap (λ (s : Step). s.notes.result) refused.told ∙ ap (λ (n : ℕ). Some (result.Refused n)) is)

  pub goes_out : (context : ClientContextState) → client.waiting ≡ None → client.context ≡ Some context → context.next ≤ greatest_number
      → first.notes.result ≢ Some (result.Refused 14) → Asks is_sealing tag client asks_for first asked → IsSent context
  goes_out context idle has few fits (hindered number hinders refused) = absurd (not_hindered context number idle has few fits refused hinders)
  goes_out context idle has few fits (asks other message free made spelled told kept) =
      subst IsSent (same_Some other context (sym free.held ∙ has))
      (record { message = message; free = free; made = made; spelled = spelled; told = told; kept = kept })

  module _ (context : ClientContextState) (is : IsSent context) where
    -- whatever way it goes
    any_way : (origin : Option HostAndPort) → (through origin (plain_request (own_id draw client.endpoint.next_id) (token_drawn draw) request)).id ≡ own_id draw client.endpoint.next_id
    any_way None = refl
    any_way (Some origin) = refl

    pub its_id : is.message.id ≡ own_id draw client.endpoint.next_id
    its_id = ap (λ (m : Message). m.id) is.made.whole ∙ any_way client.origin

    pub id_few : own_id draw client.endpoint.next_id < 2 ^ 16
    id_few = subst (λ (n : ℕ). n < 2 ^ 16) its_id is.spelled.lawful.id

    -- what is true of each client, of the one that has asked
    module _ (lawful : IsLawfulClient asked) where
      pub its_context : HasShortContext context.name
      its_context = subst (λ (c : Option ClientContextState). IfSome c (λ k. HasShortContext k.name)) (ap (λ (c : Client). c.context) is.kept) lawful.context

      pub its_token : length (token_drawn draw) ≡ 8
      its_token = subst (λ (w : Option Waiting). IfSome w (λ k. length k.token ≡ 8)) (ap (λ (c : Client). c.waiting) is.kept) lawful.token

      pub its_origin : (origin : HostAndPort) → client.origin ≡ Some origin → IsLawfulOrigin origin
      its_origin origin named = subst (λ (o : Option HostAndPort). IfSome o IsLawfulOrigin) (ap (λ (c : Client). c.origin) is.kept ∙ named) lawful.origin
