-- A protected request is refused for one reason, or opened, and opened to one text.
use Rattle.std.proofs.Common.{◌≡◌, ℕ, List, None, Some, subst, sym, ap, refl, ◌∙◌}
use Rattle.std.proofs.lemmas.Option.{same_Some}
use Rattle.osc_model.specs.Arrival.{Arrival}
use Rattle.osc_model.specs.declared.algorithm.Algorithm.{Algorithm}
use Rattle.osc_coap.specs.Message.{Message}
use Rattle.osc_context.specs.{algorithm_of}
use Rattle.osc_authz.specs.SecurityContext.{SecurityContext}
use Rattle.osc_ccm.specs.{Sealings, SealsOneText}
use Rattle.osc_protect.specs.{SealedRequest, IsRequest}
use Rattle.osc_window.specs.{IsFresh}
use Rattle.osc_server.specs.{Met, context_for, IsMeant, IsOpened, IsRefused, IsSealed}
use Rattle.osc_server.specs.declared.refusal.Refusal.{Refusal}
use Rattle.osc_server.specs.declared.refusal.Refusal.TheVariants.{Malformed, NoContext, Replayed, NotGenuine}

module _ (is_sealing : Sealings)
    (one_text : (algorithm : Algorithm) → SealsOneText (is_sealing algorithm))
    (one_request : (m : Message) (a b : SealedRequest) → IsRequest m a → IsRequest m b → a ≡ b)
    (server : Met) (came : Arrival Message) where
  -- the request, and the context that it means
  one_meant : (r s : SealedRequest) (h k : SecurityContext) → IsMeant server came r h → IsMeant server came s k → (r ≡ s) × (h ≡ k)
  one_meant r s h k m n =
      let same : r ≡ s = one_request came.what r s m.is_request n.is_request in
      (same, same_Some h k (sym m.is_meant ∙ ap (λ (q : SealedRequest). context_for server came q) same ∙ n.is_meant))

  not_meant : (r s : SealedRequest) (k : SecurityContext) → IsRequest came.what r → context_for server came r ≡ None → IsMeant server came s k → ⊥
  not_meant r s k is none n =
      let same : r ≡ s = one_request came.what r s is n.is_request in
      let no : None ≡ Some k = sym none ∙ ap (λ (q : SealedRequest). context_for server came q) same ∙ n.is_meant in
      absurd (cc)

  same_fresh : (r s : SealedRequest) (h k : SecurityContext) → (r ≡ s) × (h ≡ k) → IsFresh h.window r.number → IsFresh k.window s.number
  same_fresh r s h k same fresh =
      subst (λ (c : SecurityContext). IsFresh c.window s.number) same.1 (subst (λ (q : SealedRequest). IsFresh h.window q.number) same.0 fresh)

  same_sealed : (r s : SealedRequest) (h k : SecurityContext) (text : List ℕ) → (r ≡ s) × (h ≡ k) → IsSealed is_sealing h r text → IsSealed is_sealing k s text
  same_sealed r s h k text same sealed =
      subst (λ (c : SecurityContext). IsSealed is_sealing c s text) same.1 (subst (λ (q : SealedRequest). IsSealed is_sealing h q text) same.0 sealed)

  -- a reason, and a later one
  earlier : (r s : SealedRequest) (h k : SecurityContext) → IsMeant server came r h → (IsFresh h.window r.number → ⊥) → IsMeant server came s k → IsFresh k.window s.number → ⊥
  earlier r s h k m stale n fresh = let same = one_meant s r k h n m in stale (same_fresh s r k h same fresh)

  pub refused_once : (a b : Refusal) → IsRefused is_sealing server came a → IsRefused is_sealing server came b → a ≡ b
  refused_once Malformed Malformed x y = refl
  refused_once Malformed NoContext x y = absurd (x y.0 y.1)
  refused_once Malformed Replayed x y = absurd (x y.0 y.2.is_request)
  refused_once Malformed NotGenuine x y = absurd (x y.0 y.2.is_request)
  refused_once NoContext Malformed x y = absurd (y x.0 x.1)
  refused_once NoContext NoContext x y = refl
  refused_once NoContext Replayed x y = absurd (not_meant x.0 y.0 y.1 x.1 x.2 y.2)
  refused_once NoContext NotGenuine x y = absurd (not_meant x.0 y.0 y.1 x.1 x.2 y.2)
  refused_once Replayed Malformed x y = absurd (y x.0 x.2.is_request)
  refused_once Replayed NoContext x y = absurd (not_meant y.0 x.0 x.1 y.1 y.2 x.2)
  refused_once Replayed Replayed x y = refl
  refused_once Replayed NotGenuine x y = absurd (earlier x.0 y.0 x.1 y.1 x.2 x.3 y.2 y.3)
  refused_once NotGenuine Malformed x y = absurd (y x.0 x.2.is_request)
  refused_once NotGenuine NoContext x y = absurd (not_meant y.0 x.0 x.1 y.1 y.2 x.2)
  refused_once NotGenuine Replayed x y = absurd (earlier y.0 x.0 y.1 x.1 y.2 y.3 x.2 x.3)
  refused_once NotGenuine NotGenuine x y = refl

  pub opened_or_refused : (request : SealedRequest) (held : SecurityContext) (text : List ℕ) (refusal : Refusal)
      → IsOpened is_sealing server came request held text → IsRefused is_sealing server came refusal → ⊥
  opened_or_refused request held text Malformed is x = x request is.meant.is_request
  opened_or_refused request held text NoContext is x = not_meant x.0 request held x.1 x.2 is.meant
  opened_or_refused request held text Replayed is x = earlier x.0 request x.1 held x.2 x.3 is.meant is.fresh
  opened_or_refused request held text NotGenuine is x =
      let same = one_meant request x.0 held x.1 is.meant x.2 in
      x.4 text (same_sealed request x.0 held x.1 text same is.opens)

  pub opened_once : (request other : SealedRequest) (held holder : SecurityContext) (text said : List ℕ)
      → IsOpened is_sealing server came request held text → IsOpened is_sealing server came other holder said
      → (request ≡ other) × (held ≡ holder) × (text ≡ said)
  opened_once request other held holder text said a b =
      let same = one_meant request other held holder a.meant b.meant in
      (same.0, same.1, one_text (algorithm_of holder.name) _ _ _ text said other.sealed (same_sealed request other held holder text same a.opens) b.opens)
