-- Each held context has the rights of a grant, and what is served under it goes on with a legal history.
use Rattle.std.proofs.Common.{◌≡◌, ◌==◌, if◌then◌else◌, ℕ, Bool, true, false, List, [], ◌∷◌, ◌++◌, Option, Some, Result, Ok, Err, IsSomeAnd, bytes_eq, refl, sym, ap, ◌∙◌, inl, inr, subst}
use Rattle.std.proofs.lemmas.Slice.Eq.{bytes_eq-Decides}
use Rattle.osc_model.specs.{Outcome, apply_read, MayReply, HasBegun, IsNotOver, IsTimely, grant_of, scope_of, IsSameRequest, IsLegal, MayFollow, effect, is_revoked, revocation_of, stands, tree_after}
use Rattle.osc_model.specs.Grant.{Grant}
use Rattle.osc_model.specs.Scope.{Scope}
use Rattle.osc_model.specs.StepNotes.{StepNotes}
use Rattle.osc_model.specs.Tree.{Tree}
use Rattle.osc_model.specs.declared.code.Code.{Code}
use Rattle.osc_model.specs.declared.context.ContextName.{ContextName}
use Rattle.osc_model.specs.declared.node.Moment.{Moment}
use Rattle.osc_model.specs.declared.reply.Reply.{Reply}
use Rattle.osc_model.specs.declared.request.Request.{Request}
use Rattle.osc_model.specs.declared.step.Entry.{Entry}
use Rattle.osc_window.specs.{IsFresh}
use Rattle.osc_token.specs.{ComesTo, token_note}
use Rattle.osc_authz.specs.SecurityContext.{SecurityContext}
use Rattle.osc_authz.specs.{In}
use Rattle.osc_authz.specs.declared.rules.ContextRules.{ContextRules}
use Rattle.osc_run.specs.{Noted, ServerState, Minted, grants_of, Replies, Applied, OutOfMemory, IsPosted, IsServed, IsTextOf, IsGenuineOpening, HasOwnSecrets, IsUnrevoked, AreUnrevoked, history}
use Rattle.osc_options.specs.{read_request}
use Rattle.osc_run.proofs.LawsBelow.{Laws}
use Rattle.osc_run.proofs.Lists.{all_of, collected_push}
use Rattle.osc_run.proofs.Parts.{ServerPart}
use Rattle.osc_run.proofs.Separate.{each_differs}
use Rattle.osc_run.proofs.ServerSteps.{added_of, entry_of}

-- ---- the grant of a secret

-- no two have one secret
pub one_minted : (minted : List Minted) (m n : Minted) → HasOwnSecrets minted → In m minted → In n minted → m.grant.secret ≡ n.grant.secret → m ≡ n
one_minted [] m n own i j e = absurd i
one_minted (x ∷ others) m n own (inl a) (inl b) e = a ∙ sym b
one_minted (x ∷ others) m n own (inl a) (inr b) e = absurd (each_differs x.grant.secret others own.0 n b (sym e ∙ ap (λ (y : Minted). y.grant.secret) a))
one_minted (x ∷ others) m n own (inr a) (inl b) e = absurd (each_differs x.grant.secret others own.0 m a (e ∙ ap (λ (y : Minted). y.grant.secret) b))
one_minted (x ∷ others) m n own (inr a) (inr b) e = one_minted others m n own.1 a b e

grant_found : (minted : List Minted) (m : Minted) (name : ContextName) → HasOwnSecrets minted → In m minted → m.grant.secret ≡ name.secret → grant_of (grants_of minted) name ≡ Some m.grant
grant_found [] m name own i e = absurd i
grant_found (x ∷ others) m name own i e = by (bytes_eq x.grant.secret name.secret) refl i (λ there. grant_found others m name own.1 there e)
  where
    by : (b : Bool) → bytes_eq x.grant.secret name.secret ≡ b → In m (x ∷ others) → (In m others → grant_of (grants_of others) name ≡ Some m.grant) → grant_of (grants_of (x ∷ others)) name ≡ Some m.grant
    by true same (inl is) later = rw same (ap (λ (y : Minted). Some y.grant) (sym is))
    by false same (inl is) later = absurd (cc (same, (bytes_eq-Decides x.grant.secret name.secret).1 (ap (λ (y : Minted). y.grant.secret) (sym is) ∙ e)))
    by true same (inr there) later = absurd (each_differs x.grant.secret others own.0 m there (e ∙ sym ((bytes_eq-Decides x.grant.secret name.secret).0 same)))
    by false same (inr there) later = rw same (later there)

-- ---- the rights of a held context, at a server that may have a revocation path

pub record Granted (minted : List Minted) (revoked : Option (List ℕ)) (c : SecurityContext) : Type 0 where
  pub source : Minted
  pub granted : In source minted
  pub secret : source.grant.secret ≡ c.name.secret
  pub scope : source.grant.scope ≡ c.scope
  pub not_before : source.grant.not_before ≡ c.not_before
  pub expires : source.grant.expires ≡ c.expires
  pub revocation : revocation_of revoked source.grant.id ≡ c.revocation

-- a context that a genuine token added
pub posted_granted : (minted : List Minted) (earlier : List Noted) (old new : ServerState) (now : Moment) (notes : StepNotes) (p : IsPosted old now notes new)
    → ((m : Minted) → In m minted → IsTextOf m.grant m.text) → IsGenuineOpening minted earlier (token_note p.key p.protected p.iv p.text) → Granted minted old.rules.revoked (added_of old new now notes p).held
posted_granted minted earlier old new now notes p texts genuine =
    let m = genuine.token (refl, refl) in
    let rights = texts m.0 m.1 p.audience now p.claims p.scope (subst (λ (text : List ℕ). ComesTo text p.audience now (Ok (p.claims, p.scope))) (sym m.2) p.granted) in
    record {
      source = m.0;
      granted = m.1;
      secret = sym rights.secret;
      scope = sym rights.scope;
      not_before = sym rights.not_before;
      expires = sym rights.expires;
      revocation = sym (ap (revocation_of old.rules.revoked) rights.id);
    }

-- ---- one more entry

-- the tree after a reply, as a history has it
tree_is : Laws → (root : Option (List ℕ)) (old : Tree) (scope : Scope) (r : Result Request Code) (reply : Reply) (new : Tree) → Replies old (apply_read root old scope r) reply new → (if reply.code.0 == 160 then old else (apply_read root old scope r).tree) ≡ new
tree_is laws root old scope (Ok request) reply new (Applied a b) =
    let other : (reply.code.0 == 160) ≡ false = ap (λ (q : Reply). q.code.0 == 160) a ∙ laws.never_out_of_memory root old scope request in
    rw other (sym b)
tree_is laws root old scope (Err c) reply new (Applied a b) = same (reply.code.0 == 160) ∙ sym b
  where
    same : (t : Bool) → (if t then old else old) ≡ old
    same true = refl
    same false = refl
tree_is laws root old scope r reply new (OutOfMemory t a b) =
    let it : (reply.code.0 == 160) ≡ true = ap (λ (q : Reply). q.code.0 == 160) a in
    rw it (sym b)

may_reply : (old : Tree) (outcome : Outcome) (reply : Reply) (new : Tree) → Replies old outcome reply new → MayReply outcome reply
may_reply old outcome reply new (Applied a b) = inl a
may_reply old outcome reply new (OutOfMemory t a b) = inr (a, t)

-- one more entry that came while its token wasn't revoked
one_more_unrevoked : (grants : List Grant) (revoked : Option (List ℕ)) (first : Tree) (entries : List Entry) (entry : Entry)
    → AreUnrevoked grants revoked first entries → IsUnrevoked grants revoked (effect read_request revoked grants first entries) entry
    → AreUnrevoked grants revoked first (entries ++ entry ∷ [])
one_more_unrevoked grants revoked first [] entry all it = (it, tt)
one_more_unrevoked grants revoked first (e ∷ entries) entry all it =
    (all.0, one_more_unrevoked grants revoked (tree_after read_request revoked grants first e) entries entry all.1 it)

-- and each entry did so, on the tree that those before it left
pub each_unrevoked : (grants : List Grant) (revoked : Option (List ℕ)) (first : Tree) (before after : List Entry) (entry : Entry)
    → AreUnrevoked grants revoked first (before ++ entry ∷ after) → IsUnrevoked grants revoked (effect read_request revoked grants first before) entry
each_unrevoked grants revoked first [] after entry all = all.0
each_unrevoked grants revoked first (e ∷ before) after entry all =
    each_unrevoked grants revoked (tree_after read_request revoked grants first e) before after entry all.1

-- what a request is served under a context that has a grant's rights
module _ (laws : Laws) (minted : List Minted) (first : Tree) (notes : List Noted) (old new : ServerState) (now : Moment) (s : Noted) (p : IsServed old now s.notes new) where
  abbrev its : Entry
  its = entry_of old new now s.notes p

  scope_is : HasOwnSecrets minted → Granted minted old.rules.revoked p.context.held → scope_of (grant_of (grants_of minted) p.context.held.name) ≡ p.context.held.scope
  scope_is own g = ap scope_of (grant_found minted g.source p.context.held.name own g.granted g.secret) ∙ g.scope

  may_follow : HasOwnSecrets minted → Granted minted old.rules.revoked p.context.held → ServerPart old.contexts notes → effect read_request old.rules.revoked (grants_of minted) first (history notes) ≡ old.tree
      → MayFollow read_request old.rules.revoked (grants_of minted) first (history notes) its
  may_follow own g k tree =
      let found = grant_found minted g.source p.context.held.name own g.granted g.secret in
      let its_scope = scope_is own g in
      record {
        once = all_of (λ (d : Entry). ¬ IsSameRequest d its) (history notes) (λ d m same. k.unused p.context d p.is_held m same.0 (subst (IsFresh p.context.held.window) (sym same.1) p.fresh));
        timely = subst (λ (o : Option Grant). IsSomeAnd o (λ grant. IsTimely grant now)) (sym found) (record {
          begun = subst (λ (d : Option ℕ). HasBegun d now) (sym g.not_before) p.is_live.begun;
          not_over = subst (λ (d : Option ℕ). IsNotOver d now) (sym g.expires) p.is_live.not_over;
        });
        answered = subst (λ (x : Tree × Scope). MayReply (apply_read old.rules.revoked x.0 x.1 (read_request p.text)) p.reply) (λ i. (sym tree i, sym its_scope i)) (may_reply old.tree _ p.reply new.tree p.tree);
      }

  more : history (s ∷ notes) ≡ history notes ++ its ∷ []
  more = collected_push (λ (r : Noted). r.notes.served) s notes its (ap (λ (r : StepNotes). r.served) p.noted)

  pub still_legal : HasOwnSecrets minted → Granted minted old.rules.revoked p.context.held → ServerPart old.contexts notes → effect read_request old.rules.revoked (grants_of minted) first (history notes) ≡ old.tree
      → IsLegal read_request old.rules.revoked (grants_of minted) first (history notes) → IsLegal read_request new.rules.revoked (grants_of minted) first (history (s ∷ notes))
  still_legal own g k tree legal =
      subst (λ (r : ContextRules). IsLegal read_request r.revoked (grants_of minted) first (history (s ∷ notes))) (sym p.rules)
      (subst (IsLegal read_request old.rules.revoked (grants_of minted) first) (sym more) (laws.one_more_legal read_request old.rules.revoked (grants_of minted) first (history notes) its legal (may_follow own g k tree)))

  pub still_effects : HasOwnSecrets minted → Granted minted old.rules.revoked p.context.held → effect read_request old.rules.revoked (grants_of minted) first (history notes) ≡ old.tree
      → effect read_request new.rules.revoked (grants_of minted) first (history (s ∷ notes)) ≡ new.tree
  still_effects own g tree =
      let its_scope = scope_is own g in
      ap (λ (r : ContextRules). effect read_request r.revoked (grants_of minted) first (history (s ∷ notes))) p.rules
      ∙ ap (effect read_request old.rules.revoked (grants_of minted) first) more
      ∙ laws.one_more_effect read_request old.rules.revoked (grants_of minted) first (history notes) its
      ∙ (λ i. if p.reply.code.0 == 160 then tree i else (apply_read old.rules.revoked (tree i) (its_scope i) (read_request p.text)).tree)
      ∙ tree_is laws old.rules.revoked old.tree p.context.held.scope (read_request p.text) p.reply new.tree p.tree

  is_unrevoked : HasOwnSecrets minted → Granted minted old.rules.revoked p.context.held → IsUnrevoked (grants_of minted) old.rules.revoked old.tree its
  is_unrevoked own g =
      let found = grant_found minted g.source p.context.held.name own g.granted g.secret in
      subst (λ (o : Option Grant). IsSomeAnd o (λ grant. is_revoked old.rules.revoked old.tree grant.id ≡ false)) (sym found)
      (ap (stands old.tree) g.revocation ∙ p.is_live.unrevoked)

  pub still_unrevoked : HasOwnSecrets minted → Granted minted old.rules.revoked p.context.held → effect read_request old.rules.revoked (grants_of minted) first (history notes) ≡ old.tree
      → AreUnrevoked (grants_of minted) old.rules.revoked first (history notes) → AreUnrevoked (grants_of minted) new.rules.revoked first (history (s ∷ notes))
  still_unrevoked own g tree all =
      subst (λ (r : ContextRules). AreUnrevoked (grants_of minted) r.revoked first (history (s ∷ notes))) (sym p.rules)
      (subst (AreUnrevoked (grants_of minted) old.rules.revoked first) (sym more)
      (one_more_unrevoked (grants_of minted) old.rules.revoked first (history notes) its all
      (subst (λ (t : Tree). IsUnrevoked (grants_of minted) old.rules.revoked t its) (sym tree) (is_unrevoked own g))))
