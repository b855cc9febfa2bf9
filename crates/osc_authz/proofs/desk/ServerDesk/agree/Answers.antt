use Rattle.std.proofs.Common.{◌≡◌, ℕ, ◌∷◌, ◌++◌, List, take, sym, ap, subst, ◌∙◌}
use Rattle.osc_model.specs.{nonce_drawn}
use Rattle.osc_authz.specs.{AreFew, AreMarked, agreed_post, end_of, remembering, IsFull, IsLeastFree, IsTable, KeepsPlace, alive, ids, new_context, with_pending, without_pending}
use Rattle.osc_authz.specs.Inner.Lives.{alive_by}
use Rattle.osc_authz.specs.declared.agreed_post.AgreedPost.{AgreedPost}
use Rattle.osc_authz.specs.declared.post.PostAnswer.{PostAnswer}
use Rattle.osc_authz.specs.declared.token_entry.TokenEntry.{TokenEntry}
use Rattle.osc_authz.proofs.AgreementLemmas.{agreed_is_table, few_after, few_remembered, kept_in_room}
use Rattle.osc_authz.proofs.KeptPlaces.{kept_with}
use Rattle.osc_authz.proofs.LifeLemmas.{alive_is}
use Rattle.osc_authz.proofs.desk.ServerDesk.agree.Goals.{After-deref-2}
use Rattle.osc_authz.proofs.desk.ServerDesk.agree.Goals as goal

-- the post, and what is known of the token id once it is agreed to
abbrev post : After-deref-2 → AgreedPost
post c = record { nonce1 = c.offer.inside.fields.nonce1.now; client_id = c.offer.inside.fields.client_id.now; answer = record { nonce2 = c.nonce.result; recipient_id = c.free_id.result } }

abbrev remember : After-deref-2 → List AgreedPost → List AgreedPost
remember c older = take c.in_ok-room.room.most (c.in_ok-room.room.posts.items ++ older)

-- the context is the one of the claims
its_context : (c : After-deref-2) → c.in_ok-token.context ≡ new_context c.args.self.now.rules c.offer.inside.on.now.at c.args.granted.0 c.args.granted.1 (post c)
its_context c =
    c.in_ok-token.ensures.context c.args.self.now.rules c.offer.inside.on.now.at c.requires.revocation
    (c.end_of.ensures ∙ (λ i. end_of (c.self.view_is i).rules.seconds (c.on.view_is i).at))

-- by the marks live those that live
marked : (c : After-deref-2) → AreMarked c.offer.inside.on.now.tree c.args.self.now.table c.args.marks.now
marked c = coe 1 0 (i. AreMarked (c.offer.view_is i).on.tree c.args.self.now.table c.args.marks.now) c.requires.marked

lives : (c : After-deref-2) (table : List TokenEntry) → table ≡ c.args.self.now.table → alive_by c.on.inside.at c.args.marks.now table ≡ alive c.offer.inside.on.now table
lives c table same =
    (λ i. alive_by (c.on.view_is i).at c.args.marks.now table)
    ∙ alive_is c.offer.inside.on.now c.args.marks.now table
    (subst (λ (t : List TokenEntry). AreMarked c.offer.inside.on.now.tree t c.args.marks.now) (sym same) (marked c))

free : (c : After-deref-2) → IsLeastFree (c.offer.inside.fields.client_id.now ∷ ids (without_pending c.as_slice-token.result.now (alive c.offer.inside.on.now c.deref.result.now))) c.free_id.result
free c =
    subst (λ (t : List TokenEntry). IsLeastFree (c.offer.inside.fields.client_id.now ∷ ids (without_pending c.as_slice-token.result.now t)) c.free_id.result)
    (lives c c.deref.result.now (c.deref.ensures.value ∙ ap (λ desk. desk.table) c.self.view_is)) c.free_id.ensures

grown : (c : After-deref-2) → c.add_pending.new.table.items ≡ with_pending c.in_ok-token.token c.in_ok-token.context (remember c) (alive c.offer.inside.on.now c.reserve_exact.new.self.items)
grown c =
    c.add_pending.ensures
    ∙ ap (with_pending c.in_ok-token.token c.in_ok-token.context (remember c))
    (lives c c.reserve_exact.new.self.items (c.in_ok-reserve_exact.ensures.items ∙ ap (λ desk. desk.table) c.self.view_is))

-- few posts stay known
few : (c : After-deref-2) → AreFew c.self.inside.rules.remembered c.add_pending.new.table.items
few c =
    let most = c.in_ok-room.ensures.most in
    subst (λ (n : ℕ). AreFew n c.add_pending.new.table.items) most
    (subst (AreFew c.in_ok-room.room.most) (sym (grown c))
    (few_after c.offer.inside.on.now c.in_ok-token.token c.in_ok-token.context (remember c) c.in_ok-room.room.most c.reserve_exact.new.self.items
    (λ older. few_remembered c.in_ok-room.room.most (c.in_ok-room.room.posts.items ++ older))
    (subst (λ (n : ℕ). AreFew n c.reserve_exact.new.self.items) (sym most) (subst (AreFew c.self.inside.rules.remembered) (sym c.in_ok-reserve_exact.ensures.items) c.self.invariant.2))))

-- the post is the first that is known
first_known : (c : After-deref-2) (older : List AgreedPost) → remember c older ≡ remembering c.self.inside.rules.remembered (post c) older
first_known c older =
    (λ i. take (c.in_ok-room.ensures.most i) (c.in_ok-room.room.posts.items ++ older))
    ∙ kept_in_room c.self.inside.rules.remembered (post c) c.in_ok-room.room.posts.items older c.in_ok-room.ensures.post

-- the table with the context is a table
added : (c : After-deref-2) → IsTable c.add_pending.new.table.items
added c =
    let table = ap (λ desk. desk.table) c.self.view_is in
    let on = ap (λ offer. offer.on) c.offer.view_is in
    agreed_is_table c.offer.inside.on.now c.args.self.now.rules c.args.granted.0 c.args.granted.1 (post c) (remember c)
    c.args.self.now.table c.deref.result.now c.reserve_exact.new.self.items c.add_pending.new.table.items c.as_slice-token.result.now
    c.in_ok-token.token c.in_ok-token.context (subst IsTable table c.self.invariant.0)
    (subst (λ s. ¬ IsFull c.args.self.now.rules.reserved c.args.granted.0.material.id (alive s c.args.self.now.table)) (sym on) c.requires.room)
    c.as_slice-token.ensures (c.deref.ensures.value ∙ table) (free c)
    c.in_ok-token.ensures.id (its_context c)
    (c.in_ok-reserve_exact.ensures.items ∙ table) (grown c)

-- the reserved place stays kept
keeps : (c : After-deref-2) → KeepsPlace c.self.inside.rules.reserved c.add_pending.new.table.items
keeps c =
    let table = c.in_ok-reserve_exact.ensures.items in
    let token = c.in_ok-token.ensures.id in
    let on = ap (λ offer. offer.on) c.offer.view_is in
    let room : ¬ IsFull c.self.inside.rules.reserved c.in_ok-token.token (alive c.offer.inside.on.now c.reserve_exact.new.self.items) =
    coe 1 0 (i. ¬ IsFull (c.self.view_is i).rules.reserved (token i) (alive (on i) ((table ∙ ap (λ desk. desk.table) c.self.view_is) i))) c.requires.room in
    subst (KeepsPlace c.self.inside.rules.reserved) (sym (grown c))
    (kept_with c.self.inside.rules.reserved c.in_ok-token.token c.in_ok-token.context (remember c) c.offer.inside.on.now c.reserve_exact.new.self.items
    (subst (KeepsPlace c.self.inside.rules.reserved) (sym table) c.self.invariant.3) room (subst IsTable (grown c) (added c)))

pub places_of-self-inside-requires : goal.places_of-self-inside-requires
places_of-self-inside-requires c = rw c.deref-2.ensures.value (added c).few

pub invariant_of-self-2 : goal.invariant_of-self-2
invariant_of-self-2 c = (
  added (goal.at.invariant_of-self-2 c).After-deref-2,
  rw (← c.deref-2.ensures.value) c.places_of-self-inside.ensures,
  few (goal.at.invariant_of-self-2 c).After-deref-2,
  keeps (goal.at.invariant_of-self-2 c).After-deref-2,
)

pub returns-clause-agreed : goal.returns-clause-agreed
returns-clause-agreed c =
    let table = ap (λ desk. desk.table) c.self.view_is in
    let on = ap (λ offer. offer.on) c.offer.view_is in
    let id = c.as_slice-token.ensures in
    let answer : PostAnswer = record { nonce2 = c.nonce.result; recipient_id = c.free_id.result } in
    let seen = c.deref.ensures.value ∙ table in
    let at = (goal.at.returns-clause-agreed c).After-deref-2 in
    let reserved = c.in_ok-reserve_exact.ensures.items ∙ table in
    let context = its_context at in
    let added : c.add_pending.new.table.items
    ≡ with_pending c.args.granted.0.material.id (new_context c.args.self.now.rules c.args.offer.now.on.at c.args.granted.0 c.args.granted.1 (agreed_post c.args.offer.now answer))
    (remembering c.args.self.now.rules.remembered (agreed_post c.args.offer.now answer)) (alive c.args.offer.now.on c.args.self.now.table) =
    grown at
    ∙ (λ i. with_pending (c.in_ok-token.ensures.id i) (context i) (λ older. first_known at older i) (alive (on i) (reserved i)))
    ∙ (λ i. with_pending c.args.granted.0.material.id
    (new_context c.args.self.now.rules (on i).at c.args.granted.0 c.args.granted.1 (agreed_post (c.offer.view_is i) answer))
    (remembering (c.self.view_is i).rules.remembered (agreed_post (c.offer.view_is i) answer))
    (alive c.args.offer.now.on c.args.self.now.table))
    in
    record {
      free = coe 0 1 (i. IsLeastFree ((c.offer.view_is i).client_id ∷ ids (without_pending (id i) (alive (on i) (seen i)))) c.free_id.result) (free at);
      drawn = c.nonce.ensures ∙ ap (λ offer. nonce_drawn offer.draw) c.offer.view_is;
      added = λ i. record (c.self.view_is i) { table = added i };
    }
