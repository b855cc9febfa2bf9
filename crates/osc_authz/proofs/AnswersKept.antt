-- Which last answers a table keeps.
use Rattle.std.proofs.Common.{◌≡◌, ◌⊎◌, ℕ, Bool, true, false, cond, List, [], ◌∷◌, ◌++◌, map, filter, Option, Some, None, Result, option_map, inl, inr, refl, sym, ap, ◌∙◌, subst}
use Rattle.std.specs.List.{AllByRecursion}
use Rattle.std.specs.Option.{option_map_or}
use Rattle.std.specs.Str.{bytes_eq}
use Rattle.osc_authz.specs.Agreement.{refused, disallowed, revoked, full, again, replayed, agreed}
use Rattle.osc_authz.specs.Posting.{Offer, Posting, offered}
use Rattle.osc_authz.specs.declared.agreed_post.AgreedPost.{AgreedPost}
use Rattle.osc_authz.specs.declared.error.PostError.{PostError}
use Rattle.osc_authz.specs.declared.post.Post.{Post}
use Rattle.osc_authz.specs.declared.post.PostReply.{PostReply}
use Rattle.osc_authz.specs.declared.token_entry.TokenEntry.{TokenEntry}
use Rattle.osc_authz.specs.LastAnswer.{LastAnswerState}
use Rattle.osc_authz.specs.SecurityContext.{SecurityContext}
use Rattle.osc_authz.specs.{Answers, DeskState, In, IsTable, Keeps, Posts, accepted, accepted_in, agreed_post, alive, answered_by, confirms_id, contexts, has_id, holds_live, listed, new_context, remembering, taking, with_id, with_last, with_last_in, with_pending}
use Rattle.osc_authz.proofs.Lookups.{found_alone}
use Rattle.osc_authz.proofs.Members.{in_back, in_filter, in_front, in_mapped}

pub none_kept : (held : SecurityContext) (last : LastAnswerState) → Keeps held last [] → ⊥
none_kept held last k = k.among

-- ---- posts

module _ (token : List ℕ) (held : SecurityContext) (remember : List AgreedPost → List AgreedPost) (context : SecurityContext) (last : LastAnswerState) where
  later : (h : TokenEntry) (table : List TokenEntry) → Keeps context last table → Keeps context last (h ∷ table)
  later h table k = record { entry = k.entry; among = inr k.among; confirmed = k.confirmed; answer = k.answer }

  from_pending : (table : List TokenEntry) (entry : TokenEntry) → In entry (with_pending token held remember table) → entry.confirmed ≡ Some context → entry.last ≡ Some last
      → Keeps context last table
  from_pending [] entry (inl e) c l = let no : None ≡ Some last = sym (ap (λ (x : TokenEntry). x.last) e) ∙ l in absurd (cc)
  from_pending [] entry (inr m) c l = absurd m
  from_pending (h ∷ table) entry m c l = by (bytes_eq token h.id) m (from_pending table entry)
    where
      by : (b : Bool) → In entry (cond b ((record h { pending = Some held; posts = remember h.posts }) ∷ table) (h ∷ with_pending token held remember table))
          → (In entry (with_pending token held remember table) → entry.confirmed ≡ Some context → entry.last ≡ Some last → Keeps context last table)
          → Keeps context last (h ∷ table)
      by true (inl e) rest = record {
        entry = h;
        among = inl refl;
        confirmed = sym (ap (λ (x : TokenEntry). x.confirmed) e) ∙ c;
        answer = sym (ap (λ (x : TokenEntry). x.last) e) ∙ l;
      }
      by true (inr m) rest = record { entry = entry; among = inr m; confirmed = c; answer = l }
      by false (inl e) rest = record {
        entry = h;
        among = inl refl;
        confirmed = sym (ap (λ (x : TokenEntry). x.confirmed) e) ∙ c;
        answer = sym (ap (λ (x : TokenEntry). x.last) e) ∙ l;
      }
      by false (inr m) rest = later h table (rest m c l)

same_kept : (before after : DeskState) (context : SecurityContext) (last : LastAnswerState) → after ≡ before → Keeps context last after.table → Keeps context last before.table
same_kept before after context last same k = subst (λ (d : DeskState). Keeps context last d.table) same k

module _ (context : SecurityContext) (last : LastAnswerState) where
  kept_of_answers : (before after : DeskState) (offer : Offer) (text : List ℕ) (answer : Result PostReply PostError) → Answers before offer text answer after
      → Keeps context last after.table → Keeps context last before.table
  kept_of_answers before after offer text answer (refused error comes is same) k = same_kept before after context last same k
  kept_of_answers before after offer text answer (disallowed claims scope comes below is same) k = same_kept before after context last same k
  kept_of_answers before after offer text answer (revoked claims scope comes allowed gone is same) k = same_kept before after context last same k
  kept_of_answers before after offer text answer (full claims scope its many is same) k = same_kept before after context last same k
  kept_of_answers before after offer text answer (again claims scope made its known held is same) k = same_kept before after context last same k
  kept_of_answers before after offer text answer (replayed claims scope made its known gone is same) k = same_kept before after context last same k
  kept_of_answers before after offer text answer (agreed claims scope made its known agrees is) k =
      let post : AgreedPost = agreed_post offer made in
      let here = subst (λ (d : DeskState). Keeps context last d.table) agrees.added k in
      let it = from_pending claims.material.id (new_context before.rules offer.on.at claims scope post) (remembering before.rules.remembered post) context last
      (alive offer.on before.table) here.entry here.among here.confirmed here.answer in
      record { entry = it.entry; among = (in_filter (holds_live offer.on) before.table it.entry it.among).0; confirmed = it.confirmed; answer = it.answer }

pub kept_of_posts : (IsSealing : List ℕ → List ℕ → List ℕ → List ℕ → List ℕ → Type 0) (before after : DeskState) (posting : Posting) (post : Post) (held : SecurityContext) (last : LastAnswerState)
    → Posts IsSealing before posting post after → Keeps held last after.table → Keeps held last before.table
kept_of_posts IsSealing before after posting post held last (Posts.no_post none is same) k = same_kept before after held last same k
kept_of_posts IsSealing before after posting post held last (Posts.not_genuine token nonce1 client_id p none is same) k = same_kept before after held last same k
kept_of_posts IsSealing before after posting post held last (Posts.opened key nonce1 client_id its answer o its_key answers is) k =
    kept_of_answers held last before after (offered posting nonce1 client_id) its.text answer answers k

-- ---- requests that are served

-- what holds of all of a list holds of each
each : {X : Type 0} (P : X → Type 0) (xs : List X) (x : X) → AllByRecursion P xs → In x xs → P x
each P [] x all m = absurd m
each P (y ∷ xs) x all (inl e) = subst P (sym e) all.0
each P (y ∷ xs) x all (inr m) = each P xs x all.1 m

listed_in : (context : Option SecurityContext) (held : SecurityContext) → context ≡ Some held → In held (listed context)
listed_in context held is = subst (λ (o : Option SecurityContext). In held (listed o)) (sym is) (inl refl)

confirmed_in : (table : List TokenEntry) (entry : TokenEntry) (held : SecurityContext) → In entry table → entry.confirmed ≡ Some held → In held (contexts table)
confirmed_in [] entry held m is = absurd m
confirmed_in (h ∷ table) entry held (inl e) is =
    in_front held (listed h.confirmed ++ listed h.pending) (contexts table)
    (in_front held (listed h.confirmed) (listed h.pending) (listed_in h.confirmed held (ap (λ (x : TokenEntry). x.confirmed) (sym e) ∙ is)))
confirmed_in (h ∷ table) entry held (inr m) is =
    in_back held (listed h.confirmed ++ listed h.pending) (contexts table) (confirmed_in table entry held m is)

pending_in : (table : List TokenEntry) (entry : TokenEntry) (held : SecurityContext) → In entry table → entry.pending ≡ Some held → In held (contexts table)
pending_in [] entry held m is = absurd m
pending_in (h ∷ table) entry held (inl e) is =
    in_front held (listed h.confirmed ++ listed h.pending) (contexts table)
    (in_back held (listed h.confirmed) (listed h.pending) (listed_in h.pending held (ap (λ (x : TokenEntry). x.pending) (sym e) ∙ is)))
pending_in (h ∷ table) entry held (inr m) is =
    in_back held (listed h.confirmed ++ listed h.pending) (contexts table) (pending_in table entry held m is)

module _ (id : List ℕ) (own last : LastAnswerState) (table : List TokenEntry) (held other : SecurityContext)
    (is_table : IsTable table) (found : with_id id table ≡ Some held) where
  abbrev Outcome : Type 0
  Outcome = Keeps other last table ⊎ ((other ≡ taking own.number held) × (last ≡ own))

  only : (c : SecurityContext) → In c (contexts table) → has_id id c ≡ true → c ≡ held
  only c m = each (λ context. has_id id context ≡ true → context ≡ held) (contexts table) c
      (found_alone (λ context. context ≡ held) id held (contexts table) is_table.own_ids found refl) m

  -- the context that took the number
  its : (o : Option SecurityContext) → ((c : SecurityContext) → o ≡ Some c → In c (contexts table)) → option_map_or (has_id id) o false ≡ true
      → option_map (taking own.number) o ≡ Some other → other ≡ taking own.number held
  its None among has is = absurd (cc)
  its (Some c) among has is =
      let same : taking own.number c ≡ other = cc in
      sym same ∙ ap (taking own.number) (only c (among c refl) has)

  -- the answer of an entry that took the number
  its_answer : (b : Bool) → cond b (Some own) None ≡ Some last → last ≡ own
  its_answer true e = cc
  its_answer false e = absurd (cc)

  abbrev after : Bool → Bool → TokenEntry → TokenEntry
  after p c x = cond p (record x { confirmed = option_map (taking own.number) x.pending; pending = None; last = None }) (cond c (record x { confirmed = option_map (taking own.number) x.confirmed; last = None }) x)

  none_in : (x entry : TokenEntry) → In x table → entry ≡ accepted_in id own.number x → entry.confirmed ≡ Some other → entry.last ≡ Some last → Outcome
  none_in x entry m e is answer = by (option_map_or (has_id id) x.pending false) (option_map_or (has_id id) x.confirmed false) e
    where
      no : None ≡ Some last → Outcome
      no e = absurd (cc)

      by : (p c : Bool) → entry ≡ after p c x → Outcome
      by true c e = no (sym (ap (λ (y : TokenEntry). y.last) e) ∙ answer)
      by false true e = no (sym (ap (λ (y : TokenEntry). y.last) e) ∙ answer)
      by false false e = inl (record {
        entry = x;
        among = m;
        confirmed = sym (ap (λ (y : TokenEntry). y.confirmed) e) ∙ is;
        answer = sym (ap (λ (y : TokenEntry). y.last) e) ∙ answer;
      })

  one_in : (x entry : TokenEntry) → In x table → entry ≡ with_last_in id own (accepted_in id own.number x) → entry.confirmed ≡ Some other → entry.last ≡ Some last → Outcome
  one_in x entry m e is answer = by (option_map_or (has_id id) x.pending false) (option_map_or (has_id id) x.confirmed false) refl refl e
    where
      by : (p c : Bool) → option_map_or (has_id id) x.pending false ≡ p → option_map_or (has_id id) x.confirmed false ≡ c → entry ≡ with_last_in id own (after p c x) → Outcome
      by true c p_is c_is e = inr (
        its x.pending (λ d there. pending_in table x d m there) p_is (sym (ap (λ (y : TokenEntry). y.confirmed) e) ∙ is),
        its_answer (confirms_id id (after true c x)) (sym (ap (λ (y : TokenEntry). y.last) e) ∙ answer),
      )
      by false true p_is c_is e = inr (
        its x.confirmed (λ d there. confirmed_in table x d m there) c_is (sym (ap (λ (y : TokenEntry). y.confirmed) e) ∙ is),
        its_answer (confirms_id id (after false true x)) (sym (ap (λ (y : TokenEntry). y.last) e) ∙ answer),
      )
      by false false p_is c_is e = inl (record {
        entry = x;
        among = m;
        confirmed = sym (ap (λ (y : TokenEntry). y.confirmed) e) ∙ is;
        answer = ap (λ (b : Bool). cond b (Some own) x.last) (sym c_is) ∙ sym (ap (λ (y : TokenEntry). y.last) e) ∙ answer;
      })

  pub kept_after : (answers : Bool) → Keeps other last (answered_by answers id own table) → Outcome
  kept_after false k =
      let x = in_mapped (accepted_in id own.number) table k.entry k.among in
      none_in x.0 k.entry x.1 x.2 k.confirmed k.answer
  kept_after true k =
      let y = in_mapped (with_last_in id own) (accepted id own.number table) k.entry k.among in
      let x = in_mapped (accepted_in id own.number) table y.0 y.1 in
      one_in x.0 k.entry x.1 (y.2 ∙ ap (with_last_in id own) x.2) k.confirmed k.answer

pub kept_of_served : (answers : Bool) (id : List ℕ) (own last : LastAnswerState) (table : List TokenEntry) (held other : SecurityContext)
    → IsTable table → with_id id table ≡ Some held → Keeps other last (answered_by answers id own table)
    → Keeps other last table ⊎ ((other ≡ taking own.number held) × (last ≡ own))
kept_of_served answers id own last table held other is_table found k = kept_after id own last table held other is_table found answers k
