-- What becomes of the contexts in a desk's table.
use Rattle.std.proofs.Common.{◌≡◌, ◌≢◌, ◌⊎◌, ℕ, ◌/◌, ◌≤◌, ◌<◌, Bool, true, false, cond, ◌&&◌, ◌||◌, nat_le, nat_lt, List, [], ◌∷◌, ◌++◌, map, Option, Some, None, option_map, bytes_eq, refl, sym, ap, ap₂, ◌∙◌, inl, inr, ⊎_elim, subst, le-leb, lt-ltb, not}
use Rattle.std.specs.Option.{option_map_or, ForSome}
use Rattle.std.proofs.lemmas.List.{map-append}
use Rattle.std.specs.List.{IsDistinct}
use Rattle.std.proofs.lemmas.Slice.Eq.{bytes_eq-Decides}
use Rattle.osc_model.specs.{stands as stands_at}
use Rattle.osc_authz.specs.Standing.{Standing}
use Rattle.osc_authz.specs.SecurityContext.{SecurityContext}
use Rattle.osc_authz.specs.declared.agreed_post.AgreedPost.{AgreedPost}
use Rattle.osc_authz.specs.{listed, contexts, is_live, holds_live, alive, has_id, taking, accepted_in, accepted, with_pending, IsTable, In, OfToken, pending_of, of_token, of_tokens, IsConfirmedOf, IsPendingOf, confirmed_by, IsLive, AreKept, HasAdded, HasTaken}
use Rattle.osc_authz.specs.declared.token_entry.TokenEntry.{TokenEntry}
use Rattle.osc_authz.proofs.Members.{in_front, in_back, in_either, mapped_in, in_mapped, in_filter, filtered_in, one_of_text}

-- ---- where a context is

-- the confirmed or the pending one of an entry
abbrev slot : Bool → TokenEntry → Option SecurityContext
slot true h = h.confirmed
slot false h = h.pending

-- an entry of the table has the context
record Stands (c : OfToken) (table : List TokenEntry) : Type 0 where
  entry : TokenEntry
  among : In entry table
  token : c.token ≡ entry.id
  here : slot c.is_confirmed entry ≡ Some c.held

alike : (c : OfToken) (token : List ℕ) (is_confirmed : Bool) (held : SecurityContext) → c.token ≡ token → c.is_confirmed ≡ is_confirmed → c.held ≡ held
    → c ≡ record { token = token; is_confirmed = is_confirmed; held = held }
alike c token is_confirmed held t k h = λ i. record { token = t i; is_confirmed = k i; held = h i }

in_one : (c : OfToken) (token : List ℕ) (b : Bool) (o : Option SecurityContext) → In c (of_token token b o) → (c.token ≡ token) × (c.is_confirmed ≡ b) × (o ≡ Some c.held)
in_one c token b None m = absurd m
in_one c token b (Some d) (inl e) = (ap (λ (x : OfToken). x.token) e, ap (λ (x : OfToken). x.is_confirmed) e, ap (λ (x : OfToken). Some x.held) (sym e))
in_one c token b (Some d) (inr m) = absurd m

one_in : (c : OfToken) (token : List ℕ) (b : Bool) (o : Option SecurityContext) → c.token ≡ token → c.is_confirmed ≡ b → o ≡ Some c.held → In c (of_token token b o)
one_in c token b o t k e = subst (λ (x : Option SecurityContext). In c (of_token token b x)) (sym e) (inl (alike c token b c.held t k refl))

stands : (table : List TokenEntry) (c : OfToken) → In c (of_tokens table) → Stands c table
stands [] c m = absurd m
stands (h ∷ table) c m =
    ⊎_elim
    (λ (a : In c (of_token h.id true h.confirmed ++ of_token h.id false h.pending)). ⊎_elim
    (λ (x : In c (of_token h.id true h.confirmed)). at true (in_one c h.id true h.confirmed x))
    (λ (x : In c (of_token h.id false h.pending)). at false (in_one c h.id false h.pending x))
    (in_either c (of_token h.id true h.confirmed) (of_token h.id false h.pending) a))
    (λ (a : In c (of_tokens table)). let s = stands table c a in record { entry = s.entry; among = inr s.among; token = s.token; here = s.here })
    (in_either c (of_token h.id true h.confirmed ++ of_token h.id false h.pending) (of_tokens table) m)
  where
    at : (b : Bool) → (c.token ≡ h.id) × (c.is_confirmed ≡ b) × (slot b h ≡ Some c.held) → Stands c (h ∷ table)
    at b p = record { entry = h; among = inl refl; token = p.0; here = ap (λ x. slot x h) p.1 ∙ p.2 }

stood_at : (table : List TokenEntry) (c : OfToken) (h : TokenEntry) → In h table → c.token ≡ h.id → slot c.is_confirmed h ≡ Some c.held → In c (of_tokens table)
stood_at [] c h m t e = absurd m
stood_at (g ∷ table) c h (inl same) t e = subst (λ (x : TokenEntry). In c (of_tokens (x ∷ table))) same (by c.is_confirmed refl e)
  where
    by : (b : Bool) → c.is_confirmed ≡ b → slot b h ≡ Some c.held → In c (of_tokens (h ∷ table))
    by true k e =
        in_front c (of_token h.id true h.confirmed ++ of_token h.id false h.pending) (of_tokens table) (in_front c (of_token h.id true h.confirmed) (of_token h.id false h.pending) (one_in c h.id true h.confirmed t k e))
    by false k e =
        in_front c (of_token h.id true h.confirmed ++ of_token h.id false h.pending) (of_tokens table) (in_back c (of_token h.id true h.confirmed) (of_token h.id false h.pending) (one_in c h.id false h.pending t k e))
stood_at (g ∷ table) c h (inr m) t e = in_back c (of_token g.id true g.confirmed ++ of_token g.id false g.pending) (of_tokens table) (stood_at table c h m t e)

stood : (table : List TokenEntry) (c : OfToken) → Stands c table → In c (of_tokens table)
stood table c s = stood_at table c s.entry s.among s.token s.here

one_of : (c d : SecurityContext) (o : Option SecurityContext) → o ≡ Some c → o ≡ Some d → c ≡ d
one_of c d o e f = let both : Some c ≡ Some d = sym e ∙ f in cc

-- ---- the same without their tokens

abbrev held_in : OfToken → SecurityContext
held_in c = c.held

held_of_one : (token : List ℕ) (b : Bool) (o : Option SecurityContext) → map held_in (of_token token b o) ≡ listed o
held_of_one token b None = refl
held_of_one token b (Some d) = refl

held_of_tokens : (table : List TokenEntry) → map held_in (of_tokens table) ≡ contexts table
held_of_tokens [] = refl
held_of_tokens (h ∷ table) =
    let confirmed : List OfToken = of_token h.id true h.confirmed in
    let pending : List OfToken = of_token h.id false h.pending in
    let mine : map held_in (confirmed ++ pending) ≡ listed h.confirmed ++ listed h.pending =
    map-append held_in confirmed pending ∙ ap₂ (λ (x y : List SecurityContext). x ++ y) (held_of_one h.id true h.confirmed) (held_of_one h.id false h.pending) in
    map-append held_in (confirmed ++ pending) (of_tokens table) ∙ ap₂ (λ (x y : List SecurityContext). x ++ y) mine (held_of_tokens table)

pub is_held : (table : List TokenEntry) (c : OfToken) → In c (of_tokens table) → In c.held (contexts table)
is_held table c m = subst (In c.held) (held_of_tokens table) (mapped_in held_in (of_tokens table) c m)

pub held_of : (table : List TokenEntry) (d : SecurityContext) → In d (contexts table) → (c : OfToken) × In c (of_tokens table) × (d ≡ c.held)
held_of table d m = in_mapped held_in (of_tokens table) d (subst (In d) (sym (held_of_tokens table)) m)

-- ---- IDs that stand once

abbrev id_in : OfToken → List ℕ
id_in c = c.held.name.client_id

ids_of_held : (cs : List OfToken) → map (λ d. d.name.client_id) (map held_in cs) ≡ map id_in cs
ids_of_held [] = refl
ids_of_held (c ∷ cs) = ap (λ ids. id_in c ∷ ids) (ids_of_held cs)

pub one_held : (table : List TokenEntry) (c d : SecurityContext) → IsTable table → In c (contexts table) → In d (contexts table) → c.name.client_id ≡ d.name.client_id → c ≡ d
one_held table c d is_table m n e = one_of_text (λ (x : SecurityContext). x.name.client_id) (contexts table) c d is_table.own_ids m n e

pub one_of_token : (table : List TokenEntry) (c d : OfToken) → IsTable table → In c (of_tokens table) → In d (of_tokens table) → c.held.name.client_id ≡ d.held.name.client_id → c ≡ d
one_of_token table c d is_table m n e =
    let ids_are : map (λ x. x.name.client_id) (contexts table) ≡ map id_in (of_tokens table) =
    ap (map (λ x. x.name.client_id)) (sym (held_of_tokens table)) ∙ ids_of_held (of_tokens table) in
    one_of_text id_in (of_tokens table) c d (subst (IsDistinct bytes_eq) ids_are is_table.own_ids) m n e

one_holding : (table : List TokenEntry) (g h : TokenEntry) → IsTable table → In g table → In h table → g.id ≡ h.id → g ≡ h
one_holding table g h is_table m n e = one_of_text (λ (x : TokenEntry). x.id) table g h is_table.own_tokens m n e

-- ---- those that live

begun_test : (begins : Option ℕ) (t : ℕ) → ForSome begins (λ s. s ≤ t) → option_map_or (λ s. nat_le s t) begins true ≡ true
begun_test None t b = refl
begun_test (Some begin) t b = le-leb begin t (b begin refl)

end_test : (ends : Option ℕ) (t : ℕ) → ForSome ends (λ s. t < s) → option_map_or (λ s. nat_lt t s) ends true ≡ true
end_test None t e = refl
end_test (Some end) t e = lt-ltb t end (e end refl)

live_test : (begins ends ages : Option ℕ) (t : ℕ) (revoked : Bool) → ForSome begins (λ s. s ≤ t) → ForSome ends (λ s. t < s) → revoked ≡ false → ForSome ages (λ s. t < s)
    → (option_map_or (λ s. nat_le s t) begins true && option_map_or (λ s. nat_lt t s) ends true && not revoked && option_map_or (λ s. nat_lt t s) ages true) ≡ true
live_test begins ends ages t revoked b e r y = rw (begun_test begins t b, end_test ends t e, r, end_test ages t y) refl

lives : (now : Standing) (c : SecurityContext) → IsLive now c → is_live now c ≡ true
lives now c live = live_test c.not_before c.expires c.ends (now.at.ms / 1000) (stands_at now.tree c.revocation) live.begun live.not_over live.unrevoked live.young

first_or : (a b : Bool) → a ≡ true → (a || b) ≡ true
first_or true b e = refl
first_or false b e = absurd (cc)

second_or : (a b : Bool) → b ≡ true → (a || b) ≡ true
second_or true b e = refl
second_or false b e = e

-- an entry with a context that lives
holds : (now : Standing) (d : SecurityContext) (h : TokenEntry) (b : Bool) → is_live now d ≡ true → slot b h ≡ Some d → holds_live now h ≡ true
holds now d h true live e = first_or (option_map_or (is_live now) h.confirmed false) (option_map_or (is_live now) h.pending false) (ap (λ (o : Option SecurityContext). option_map_or (is_live now) o false) e ∙ live)
holds now d h false live e = second_or (option_map_or (is_live now) h.confirmed false) (option_map_or (is_live now) h.pending false) (ap (λ (o : Option SecurityContext). option_map_or (is_live now) o false) e ∙ live)

of_alive : (now : Standing) (table : List TokenEntry) (c : OfToken) → In c (of_tokens (alive now table)) → In c (of_tokens table)
of_alive now table c m =
    let s = stands (alive now table) c m in
    stood table c (record { entry = s.entry; among = (in_filter (holds_live now) table s.entry s.among).0; token = s.token; here = s.here })

is_alive : (now : Standing) (table : List TokenEntry) (c : OfToken) → In c (of_tokens table) → IsLive now c.held → In c (of_tokens (alive now table))
is_alive now table c m live =
    let s = stands table c m in
    let its = holds now c.held s.entry c.is_confirmed (lives now c.held live) s.here in
    stood (alive now table) c (record { entry = s.entry; among = filtered_in (holds_live now) table s.entry s.among its; token = s.token; here = s.here })

pub kept : (now : Standing) (table : List TokenEntry) → AreKept now (of_tokens table) (of_tokens (alive now table))
kept now table = record { only = of_alive now table; live = is_alive now table }

-- ---- one more

module _ (token : List ℕ) (held : SecurityContext) (remember : List AgreedPost → List AgreedPost) where
  -- an entry beside one more pending context: one of before, or the token id's, whose confirmed one is that of before
  data With (g : TokenEntry) (table : List TokenEntry) : Type 0 where
    Other : In g table → With g table
    Changed : g.id ≡ token → g.pending ≡ Some held
        → ((d : SecurityContext) → g.confirmed ≡ Some d → (h : TokenEntry) × In h table × (h.id ≡ token) × (h.confirmed ≡ Some d))
        → With g table

  later : (g h : TokenEntry) (table : List TokenEntry) → With g table → With g (h ∷ table)
  later g h table (Other m) = Other (inr m)
  later g h table (Changed id pending from) = Changed id pending (λ d e. let r = from d e in (r.0, inr r.1, r.2, r.3))

  nothing : (d : SecurityContext) → None ≡ Some d → ⊥
  nothing d e = cc

  with_one : (table : List TokenEntry) (g : TokenEntry) → In g (with_pending token held remember table) → With g table
  with_one [] g (inl e) = Changed (ap (λ (x : TokenEntry). x.id) e) (ap (λ (x : TokenEntry). x.pending) e) (λ d k. absurd (nothing d (sym (ap (λ (x : TokenEntry). x.confirmed) e) ∙ k)))
  with_one [] g (inr m) = absurd m
  with_one (h ∷ table) g m = by (bytes_eq token h.id) refl m (with_one table g)
    where
      by : (b : Bool) → bytes_eq token h.id ≡ b → In g (cond b ((record h { pending = Some held; posts = remember h.posts }) ∷ table) (h ∷ with_pending token held remember table))
          → (In g (with_pending token held remember table) → With g table) → With g (h ∷ table)
      by true same (inl e) rest =
          let is : h.id ≡ token = sym ((bytes_eq-Decides token h.id).0 same) in
          Changed (ap (λ (x : TokenEntry). x.id) e ∙ is) (ap (λ (x : TokenEntry). x.pending) e) (λ d k. (h, inl refl, is, sym (ap (λ (x : TokenEntry). x.confirmed) e) ∙ k))
      by true same (inr m) rest = Other (inr m)
      by false other (inl e) rest = Other (inl e)
      by false other (inr m) rest = later g h table (rest m)

  has_new : (table : List TokenEntry) → (g : TokenEntry) × In g (with_pending token held remember table) × (g.id ≡ token) × (g.pending ≡ Some held)
  has_new [] = (record { id = token; confirmed = None; pending = Some held; posts = remember []; last = None }, inl refl, refl, refl)
  has_new (h ∷ table) = by (bytes_eq token h.id) refl (has_new table)
    where
      by : (b : Bool) → bytes_eq token h.id ≡ b → (g : TokenEntry) × In g (with_pending token held remember table) × (g.id ≡ token) × (g.pending ≡ Some held)
          → (g : TokenEntry) × In g (cond b ((record h { pending = Some held; posts = remember h.posts }) ∷ table) (h ∷ with_pending token held remember table)) × (g.id ≡ token) × (g.pending ≡ Some held)
      by true same rest = (record h { pending = Some held; posts = remember h.posts }, inl refl, sym ((bytes_eq-Decides token h.id).0 same), refl)
      by false other rest = (rest.0, inr rest.1, rest.2, rest.3)

  -- what becomes of an entry
  record StillIn (h : TokenEntry) (table : List TokenEntry) : Type 0 where
    new : TokenEntry
    among : In new table
    id : new.id ≡ h.id
    confirmed : new.confirmed ≡ h.confirmed
    pending : (h.id ≡ token) ⊎ (new.pending ≡ h.pending)

  stays : (table : List TokenEntry) (h : TokenEntry) → In h table → StillIn h (with_pending token held remember table)
  stays [] h m = absurd m
  stays (k ∷ table) h m = by (bytes_eq token k.id) refl m (stays table h)
    where
      by : (b : Bool) → bytes_eq token k.id ≡ b → In h (k ∷ table) → (In h table → StillIn h (with_pending token held remember table))
          → StillIn h (cond b ((record k { pending = Some held; posts = remember k.posts }) ∷ table) (k ∷ with_pending token held remember table))
      by true same (inl e) rest = record {
        new = record k { pending = Some held; posts = remember k.posts };
        among = inl refl;
        id = ap (λ (x : TokenEntry). x.id) (sym e);
        confirmed = ap (λ (x : TokenEntry). x.confirmed) (sym e);
        pending = inl (ap (λ (x : TokenEntry). x.id) e ∙ sym ((bytes_eq-Decides token k.id).0 same));
      }
      by true same (inr m) rest = record { new = h; among = inr m; id = refl; confirmed = refl; pending = inr refl }
      by false other (inl e) rest = record {
        new = k;
        among = inl refl;
        id = ap (λ (x : TokenEntry). x.id) (sym e);
        confirmed = ap (λ (x : TokenEntry). x.confirmed) (sym e);
        pending = inr (ap (λ (x : TokenEntry). x.pending) (sym e));
      }
      by false other (inr m) rest = let r = rest m in record { new = r.new; among = inr r.among; id = r.id; confirmed = r.confirmed; pending = r.pending }

  -- where a context of the table with one more came from
  came_from : (table : List TokenEntry) (c : OfToken) (g : TokenEntry) → c.token ≡ g.id → With g table → (b : Bool) → c.is_confirmed ≡ b → slot b g ≡ Some c.held
      → (c ≡ pending_of token held) ⊎ In c (of_tokens table)
  came_from table c g t (Other m) b k e = inr (stood table c (record { entry = g; among = m; token = t; here = ap (λ x. slot x g) k ∙ e }))
  came_from table c g t (Changed id pending from) true k e =
      let r = from c.held e in
      inr (stood table c (record { entry = r.0; among = r.1; token = t ∙ id ∙ sym r.2; here = ap (λ x. slot x r.0) k ∙ r.3 }))
  came_from table c g t (Changed id pending from) false k e = inl (alike c token false held (t ∙ id) k (one_of c.held held g.pending e pending))

  only_one : (table : List TokenEntry) (c : OfToken) → In c (of_tokens (with_pending token held remember table)) → (c ≡ pending_of token held) ⊎ In c (of_tokens table)
  only_one table c m =
      let s = stands (with_pending token held remember table) c m in
      came_from table c s.entry s.token (with_one table s.entry s.among) c.is_confirmed refl s.here

  pub has_pending : (table : List TokenEntry) → In (pending_of token held) (of_tokens (with_pending token held remember table))
  has_pending table =
      let g = has_new table in
      stood (with_pending token held remember table) (pending_of token held) (record { entry = g.0; among = g.1; token = sym g.2; here = g.3 })

  no_other : (table : List TokenEntry) → IsTable (with_pending token held remember table) → (c : OfToken) → In c (of_tokens (with_pending token held remember table)) → IsPendingOf token c → c ≡ pending_of token held
  no_other table is_table c m is =
      let s = stands (with_pending token held remember table) c m in
      let g = has_new table in
      let one : s.entry ≡ g.0 = one_holding (with_pending token held remember table) s.entry g.0 is_table s.among g.1 (sym s.token ∙ is.0 ∙ sym g.2) in
      let its : g.0.pending ≡ Some c.held = ap (λ (x : TokenEntry). x.pending) (sym one) ∙ sym (ap (λ b. slot b s.entry) is.1) ∙ s.here in
      alike c token false held is.0 is.1 (one_of c.held held g.0.pending its g.3)

  stays_or : (table : List TokenEntry) (c : OfToken) → Stands c table → (b : Bool) → c.is_confirmed ≡ b → In c (of_tokens (with_pending token held remember table)) ⊎ IsPendingOf token c
  stays_or table c s true k =
      let r = stays table s.entry s.among in
      inl (stood (with_pending token held remember table) c (record { entry = r.new; among = r.among; token = s.token ∙ sym r.id; here = ap (λ b. slot b r.new) k ∙ r.confirmed ∙ sym (ap (λ b. slot b s.entry) k) ∙ s.here }))
  stays_or table c s false k =
      let r = stays table s.entry s.among in
      ⊎_elim
      (λ (e : s.entry.id ≡ token). inr (s.token ∙ e, k))
      (λ (e : r.new.pending ≡ s.entry.pending).
      inl (stood (with_pending token held remember table) c (record { entry = r.new; among = r.among; token = s.token ∙ sym r.id; here = ap (λ b. slot b r.new) k ∙ e ∙ sym (ap (λ b. slot b s.entry) k) ∙ s.here })))
      r.pending

  pub table_added : (now : Standing) (table : List TokenEntry) → IsTable (with_pending token held remember (alive now table))
      → HasAdded now token held (of_tokens table) (of_tokens (with_pending token held remember (alive now table)))
  table_added now table is_table = record {
    only = λ c m. ⊎_elim (λ (e : c ≡ pending_of token held). inl e) (λ (i : In c (of_tokens (alive now table))). inr (of_alive now table c i)) (only_one (alive now table) c m);
    here = has_pending (alive now table);
    replaced = no_other (alive now table) is_table;
    live = λ c m live. stays_or (alive now table) c (stands (alive now table) c (is_alive now table c m live)) c.is_confirmed refl;
  }

-- ---- a number taken

some_mapped : (f : SecurityContext → SecurityContext) (o : Option SecurityContext) (c : SecurityContext) → option_map f o ≡ Some c → (d : SecurityContext) × (o ≡ Some d) × (c ≡ f d)
some_mapped f None c e = absurd (cc)
some_mapped f (Some d) c e = (d, refl, cc)

mapped : (f : SecurityContext → SecurityContext) (o : Option SecurityContext) (d : SecurityContext) → o ≡ Some d → option_map f o ≡ Some (f d)
mapped f o d e = ap (λ (x : Option SecurityContext). option_map f x) e

module _ (id : List ℕ) (number : ℕ) where
  abbrev tested : Option SecurityContext → Bool
  tested o = option_map_or (has_id id) o false

  test_of : (o : Option SecurityContext) (c : SecurityContext) (b : Bool) → tested o ≡ b → o ≡ Some c → has_id id c ≡ b
  test_of o c b e is = sym (ap (λ (x : Option SecurityContext). option_map_or (has_id id) x false) is) ∙ e

  some_tested : (o : Option SecurityContext) → tested o ≡ true → (d : SecurityContext) × (o ≡ Some d) × (has_id id d ≡ true)
  some_tested None e = absurd (cc)
  some_tested (Some d) e = (d, refl, e)

  abbrev branch : Bool → Bool → TokenEntry → TokenEntry
  branch a b h = cond a (record h { confirmed = option_map (taking number) h.pending; pending = None; last = None }) (cond b (record h { confirmed = option_map (taking number) h.confirmed; last = None }) h)

  branch_id : (a b : Bool) (h : TokenEntry) → (branch a b h).id ≡ h.id
  branch_id true b h = refl
  branch_id false true h = refl
  branch_id false false h = refl

  -- where an entry's context came from
  data From (h : TokenEntry) (k : Bool) (d : SecurityContext) : Type 0 where
    Took : (j : Bool) (e : SecurityContext) → slot j h ≡ Some e → has_id id e ≡ true → k ≡ true → d ≡ taking number e → From h k d
    Same : slot k h ≡ Some d → has_id id d ≡ false → From h k d

  from : (h : TokenEntry) (a : Bool) → tested h.pending ≡ a → (b : Bool) → tested h.confirmed ≡ b → (k : Bool) (d : SecurityContext) → slot k (branch a b h) ≡ Some d → From h k d
  from h true p b q true d e = let x = some_mapped (taking number) h.pending d e in Took false x.0 x.1 (test_of h.pending x.0 true p x.1) refl x.2
  from h true p b q false d e = absurd (cc)
  from h false p true q true d e = let x = some_mapped (taking number) h.confirmed d e in Took true x.0 x.1 (test_of h.confirmed x.0 true q x.1) refl x.2
  from h false p true q false d e = Same e (test_of h.pending d false p e)
  from h false p false q true d e = Same e (test_of h.confirmed d false q e)
  from h false p false q false d e = Same e (test_of h.pending d false p e)

  -- the one with the ID is confirmed
  confirms : (h : TokenEntry) (d : SecurityContext) (k : Bool) → slot k h ≡ Some d → has_id id d ≡ true → (tested h.pending ≡ true → k ≡ false)
      → (a : Bool) → tested h.pending ≡ a → (b : Bool) → tested h.confirmed ≡ b → (branch a b h).confirmed ≡ Some (taking number d)
  confirms h d true e its alone true p b q = let no = alone p in absurd (cc)
  confirms h d false e its alone true p b q = mapped (taking number) h.pending d e
  confirms h d true e its alone false p true q = mapped (taking number) h.confirmed d e
  confirms h d false e its alone false p true q = absurd (cc (its, test_of h.pending d false p e))
  confirms h d true e its alone false p false q = absurd (cc (its, test_of h.confirmed d false q e))
  confirms h d false e its alone false p false q = absurd (cc (its, test_of h.pending d false p e))

  -- the others stay, but for the confirmed one of the token id
  others_stay : (h : TokenEntry) (d : SecurityContext) (k : Bool) → slot k h ≡ Some d → (a : Bool) → tested h.pending ≡ a → (b : Bool) → tested h.confirmed ≡ b
      → (slot k (branch a b h) ≡ Some d) ⊎ ((has_id id d ≡ true) ⊎ ((tested h.pending ≡ true) × (k ≡ true)))
  others_stay h d true e true p b q = inr (inr (p, refl))
  others_stay h d false e true p b q = inr (inl (test_of h.pending d true p e))
  others_stay h d true e false p true q = inr (inl (test_of h.confirmed d true q e))
  others_stay h d false e false p true q = inl e
  others_stay h d true e false p false q = inl e
  others_stay h d false e false p false q = inl e

-- the window of a context takes a number
module _ (number : ℕ) (x : OfToken) (table : List TokenEntry) (is_table : IsTable table) (m : In x (of_tokens table)) where
  abbrev id : List ℕ
  id = x.held.name.client_id

  abbrev change : TokenEntry → TokenEntry
  change h = accepted_in id number h

  same_id : (h : TokenEntry) → (change h).id ≡ h.id
  same_id h = branch_id id number (tested id number h.pending) (tested id number h.confirmed) h

  -- the context with the ID is this one
  one : (c : OfToken) → In c (of_tokens table) → has_id id c.held ≡ true → c ≡ x
  one c i e = one_of_token table c x is_table i m (sym ((bytes_eq-Decides id c.held.name.client_id).0 e))

  its : has_id id x.held ≡ true
  its = (bytes_eq-Decides id id).1 refl

  place : Stands x table
  place = stands table x m

  -- what is in an entry of the table
  in_holding : (h : TokenEntry) (k : Bool) (d : SecurityContext) → In h table → slot k h ≡ Some d → In (record { token = h.id; is_confirmed = k; held = d }) (of_tokens table)
  in_holding h k d i e = stood table (record { token = h.id; is_confirmed = k; held = d }) (record { entry = h; among = i; token = refl; here = e })

  confirmed : (change place.entry).confirmed ≡ Some (taking number x.held)
  confirmed =
      let h = place.entry in
      confirms id number h x.held x.is_confirmed place.here its
      (λ p. let d = some_tested id number h.pending p in
      ap (λ (c : OfToken). c.is_confirmed) (sym (one (pending_of h.id d.0) (in_holding h false d.0 place.among d.1) d.2)))
      (tested id number h.pending) refl (tested id number h.confirmed) refl

  -- where a context is afterwards
  after : (c : OfToken) → In c (of_tokens (accepted id number table)) → (h : TokenEntry) × In h table × (c.token ≡ h.id) × (slot c.is_confirmed (change h) ≡ Some c.held)
  after c i =
      let s = stands (accepted id number table) c i in
      let r = in_mapped change table s.entry s.among in
      (r.0, r.1, s.token ∙ ap (λ (g : TokenEntry). g.id) r.2 ∙ same_id r.0, ap (λ (g : TokenEntry). slot c.is_confirmed g) (sym r.2) ∙ s.here)

  is_after : (c : OfToken) (h : TokenEntry) → In h table → c.token ≡ h.id → slot c.is_confirmed (change h) ≡ Some c.held → In c (of_tokens (accepted id number table))
  is_after c h i t e = stood (accepted id number table) c (record { entry = change h; among = mapped_in change table h i; token = t ∙ sym (same_id h); here = e })

  only : (c : OfToken) → In c (of_tokens (accepted id number table)) → (c ≡ confirmed_by number x) ⊎ (In c (of_tokens table) × (c.held.name ≢ x.held.name))
  only c i = let s = after c i in by s.0 s.1 s.2 (from id number s.0 (tested id number s.0.pending) refl (tested id number s.0.confirmed) refl c.is_confirmed c.held s.3)
    where
      by : (h : TokenEntry) → In h table → c.token ≡ h.id → From id number h c.is_confirmed c.held → (c ≡ confirmed_by number x) ⊎ (In c (of_tokens table) × (c.held.name ≢ x.held.name))
      by h i t (From.Took j e at has k is) =
          let same = one (record { token = h.id; is_confirmed = j; held = e }) (in_holding h j e i at) has in
          inl (alike c x.token true (taking number x.held) (t ∙ ap (λ (y : OfToken). y.token) same) k (is ∙ ap (λ (y : OfToken). taking number y.held) same))
      by h i t (From.Same at other) =
          inr (stood table c (record { entry = h; among = i; token = t; here = at }), λ same. cc (other, (bytes_eq-Decides id c.held.name.client_id).1 (ap (λ y. y.client_id) (sym same))))

  older_gone : (c : OfToken) → In c (of_tokens (accepted id number table)) → IsConfirmedOf x.token c → c ≡ confirmed_by number x
  older_gone c i is =
      let s = after c i in
      let same : s.0 ≡ place.entry = one_holding table s.0 place.entry is_table s.1 place.among (sym s.2 ∙ is.0 ∙ place.token) in
      let its_held : (change place.entry).confirmed ≡ Some c.held =
      ap (λ (h : TokenEntry). (change h).confirmed) (sym same) ∙ sym (ap (λ b. slot b (change s.0)) is.1) ∙ s.3 in
      alike c x.token true (taking number x.held) is.0 is.1 (one_of c.held (taking number x.held) (change place.entry).confirmed its_held confirmed)

  stays_or_gone : (c : OfToken) → In c (of_tokens table) → In c (of_tokens (accepted id number table)) ⊎ ((c ≡ x) ⊎ IsConfirmedOf x.token c)
  stays_or_gone c i =
      let s = stands table c i in
      let h = s.entry in
      ⊎_elim
      (λ (e : slot c.is_confirmed (change h) ≡ Some c.held). inl (is_after c h s.among s.token e))
      (λ (o : (has_id id c.held ≡ true) ⊎ ((tested id number h.pending ≡ true) × (c.is_confirmed ≡ true))). ⊎_elim
      (λ (e : has_id id c.held ≡ true). inr (inl (one c i e)))
      (λ (e : (tested id number h.pending ≡ true) × (c.is_confirmed ≡ true)).
      let d = some_tested id number h.pending e.0 in
      inr (inr (s.token ∙ ap (λ (y : OfToken). y.token) (one (pending_of h.id d.0) (in_holding h false d.0 s.among d.1) d.2), e.1)))
      o)
      (others_stay id number h c.held c.is_confirmed s.here (tested id number h.pending) refl (tested id number h.confirmed) refl)

  pub table_taken : (now : Standing) → HasTaken now number x (of_tokens table) (of_tokens (accepted id number table))
  table_taken now = record {
    only = only;
    here = is_after (confirmed_by number x) place.entry place.among place.token confirmed;
    older_gone = older_gone;
    live = λ c i live. stays_or_gone c i;
  }
