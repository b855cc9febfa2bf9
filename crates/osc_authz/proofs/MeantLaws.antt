-- The context that a request means, and those with one recipient ID.
use Rattle.std.proofs.Common.{◌≡◌, ℕ, ◌/◌, ◌≤◌, ◌<◌, Bool, true, false, cond, if◌then◌else◌, not, ◌&&◌, ◌||◌, nat_le, nat_lt, List, [], ◌∷◌, ◌++◌, find, Option, Some, None, option_map, refl, sym, ap, ◌∙◌, inl, inr, subst, leb-true, ltb-true}
use Rattle.std.specs.Option.{option_map_or, ForSome}
use Rattle.std.proofs.lemmas.Bool.{and_parts}
use Rattle.std.proofs.lemmas.Option.{same_Some}
use Rattle.std.proofs.lemmas.Slice.Eq.{bytes_eq-Decides}
use Rattle.osc_model.specs.{stands}
use Rattle.osc_authz.specs.Standing.{Standing}
use Rattle.osc_authz.specs.{OfToken, of_token, of_tokens, IsLive, In, contexts, has_id, holder_at, holds_id, is_live, is_named, if_meant, listed, meant}
use Rattle.osc_authz.specs.SecurityContext.{SecurityContext}
use Rattle.osc_authz.specs.declared.token_entry.TokenEntry.{TokenEntry}

-- ---- what a request means

found : (p : SecurityContext → Bool) (cs : List SecurityContext) (c : SecurityContext) → find p cs ≡ Some c → In c cs × (p c ≡ true)
found p [] c e = absurd (cc)
found p (x ∷ cs) c e = by (p x) refl e (found p cs c)
  where
    by : (b : Bool) → p x ≡ b → cond b (Some x) (find p cs) ≡ Some c → (find p cs ≡ Some c → In c cs × (p c ≡ true)) → In c (x ∷ cs) × (p c ≡ true)
    by true t e rest = let same : x ≡ c = cc in (inl (sym same), ap p (sym same) ∙ t)
    by false t e rest = let r = rest e in (inr r.0, r.1)

live_tested : (begins ends : Option ℕ) (t : ℕ) → option_map_or (λ s. nat_le s t) begins true ≡ true → option_map_or (λ s. nat_lt t s) ends true ≡ true → ForSome begins (λ s. s ≤ t) × ForSome ends (λ s. t < s)
live_tested begins ends t b e = (one begins b, two ends e)
  where
    one : (o : Option ℕ) → option_map_or (λ s. nat_le s t) o true ≡ true → ForSome o (λ s. s ≤ t)
    one None h s is = absurd (cc)
    one (Some n) h s is = let same : n ≡ s = cc in subst (λ (x : ℕ). x ≤ t) same (leb-true n t h)

    two : (o : Option ℕ) → option_map_or (λ s. nat_lt t s) o true ≡ true → ForSome o (λ s. t < s)
    two None h s is = absurd (cc)
    two (Some n) h s is = let same : n ≡ s = cc in subst (λ (x : ℕ). t < x) same (ltb-true t n h)

unless : (b : Bool) → not b ≡ true → b ≡ false
unless true e = cc
unless false e = refl

-- the context is held, lives and has the ID
held_is : (now : Standing) (kid : List ℕ) (kid_context : Option (List ℕ)) (table : List TokenEntry) (c : SecurityContext) → meant now kid kid_context table ≡ Some c
    → In c (contexts table) × IsLive now c × (c.name.client_id ≡ kid)
held_is now kid kid_context table c e = by (find (has_id kid) (contexts table)) refl e
  where
    passed : (d : SecurityContext) (b : Bool) → (is_live now d && is_named kid_context d) ≡ b → (if b then Some d else None) ≡ Some c → (d ≡ c) × (is_live now d ≡ true)
    passed d true t e = (cc, (and_parts (is_live now d) (is_named kid_context d) t).0)
    passed d false t e = absurd (cc)

    by : (o : Option SecurityContext) → find (has_id kid) (contexts table) ≡ o → if_meant now kid_context o ≡ Some c → In c (contexts table) × IsLive now c × (c.name.client_id ≡ kid)
    by None is e = absurd (cc)
    by (Some d) is e =
        let p = passed d (is_live now d && is_named kid_context d) refl e in
        let f = found (has_id kid) (contexts table) c (is ∙ ap (λ (x : SecurityContext). Some x) p.0) in
        let seconds = now.at.ms / 1000 in
        let all = and_parts (option_map_or (λ s. nat_le s seconds) c.not_before true && option_map_or (λ s. nat_lt seconds s) c.expires true && not (stands now.tree c.revocation)) (option_map_or (λ s. nat_lt seconds s) c.ends true) (ap (is_live now) (sym p.0) ∙ p.1) in
        let rest = and_parts (option_map_or (λ s. nat_le s seconds) c.not_before true && option_map_or (λ s. nat_lt seconds s) c.expires true) (not (stands now.tree c.revocation)) all.0 in
        let parts = and_parts (option_map_or (λ s. nat_le s seconds) c.not_before true) (option_map_or (λ s. nat_lt seconds s) c.expires true) rest.0 in
        let live = live_tested c.not_before c.expires seconds parts.0 parts.1 in
        (f.0, record { begun = live.0; not_over = live.1; unrevoked = unless (stands now.tree c.revocation) rest.1; young = (live_tested None c.ends seconds refl all.1).1 }, sym ((bytes_eq-Decides kid c.name.client_id).0 f.1))

-- ---- whose token it is

module _ (kid : List ℕ) (held : SecurityContext) where
  -- it is one of these, of the token of this id
  abbrev IsFoundIn : List OfToken → Option (List ℕ) → Type 0
  IsFoundIn tokens holder = (c : OfToken) × In c tokens × (c.held ≡ held) × (holder ≡ Some c.token)

  -- the id of the first token, where it has the context, or else what is found in the rest
  abbrev first_of : TokenEntry → List TokenEntry → Bool → Option (List ℕ)
  first_of entry table has = option_map (λ (e : TokenEntry). e.id) (cond has (Some entry) (find (holds_id kid) table))

  in_pending : (entry : TokenEntry) (table : List TokenEntry) (context : Option SecurityContext)
      → (find (has_id kid) (contexts table) ≡ Some held → IsFoundIn (of_tokens table) (holder_at kid table))
      → find (has_id kid) (listed context ++ contexts table) ≡ Some held
      → IsFoundIn (of_token entry.id false context ++ of_tokens table) (first_of entry table (option_map_or (has_id kid) context false))
  in_pending entry table None later e = later e
  in_pending entry table (Some x) later e = by (has_id kid x) e
    where
      by : (b : Bool) → cond b (Some x) (find (has_id kid) (contexts table)) ≡ Some held
          → IsFoundIn (of_token entry.id false (Some x) ++ of_tokens table) (first_of entry table b)
      by true e = (record { token = entry.id; is_confirmed = false; held = x }, inl refl, same_Some x held e, refl)
      by false e = let r = later e in (r.0, inr r.1, r.2, r.3)

  in_entry : (entry : TokenEntry) (table : List TokenEntry) (confirmed pending : Option SecurityContext)
      → (find (has_id kid) (contexts table) ≡ Some held → IsFoundIn (of_tokens table) (holder_at kid table))
      → find (has_id kid) (listed confirmed ++ listed pending ++ contexts table) ≡ Some held
      → IsFoundIn (of_token entry.id true confirmed ++ of_token entry.id false pending ++ of_tokens table)
      (first_of entry table (option_map_or (has_id kid) confirmed false || option_map_or (has_id kid) pending false))
  in_entry entry table None pending later e = in_pending entry table pending later e
  in_entry entry table (Some x) pending later e = by (has_id kid x) e
    where
      by : (b : Bool) → cond b (Some x) (find (has_id kid) (listed pending ++ contexts table)) ≡ Some held
          → IsFoundIn (of_token entry.id true (Some x) ++ of_token entry.id false pending ++ of_tokens table)
          (first_of entry table (b || option_map_or (has_id kid) pending false))
      by true e = (record { token = entry.id; is_confirmed = true; held = x }, inl refl, same_Some x held e, refl)
      by false e = let r = in_pending entry table pending later e in (r.0, inr r.1, r.2, r.3)

  token_found : (table : List TokenEntry) → find (has_id kid) (contexts table) ≡ Some held → IsFoundIn (of_tokens table) (holder_at kid table)
  token_found [] e = absurd (cc)
  token_found (entry ∷ table) e = in_entry entry table entry.confirmed entry.pending (token_found table) e

-- a context that is meant is the first one of its ID
first_found : (now : Standing) (kid : List ℕ) (kid_context : Option (List ℕ)) (table : List TokenEntry) (held : SecurityContext) → meant now kid kid_context table ≡ Some held
    → find (has_id kid) (contexts table) ≡ Some held
first_found now kid kid_context table held e = by (find (has_id kid) (contexts table)) e
  where
    passed : (d : SecurityContext) (b : Bool) → (if b then Some d else None) ≡ Some held → Some d ≡ Some held
    passed d true t = t
    passed d false t = absurd (cc)

    by : (o : Option SecurityContext) → if_meant now kid_context o ≡ Some held → o ≡ Some held
    by None e = absurd (cc)
    by (Some d) e = passed d (is_live now d && is_named kid_context d) e

-- the same of the context of its token id, by which that is found
pub meant_is : (now : Standing) (kid : List ℕ) (kid_context : Option (List ℕ)) (table : List TokenEntry) (held : SecurityContext) → meant now kid kid_context table ≡ Some held
    → (c : OfToken) × In c (of_tokens table) × (c.held ≡ held) × IsLive now held × (held.name.client_id ≡ kid) × (holder_at kid table ≡ Some c.token)
meant_is now kid kid_context table held e =
    let h = held_is now kid kid_context table held e in
    let c = token_found kid held table (first_found now kid kid_context table held e) in
    (c.0, c.1, c.2, h.1, h.2, c.3)
