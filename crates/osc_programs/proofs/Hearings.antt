-- A peer that was heard is found at the socket where that was.
use Rattle.std.proofs.Common.{◌≡◌, ◌∙◌, ◌&&◌, ℕ, Bool, true, false, cond, List, [], ◌∷◌, length, nat_lt, nat_eq, bytes_eq, is_some, Option, Some, None, if◌then◌else◌, position, refl, sym, ap, ap₂}
use Rattle.std.specs.Map.{keys_of, lookup}
use Rattle.std.specs.Option.{option_or}
use Rattle.std.proofs.lemmas.Bool.Decides.{Decides-eqb}
use Rattle.std.proofs.lemmas.Slice.Eq.{bytes_eq-Decides}
use Rattle.indexmap.specs.Layout.{set_value_at}
use Rattle.indexmap.specs.IndexMap.{insert_entry}
use Rattle.indexmap.proofs.MapLemmas.{Found-position, insert_entry-first}
use Rattle.osc_model.specs.Peer.{same_peer}
use Rattle.osc_model.specs.declared.node.Peer.{Peer}
use Rattle.osc_programs.specs.Heard.{Heard, among_recent, half, heard_at, with_heard, with_new}

-- another number at a peer's index is another number at the peer
pub renumbered : (peer : Peer) (number : ℕ) (es : List (Peer × ℕ)) (i : ℕ) → position (same_peer peer) (keys_of es) ≡ Some i
    → set_value_at es i number ≡ insert_entry same_peer es peer number
renumbered peer number es i at = sym (insert_entry-first same_peer peer number es i (Found-position (same_peer peer) es i at).first)

-- a peer of the recent is heard again
pub heard_again : (peer : Peer) (number : ℕ) (recent earlier es : List (Peer × ℕ)) → is_some (lookup (same_peer peer) recent) ≡ true → es ≡ insert_entry same_peer recent peer number
    → record { recent = es; earlier = earlier } ≡ with_heard peer number (record { recent = recent; earlier = earlier })
heard_again peer number recent earlier es there is =
    let old : Heard = record { recent = recent; earlier = earlier } in
    ap (λ (es : List (Peer × ℕ)). let h : Heard = record { recent = es; earlier = earlier } in h) is
    ∙ ap (λ (b : Bool). if b then among_recent peer number old else with_new peer number old) (sym there)

-- one that isn't of them is heard
pub heard_first : (peer : Peer) (number : ℕ) (old : Heard) → is_some (lookup (same_peer peer) old.recent) ≡ false → with_new peer number old ≡ with_heard peer number old
heard_first peer number old none = ap (λ (b : Bool). if b then among_recent peer number old else with_new peer number old) (sym none)

-- a peer is itself
pub one_peer : (peer : Peer) → same_peer peer peer ≡ true
one_peer peer =
    ap₂ (λ (a b : Bool). a && b) ((bytes_eq-Decides peer.address peer.address).1 refl)
    (ap₂ (λ (a b : Bool). a && b) ((Decides-eqb peer.scope peer.scope).1 refl) ((Decides-eqb peer.port peer.port).1 refl))

module _ (peer : Peer) (number : ℕ) (same : same_peer peer peer ≡ true) where
  found : (es : List (Peer × ℕ)) → lookup (same_peer peer) (insert_entry same_peer es peer number) ≡ Some number
  found [] = ap (λ (b : Bool). cond b (Some number) None) same
  found (e ∷ es) = by (same_peer peer e.0) refl (found es)
    where
      by : (b : Bool) → same_peer peer e.0 ≡ b → lookup (same_peer peer) (insert_entry same_peer es peer number) ≡ Some number
          → lookup (same_peer peer) (insert_entry same_peer (e ∷ es) peer number) ≡ Some number
      by true is rest = ap (λ (b : Bool). lookup (same_peer peer) (if b then (e.0, number) ∷ es else e ∷ insert_entry same_peer es peer number)) is
          ∙ ap (λ (b : Bool). cond b (Some number) (lookup (same_peer peer) es)) is
      by false is rest = ap (λ (b : Bool). lookup (same_peer peer) (if b then (e.0, number) ∷ es else e ∷ insert_entry same_peer es peer number)) is
          ∙ ap (λ (b : Bool). cond b (Some e.1) (lookup (same_peer peer) (insert_entry same_peer es peer number))) is
          ∙ rest

  found_among : (old : Heard) → heard_at (among_recent peer number old) peer ≡ Some number
  found_among old = ap (λ (way : Option ℕ). option_or way (lookup (same_peer peer) old.earlier)) (found old.recent)

  found_new : (old : Heard) → heard_at (with_new peer number old) peer ≡ Some number
  found_new old = by (nat_lt (length old.recent) half) refl
    where
      fresh : Heard
      fresh = record { recent = (peer, number) ∷ []; earlier = old.recent }

      by : (b : Bool) → nat_lt (length old.recent) half ≡ b → heard_at (with_new peer number old) peer ≡ Some number
      by true is = ap (λ (b : Bool). heard_at (if b then among_recent peer number old else fresh) peer) is ∙ found_among old
      by false is = ap (λ (b : Bool). heard_at (if b then among_recent peer number old else fresh) peer) is
          ∙ ap (λ (b : Bool). option_or (cond b (Some number) None) (lookup (same_peer peer) old.recent)) same

  -- where it was heard is known
  pub is_found : (old : Heard) → heard_at (with_heard peer number old) peer ≡ Some number
  is_found old = by (is_some (lookup (same_peer peer) old.recent)) refl
    where
      by : (b : Bool) → is_some (lookup (same_peer peer) old.recent) ≡ b → heard_at (with_heard peer number old) peer ≡ Some number
      by true is = ap (λ (b : Bool). heard_at (if b then among_recent peer number old else with_new peer number old) peer) is ∙ found_among old
      by false is = ap (λ (b : Bool). heard_at (if b then among_recent peer number old else with_new peer number old) peer) is ∙ found_new old
