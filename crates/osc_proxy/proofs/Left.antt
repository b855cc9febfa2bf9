-- What is left of open messages and exchanges, once one has ended.
use Rattle.std.proofs.Common.{◌≡◌, inl, inr, ℕ, Bool, true, false, not, nat_eq, ◌||◌, nat_le, List, [], ◌∷◌, ◌++◌, refl, ap, ap₂, sym, ◌∙◌, append-nil, Option, Some, None}
use Rattle.std.specs.Prelude.{if◌then◌else◌}
use Rattle.std.proofs.lemmas.Bool.{and_left, and_from, cases_eq, eq-eqb, or_parts}
use Rattle.std.proofs.lemmas.List.Elements.{filter-append}
use Rattle.std.proofs.lemmas.Option.{same_Some}
use Rattle.osc_model.specs.declared.bytes.Bytes.{Bytes}
use Rattle.osc_model.specs.declared.node.Moment.{Moment}
use Rattle.osc_model.specs.declared.node.Peer.{Peer}
use Rattle.osc_model.specs.{same_peer}
use Rattle.osc_message.specs.{Open, acknowledged, goes_at_once, has_open, is_named, is_to, sent_at, with_open}
use Rattle.osc_message.specs.Pace.{Pace}
use Rattle.osc_proxy.specs.{Changes, HasOwnTokens, count, free_key, get}
use Rattle.osc_proxy.specs.Exchanges.{Table}
use Rattle.osc_proxy.specs.declared.exchanges.Exchange.{Exchange}
use Rattle.osc_proxy.proofs.Its.{peer_same}

-- ---- open messages

-- where no message is open to the peer, none is acknowledged
none_named : (peer : Peer) (id : ℕ) (all : List Open) → has_open peer all ≡ false → acknowledged peer id all ≡ all
none_named peer id [] none = refl
none_named peer id (message ∷ rest) none =
    let both = or_parts (is_to peer message) (has_open peer rest) none in
    let other : is_named peer id message ≡ false = and_left (is_to peer message) (nat_eq id message.id) both.0 in
    rw other (ap (λ all. message ∷ all) (none_named peer id rest both.1))

last_goes : (peer : Peer) (id : ℕ) (message : Open) → is_named peer id message ≡ true → acknowledged peer id (message ∷ []) ≡ []
last_goes peer id message named = rw named refl

-- one more to a peer to whom no message was open is acknowledged: those are left that were open before
pub acknowledged_again : (pace : Pace) (now : Moment) (peer : Peer) (id timeout : ℕ) (bytes : Bytes) (all : List Open) → has_open peer all ≡ false
    → acknowledged peer id (with_open pace now peer id timeout bytes all) ≡ all
acknowledged_again pace now peer id timeout bytes all none =
    let message : Open = record { to = peer; id = id; timeout = timeout; bytes = bytes; sent = sent_at now (goes_at_once pace peer all) } in
    let named : is_named peer id message ≡ true = and_from (same_peer peer peer) (nat_eq id id) (peer_same peer peer refl) (eq-eqb id id refl) in
    filter-append (λ m. not (is_named peer id m)) all (message ∷ [])
    ∙ ap₂ (λ (a b : List Open). a ++ b) (none_named peer id all none) (last_goes peer id message named)
    ∙ append-nil all

pub acknowledged_twice : (pace : Pace) (now : Moment) (peer : Peer) (id timeout : ℕ) (bytes : Bytes) (all : List Open) → has_open peer all ≡ false
    → acknowledged peer id (acknowledged peer id (with_open pace now peer id timeout bytes all)) ≡ all
acknowledged_twice pace now peer id timeout bytes all none =
    ap (acknowledged peer id) (acknowledged_again pace now peer id timeout bytes all none) ∙ none_named peer id all none

-- ---- exchanges

-- each keeps its own token where one more has its own
pub tokens_stay : (old new : Table) (key : ℕ) (exchange : Exchange) (rest : List ℕ) → HasOwnTokens old → Changes old new key (Some exchange)
    → exchange.token ≡ key ∷ rest → HasOwnTokens new
tokens_stay old new key exchange rest own changes its other there is =
    elim (cases_eq other key) [
      | inl same ↦
          let it : there ≡ exchange = same_Some there exchange (sym is ∙ ap (get new) same ∙ changes.changed) in
          (rest, ap (λ (e : Exchange). e.token) it ∙ its ∙ ap (λ k. k ∷ rest) (sym same))
      | inr differs ↦ own other there (sym (changes.others other differs) ∙ is)
    ]

-- .. and where one is closed
pub tokens_left : (old new : Table) (key : ℕ) → HasOwnTokens old → Changes old new key None → HasOwnTokens new
tokens_left old new key own changes other there is =
    elim (cases_eq other key) [
      | inl same ↦
          let wrong : Some there ≡ None = sym is ∙ ap (get new) same ∙ changes.changed in
          absurd (cc)
      | inr differs ↦ own other there (sym (changes.others other differs) ∙ is)
    ]

-- ---- the free key

abbrev free_of : ℕ → ℕ → Option ℕ
free_of count next = if nat_le 64 count || nat_le 256 next then None else Some next

its_key : (full : Bool) (next key : ℕ) → (if full then None else Some next) ≡ Some key → next ≡ key
its_key true next key e = absurd (cc)
its_key false next key e = same_Some next key e

-- it is free again where as many are open, and it is the next
pub free_again : (old new : Table) (key : ℕ) → free_key old ≡ Some key → count new ≡ count old → new.next ≡ key → free_key new ≡ Some key
free_again old new key free same next =
    let was : old.next ≡ key = its_key (nat_le 64 (count old) || nat_le 256 old.next) old.next key free in
    ap₂ free_of same (next ∙ sym was) ∙ free
