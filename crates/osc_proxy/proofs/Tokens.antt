-- A response answers the exchange whose key its token begins with.
use Rattle.std.proofs.Common.{◌≡◌, ℕ, true, false, List, [], ◌∷◌, ◌&&◌, bytes_eq, get_or, drop, length, ◌<◌, ◌≤◌, arith, refl, ap, sym, ◌∙◌, Option, Some, None}
use Rattle.std.proofs.lemmas.Bool.{and_parts}
use Rattle.std.proofs.lemmas.Slice.Eq.{bytes_eq-Decides}
use Rattle.osc_coap.specs.Message.{Message}
use Rattle.osc_model.specs.declared.node.Peer.{Peer}
use Rattle.osc_model.specs.{same_peer}
use Rattle.osc_proxy.specs.{HasOwnTokens, answers, first_key, get, is_in_place}
use Rattle.osc_proxy.specs.Exchanges.{Table}
use Rattle.osc_proxy.specs.declared.exchanges.Exchange.{Exchange}
use Rattle.osc_proxy.proofs.Keys.{first_is_there, none_passes}

token_is : (from : Peer) (message : Message) (exchange : Exchange) → answers from message exchange ≡ true → exchange.token ≡ message.token
token_is from message exchange passes =
    let both = and_parts (same_peer exchange.target from) (bytes_eq exchange.token message.token && is_in_place message exchange) passes in
    let own = and_parts (bytes_eq exchange.token message.token) (is_in_place message exchange) both.1 in
    (bytes_eq-Decides exchange.token message.token).0 own.0

pub found_by_own : (table : Table) (from : Peer) (message : Message) (key : ℕ) (exchange : Exchange) → HasOwnTokens table
    → get table key ≡ Some exchange → answers from message exchange ≡ true → first_key (answers from message) table ≡ Some key
found_by_own table from message key exchange own is passes = by (first_key (answers from message) table) refl
  where
    by : (found : Option ℕ) → first_key (answers from message) table ≡ found → first_key (answers from message) table ≡ Some key
    by None e =
        let wrong : true ≡ false = sym passes ∙ none_passes (answers from message) table e key exchange is in
        absurd (cc)
    by (Some other) e =
        let there = first_is_there (answers from message) table other e in
        let mine = own key exchange is in
        let its = own other there.exchange there.is in
        let tokens : other ∷ its.0 ≡ key ∷ mine.0 =
        sym its.1 ∙ token_is from message there.exchange there.passes ∙ sym (token_is from message exchange passes) ∙ mine.1 in
        let same : other ≡ key = cc in
        e ∙ ap Some same

-- where no exchange of the key with which the token begins is answered, no exchange is
pub none_elsewhere : (table : Table) (from : Peer) (message : Message) (key : ℕ) (rest : List ℕ) → HasOwnTokens table → message.token ≡ key ∷ rest
    → ((exchange : Exchange) → get table key ≡ Some exchange → answers from message exchange ≡ false) → first_key (answers from message) table ≡ None
none_elsewhere table from message key rest own token none = by (first_key (answers from message) table) refl
  where
    by : (found : Option ℕ) → first_key (answers from message) table ≡ found → first_key (answers from message) table ≡ None
    by None e = e
    by (Some other) e =
        let there = first_is_there (answers from message) table other e in
        let its = own other there.exchange there.is in
        let tokens : other ∷ its.0 ≡ key ∷ rest = sym its.1 ∙ token_is from message there.exchange there.passes ∙ token in
        let same : key ≡ other = cc in
        let wrong : true ≡ false = sym there.passes ∙ none there.exchange (ap (get table) same ∙ there.is) in
        absurd (cc)

-- no exchange is answered by a response without a token
pub none_without : (table : Table) (from : Peer) (message : Message) → HasOwnTokens table → message.token ≡ [] → first_key (answers from message) table ≡ None
none_without table from message own token = by (first_key (answers from message) table) refl
  where
    by : (found : Option ℕ) → first_key (answers from message) table ≡ found → first_key (answers from message) table ≡ None
    by None e = e
    by (Some other) e =
        let there = first_is_there (answers from message) table other e in
        let its = own other there.exchange there.is in
        let tokens : other ∷ its.0 ≡ [] = sym its.1 ∙ token_is from message there.exchange there.passes ∙ token in
        absurd (cc)

-- ---- the token, read from its front

pub none_of : (bytes : List ℕ) → length bytes < 1 → bytes ≡ []
none_of [] few = refl
none_of (byte ∷ bytes) few = absurd (omega (arith, few))

pub first_of : (bytes : List ℕ) (d : ℕ) → 1 ≤ length bytes → bytes ≡ get_or bytes 0 d ∷ drop 1 bytes
first_of [] d some = absurd (omega (arith, some))
first_of (byte ∷ bytes) d some = refl
