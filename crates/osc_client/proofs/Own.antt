-- What stays open of a client's messages once something was heard.
use Rattle.std.proofs.Common.{◌≡◌, sym, ap, ap₂, ℕ, Bool, true, false, not, cond, ◌&&◌, bytes_eq, nat_eq, List, [], ◌∷◌, filter, Option, Some, None, Ok, Err, refl, subst}
use Rattle.std.specs.List.{AllByRecursion}
use Rattle.std.proofs.lemmas.Bool.{eqb-true}
use Rattle.std.proofs.lemmas.Slice.Eq.{bytes_eq-Decides}
use Rattle.osc_model.specs.declared.node.Peer.{Peer}
use Rattle.osc_coap.specs.declared.kind.Kind.{Kind}
use Rattle.osc_coap.specs.declared.kind.Kind.TheVariants.{Confirmable, NonConfirmable, Acknowledgement, Reset}
use Rattle.osc_model.specs.{same_peer}
use Rattle.osc_message.specs.{Open, acknowledged, is_named, acknowledged_by}
use Rattle.osc_model.specs.declared.code.Code.{Code}
use Rattle.osc_coap.specs.Message.{Message}
use Rattle.osc_authz.specs.{ClientContextState, Finishes, made_name}
use Rattle.osc_authz.specs.Begun.{Begun}
use Rattle.osc_authz.specs.Client as finishing
use Rattle.osc_authz.specs.declared.error.FinishError.TheVariants.{Fields, EqualIds}
use Rattle.osc_authz.specs.declared.granted.ClientDesk.{ClientDesk}
use Rattle.osc_client.specs.{context_after, waits_after, counts, is_ended, is_reset}
use Rattle.osc_client.specs.Inner.Bounds.{HasContext, KeepsOwn}
use Rattle.osc_client.specs.declared.answering.AnswerEffect.{AnswerEffect}
use Rattle.osc_client.specs.declared.answering.AnswerEffect.TheVariants.{Stays, Makes, Answers, Ends}
use Rattle.osc_client.specs.declared.waiting.Waiting.{Waiting}

all_filtered : {X : Type 0} (P : X → Type 0) (test : X → Bool) (xs : List X) → AllByRecursion P xs → AllByRecursion P (filter test xs)
all_filtered P test [] all = tt
all_filtered {X} P test (x ∷ xs) all = by (test x) (all_filtered P test xs all.1)
  where
    by : (b : Bool) → AllByRecursion P (filter test xs) → AllByRecursion P (cond b (x ∷ filter test xs) (filter test xs))
    by true up = (all.0, up)
    by false up = up

pub own_filtered : (test : Open → Bool) (peer : Peer) (waiting : Option Waiting) (sending : List Open) → KeepsOwn peer waiting sending → KeepsOwn peer waiting (filter test sending)
own_filtered test peer None sending own = ap (filter test) own
own_filtered test peer (Some waiting) sending own = all_filtered (λ m. is_named peer waiting.id m ≡ true) test sending own

-- an acknowledgement leaves the client's own alone
pub own_acknowledged : (from : Peer) (kind : Kind) (id : ℕ) (peer : Peer) (waiting : Option Waiting) (sending : List Open)
    → KeepsOwn peer waiting sending → KeepsOwn peer waiting (acknowledged_by from kind id sending)
own_acknowledged from Confirmable id peer waiting sending own = own
own_acknowledged from NonConfirmable id peer waiting sending own = own
own_acknowledged from Acknowledgement id peer waiting sending own = own_filtered (λ m. not (is_named from id m)) peer waiting sending own
own_acknowledged from Reset id peer waiting sending own = own_filtered (λ m. not (is_named from id m)) peer waiting sending own

-- what all are named goes
pub gone : (peer : Peer) (id : ℕ) (sending : List Open) → AllByRecursion (λ m. is_named peer id m ≡ true) sending → acknowledged peer id sending ≡ []
gone peer id [] named = refl
gone peer id (m ∷ sending) named =
    let at : is_named peer id m ≡ true = named.0 in
    rw at (gone peer id sending named.1)

-- where nothing is open, whatever waits
pub own_none : (peer : Peer) (waiting : Option Waiting) (sending : List Open) → sending ≡ [] → KeepsOwn peer waiting sending
own_none peer None sending none = none
own_none peer (Some waiting) sending none = subst (λ all. AllByRecursion (λ m. is_named peer waiting.id m ≡ true) all) (sym none) tt

pub and_left : (a b : Bool) → (a && b) ≡ true → a ≡ true
and_left true b both = refl
and_left false b both = both

pub and_right : (a b : Bool) → (a && b) ≡ true → b ≡ true
and_right true b both = both
and_right false b both = let wrong : false ≡ true = both in absurd (cc)

pub one_peer : (a b : Peer) → same_peer a b ≡ true → a ≡ b
one_peer a b same =
    let numbers = nat_eq a.scope b.scope && nat_eq a.port b.port in
    let both : numbers ≡ true = and_right (bytes_eq a.address b.address) numbers same in
    let address : a.address ≡ b.address = (bytes_eq-Decides a.address b.address).0 (and_left (bytes_eq a.address b.address) numbers same) in
    let scope : a.scope ≡ b.scope = eqb-true a.scope b.scope (and_left (nat_eq a.scope b.scope) (nat_eq a.port b.port) both) in
    let port : a.port ≡ b.port = eqb-true a.port b.port (and_right (nat_eq a.scope b.scope) (nat_eq a.port b.port) both) in
    subst (λ (x : List ℕ). a ≡ record { address = x; scope = b.scope; port = b.port }) address
    (ap₂ (λ (s p : ℕ). record { address = a.address; scope = s; port = p }) scope port)

-- what a Reset ends isn't open any more
pub ended_gone : (next_hop from : Peer) (kind : Kind) (id : ℕ) (waiting : Option Waiting) (sending : List Open)
    → is_ended next_hop from kind id waiting ≡ true → KeepsOwn next_hop waiting sending → acknowledged from id sending ≡ []
ended_gone next_hop from kind id None sending ends own =
    let wrong : false ≡ true = and_right (is_reset kind) false ends in
    absurd (cc)
ended_gone next_hop from kind id (Some waiting) sending ends own =
    let named : (same_peer next_hop from && nat_eq waiting.id id) ≡ true = and_right (is_reset kind) (same_peer next_hop from && nat_eq waiting.id id) ends in
    let peer : next_hop ≡ from = one_peer next_hop from (and_left (same_peer next_hop from) (nat_eq waiting.id id) named) in
    let same : waiting.id ≡ id = eqb-true waiting.id id (and_right (same_peer next_hop from) (nat_eq waiting.id id) named) in
    subst (λ (p : Peer). acknowledged p id sending ≡ []) peer (subst (λ n. acknowledged next_hop n sending ≡ []) same (gone next_hop waiting.id sending own))

-- nor is what a response answers
pub counted_gone : (next_hop from : Peer) (message : Message) (waiting : Waiting) (sending : List Open)
    → counts next_hop from message (Some waiting) ≡ true → KeepsOwn next_hop (Some waiting) sending
    → acknowledged from waiting.id (acknowledged_by from message.kind message.id sending) ≡ []
counted_gone next_hop from message waiting sending counted own =
    let by_peer = same_peer next_hop from in
    let by_token = bytes_eq waiting.token message.token in
    let both : (by_peer && by_token) ≡ true = and_left (by_peer && by_token) _ counted in
    let peer : next_hop ≡ from = one_peer next_hop from (and_left by_peer by_token both) in
    let left = own_acknowledged from message.kind message.id next_hop (Some waiting) sending own in
    subst (λ (p : Peer). acknowledged p waiting.id (acknowledged_by from message.kind message.id sending) ≡ []) peer
    (gone next_hop waiting.id (acknowledged_by from message.kind message.id sending) left)

-- what waits then has its context
pub has_after : (outcome : AnswerEffect) (context : Option ClientContextState) (waiting : Waiting) → HasContext context (Some waiting)
    → HasContext (context_after outcome context) (waits_after outcome waiting)
has_after (Stays opened) context waiting has = has
has_after (Makes made) context waiting has = tt
has_after (Answers note reply) context waiting has = tt
has_after (Ends ending) context waiting has = tt

pub same_grant : (desk : ClientDesk) (begun : Begun) (came : Code) (payload : List ℕ) (made : ClientContextState) → Finishes desk begun came payload (Ok made)
    → made.name.id_context ≡ desk.id_context
same_grant desk begun came payload made (finishing.another_code other is) = let wrong : Ok made ≡ Err Fields = is in absurd (cc)
same_grant desk begun came payload made (finishing.no_answer right none is) = let wrong : Ok made ≡ Err Fields = is in absurd (cc)
same_grant desk begun came payload made (finishing.equal_ids nonce2 right answer is) = let wrong : Ok made ≡ Err EqualIds = is in absurd (cc)
same_grant desk begun came payload made (finishing.made nonce2 server_id right answer apart is) =
    let same : made ≡ record { name = made_name desk begun nonce2 server_id; next = 0 } = cc in
    ap (λ (m : ClientContextState). m.name.id_context) same
