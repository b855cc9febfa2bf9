-- What one line of a script says, and where it may be.
use Rattle.std.specs.Prelude.{◌≡◌, ◌≢◌, ℕ, ◌<◌, ◌≤◌, ◌⊎◌, ◌==◌, Bool, true, false, List, [], ◌∷◌, ◌++◌, length, Some, None, codes, count_by}
use Rattle.std.specs.List.{list_any}
use Rattle.std.specs.Str.{IsUtf8, bytes_eq}
use Rattle.osc_model.specs.{code, method_number, segments_of, IsPath, longest_payload, most_resources}
use Rattle.osc_model.specs.declared.code.Method.{Method}
use Rattle.osc_model.specs.declared.request.Request.{Request}
use Rattle.osc_cbor.specs.{spelling}
use Rattle.osc_scope.specs.{name_of as method_name}
use Rattle.osc_token.specs.{most_claims, claims_item}
use Rattle.osc_script.specs.Grants.{claims_of}
use Rattle.osc_script.specs.Node.{client_name, proxy_name, name_of}
use Rattle.osc_script.specs.Values.{SpellsNumber, SpellsScope}
use Rattle.osc_script.specs.Words.{words_of, SpellsFormat, SpellsBytes, SpellsKept, SpellsPairs, SpellsDate, SpellsAlgorithm, SpellChanges}
use Rattle.osc_script.specs.declared.line.Line.{Line}
use Rattle.osc_script.specs.declared.line.Line.TheVariants.{Skipped, Put, Open, Revoked, Grant, Proxy, Via, At, Draw, Drop, Skip, Exchange, Ask, Tick, Restart, Deliver, Alter, Graft, Inject, Lie, Quiet}
use Rattle.osc_script.specs.declared.client_name.ClientName.{ClientName}
use Rattle.osc_script.specs.declared.node.NodeName.{NodeName}
use Rattle.osc_script.specs.declared.node.NodeName.TheVariants as node
use Rattle.osc_script.specs.declared.proxy_name.ProxyName.{ProxyName}

-- no words, or a comment
abbrev pub IsSkipped : List ℕ → Type 0
IsSkipped text = (text ≡ []) ⊎ ((rest : List ℕ) × (text ≡ 35 ∷ rest))

-- a request of a method on a path, with a payload and no other option
abbrev pub plain_request : Method → List ℕ → List ℕ → Request
plain_request method path payload =
    record { code = code 0 (method_number method); path = Some path; format = None; accept = None; if_match = []; if_none_match = false; payload = payload }

-- the greatest number that a request has: 2^40 - 1
abbrev pub last_number : ℕ
last_number = 1099511627775

-- the most segments of a revocation path: those of a token's id, of at most 64 bytes, are four more, and a path has at most eight
abbrev pub most_revocation_segments : ℕ
most_revocation_segments = 4

-- METHOD PATH BYTES: the words of a request, of whose payload as much is kept as a datagram could have
abbrev pub SpellRequest : List (List ℕ) → Request → Type 0
SpellRequest words request = (method : Method) × (path bytes payload : List ℕ) × (words ≡ method_name method ∷ path ∷ bytes ∷ [])
    × IsPath path × SpellsKept bytes payload × (request ≡ plain_request method path payload)

-- what the words of a line say
abbrev pub Say : List (List ℕ) → Line → Type 0
Say words Skipped = ⊥
-- put PATH FORMAT BYTES: the path has this value at first
Say words (Put path resource) = (format bytes : List ℕ) × (words ≡ codes "put" ∷ path ∷ format ∷ bytes ∷ []) × IsPath path
    × SpellsFormat format resource.format × SpellsBytes bytes resource.payload × (length resource.payload ≤ longest_payload)
-- open PATH: a GET on the path needs no protection
Say words (Open path) = (words ≡ codes "open" ∷ path ∷ []) × IsPath path
-- revoked PATH: a resource that is below the path revokes a token
Say words (Revoked path) = (words ≡ codes "revoked" ∷ path ∷ []) × IsPath path × (length (segments_of path) ≤ most_revocation_segments)
-- grant CLIENT SCOPE [nbf=N] [exp=N] [alg=30]: it has a token with this scope, these dates and this algorithm, whose claims can be sealed
Say words (Grant client scope not_before expires alg) = (text : List ℕ) × (begins ends last : List (List ℕ)) × (words ≡ codes "grant" ∷ client_name client ∷ text ∷ (begins ++ ends ++ last))
    × SpellsScope text scope × SpellsDate (codes "nbf=") begins not_before × SpellsDate (codes "exp=") ends expires × SpellsAlgorithm last alg
    × (length (spelling (claims_item (claims_of 1 scope not_before expires alg))) ≤ most_claims)
-- proxy PROXY: there is this proxy
Say words (Proxy proxy) = words ≡ codes "proxy" ∷ proxy_name proxy ∷ []
-- via CLIENT PROXY: it sends what is for the server to this proxy, which there is
Say words (Via client proxy) = words ≡ codes "via" ∷ client_name client ∷ proxy_name proxy ∷ []
-- at MS: the moment from here on
Say words (At moment) = (number : List ℕ) × (words ≡ codes "at" ∷ number ∷ []) × SpellsNumber number moment.ms
-- draw HEX16: the first random bytes of the next event
Say words (Draw nonce) = (digits : List ℕ) × (words ≡ codes "draw" ∷ digits ∷ []) × (length digits ≡ 16) × SpellsPairs digits nonce
-- drop K: a datagram that quiet rounds leave out
Say words (Drop datagram) = (number : List ℕ) × (words ≡ codes "drop" ∷ number ∷ []) × SpellsNumber number datagram
-- skip CLIENT N: the number of the client's next request
Say words (Skip client number) = (spelled : List ℕ) × (words ≡ codes "skip" ∷ client_name client ∷ spelled ∷ []) × SpellsNumber spelled number × (number ≤ last_number)
-- exchange CLIENT: it posts its token
Say words (Exchange client) = words ≡ codes "exchange" ∷ client_name client ∷ []
-- ask CLIENT METHOD PATH BYTES: it sends a request
Say words (Ask client request) = (rest : List (List ℕ)) × (words ≡ codes "ask" ∷ client_name client ∷ rest) × SpellRequest rest request
-- tick NODE: it does what is due
Say words (Tick worker) = (words ≡ codes "tick" ∷ name_of worker ∷ []) × (worker ≢ node.Stranger)
-- restart NODE: it starts again
Say words (Restart worker) = (words ≡ codes "restart" ∷ name_of worker ∷ []) × (worker ≢ node.Stranger)
-- deliver K: the datagram reaches its addressee
Say words (Deliver datagram) = (number : List ℕ) × (words ≡ codes "deliver" ∷ number ∷ []) × SpellsNumber number datagram
-- alter K (OFFSET HEX)+: a copy of it with these bytes changed does
Say words (Alter datagram changes) = (number : List ℕ) × (rest : List (List ℕ)) × (words ≡ codes "alter" ∷ number ∷ rest)
    × SpellsNumber number datagram × SpellChanges rest changes × (changes ≢ [])
-- graft J K: the header and the token of J with the options and the payload of K do
Say words (Graft header body) = (first second : List ℕ) × (words ≡ codes "graft" ∷ first ∷ second ∷ []) × SpellsNumber first header × SpellsNumber second body
-- inject FROM TO BYTES: a datagram of these bytes, as far as they are kept, from a node to a node
Say words (Inject from to bytes) = (spelled : List ℕ) × (words ≡ codes "inject" ∷ name_of from ∷ name_of to ∷ spelled ∷ []) × SpellsKept spelled bytes
-- lie CLIENT NUMBER METHOD PATH BYTES: a request under a number of the script's choice
Say words (Lie client number request) = (spelled : List ℕ) × (rest : List (List ℕ)) × (words ≡ codes "lie" ∷ client_name client ∷ spelled ∷ rest)
    × SpellsNumber spelled number × (number ≤ last_number) × SpellRequest rest request
-- quiet: whatever still waits is delivered
Say words Quiet = words ≡ codes "quiet" ∷ []

-- a line of UTF-8: it is skipped, or its words say this
abbrev pub Says : List ℕ → Line → Type 0
Says text line = IsUtf8 text × ((IsSkipped text × (line ≡ Skipped)) ⊎ (¬ IsSkipped text × Say (words_of text) line))

-- ---- where a line may be, after those above it, the first of them first

-- all lines but those that set up or prepare
abbrev pub is_event : Line → Bool
is_event Skipped = false
is_event (Put path resource) = false
is_event (Open path) = false
is_event (Revoked path) = false
is_event (Grant client scope not_before expires alg) = false
is_event (Proxy proxy) = false
is_event (Via client proxy) = false
is_event (At moment) = false
is_event (Draw nonce) = false
is_event (Drop datagram) = false
is_event (Skip client number) = false
is_event line = true

abbrev pub puts : List ℕ → Line → Bool
puts path (Put other resource) = bytes_eq other path
puts path line = false

abbrev pub is_put : Line → Bool
is_put (Put path resource) = true
is_put line = false

-- a line that says the revocation path
abbrev pub is_revocation : Line → Bool
is_revocation (Revoked path) = true
is_revocation line = false

abbrev pub grants : ClientName → Line → Bool
grants client (Grant other scope not_before expires alg) = other.digit == client.digit
grants client line = false

-- a line that says that there is this proxy
abbrev pub makes : ProxyName → Line → Bool
makes proxy (Proxy other) = other.digit == proxy.digit
makes proxy (Via client other) = other.digit == proxy.digit
makes proxy line = false

-- a line that says by which proxy the client sends
abbrev pub routes : ClientName → Line → Bool
routes client (Via other proxy) = other.digit == client.digit
routes client line = false

-- the moment that a line sets, or the one before it
abbrev pub moment_behind : ℕ → Line → ℕ
moment_behind moment (At later) = later.ms
moment_behind moment line = moment

-- the last moment that a line set, or 0
abbrev pub moment_after : ℕ → List Line → ℕ
moment_after moment [] = moment
moment_after moment (line ∷ lines) = moment_after (moment_behind moment line) lines

abbrev pub IsGranted : List Line → ClientName → Type 0
IsGranted above client = list_any (grants client) above ≡ true

abbrev pub IsMade : List Line → ProxyName → Type 0
IsMade above proxy = list_any (makes proxy) above ≡ true

-- a client needs a grant, a proxy a line that makes it, and the other nodes neither
abbrev pub IsKnown : List Line → NodeName → Type 0
IsKnown above node.Server = Unit {0}
IsKnown above (node.Client client) = IsGranted above client
IsKnown above (node.Proxy proxy) = IsMade above proxy
IsKnown above node.Stranger = Unit {0}

-- Set-up lines are before the first event, a path is put once, there is one revocation path at most, a client is granted once and
-- before other lines name it, it is sent by a proxy once, a proxy is made before events name it, and the moment doesn't fall.
abbrev pub MayFollow : List Line → Line → Type 0
MayFollow above (Put path resource) = (list_any is_event above ≡ false) × (list_any (puts path) above ≡ false) × (count_by is_put above < most_resources)
MayFollow above (Open path) = list_any is_event above ≡ false
MayFollow above (Revoked path) = (list_any is_event above ≡ false) × (list_any is_revocation above ≡ false)
MayFollow above (Grant client scope not_before expires alg) = (list_any is_event above ≡ false) × (list_any (grants client) above ≡ false)
MayFollow above (Proxy proxy) = list_any is_event above ≡ false
MayFollow above (Via client proxy) = (list_any is_event above ≡ false) × IsGranted above client × (list_any (routes client) above ≡ false)
MayFollow above (At moment) = moment_after 0 above ≤ moment.ms
MayFollow above (Skip client number) = IsGranted above client
MayFollow above (Exchange client) = IsGranted above client
MayFollow above (Ask client request) = IsGranted above client
MayFollow above (Tick worker) = IsKnown above worker
MayFollow above (Restart worker) = IsKnown above worker
MayFollow above (Inject from to bytes) = IsKnown above from × IsKnown above to
MayFollow above (Lie client number request) = IsGranted above client
MayFollow above line = Unit {0}

-- the text of a line, with the lines above it, stands for this
abbrev pub StandsFor : List Line → List ℕ → Line → Type 0
StandsFor above text line = Says text line × MayFollow above line
