-- Reading a line from left to right.
use Rattle.std.specs.Prelude.{◌≡◌, ℕ, ◌-◌, ◌^◌, ◌==◌, ◌&&◌, nat_lt, nat_le, Bool, true, false, refl, if◌then◌else◌, List, [], ◌∷◌, ◌++◌, length, take, drop, slice_index, replicate, codes, Option, Some, None, Result, Ok, Err, option_map}
use Rattle.std.specs.List.{slice_split}
use Rattle.std.specs.Option.{ForSome}
use Rattle.std.specs.Str.{bytes_eq, all_ascii_digits}
use Rattle.std.specs.Str.Parse.{digits_value}
use Rattle.std.proofs.lemmas.Bool.{ltb-true, leb-true, and_parts}
use Rattle.osc_model.specs.{segments_of, IsPath, longest_payload}
use Rattle.osc_model.specs.declared.algorithm.Algorithm.{Algorithm}
use Rattle.osc_model.specs.declared.algorithm.Algorithm.TheVariants.{EightByteTag, SixteenByteTag}
use Rattle.osc_model.specs.declared.code.Method.{Method}
use Rattle.osc_model.specs.declared.code.Method.TheVariants as method
use Rattle.osc_model.specs.declared.node.Moment.{Moment}
use Rattle.osc_model.specs.declared.request.Request.{Request}
use Rattle.osc_scope.specs.{name_of as method_name}
use Rattle.osc_script.specs.Line.{plain_request, last_number, most_revocation_segments}
use Rattle.osc_script.specs.Node.{name_of}
use Rattle.osc_script.specs.Words.{most_kept}
use Rattle.osc_script.specs.declared.line.Change.{Change}
use Rattle.osc_script.specs.declared.line.Line.{Line}
use Rattle.osc_script.specs.declared.line.Line.TheVariants.{Put, Open, Revoked, Proxy, Via, At, Draw, Drop, Skip, Exchange, Ask, Tick, Restart, Deliver, Alter, Graft, Inject, Lie, Quiet}
use Rattle.osc_script.specs.declared.client_name.ClientName.{ClientName}
use Rattle.osc_script.specs.declared.node.NodeName.{NodeName}
use Rattle.osc_script.specs.declared.node.NodeName.TheVariants as node
use Rattle.osc_script.specs.declared.proxy_name.ProxyName.{ProxyName}
use Rattle.hex.specs.Hex.{decode_of}
use Rattle.hex.specs.declared.error.FromHexError.{FromHexError}

-- what was found goes on, and what wasn't stays so
infixl 10 ◌>>=◌
abbrev pub ◌>>=◌ : {A B : Type 0} → Option A → (A → Option B) → Option B
(Some x) >>= f = f x
None >>= f = None

-- ---- words

unfoldable pub number_in : List ℕ → Option ℕ
number_in word =
    if nat_lt 0 (length word) && all_ascii_digits word && nat_lt (digits_value 10 word) (2 ^ 64) then Some (digits_value 10 word) else None

unfoldable pub short_number_in : List ℕ → Option ℕ
short_number_in word = do
  n ← number_in word
  if nat_lt n (2 ^ 16) then Some n else None

-- the number of a request
unfoldable pub request_number_in : List ℕ → Option ℕ
request_number_in word = do
  n ← number_in word
  if nat_le n last_number then Some n else None

unfoldable pub format_in : List ℕ → Option (Option ℕ)
format_in word = if bytes_eq word (codes "none") then Some None else (do
  n ← short_number_in word
  Some (Some n))

abbrev pub decoded : Result (List ℕ) FromHexError → Option (List ℕ)
decoded (Ok bytes) = Some bytes
decoded (Err e) = None

unfoldable pub hex_in : List ℕ → Option (List ℕ)
hex_in part = if nat_lt 0 (length part) then decoded (decode_of part) else None

unfoldable pub repeated_in : List ℕ → List ℕ → Option (List ℕ)
repeated_in pair digits = do
  bytes ← hex_in pair
  count ← number_in digits
  Some (replicate count (slice_index bytes 0))

unfoldable pub part_in : List ℕ → Option (List ℕ)
part_in (high ∷ low ∷ star ∷ digits) = if star == 42 then repeated_in (high ∷ low ∷ []) digits else hex_in (high ∷ low ∷ star ∷ digits)
part_in part = hex_in part

unfoldable pub parts_in : List (List ℕ) → Option (List ℕ)
parts_in [] = Some []
parts_in (part ∷ parts) = do
  first ← part_in part
  rest ← parts_in parts
  Some (first ++ rest)

unfoldable pub bytes_in : List ℕ → Option (List ℕ)
bytes_in word = if bytes_eq word (codes "-") then Some [] else parts_in (slice_split (λ b. b == 43) word)

-- the first of the bytes
unfoldable pub kept_in : List ℕ → Option (List ℕ)
kept_in word = option_map (take most_kept) (bytes_in word)

-- the bytes, if they are at most `most`
unfoldable pub short_bytes_in : ℕ → List ℕ → Option (List ℕ)
short_bytes_in most word = do
  bytes ← bytes_in word
  if nat_le (length bytes) most then Some bytes else None

-- eight bytes in hexadecimal digits
unfoldable pub nonce_in : List ℕ → Option (List ℕ)
nonce_in word = if length word == 16 then hex_in word else None

unfoldable pub method_in : List ℕ → Option Method
method_in word =
    if bytes_eq word (method_name method.Get) then Some method.Get
    else if bytes_eq word (method_name method.Post) then Some method.Post
    else if bytes_eq word (method_name method.Put) then Some method.Put
    else if bytes_eq word (method_name method.Delete) then Some method.Delete
    else None

-- the client of a digit, by the test that there is one
abbrev pub client_if : (digit : ℕ) (is : Bool) → (nat_le 1 digit && nat_le digit 9) ≡ is → Option ClientName
client_if digit true e = let p = and_parts (nat_le 1 digit) (nat_le digit 9) e in Some (record { digit = digit; bound = (leb-true 1 digit p.0, leb-true digit 9 p.1) })
client_if digit false e = None

abbrev pub client_with : ℕ → Option ClientName
client_with digit = client_if digit (nat_le 1 digit && nat_le digit 9) refl

unfoldable pub client_in : List ℕ → Option ClientName
client_in (letter ∷ digit ∷ []) = if letter == 99 then client_with (digit - 48) else None
client_in word = None

-- the proxy of a digit, by the test that there is one
abbrev pub proxy_if : (digit : ℕ) (is : Bool) → (nat_le 1 digit && nat_le digit 9) ≡ is → Option ProxyName
proxy_if digit true e = let p = and_parts (nat_le 1 digit) (nat_le digit 9) e in Some (record { digit = digit; bound = (leb-true 1 digit p.0, leb-true digit 9 p.1) })
proxy_if digit false e = None

abbrev pub proxy_with : ℕ → Option ProxyName
proxy_with digit = proxy_if digit (nat_le 1 digit && nat_le digit 9) refl

unfoldable pub proxy_in : List ℕ → Option ProxyName
proxy_in (letter ∷ digit ∷ []) = if letter == 112 then proxy_with (digit - 48) else None
proxy_in word = None

-- the client, or else the proxy
abbrev pub one_named : Option ClientName → Option ProxyName → Option NodeName
one_named (Some client) proxy = Some (node.Client client)
one_named None proxy = proxy >>= λ p. Some (node.Proxy p)

unfoldable pub node_in : List ℕ → Option NodeName
node_in word =
    if bytes_eq word (name_of node.Server) then Some node.Server
    else if bytes_eq word (name_of node.Stranger) then Some node.Stranger
    else one_named (client_in word) (proxy_in word)

-- a node that does something
abbrev pub unless_stranger : NodeName → Option NodeName
unless_stranger node.Server = Some node.Server
unless_stranger (node.Client client) = Some (node.Client client)
unless_stranger (node.Proxy proxy) = Some (node.Proxy proxy)
unless_stranger node.Stranger = None

unfoldable pub worker_in : List ℕ → Option NodeName
worker_in word = do
  found ← node_in word
  unless_stranger found

unfoldable pub change_in : List ℕ → List ℕ → Option Change
change_in offset hex = do
  offset ← number_in offset
  bytes ← hex_in hex
  if length bytes == 1 then Some (record { offset = offset; mask = slice_index bytes 0 }) else None

unfoldable pub changes_in : List (List ℕ) → Option (List Change)
changes_in [] = Some []
changes_in (offset ∷ []) = None
changes_in (offset ∷ hex ∷ words) = do
  change ← change_in offset hex
  changes ← changes_in words
  Some (change ∷ changes)

-- NAME= and a number
unfoldable pub date_in : List ℕ → List ℕ → Option ℕ
date_in name word = if bytes_eq (take (length name) word) name then number_in (drop (length name) word) else None

-- the one that was found, or else the other
abbrev pub one_date : Option ℕ → Option ℕ → Option (Option ℕ × Option ℕ)
one_date (Some begins) ends = Some (Some begins, None)
one_date None ends = ends >>= λ n. Some (None, Some n)

unfoldable pub dates_in : List (List ℕ) → Option (Option ℕ × Option ℕ)
dates_in [] = Some (None, None)
dates_in (word ∷ []) = one_date (date_in (codes "nbf=") word) (date_in (codes "exp=") word)
dates_in (first ∷ second ∷ []) = do
  begins ← date_in (codes "nbf=") first
  ends ← date_in (codes "exp=") second
  Some (Some begins, Some ends)
dates_in words = None

-- the words before a last word `alg=30`, and the algorithm
unfoldable pub algorithm_in : List (List ℕ) → List (List ℕ) × Algorithm
algorithm_in [] = ([], EightByteTag)
algorithm_in (word ∷ []) = if bytes_eq word (codes "alg=30") then ([], SixteenByteTag) else (word ∷ [], EightByteTag)
algorithm_in (word ∷ words) = (word ∷ (algorithm_in words).0, (algorithm_in words).1)

-- METHOD PATH BYTES, whatever stands for the path
unfoldable pub request_in : List (List ℕ) → Option Request
request_in (method ∷ path ∷ bytes ∷ []) = do
  method ← method_in method
  payload ← kept_in bytes
  Some (plain_request method path payload)
request_in words = None

-- ---- lines

abbrev pub with_none : Line → List (List ℕ) → Option Line
with_none line [] = Some line
with_none line args = None

abbrev pub with_one : (List ℕ → Option Line) → List (List ℕ) → Option Line
with_one f (a ∷ []) = f a
with_one f args = None

abbrev pub with_two : (List ℕ → List ℕ → Option Line) → List (List ℕ) → Option Line
with_two f (a ∷ b ∷ []) = f a b
with_two f args = None

abbrev pub with_three : (List ℕ → List ℕ → List ℕ → Option Line) → List (List ℕ) → Option Line
with_three f (a ∷ b ∷ c ∷ []) = f a b c
with_three f args = None

-- one argument, and those after it
abbrev pub with_more : (List ℕ → List (List ℕ) → Option Line) → List (List ℕ) → Option Line
with_more f (a ∷ args) = f a args
with_more f args = None

abbrev pub with_two_more : (List ℕ → List ℕ → List (List ℕ) → Option Line) → List (List ℕ) → Option Line
with_two_more f (a ∷ b ∷ args) = f a b args
with_two_more f args = None

-- whatever stands for the path
unfoldable pub put_in : List ℕ → List ℕ → List ℕ → Option Line
put_in path format bytes = do
  format ← format_in format
  payload ← short_bytes_in longest_payload bytes
  Some (Put path (record { format = format; payload = payload }))

-- the same
unfoldable pub revoked_in : List ℕ → Option Line
revoked_in path = if nat_le (length (segments_of path)) most_revocation_segments then Some (Revoked path) else None

unfoldable pub proxy_line_in : List ℕ → Option Line
proxy_line_in proxy = do
  proxy ← proxy_in proxy
  Some (Proxy proxy)

unfoldable pub via_in : List ℕ → List ℕ → Option Line
via_in client proxy = do
  client ← client_in client
  proxy ← proxy_in proxy
  Some (Via client proxy)

-- the moment of this number of milliseconds, by the test that they are few enough
abbrev pub moment_if : (ms : ℕ) (few : Bool) → nat_lt ms (2 ^ 63) ≡ few → Option Moment
moment_if ms true early = Some (record { ms = ms; early = ltb-true ms (2 ^ 63) early })
moment_if ms false early = None

abbrev pub moment_in : ℕ → Option Moment
moment_in ms = moment_if ms (nat_lt ms (2 ^ 63)) refl

unfoldable pub at_in : List ℕ → Option Line
at_in number = do
  ms ← number_in number
  moment ← moment_in ms
  Some (At moment)

unfoldable pub draw_in : List ℕ → Option Line
draw_in digits = do
  nonce ← nonce_in digits
  Some (Draw nonce)

unfoldable pub exchange_in : List ℕ → Option Line
exchange_in client = do
  client ← client_in client
  Some (Exchange client)

unfoldable pub skip_in : List ℕ → List ℕ → Option Line
skip_in client number = do
  client ← client_in client
  number ← request_number_in number
  Some (Skip client number)

unfoldable pub ask_in : List ℕ → List (List ℕ) → Option Line
ask_in client words = do
  client ← client_in client
  request ← request_in words
  Some (Ask client request)

unfoldable pub lie_in : List ℕ → List ℕ → List (List ℕ) → Option Line
lie_in client number words = do
  client ← client_in client
  number ← request_number_in number
  request ← request_in words
  Some (Lie client number request)

unfoldable pub deliver_in : List ℕ → Option Line
deliver_in number = do
  datagram ← number_in number
  Some (Deliver datagram)

unfoldable pub drop_in : List ℕ → Option Line
drop_in number = do
  datagram ← number_in number
  Some (Drop datagram)

abbrev pub some_changes : ℕ → List Change → Option Line
some_changes datagram [] = None
some_changes datagram (change ∷ changes) = Some (Alter datagram (change ∷ changes))

unfoldable pub alter_in : List ℕ → List (List ℕ) → Option Line
alter_in number words = do
  datagram ← number_in number
  changes ← changes_in words
  some_changes datagram changes

unfoldable pub graft_in : List ℕ → List ℕ → Option Line
graft_in first second = do
  header ← number_in first
  body ← number_in second
  Some (Graft header body)

unfoldable pub tick_in : List ℕ → Option Line
tick_in word = do
  worker ← worker_in word
  Some (Tick worker)

unfoldable pub restart_in : List ℕ → Option Line
restart_in word = do
  worker ← worker_in word
  Some (Restart worker)

unfoldable pub inject_in : List ℕ → List ℕ → List ℕ → Option Line
inject_in from to spelled = do
  from ← node_in from
  to ← node_in to
  bytes ← kept_in spelled
  Some (Inject from to bytes)

-- the lines of nodes
unfoldable pub node_line_in : List ℕ → List (List ℕ) → Option Line
node_line_in verb args =
    if bytes_eq verb (codes "tick") then with_one tick_in args
    else if bytes_eq verb (codes "restart") then with_one restart_in args
    else if bytes_eq verb (codes "inject") then with_three inject_in args
    else if bytes_eq verb (codes "quiet") then with_none Quiet args
    else None

-- those of datagrams, and the others
unfoldable pub datagram_line_in : List ℕ → List (List ℕ) → Option Line
datagram_line_in verb args =
    if bytes_eq verb (codes "deliver") then with_one deliver_in args
    else if bytes_eq verb (codes "drop") then with_one drop_in args
    else if bytes_eq verb (codes "alter") then with_more alter_in args
    else if bytes_eq verb (codes "graft") then with_two graft_in args
    else node_line_in verb args

-- those of clients, and the others
unfoldable pub client_line_in : List ℕ → List (List ℕ) → Option Line
client_line_in verb args =
    if bytes_eq verb (codes "exchange") then with_one exchange_in args
    else if bytes_eq verb (codes "ask") then with_more ask_in args
    else if bytes_eq verb (codes "skip") then with_two skip_in args
    else if bytes_eq verb (codes "lie") then with_two_more lie_in args
    else datagram_line_in verb args

-- those of time, and the others
unfoldable pub timed_line_in : List ℕ → List (List ℕ) → Option Line
timed_line_in verb args =
    if bytes_eq verb (codes "at") then with_one at_in args
    else if bytes_eq verb (codes "draw") then with_one draw_in args
    else client_line_in verb args

-- all lines but grants
unfoldable pub line_in : List ℕ → List (List ℕ) → Option Line
line_in verb args =
    if bytes_eq verb (codes "put") then with_three put_in args
    else if bytes_eq verb (codes "open") then with_one (λ path. Some (Open path)) args
    else if bytes_eq verb (codes "revoked") then with_one revoked_in args
    else if bytes_eq verb (codes "proxy") then with_one proxy_line_in args
    else if bytes_eq verb (codes "via") then with_two via_in args
    else timed_line_in verb args

-- the paths of a line are paths
abbrev pub HasPath : Line → Type 0
HasPath (Put path resource) = IsPath path
HasPath (Open path) = IsPath path
HasPath (Revoked path) = IsPath path
HasPath (Ask client request) = ForSome request.path IsPath
HasPath (Lie client number request) = ForSome request.path IsPath
HasPath line = Unit {0}

-- What was found is what was read, with its paths. Nothing is, where nothing with paths was read.
abbrev pub Gives : Option Line → Option Line → Type 0
Gives read (Some line) = (read ≡ Some line) × HasPath line
Gives read None = (line : Line) → read ≡ Some line → ¬ HasPath line

-- the same of a request
abbrev pub GivesRequest : Option Request → Option Request → Type 0
GivesRequest read (Some request) = (read ≡ Some request) × ForSome request.path IsPath
GivesRequest read None = (request : Request) → read ≡ Some request → ¬ ForSome request.path IsPath
