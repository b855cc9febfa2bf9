-- The clients and the proxies of a script, by the lines that make them, and their numbers in a world.
use Rattle.std.specs.Prelude.{ℕ, ◌==◌, if◌then◌else◌, List, [], ◌∷◌, ◌++◌, length, Option, Some, None, codes, unwrap_or, slice_get, position}
use Rattle.std.specs.List.{list_any}
use Rattle.osc_script.specs.{client_name}
use Rattle.osc_script.specs.declared.client_name.ClientName.{ClientName}
use Rattle.osc_script.specs.declared.line.Line.{Line}
use Rattle.osc_script.specs.declared.line.Line.TheVariants.{Grant, Proxy, Via}
use Rattle.osc_script.specs.declared.proxy_name.ProxyName.{ProxyName}

-- the clients, in the order of the lines that grant: the number of a client in the world is its place here, from 0
abbrev pub granted : List Line → List ClientName
granted [] = []
granted (Grant client scope not_before expires alg ∷ lines) = client ∷ granted lines
granted (line ∷ lines) = granted lines

-- a proxy after the others, if it isn't among them
abbrev pub with_proxy : List ProxyName → ProxyName → List ProxyName
with_proxy proxies proxy = if list_any (λ other. other.digit == proxy.digit) proxies then proxies else proxies ++ proxy ∷ []

-- the proxies, with the one that a line makes
abbrev pub made_by : List ProxyName → Line → List ProxyName
made_by proxies (Proxy proxy) = with_proxy proxies proxy
made_by proxies (Via client proxy) = with_proxy proxies proxy
made_by proxies line = proxies

abbrev pub made_from : List ProxyName → List Line → List ProxyName
made_from proxies [] = proxies
made_from proxies (line ∷ lines) = made_from (made_by proxies line) lines

-- the proxies, in the order of the lines that make them first: the number of a proxy in the world is its place here, from 0
abbrev pub made : List Line → List ProxyName
made lines = made_from [] lines

-- the clients and the proxies of a script
pub record Names : Type 0 where
  pub clients : List ClientName
  pub proxies : List ProxyName

abbrev pub names_in : List Line → Names
names_in lines = record { clients = granted lines; proxies = made lines }

-- the number of a client; of one that isn't granted, a number that no client has
abbrev pub number_of : List ClientName → ClientName → ℕ
number_of clients client = unwrap_or (position (λ other. other.digit == client.digit) clients) (length clients)

-- the number of a proxy; of one that isn't made, a number that no proxy has
abbrev pub proxy_number : List ProxyName → ProxyName → ℕ
proxy_number proxies proxy = unwrap_or (position (λ other. other.digit == proxy.digit) proxies) (length proxies)

-- the name of a client that was found, or `?`
abbrev pub named : Option ClientName → List ℕ
named None = codes "?"
named (Some client) = client_name client

-- the name of the client of this number, or `?` where there is none
abbrev pub name_of_number : List ClientName → ℕ → List ℕ
name_of_number clients number = named (slice_get clients number)
