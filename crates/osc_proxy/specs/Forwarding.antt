-- What a proxy forwards, and what it sends back (RFC 7252 sections 5.7.1 and 5.7.2).
use Rattle.std.specs.Prelude.{ℕ, Bool, ◌&&◌, ◌||◌, not, ◌==◌, List, ◌∷◌, drop, filter}
use Rattle.std.specs.List.{list_any}
use Rattle.osc_model.specs.{token_drawn}
use Rattle.osc_model.specs.declared.node.Draw.{Draw}
use Rattle.osc_coap.specs.{NumberAndValue}
use Rattle.osc_coap.specs.Message.{Message}
use Rattle.osc_coap.specs.declared.kind.Kind.{Kind}
use Rattle.osc_options.specs.{proxy_scheme, proxy_uri, uri_host, uri_path, uri_port, uri_query}

-- The options that are for the proxy are taken out: Uri-Port, Proxy-Uri, Proxy-Scheme, and beside a Proxy-Uri, which names the whole
-- URI, Uri-Host, Uri-Path and Uri-Query too.
abbrev pub is_taken_out : Bool → ℕ → Bool
is_taken_out by_uri number =
    (number == uri_port) || ((number == proxy_uri) || ((number == proxy_scheme)
    || (by_uri && ((number == uri_host) || ((number == uri_path) || (number == uri_query))))))

abbrev pub has_proxy_uri : List NumberAndValue → Bool
has_proxy_uri options = list_any (λ option. option.0 == proxy_uri) options

-- all others stay, in their order
abbrev pub forwarded_options : List NumberAndValue → List NumberAndValue
forwarded_options options = filter (λ option. not (is_taken_out (has_proxy_uri options) option.0)) options

-- the same message under a message ID and a token of the proxy's own, without the options that are for the proxy
abbrev pub forwarded : ℕ → List ℕ → Message → Message
forwarded id token message = record message { id = id; token = token; options = forwarded_options message.options }

-- the token of a forwarded message: the key of its exchange, and all but the first of the token bytes that were drawn
abbrev pub forwarded_token : ℕ → Draw → List ℕ
forwarded_token key draw = key ∷ drop 1 (token_drawn draw)

-- the same response in a message of this kind and message ID, with the client's token
abbrev pub answer : Kind → ℕ → List ℕ → Message → Message
answer kind id token response = record response { kind = kind; id = id; token = token }
