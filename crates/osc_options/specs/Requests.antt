-- The request that a message's code, options and payload are (RFC 7252 section 5.10).
use Rattle.std.specs.Prelude.{ℕ, ◌+◌, ◌*◌, ◌<◌, ◌≤◌, ◌==◌, Bool, true, false, List, [], ◌∷◌, ◌++◌, length, Option, Some, None, IfSome, is_some, map, filter, find, fold, option_map, unwrap_or}
use Rattle.std.specs.List.{AllByRecursion}
use Rattle.osc_model.specs.{path_of, segments_of, IsPath}
use Rattle.osc_model.specs.declared.request.Request.{Request}
use Rattle.osc_coap.specs.{NumberAndValue, payload_of}
use Rattle.osc_coap.specs.Message.{Message}
use Rattle.osc_options.specs.Recognised.{recognised}
use Rattle.osc_options.specs.Replies.{uint_bytes}

-- the values of the options of one number, in their order
abbrev pub values : ℕ → List NumberAndValue → List (List ℕ)
values number options = map (λ option. option.1) (filter (λ option. option.0 == number) options)

-- the value of the first of them
abbrev pub value : ℕ → List NumberAndValue → Option (List ℕ)
value number options = option_map (λ option. option.1) (find (λ option. option.0 == number) options)

-- a whole number is big-endian, and leading zeros don't count (section 3.2)
abbrev pub uint : List ℕ → ℕ
uint bytes = fold (λ n byte. 256 * n + byte) 0 bytes

-- What isn't recognised is left out: elective options are ignored, and who asks for this has refused critical ones.
abbrev pub request_in : ℕ → List NumberAndValue → Option (List ℕ) → Request
request_in code options payload =
    let known = recognised 0 options in
    record {
      code = record { 0 = code };
      path = path_of (values 11 known);
      format = option_map uint (value 12 known);
      accept = option_map uint (value 17 known);
      if_match = values 1 known;
      if_none_match = is_some (value 5 known);
      payload = unwrap_or payload [];
    }

abbrev pub request_of : Message → Request
request_of message = request_in message.code message.options message.payload

-- ---- written

-- one option of this number for each value
abbrev pub each : ℕ → List (List ℕ) → List NumberAndValue
each number values = map (λ value. (number, value)) values

-- Uri-Path, option 11, for what is between the slashes of a path's text (section 5.10.1)
abbrev pub path_options : Option (List ℕ) → List NumberAndValue
path_options None = []
path_options (Some text) = each 11 (segments_of text)

-- If-None-Match, option 5, is empty (section 5.10.8.2)
abbrev pub none_match_options : Bool → List NumberAndValue
none_match_options false = []
none_match_options true = (5, []) ∷ []

abbrev pub uint_options : ℕ → Option ℕ → List NumberAndValue
uint_options number None = []
uint_options number (Some n) = (number, uint_bytes n) ∷ []

-- If-Match (1), If-None-Match (5), Uri-Path (11), Content-Format (12), Accept (17)
abbrev pub request_options : Request → List NumberAndValue
request_options request =
    each 1 request.if_match ++ none_match_options request.if_none_match ++ path_options request.path
    ++ uint_options 12 request.format ++ uint_options 17 request.accept

-- the request put into a message that has neither options nor payload yet
abbrev pub with_request : Message → Request → Message
with_request message request = record message { code = request.code.0; options = request_options request; payload = payload_of request.payload }

-- what the table of options lets be read again: a path, tags of at most 8 bytes, numbers of at most two
pub record IsWithinTable (request : Request) : Type 0 where
  pub path : IfSome request.path IsPath
  pub tags : AllByRecursion (λ tag. length tag ≤ 8) request.if_match
  pub format : IfSome request.format (λ n. n < 65536)
  pub accept : IfSome request.accept (λ n. n < 65536)
