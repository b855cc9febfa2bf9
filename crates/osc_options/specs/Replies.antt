-- The options of a reply (RFC 7252 sections 5.10.3 and 5.10.6).
use Rattle.std.specs.Prelude.{ℕ, ◌/◌, ◌%◌, ◌==◌, nat_lt, if◌then◌else◌, List, [], ◌∷◌, ◌++◌, Option, Some, None}
use Rattle.osc_model.specs.declared.reply.Reply.{Reply}
use Rattle.osc_coap.specs.{NumberAndValue, payload_of}
use Rattle.osc_coap.specs.Message.{Message}

-- a number below 65536 without leading zero bytes (section 3.2)
abbrev pub uint_bytes : ℕ → List ℕ
uint_bytes n = if n == 0 then [] else if nat_lt n 256 then n ∷ [] else n / 256 ∷ n % 256 ∷ []

-- ETag, option 4
abbrev pub etag_option : Option (List ℕ) → List NumberAndValue
etag_option None = []
etag_option (Some tag) = (4, tag) ∷ []

-- Content-Format, option 12
abbrev pub format_option : Option ℕ → List NumberAndValue
format_option None = []
format_option (Some format) = (12, uint_bytes format) ∷ []

abbrev pub reply_options : Reply → List NumberAndValue
reply_options reply = etag_option reply.etag ++ format_option reply.format

-- the reply put into a message that has neither options nor payload yet
abbrev pub with_reply : Message → Reply → Message
with_reply message reply = record message { code = reply.code.0; options = reply_options reply; payload = payload_of reply.payload }

-- Max-Age, option 14, in seconds (section 5.10.5)
abbrev pub max_age_option : Option ℕ → List NumberAndValue
max_age_option None = []
max_age_option (Some seconds) = (14, uint_bytes seconds) ∷ []

-- the same for an error reply with a diagnostic payload (section 5.5.2)
abbrev pub with_error : Message → ℕ → Option ℕ → List ℕ → Message
with_error message code max_age text = record message { code = code; options = max_age_option max_age; payload = payload_of text }
