-- The plaintexts of requests and replies (RFC 8613 section 5.3).
use Rattle.std.specs.Prelude.{◌≡◌, ℕ, ◌<◌, List, length, Option, Some, None, Result, Ok, Err, IfSome}
use Rattle.osc_model.specs.{code}
use Rattle.osc_model.specs.declared.code.Code.{Code}
use Rattle.osc_model.specs.declared.request.Request.{Request}
use Rattle.osc_model.specs.declared.reply.Reply.{Reply}
use Rattle.osc_coap.specs.{SpellsPlaintext, plaintext_spelling, plaintext_at}
use Rattle.osc_coap.specs.Plaintext.{Plaintext}
use Rattle.osc_options.specs.PlaintextRequests.{request_of_plaintext}
use Rattle.osc_options.specs.PlaintextReplies.{reply_plaintext, reply_in}
use Rattle.osc_options.specs.declared.error.PlaintextError.{PlaintextError}
use Rattle.osc_options.specs.declared.error.PlaintextError.TheVariants.{Format, BadOption, Memory}

-- ---- requests

-- 4.02 Bad Option where an option can't be accepted (RFC 7252 section 5.4.1), else 4.00 Bad Request. Lack of memory is no outcome
-- of `request_of_plaintext`.
abbrev pub code_of : PlaintextError → Code
code_of (BadOption number) = code 4 2
code_of Format = code 4 0
code_of Memory = code 4 0

-- the request, or the code of the error
abbrev pub or_code : Result Request PlaintextError → Result Request Code
or_code (Ok request) = Ok request
or_code (Err error) = Err (code_of error)

-- the same of bytes that may be no plaintext
abbrev pub request_or_code : Option Plaintext → Result Request Code
request_or_code None = Err (code 4 0)
request_or_code (Some plaintext) = or_code (request_of_plaintext plaintext)

-- the request that the bytes of a plaintext are (RFC 8613 section 5.3), or the code that answers them
unfoldable pub read_request : List ℕ → Result Request Code
read_request text = request_or_code (plaintext_at text)

-- ---- replies

-- what a server seals of a reply
unfoldable pub reply_text : Reply → List ℕ
reply_text reply = plaintext_spelling (reply_plaintext reply)

-- the bytes are the plaintext of a response, of which a client reads this reply
pub record IsReplyIn (text : List ℕ) (reply : Reply) : Type 0 where
  pub plaintext : Plaintext
  pub spelled : SpellsPlaintext text plaintext
  pub says : reply_in plaintext ≡ Some reply

-- an ETag of 8 bytes and a Content-Format of 16 bits, as the parts of a resource have them
pub record IsWithinRanges (reply : Reply) : Type 0 where
  pub etag : IfSome reply.etag (λ tag. length tag ≡ 8)
  pub format : IfSome reply.format (λ format. format < 65536)
