-- The replies that go and come encrypted (RFC 7252 sections 5.4.1 and 5.9, RFC 8613 section 5.3).
use Rattle.std.specs.Prelude.{ℕ, ◌==◌, if◌then◌else◌, List, [], length, Option, Some, None, option_map, unwrap_or, Result, Ok, Err}
use Rattle.osc_model.specs.declared.reply.Reply.{Reply}
use Rattle.osc_coap.specs.{is_response_code, payload_of}
use Rattle.osc_coap.specs.Plaintext.{Plaintext}
use Rattle.osc_options.specs.declared.error.PlaintextError.{PlaintextError}
use Rattle.osc_options.specs.declared.error.PlaintextError.TheVariants.{Format, BadOption}
use Rattle.osc_options.specs.Recognised.{recognised, unrecognised_critical}
use Rattle.osc_options.specs.Requests.{uint, value}
use Rattle.osc_options.specs.Replies.{reply_options}

-- ---- written

abbrev pub reply_plaintext : Reply → Plaintext
reply_plaintext reply = record { code = reply.code.0; options = reply_options reply; payload = payload_of reply.payload }

-- ---- read

-- the first ETag, where it has 8 bytes; else there is none
abbrev pub etag_in : Option (List ℕ) → Option (List ℕ)
etag_in None = None
etag_in (Some tag) = if length tag == 8 then Some tag else None

-- the code, the ETag (option 4), the Content-Format (option 12) and the payload; all else is left out
abbrev pub reply_with : Plaintext → Reply
reply_with p =
    let known = recognised 0 p.options in
    record {
      code = record { 0 = p.code };
      etag = etag_in (value 4 known);
      format = option_map uint (value 12 known);
      payload = unwrap_or p.payload [];
    }

abbrev pub accepted_reply : Option ℕ → Reply → Result Reply PlaintextError
accepted_reply None reply = Ok reply
accepted_reply (Some number) reply = Err (BadOption number)

-- The reply that a plaintext is, or the first reason why it is none. An option of class U is left out like any other that is
-- recognised.
abbrev pub reply_of_plaintext : Plaintext → Result Reply PlaintextError
reply_of_plaintext p = if is_response_code p.code then accepted_reply (unrecognised_critical 0 p.options) (reply_with p) else Err Format

abbrev pub if_reply : Result Reply PlaintextError → Option Reply
if_reply (Ok reply) = Some reply
if_reply (Err e) = None

abbrev pub reply_in : Plaintext → Option Reply
reply_in p = if_reply (reply_of_plaintext p)
