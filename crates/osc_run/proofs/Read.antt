-- What is read of a plaintext's bytes, and what is sealed of a reply.
use Rattle.std.proofs.Common.{◌≡◌, ℕ, List, Option, Some, None, Err, refl, ap}
use Rattle.osc_model.specs.{code}
use Rattle.osc_model.specs.declared.reply.Reply.{Reply}
use Rattle.osc_coap.specs.Message.{Message}
use Rattle.osc_coap.specs.{SpellsPlaintext, plaintext_spelling, AreBytes, plaintext_at}
use Rattle.osc_coap.specs.Plaintext.{Plaintext}
use Rattle.osc_options.specs.{reply_plaintext, request_of_plaintext, with_reply, plaintext_of, or_code, request_or_code, read_request, reply_text}
use Rattle.osc_protect.specs.{plain_bytes}

pub read_is : ((text : List ℕ) (p : Plaintext) → SpellsPlaintext text p → plaintext_at text ≡ Some p)
    → (text : List ℕ) (p : Plaintext) → SpellsPlaintext text p → read_request text ≡ or_code (request_of_plaintext p)
unfolding read_request
read_is again text p s = ap request_or_code (again text p s)

pub read_none : ((text : List ℕ) (p : Plaintext) → AreBytes text → plaintext_at text ≡ Some p → SpellsPlaintext text p)
    → (text : List ℕ) → AreBytes text → ((p : Plaintext) → ¬ SpellsPlaintext text p) → read_request text ≡ Err (code 4 0)
unfolding read_request
read_none takes text bytes none = by (plaintext_at text) refl
  where
    by : (o : Option Plaintext) → plaintext_at text ≡ o → request_or_code o ≡ Err (code 4 0)
    by None e = refl
    by (Some p) e = absurd (none p (takes text p bytes e))

pub sealed_reply : ((message : Message) (reply : Reply) → plaintext_of (with_reply message reply) ≡ reply_plaintext reply)
    → (message : Message) (reply : Reply) → plain_bytes (with_reply message reply) ≡ reply_text reply
unfolding reply_text
sealed_reply written message reply = ap plaintext_spelling (written message reply)
