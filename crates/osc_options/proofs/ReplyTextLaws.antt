-- The plaintext of a reply, written from left to right.
use Rattle.std.proofs.Common.{◌≡◌, ℕ, List, [], ◌∷◌, ◌++◌, refl, sym, ap, ◌∙◌, append_assoc}
use Rattle.osc_model.specs.declared.reply.Reply.{Reply}
use Rattle.osc_coap.specs.{NumberAndValue, option_spelling, options_spelling, payload_spelling, plaintext_spelling, last_number, payload_of}
use Rattle.osc_options.specs.{etag_option, format_option, reply_text}

-- options in two parts are spelled after one another
pub options_spelling-append : (before : ℕ) (front back : List NumberAndValue) → options_spelling before (front ++ back) ≡ options_spelling before front ++ options_spelling (last_number before front) back
unfolding options_spelling
options_spelling-append before [] back = refl
options_spelling-append before (option ∷ front) back =
    ap (λ (more : List ℕ). option_spelling before option ++ more) (options_spelling-append option.0 front back)
    ∙ sym (append_assoc (option_spelling before option) (options_spelling option.0 front) (options_spelling (last_number option.0 front) back))

pub reply_spelled : (reply : Reply) → reply_text reply
    ≡ (((reply.code.0 ∷ []) ++ options_spelling 0 (etag_option reply.etag)) ++ options_spelling (last_number 0 (etag_option reply.etag)) (format_option reply.format)) ++ payload_spelling (payload_of reply.payload)
unfolding reply_text plaintext_spelling
reply_spelled reply =
    ap (λ (options : List ℕ). reply.code.0 ∷ options ++ payload_spelling (payload_of reply.payload)) (options_spelling-append 0 (etag_option reply.etag) (format_option reply.format))
