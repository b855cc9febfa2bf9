-- What lines say of a request.
use Rattle.std.specs.Prelude.{ℕ, ◌==◌, ◌&&◌, nat_le, if◌then◌else◌, List, map, Option, Some, None, codes}
use Rattle.osc_model.specs.Refusals as refusal
use Rattle.osc_model.specs.declared.code.Code.{Code}
use Rattle.osc_model.specs.declared.code.Method.{Method}
use Rattle.osc_scope.specs.{name_of}
use Rattle.osc_model.specs.{code_text}

-- ---- what was asked

-- a method's name, or the code of what has none
abbrev pub method_text : Code → Option Method → List ℕ
method_text request None = code_text request.0
method_text request (Some method) = name_of method

-- a byte of a path, as itself where it is printable ASCII: nothing that a client sends starts a line or moves a cursor
abbrev pub shown_byte : ℕ → ℕ
shown_byte byte = if nat_le 33 byte && nat_le byte 126 then byte else 63

abbrev pub path_text : Option (List ℕ) → List ℕ
path_text None = codes "-"
path_text (Some path) = map shown_byte path

-- ---- why a request was refused

-- the reasons that have a number, in words
abbrev pub reason_words : ℕ → List ℕ
reason_words number =
    if number == refusal.not_genuine then codes "what it seals is not genuine"
    else (if number == refusal.malformed then codes "its protection is malformed"
    else (if number == refusal.no_context then codes "it names no live security context"
    else (if number == refusal.replay then codes "it came before, or is too old"
    else (if number == refusal.bad_scope then codes "the scope of its token can not be read"
    else (if number == refusal.token_not_genuine then codes "its token is not genuine"
    else (if number == refusal.expired then codes "its token has expired"
    else (if number == refusal.not_yet then codes "its token is not valid yet"
    else (if number == refusal.audience then codes "its token is for another audience"
    else (if number == refusal.bad_claims then codes "the claims of its token can not be read"
    else (if number == refusal.fields then codes "a field is missing, or of another type or length"
    else (if number == refusal.full then codes "too many tokens have a security context"
    else (if number == refusal.revoked then codes "its token is revoked"
    else codes "for another reason"))))))))))))

-- the codes that tell the reason themselves, in words
abbrev pub code_words : ℕ → List ℕ
code_words code =
    if code == 129 then codes "it is not protected"
    else (if code == 130 then codes "it has an option that can not be accepted"
    else (if code == 132 then codes "there is nothing here but what is forwarded"
    else (if code == 133 then codes "its method is none of this path"
    else (if code == 141 then codes "it is too long to be forwarded"
    else (if code == 163 then codes "too many exchanges are open"
    else (if code == 165 then codes "nothing is forwarded there"
    else codes "for another reason"))))))

-- the reason by its number, or by the code where that tells it
abbrev pub why_words : Code → Option ℕ → List ℕ
why_words code None = code_words code.0
why_words code (Some number) = reason_words number
