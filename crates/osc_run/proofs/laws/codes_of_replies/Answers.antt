use Rattle.std.proofs.Common.{◌≡◌, ℕ, ◌≤◌, ◌<◌, List, Option, Some, None, Result, Ok, Err, refl, sym, ap, subst, arith}
use Rattle.osc_model.specs.{apply, apply_read, code}
use Rattle.osc_model.specs.Scope.{Scope}
use Rattle.osc_model.specs.Tree.{Tree}
use Rattle.osc_model.specs.declared.code.Code.{Code}
use Rattle.osc_model.specs.declared.reply.Reply.{Reply}
use Rattle.osc_model.specs.declared.request.Request.{Request}
use Rattle.osc_coap.specs.Plaintext.{Plaintext}
use Rattle.osc_coap.specs.{plaintext_at}
use Rattle.osc_options.specs.{request_of_plaintext, code_of, or_code, request_or_code, read_request}
use Rattle.osc_options.specs.declared.error.PlaintextError.{PlaintextError}
use Rattle.osc_options.specs.declared.error.PlaintextError.TheVariants.{Format, BadOption, Memory}
use Rattle.osc_run.specs.{Replies, Applied, OutOfMemory}
use Rattle.osc_run.proofs.laws.codes_of_replies.Goals as goal

abbrev IsResponse : Code → Type 0
IsResponse c = (64 ≤ c.0) × (c.0 < 192)

abbrev AnswersBy : Result Request Code → Type 0
AnswersBy r = (c : Code) → r ≡ Err c → IsResponse c

abbrev err : Code → Result Request Code
err c = Err c

one_code : (a b : Code) → err a ≡ err b → a ≡ b
one_code a b e = cc

by_code : (c d : Code) → IsResponse c → err c ≡ err d → IsResponse d
by_code c d is e = subst IsResponse (one_code c d e) is

of_error : (e : PlaintextError) → IsResponse (code_of e)
of_error (BadOption number) = (omega arith, omega arith)
of_error Format = (omega arith, omega arith)
of_error Memory = (omega arith, omega arith)

of_plaintext : (r : Result Request PlaintextError) → AnswersBy (or_code r)
of_plaintext (Ok request) c e = absurd (cc)
of_plaintext (Err error) c e = by_code (code_of error) c (of_error error) e

of_bytes : (o : Option Plaintext) → AnswersBy (request_or_code o)
of_bytes None c e = by_code (code 4 0) c (omega arith, omega arith) e
of_bytes (Some p) c e = of_plaintext (request_of_plaintext p) c e

of_text : (text : List ℕ) → AnswersBy (read_request text)
unfolding read_request
of_text text = of_bytes (plaintext_at text)

module _ (least : (root : Option (List ℕ)) (tree : Tree) (scope : Scope) (request : Request) → 64 ≤ (apply root tree scope request).reply.code.0)
    (most : (root : Option (List ℕ)) (tree : Tree) (scope : Scope) (request : Request) → (apply root tree scope request).reply.code.0 < 192) where
  of_machine : (root : Option (List ℕ)) (tree : Tree) (scope : Scope) (r : Result Request Code) → AnswersBy r → IsResponse (apply_read root tree scope r).reply.code
  of_machine root tree scope (Ok request) h = (least root tree scope request, most root tree scope request)
  of_machine root tree scope (Err c) h = h c refl

  reply_code : (root : Option (List ℕ)) (old : Tree) (scope : Scope) (text : List ℕ) (reply : Reply) (new : Tree) → Replies old (apply_read root old scope (read_request text)) reply new → IsResponse reply.code
  reply_code root old scope text reply new (Applied is tree) =
      subst IsResponse (ap (λ (r : Reply). r.code) (sym is)) (of_machine root old scope (read_request text) (of_text text))
  reply_code root old scope text reply new (OutOfMemory takes is tree) =
      let its : IsResponse (code 5 0) = (omega arith, omega arith) in subst IsResponse (ap (λ (r : Reply). r.code) (sym is)) its

pub returns-clause-least : goal.returns-clause-least
returns-clause-least c = λ root old new scope text reply applied.
    (reply_code c.replies_are_responses.ensures.least c.replies_are_responses.ensures.most root old scope text reply new applied).0

pub returns-clause-most : goal.returns-clause-most
returns-clause-most c = λ root old new scope text reply applied.
    (reply_code c.replies_are_responses.ensures.least c.replies_are_responses.ensures.most root old scope text reply new applied).1
