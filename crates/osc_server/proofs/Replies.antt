-- How long replies are.
use Rattle.std.proofs.Common.{◌≡◌, ℕ, ◌+◌, ◌<◌, ◌≤◌, ◌/◌, ◌%◌, ◌==◌, Bool, true, false, if◌then◌else◌, nat_lt, List, [], ◌∷◌, ◌++◌, length, replicate, Option, Some, None, Result, Ok, Err, refl, arith, lit<}
use Rattle.std.proofs.lemmas.Bool.{lt-ltb}
use Rattle.std.proofs.lemmas.List.{length-replicate}
use Rattle.std.specs.List.{AllByRecursion}
use Rattle.std.specs.Option.{ForSome}
use Rattle.std.specs.FinMap as map
use Rattle.osc_model.specs.Arrival.{Arrival}
use Rattle.osc_model.specs.{code, method_of, IsWithinLimits, payload_length, checks, first_failing, refusal, written, Outcome, read, write, perform, refused_or, apply_at, apply}
use Rattle.osc_model.specs.Tree.{Tree}
use Rattle.osc_model.specs.Scope.{Scope}
use Rattle.osc_model.specs.declared.code.Code.{Code}
use Rattle.osc_model.specs.declared.code.Method.TheVariants.{Get, Post, Put, Delete}
use Rattle.osc_model.specs.declared.reply.Reply.{Reply}
use Rattle.osc_model.specs.declared.request.Request.{Request}
use Rattle.osc_model.specs.declared.resource.Resource.{Resource}
use Rattle.osc_coap.specs.{payload_of, extension_length, options_length, plaintext_length, spelled_length, with_option, with_payload, NumberAndValue, spelling, plaintext_spelling}
use Rattle.osc_coap.specs.Length as coap
use Rattle.osc_coap.specs.Message.{Message}
use Rattle.osc_coap.specs.Plaintext.{Plaintext}
use Rattle.osc_options.specs.{etag_option, format_option, reply_options, uint_bytes, reply_plaintext, merge, outer_options, reply_text}
use Rattle.osc_message.specs.{EndpointState, reply_start}
use Rattle.osc_protect.specs.{plain_bytes, response_length, response_value, response_with, value_spelling}
use Rattle.osc_authz.specs.{LastAnswerState, code_of}
use Rattle.osc_authz.specs.declared.error.PostError.{PostError}
use Rattle.osc_authz.specs.declared.error.PostError.TheVariants.{Fields, Token, Revoked, Full, Replayed}
use Rattle.osc_token.specs.declared.error.TokenError.TheVariants as token
use Rattle.osc_authz.specs.declared.post.PostReply.{PostReply}
use Rattle.osc_server.specs.Inner.Parts.{IsReplyOf, FitsAResource, read_length, request_reply_length}
use Rattle.osc_server.specs.{again_to, post_reply, reply_to}
use Rattle.osc_server.proofs.Gets.{bare_reply, content_reply}

-- ---- short replies

pub is_short : (most : ℕ) (reply : Reply) → most ≤ 512 → IsReplyOf most reply → FitsAResource reply
is_short most reply few it = record { code = it.code; etag = it.etag; payload = omega (arith, few, it.payload) }

-- ---- the payloads of the machine's replies

replied : (rows : List (Bool × Code)) (tree : Tree) (most : ℕ) (otherwise : Outcome) → AllByRecursion (λ row. 0 < row.1.0) rows → IsReplyOf most otherwise.reply → IsReplyOf most (refused_or tree (first_failing rows) otherwise).reply
replied [] tree most otherwise all other = other
replied (row ∷ rows) tree most otherwise all other =
    elim row.0 as (λ b. IsReplyOf most (refused_or tree (if b then first_failing rows else Some row.1) otherwise).reply) [
      | true ↦ replied rows tree most otherwise all.1 other
      | false ↦ bare_reply most row.1 all.0
    ]

read_reply : (tree : Tree) (found : Option Resource) → IsReplyOf (payload_length found) (read tree found).reply
read_reply tree None = bare_reply 0 (code 4 4) (omega arith)
read_reply tree (Some resource) = content_reply resource

written_code : (b : Bool) → 0 < (if b then code 2 4 else code 2 1).0
written_code true = omega arith
written_code false = omega arith

write_reply : (tree : Tree) (path : List ℕ) (new : Option Resource) → IsReplyOf 0 (write tree path new).reply
write_reply tree path None = bare_reply 0 (code 4 5) (omega arith)
write_reply tree path (Some resource) = bare_reply 0 _ (written_code (map.contains_key tree path))

performed : (tree : Tree) (path : List ℕ) (request : Request) → IsReplyOf (if request.code.0 == 1 then payload_length (map.get tree path) else 0) (perform tree path (method_of request.code) request).reply
performed tree path request =
    let found = map.get tree path in
    elim (request.code.0 == 1) as (λ b. IsReplyOf (if b then payload_length found else 0)
    (perform tree path (if b then Some Get else (if request.code.0 == 2 then Some Post else (if request.code.0 == 3 then Some Put else (if request.code.0 == 4 then Some Delete else None)))) request).reply) [
      | true ↦ read_reply tree found
      | false ↦ elim (request.code.0 == 2) as (λ b. IsReplyOf 0
          (perform tree path (if b then Some Post else (if request.code.0 == 3 then Some Put else (if request.code.0 == 4 then Some Delete else None))) request).reply) [
            | true ↦ write_reply tree path (written (Some Post) found request)
            | false ↦ elim (request.code.0 == 3) as (λ b. IsReplyOf 0
                (perform tree path (if b then Some Put else (if request.code.0 == 4 then Some Delete else None)) request).reply) [
                  | true ↦ write_reply tree path (written (Some Put) found request)
                  | false ↦ elim (request.code.0 == 4) as (λ b. IsReplyOf 0 (perform tree path (if b then Some Delete else None) request).reply) [
                    | true ↦ bare_reply 0 (code 2 2) (omega arith)
                    | false ↦ write_reply tree path (written None found request)
                  ]
                ]
          ]
    ]

reply_at : (root : Option (List ℕ)) (tree : Tree) (scope : Scope) (path : Option (List ℕ)) (request : Request) → IsReplyOf (if request.code.0 == 1 then read_length tree path else 0) (apply_at root tree scope path request).reply
unfolding refusal
reply_at root tree scope None request = bare_reply _ (code 4 3) (omega arith)
reply_at root tree scope (Some path) request =
    replied (checks root tree scope path request) tree _ _
    (lit< tt, (lit< tt, (lit< tt, (lit< tt, (lit< tt, (lit< tt, (lit< tt, (lit< tt, tt))))))))
    (performed tree path request)

pub machine_reply : (root : Option (List ℕ)) (tree : Tree) (scope : Scope) (request : Request) → IsReplyOf (request_reply_length tree request) (apply root tree scope request).reply
unfolding apply
machine_reply root tree scope request = reply_at root tree scope request.path request

limited : (tree : Tree) (request : Request) → IsWithinLimits tree → request_reply_length tree request ≤ 512
limited tree request limits = by (request.code.0 == 1) request.path
  where
    by : (b : Bool) (path : Option (List ℕ)) → (if b then read_length tree path else 0) ≤ 512
    by true None = omega arith
    by true (Some path) = limits.short path
    by false path = omega arith

pub read_reply_short : (root : Option (List ℕ)) (tree : Tree) (scope : Scope) (request : Request) → IsWithinLimits tree → FitsAResource (apply root tree scope request).reply
read_reply_short root tree scope request limits = is_short (request_reply_length tree request) _ (limited tree request limits) (machine_reply root tree scope request)

-- ---- the answer to a post

post_code : (error : PostError) → 0 < (code_of error).0
post_code Fields = omega arith
post_code Revoked = omega arith
post_code Replayed = omega arith
post_code Full = omega arith
post_code (Token token.NotGenuine) = omega arith
post_code (Token token.NotYet) = omega arith
post_code (Token token.Expired) = omega arith
post_code (Token token.Audience) = omega arith
post_code (Token token.BadClaims) = omega arith
post_code (Token token.BadScope) = omega arith

pub posted_reply : (answer : Result PostReply PostError) → length (post_reply answer).payload ≤ 16 → IsReplyOf 16 (post_reply answer)
posted_reply (Ok answer) short = record { code = omega arith; etag = λ tag e. absurd (cc); payload = short }
posted_reply (Err error) short = bare_reply 16 (code_of error) (post_code error)

-- ---- lengths

extension_small : (n : ℕ) → n < 13 → extension_length n ≡ 0
extension_small n small = rw (lt-ltb n 13 small) refl

payload_short : (bytes : List ℕ) → coap.payload_length (payload_of bytes) ≤ 1 + length bytes
payload_short [] = omega arith
payload_short (b ∷ bytes) = omega arith

uint_short : (n : ℕ) → length (uint_bytes n) ≤ 2
uint_short n =
    elim (n == 0) as (λ b. length (if b then [] else if nat_lt n 256 then n ∷ [] else n / 256 ∷ n % 256 ∷ []) ≤ 2) [
      | true ↦ omega arith
      | false ↦ elim (nat_lt n 256) as (λ b. length (if b then n ∷ [] else n / 256 ∷ n % 256 ∷ []) ≤ 2) [
        | true ↦ omega arith
        | false ↦ omega arith
      ]
    ]

value_short : (value : List ℕ) (most : ℕ) → most < 13 → length value ≤ most → extension_length (length value) + length value ≤ most
value_short value most few short =
    let small : length value < 13 = omega (arith, few, short) in
    omega (arith, extension_small (length value) small, short)

options_short : (etag : Option (List ℕ)) (format : Option ℕ) → ForSome etag (λ tag. length tag ≤ 8) → options_length 0 (etag_option etag ++ format_option format) ≤ 12
options_short None None short = omega arith
options_short None (Some format) short = omega (arith, value_short (uint_bytes format) 2 (omega arith) (uint_short format))
options_short (Some tag) None short = omega (arith, value_short tag 8 (omega arith) (short tag refl))
options_short (Some tag) (Some format) short =
    omega (arith, value_short tag 8 (omega arith) (short tag refl), value_short (uint_bytes format) 2 (omega arith) (uint_short format))

pub plain_short : (most : ℕ) (reply : Reply) → IsReplyOf most reply → plaintext_length (reply_plaintext reply) ≤ 14 + most
plain_short most reply short = omega (arith, options_short reply.etag reply.format short.etag, payload_short reply.payload, short.payload)

nothing_outside : (etag : Option (List ℕ)) (format : Option ℕ) → outer_options (etag_option etag ++ format_option format) ≡ []
nothing_outside None None = refl
nothing_outside None (Some format) = refl
nothing_outside (Some tag) None = refl
nothing_outside (Some tag) (Some format) = refl

one_option : (outer : List NumberAndValue) → outer ≡ [] → options_length 0 (merge outer ((9, response_value None) ∷ [])) ≡ 1
unfolding value_spelling
one_option outer e = rw e refl

pub sealed_short : (endpoint : EndpointState) (came : Arrival Message) (reply : Reply) (sealed : List ℕ) → length came.what.token ≤ 8 → spelled_length (response_with None (reply_to endpoint came reply) sealed) ≤ 14 + length sealed
sealed_short endpoint came reply sealed token =
    omega (arith, token, one_option (outer_options (reply_options reply)) (nothing_outside reply.etag reply.format), payload_short sealed)

-- ---- a message with the answer to a post

post_options : (answer : Result PostReply PostError) → options_length 0 (reply_options (post_reply answer)) ≤ 2
post_options (Ok answer) = omega arith
post_options (Err error) = omega arith

pub post_message_short : (endpoint : EndpointState) (came : Arrival Message) (answer : Result PostReply PostError) → length came.what.token ≤ 8 → length (post_reply answer).payload ≤ 16 → spelled_length (reply_to endpoint came (post_reply answer)) ≤ 31
post_message_short endpoint came answer token short =
    omega (arith, token, post_options answer, payload_short (post_reply answer).payload, short)

-- ---- a message with a reply

pub reply_message_short : (endpoint : EndpointState) (came : Arrival Message) (reply : Reply) → length came.what.token ≤ 8 → FitsAResource reply → spelled_length (reply_to endpoint came reply) ≤ 1152
reply_message_short endpoint came reply token short =
    omega (arith, token, options_short reply.etag reply.format short.etag, payload_short reply.payload, short.payload)

-- ---- a protected reply that goes out again

pub again_is : (endpoint : EndpointState) (came : Arrival Message) (last : LastAnswerState)
    → with_payload (with_option (reply_start came.draw endpoint.next_id came.what 68) 9 []) last.reply ≡ again_to endpoint came last
unfolding value_spelling
again_is endpoint came last = refl

-- ---- a protected reply

pub text_short : ((p : Plaintext) → length (plaintext_spelling p) ≡ plaintext_length p) → (most : ℕ) (reply : Reply) → IsReplyOf most reply → length (reply_text reply) ≤ 14 + most
unfolding reply_text
text_short law most reply short = rw (law (reply_plaintext reply)) (plain_short most reply short)

pub reply_length_most : ((m : Message) → length (spelling m) ≡ spelled_length m) → (endpoint : EndpointState) (came : Arrival Message) (reply : Reply) (tag : ℕ) → length came.what.token ≤ 8 → response_length tag None (reply_to endpoint came reply) ≤ 14 + length (plain_bytes (reply_to endpoint came reply)) + tag
reply_length_most law endpoint came reply tag token =
    let size = length (plain_bytes (reply_to endpoint came reply)) + tag in
    rw (law (response_with None (reply_to endpoint came reply) (replicate size 0)))
    (omega (arith, sealed_short endpoint came reply (replicate size 0) token, length-replicate {A = ℕ} size 0))

pub sealed_reply_short : ((m : Message) → length (spelling m) ≡ spelled_length m) → (endpoint : EndpointState) (came : Arrival Message) (reply : Reply) (sealed : List ℕ) (answer : Message) → length came.what.token ≤ 8 → answer ≡ response_with None (reply_to endpoint came reply) sealed → length (spelling answer) ≤ 14 + length sealed
sealed_reply_short law endpoint came reply sealed answer token whole =
    rw (whole, law (response_with None (reply_to endpoint came reply) sealed)) (sealed_short endpoint came reply sealed token)
