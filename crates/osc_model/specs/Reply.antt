-- The replies of the tree, and entity tags (RFC 7252 sections 5.9 and 5.10.6).
use Rattle.std.specs.Prelude.{ℕ, ◌/◌, ◌%◌, Bool, ◌==◌, List, [], ◌∷◌, ◌++◌, take, Option, Some, None}
use Rattle.std.specs.List.{list_any}
use Rattle.sha2.specs.Sha256.{sha256}
use Rattle.osc_model.specs.Code.{code}
use Rattle.osc_model.specs.declared.code.Code.{Code}
use Rattle.osc_model.specs.declared.reply.Reply.{Reply}
use Rattle.osc_model.specs.declared.resource.Resource.{Resource}

-- no Content-Format as 00, or 01 and the Content-Format in two bytes, big-endian
abbrev pub format_bytes : Option ℕ → List ℕ
format_bytes None = 0 ∷ []
format_bytes (Some format) = 1 ∷ format / 256 ∷ format % 256 ∷ []

-- a resource's ETag: the first 8 bytes of SHA-256 over its format and its payload
unfoldable pub etag_of : Resource → List ℕ
etag_of resource = take 8 (sha256 (format_bytes resource.format ++ resource.payload))

-- a reply with neither options nor payload
abbrev pub bare : Code → Reply
bare c = record { code = c; etag = None; format = None; payload = [] }

-- 2.05 Content: the resource with its ETag, and its Content-Format where it has one
abbrev pub content : Resource → Reply
content resource = record { code = code 2 5; etag = Some (etag_of resource); format = resource.format; payload = resource.payload }

-- 5.00 Internal Server Error, the answer for lack of memory
abbrev pub out_of_memory : Reply
out_of_memory = bare (code 5 0)

-- the replies that take memory: 2.01 Created, 2.04 Changed and 2.05 Content
abbrev pub takes_memory : Reply → Bool
takes_memory reply = list_any (λ c. c == reply.code.0) (65 ∷ 68 ∷ 69 ∷ [])
