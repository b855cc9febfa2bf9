-- The abstract machine: what one request does to a tree of resources under a scope (RFC 7252 section 5.8).
use Rattle.std.specs.Prelude.{◌≡◌, ◌⊎◌, ℕ, if◌then◌else◌, IsTrue, List, Option, Some, None, Result, Ok, Err}
use Rattle.std.specs.FinMap as map
use Rattle.osc_model.specs.Code.{code, method_of}
use Rattle.osc_model.specs.Tree.{Tree}
use Rattle.osc_model.specs.Scope.{Scope}
use Rattle.osc_model.specs.Reply.{bare, content, out_of_memory, takes_memory}
use Rattle.osc_model.specs.Checks.{written, refusal}
use Rattle.osc_model.specs.declared.code.Code.{Code}
use Rattle.osc_model.specs.declared.code.Method.{Method}
use Rattle.osc_model.specs.declared.code.Method.TheVariants.{Get, Delete}
use Rattle.osc_model.specs.declared.request.Request.{Request}
use Rattle.osc_model.specs.declared.reply.Reply.{Reply}
use Rattle.osc_model.specs.declared.resource.Resource.{Resource}

pub record Outcome : Type 0 where
  pub tree : Tree
  pub reply : Reply

abbrev pub unchanged : Tree → Code → Outcome
unchanged tree c = record { tree = tree; reply = bare c }

abbrev pub read : Tree → Option Resource → Outcome
read tree None = unchanged tree (code 4 4)
read tree (Some resource) = record { tree = tree; reply = content resource }

-- 2.04 Changed where something was there, else 2.01 Created
abbrev pub write : Tree → List ℕ → Option Resource → Outcome
write tree path None = unchanged tree (code 4 5)
write tree path (Some resource) =
    record {
      tree = map.insert tree path resource;
      reply = bare (if map.contains_key tree path then code 2 4 else code 2 1);
    }

-- What a request does that no check refuses. DELETE answers 2.02 also where nothing was.
abbrev pub perform : Tree → List ℕ → Option Method → Request → Outcome
perform tree path (Some Get) request = read tree (map.get tree path)
perform tree path (Some Delete) request = record { tree = map.remove tree path; reply = bare (code 2 2) }
perform tree path method request = write tree path (written method (map.get tree path) request)

abbrev pub refused_or : Tree → Option Code → Outcome → Outcome
refused_or tree (Some c) outcome = unchanged tree c
refused_or tree None outcome = outcome

-- `root` is the server's revocation path, if it has one.
-- Uri-Path options that make no path name nothing that a scope has: 4.03 Forbidden
abbrev pub apply_at : Option (List ℕ) → Tree → Scope → Option (List ℕ) → Request → Outcome
apply_at root tree scope None request = unchanged tree (code 4 3)
apply_at root tree scope (Some path) request = refused_or tree (refusal root tree scope path request) (perform tree path (method_of request.code) request)

-- the reply to a request, and the tree after it
unfoldable pub apply : Option (List ℕ) → Tree → Scope → Request → Outcome
apply root tree scope request = apply_at root tree scope request.path request

-- The first two checks are of a plaintext's bytes (RFC 8613 section 5.3): reading them gives the request, or the code
-- that answers, 4.00 where they are no code, options and payload, or 4.02 for an option that can't be handled.
abbrev pub apply_read : Option (List ℕ) → Tree → Scope → Result Request Code → Outcome
apply_read root tree scope (Ok request) = apply root tree scope request
apply_read root tree scope (Err c) = unchanged tree c

-- the reply is the machine's, or 5.00 in place of one that takes memory
abbrev pub MayReply : Outcome → Reply → Type 0
MayReply outcome reply = (reply ≡ outcome.reply) ⊎ ((reply ≡ out_of_memory) × IsTrue (takes_memory outcome.reply))
