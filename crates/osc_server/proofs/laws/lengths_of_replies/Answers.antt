use Rattle.std.proofs.Common.{◌≤◌, ℕ, List, length, Option, Result, Ok, Err, sym, ap, subst, arith}
use Rattle.osc_model.specs.{apply_read, IsWithinLimits}
use Rattle.osc_model.specs.Scope.{Scope}
use Rattle.osc_model.specs.Tree.{Tree}
use Rattle.osc_model.specs.declared.code.Code.{Code}
use Rattle.osc_model.specs.declared.reply.Reply.{Reply}
use Rattle.osc_model.specs.declared.request.Request.{Request}
use Rattle.osc_run.specs.{Replies, Applied, OutOfMemory}
use Rattle.osc_options.specs.{read_request}
use Rattle.osc_server.proofs.Replies.{read_reply_short, text_short}
use Rattle.osc_server.proofs.laws.lengths_of_replies.Goals as goal

machine : (root : Option (List ℕ)) (tree : Tree) (scope : Scope) (r : Result Request Code) → IsWithinLimits tree → length (apply_read root tree scope r).reply.payload ≤ 512
machine root tree scope (Ok request) limits = (read_reply_short root tree scope request limits).payload
machine root tree scope (Err c) limits = omega arith

by : (root : Option (List ℕ)) (old new : Tree) (scope : Scope) (r : Result Request Code) (reply : Reply) → IsWithinLimits old → Replies old (apply_read root old scope r) reply new → length reply.payload ≤ 512
by root old new scope r reply limits (Applied is tree) = subst (λ (it : Reply). length it.payload ≤ 512) (sym is) (machine root old scope r limits)
by root old new scope r reply limits (OutOfMemory takes is tree) = omega (arith, ap (λ (it : Reply). length it.payload) is)

pub returns-clause-payload : goal.returns-clause-payload
returns-clause-payload c = λ root old new scope text reply limits applied. by root old new scope (read_request text) reply limits applied

pub returns-clause-text : goal.returns-clause-text
returns-clause-text c = λ reply code etag payload. text_short c.length_of_plaintext.ensures 512 reply (record { code = code; etag = etag; payload = payload })
