use Rattle.std.proofs.Common.{refl}
use Rattle.osc_cbor.specs.{map}
use Rattle.osc_authz.specs.{Posts}
use Rattle.osc_authz.proofs.desk.ServerDesk.post_bytes.Goals as goal

pub returns-in-None-clause-posted : goal.returns-in-None-clause-posted
returns-in-None-clause-posted g c =
    let none = rw c.in-None.is at c.whole.ensures in
    Posts.no_post (λ token nonce1 client_id post. none (map post.fields) post.whole) c.refused.ensures refl
