use Rattle.std.proofs.Common.{refl}
use Rattle.osc_loss.proofs.Alone.{may_agree_still, may_serve_still, ready_alone}
use Rattle.osc_loss.specs.Exchange.{MayAgree}
use Rattle.osc_loss.specs.Session.{MayServe}
use Rattle.osc_loss.proofs.laws.a_server_alone_stays_ready.Goals as goal

pub returns-clause-serves : goal.returns-clause-serves
returns-clause-serves g c =
    λ request all start last goes alone ready.
    ready_alone g.A.Ciphers.is_sealing (MayServe request) start.server (may_serve_still request start.server) request.route all start last goes (record { tree = refl; desk = refl }) alone ready

pub returns-clause-agrees : goal.returns-clause-agrees
returns-clause-agrees g c =
    λ post all start last goes alone ready.
    ready_alone g.A.Ciphers.is_sealing (MayAgree g.A.Ciphers.is_sealing post) start.server (may_agree_still g.A.Ciphers.is_sealing post start.server) post.route all start last goes (record { tree = refl; desk = refl }) alone ready
