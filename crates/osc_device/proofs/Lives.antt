-- The lives of a device are one run.
use Rattle.std.proofs.Common.{◌≡◌, ◌∙◌, ap, sym, refl, ℕ, List, [], ◌++◌, None, arith}
use Rattle.osc_ccm.specs.{Sealings}
use Rattle.osc_client.specs.{core as client_core, outstanding, restarted}
use Rattle.osc_client.specs.State.{State as Client}
use Rattle.osc_model.specs.{quiet}
use Rattle.osc_model.specs.declared.node.Moment.{Moment}
use Rattle.osc_run.specs.{ClientStep, Noted, ServerState, ServerStep, WorldState}
use Rattle.osc_server.specs.{core as server_core}
use Rattle.osc_server.specs.State.{State as Server}
use Rattle.osc_world.specs.{Beginning}
use Rattle.osc_device.specs.{GoesOn, IsBegun, IsIn, restarts, server_alone}
use Rattle.osc_device.specs.State.{State}
use Rattle.osc_device.specs.declared.own_token.OwnToken.{OwnToken}
use Rattle.osc_device.specs.declared.own_token.ServerParts.{ServerParts}
use Rattle.osc_device.proofs.Going.{device, of_client_step, of_server_step, then}

-- the moment of a restart is in no note
some_moment : Moment
some_moment = record { ms = 0; early = omega arith }

-- what a run knows of the server of a beginning
abbrev server_of : Beginning → ServerState
server_of start = record { contexts = []; tree = start.first; rules = start.rules }

module _ (is_sealing : Sealings) (own : OwnToken) where
  begins : (parts : ServerParts) (device : State) → IsBegun is_sealing parts own device → server_core device.server ≡ server_of (server_alone parts own.id)
  begins parts device is = ap (λ (s : Server). server_core s) is.server ∙ ap server_of is.enrols.is

  -- it has no context, and waits for nothing
  begins_alone : (parts : ServerParts) (device : State) → IsBegun is_sealing parts own device → client_core device.own ≡ client_core (restarted device.own)
  begins_alone parts device is =
      let context : device.own.context ≡ None = ap (λ (c : Client). c.context) is.own_is ∙ is.enrols.enrolled.client.context in
      let waiting : device.own.waiting ≡ None = ap (λ (c : Client). c.waiting) is.own_is ∙ is.enrols.enrolled.client.waiting in
      λ i. record { desk = device.own.desk; context = context i; outstanding = outstanding (context i) (waiting i) }

  module _ (parts : ServerParts) (first last next : State) (is : IsBegun is_sealing parts own first)
      (again : IsBegun is_sealing (record parts { tree = last.server.tree }) own next) (same : next.own.desk ≡ first.own.desk)
      (number : ℕ) (steps : List Noted) (v : WorldState) (is_in : IsIn number first v) (goes : GoesOn number steps v last) where
    rules : (server_core last.server).rules ≡ (server_alone parts own.id).rules
    rules =
        sym (ap (λ (s : ServerState). s.rules) goes.is_in.server) ∙ goes.rules ∙ ap (λ (s : ServerState). s.rules) is_in.server
        ∙ ap (λ (s : ServerState). s.rules) (begins parts first is)

    server : server_core next.server ≡ record (server_core last.server) { contexts = [] }
    server = begins (record parts { tree = last.server.tree }) next again ∙ (λ i. record { contexts = []; tree = last.server.tree; rules = sym rules i })

    client : client_core next.own ≡ client_core (restarted last.own)
    client =
        begins_alone (record parts { tree = last.server.tree }) next again
        ∙ (λ i. record { desk = (same ∙ sym (goes.desk (client_core first.own) is_in.own)) i; context = None; outstanding = outstanding None None })

    pub lives_on : GoesOn number (restarts number ++ steps) v next
    lives_on =
        let started = of_server_step number goes.w last.server next.server last.own some_moment quiet goes.reached goes.is_in
        (ServerStep.ServerRestarted (record { noted = refl; is = server })) in
        then number steps (restarts number) v last next goes
        (then number _ _ goes.w (device next.server last.own) next started
        (of_client_step number started.w next.server last.own next.own quiet started.reached started.is_in
        (ClientStep.ClientRestarted refl (record { noted = refl; is = client }))))
