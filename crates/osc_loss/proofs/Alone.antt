-- A server to which nothing else comes stays ready: of it nothing changes but its message layer.
use Rattle.std.proofs.Common.{◌≡◌, ◌∙◌, sym, ap, subst, List, [], ◌∷◌}
use Rattle.osc_model.specs.{IsWithinLimits}
use Rattle.osc_model.specs.Tree.{Tree}
use Rattle.osc_model.specs.declared.algorithm.Algorithm.TheVariants.{EightByteTag}
use Rattle.osc_model.specs.declared.node.Draw.{Draw}
use Rattle.osc_model.specs.declared.node.Moment.{Moment}
use Rattle.osc_model.specs.declared.step.Step.{Step}
use Rattle.osc_ccm.specs.{Sealings}
use Rattle.osc_authz.specs.{DeskState, In, IsLive, IsTable, contexts}
use Rattle.osc_server.specs.State.{State as Server}
use Rattle.osc_rounds.specs.{Ends, IsWelcomeUnder, MakesContexts, Route}
use Rattle.osc_loss.specs.Alone.{IsAlone, IsAloneBy, IsAtFirst, IsAtFirstBy}
use Rattle.osc_loss.specs.Exchange.{MayAgree, PostOnItsWay}
use Rattle.osc_loss.specs.Road.{AtClient, AtServer, ClientTick, Event, Goes, Happening, Happens, IsReadyAtFirst, IsReadyBy, OtherAtClient, OtherAtServer, ServerTick}
use Rattle.osc_loss.specs.Session.{MayServe, RequestOnItsWay}

-- the server has the resources and the desk that this one has
pub record IsAs (first server : Server) : Type 0 where
  pub tree : server.tree ≡ first.tree
  pub desk : server.desk ≡ first.desk

module _ (is_sealing : Sealings) (Ready : Server → Moment → Draw → Type 0) (first : Server)
    (still : (server : Server) (now : Moment) (draw : Draw) → IsAs first server → Ready first now draw → Ready server now draw) where
  by_event : (route : Route) (old mid new : Ends) (later : List Happening) (rest : Goes is_sealing route mid later new) → IsAs first old.server
      → (event : Event) (step : Step) → Happens is_sealing route old event step mid → IsAloneBy event (IsAlone later) → IsAtFirstBy (Ready first) event (IsAtFirst (Ready first) later)
      → (IsAs first mid.server → IsAlone later → IsAtFirst (Ready first) later → IsReadyAtFirst is_sealing Ready route mid later new rest)
      → IsReadyBy is_sealing Ready old event (IsReadyAtFirst is_sealing Ready route mid later new rest)
  by_event route old mid new later rest stands (ClientTick now) step happens alone ready more = more (subst (λ (e : Ends). IsAs first e.server) (sym happens.2) stands) alone ready
  by_event route old mid new later rest stands (ServerTick now) step happens alone ready more =
      more
      (subst (λ (e : Ends). IsAs first e.server) (sym happens.2)
      (record { tree = ap (λ (s : Server). s.tree) happens.1.kept ∙ stands.tree; desk = ap (λ (s : Server). s.desk) happens.1.kept ∙ stands.desk }))
      alone ready
  by_event route old mid new later rest stands (AtServer now draw sent) step happens alone ready more = still old.server now draw stands ready
  by_event route old mid new later rest stands (AtClient now draw sent) step happens alone ready more = more (subst (λ (e : Ends). IsAs first e.server) (sym happens.1.2) stands) alone ready
  by_event route old mid new later rest stands (OtherAtServer came) step happens alone ready more = absurd alone
  by_event route old mid new later rest stands (OtherAtClient came) step happens alone ready more = more (subst (λ (e : Ends). IsAs first e.server) (sym happens.2) stands) alone ready

  pub ready_alone : (route : Route) (all : List Happening) (old new : Ends) (goes : Goes is_sealing route old all new) → IsAs first old.server → IsAlone all → IsAtFirst (Ready first) all
      → IsReadyAtFirst is_sealing Ready route old all new goes
  ready_alone route [] old new goes stands alone ready = tt
  ready_alone route (happening ∷ later) old new goes stands alone ready =
      by_event route old goes.0 new later goes.2 stands happening.event happening.step goes.1 alone ready
      (λ next alone_next ready_next. ready_alone route later goes.0 new goes.2 next alone_next ready_next)

pub may_serve_still : (request : RequestOnItsWay) (first server : Server) (now : Moment) (draw : Draw) → IsAs first server → MayServe request first now draw → MayServe request server now draw
may_serve_still request first server now draw stands may = record {
  lawful = record {
    limits = subst IsWithinLimits (sym stands.tree) may.lawful.limits;
    table = subst (λ (d : DeskState). IsTable d.table) (sym stands.desk) may.lawful.table;
  };
  held = may.held;
  here = subst (λ (d : DeskState). In may.held (contexts d.table)) (sym stands.desk) may.here;
  one_name = may.one_name;
  live = subst (λ (t : Tree). IsLive (record { at = now; tree = t }) may.held) (sym stands.tree) may.live;
  fresh = may.fresh;
}

pub may_agree_still : (is_sealing : Sealings) (post : PostOnItsWay) (first server : Server) (now : Moment) (draw : Draw) → IsAs first server → MayAgree is_sealing post first now draw
    → MayAgree is_sealing post server now draw
may_agree_still is_sealing post first server now draw stands may = record {
  token_key = may.token_key;
  welcome =
      subst
      (λ (t : Tree). IsWelcomeUnder (is_sealing EightByteTag) may.token_key server.desk (record { at = now; tree = t }) post.exchange.claims post.exchange.entries post.exchange.holder)
      (sym stands.tree)
      (subst
      (λ (d : DeskState). IsWelcomeUnder (is_sealing EightByteTag) may.token_key d (record { at = now; tree = first.tree }) post.exchange.claims post.exchange.entries post.exchange.holder)
      (sym stands.desk) may.welcome);
  makes = subst (λ (d : DeskState). MakesContexts d post.exchange.claims post.exchange.begun) (sym stands.desk) may.makes;
  draw_size = may.draw_size;
}
