use Rattle.std.proofs.Common.{◌≡◌, ◌∙◌, ◌||◌, Bool, ap, is_some, map}
use Rattle.osc_turn.specs.{busy_after, grown}
use Rattle.osc_lab.specs.{posted}
use Rattle.osc_lab.proofs.Taken.{came_as}
use Rattle.osc_lab.proofs.turning.turn_of.Goals as goal

pub returns-clause-takes : goal.returns-clause-takes
returns-clause-takes g c =
    let done = c.in_ok-received.ensures.done in
    let sent = c.send_out-fault.ensures in
    let was : c.is_busy-was_busy.result ≡ is_some c.args.port.now.pace.busy_since = c.is_busy-was_busy.ensures in
    record {
      now = c.in_ok-now.now;
      draw = c.in_ok-now.draw;
      came = done.0;
      gives = c.in_ok-now.ensures.gives;
      makes = done.3;
      turns = record {
        came_in = came_as _ done.0 _ _ _ done.1 sent.not_received;
        handed = sent.sent ∙ ap (λ out. grown (g.P.Port.sent c.step_at.new.port.port) (map (posted c.args.cast.addresses.now) out)) c.as_slice.ensures
            ∙ ap (λ told. grown told (map (posted c.args.cast.addresses.now) c.in_ok-received.field-0.step.out)) c.in_ok-received.ensures.not_sent;
        pace = c.in_ok-received.ensures.pace ∙ ap (busy_after c.args.port.now.pace.busy_since c.in_ok-now.now) done.2;
      };
      is_busy = c.either.ensures ∙ ap (λ (last : Bool). last || c.in_ok-received.field-0.received) was ∙ ap (λ (came : Bool). is_some c.args.port.now.pace.busy_since || came) done.2;
    }
