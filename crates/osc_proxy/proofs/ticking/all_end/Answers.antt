use Rattle.std.proofs.Common.{◌≡◌, ◌++◌, Bool, true, false, List, [], sym, ap, ◌∙◌, subst, append_assoc, append-nil, arith, None}
use Rattle.std.specs.Prelude.{if◌then◌else◌}
use Rattle.std.specs.Option.{option_to_list}
use Rattle.osc_coap.specs.{spelling}
use Rattle.osc_model.specs.declared.step.Datagram.{Datagram}
use Rattle.osc_message.specs.{EndpointState}
use Rattle.osc_proxy.specs.{first_key, back_sends, AllEnd, is_over, timeout, without_its}
use Rattle.osc_proxy.specs.State.{State}
use Rattle.osc_proxy.specs.Ticks.AllEnd.{none_is, one_is}
use Rattle.osc_proxy.proofs.Fits.{sendable_back, sendable_both}
use Rattle.osc_proxy.proofs.Keys.{first_is_there, none_is_there}
use Rattle.osc_proxy.proofs.ticking.all_end.Goals as goal

pub returns-in_default : goal.returns-in_default
returns-in_default c =
    let here = c.loop in
    let none : first_key (is_over c.args.tick.at c.args.tick.given_up.now) here.exchanges ≡ None = sym c.find_over.ensures ∙ c.in_default.is in (
      here.invariant.so_far,
      here.invariant.sent,
      λ targets.
          let last : State = record { targets = targets; exchanges = here.exchanges; endpoint = here.endpoint } in
          let first : State = record { targets = targets; exchanges = c.args.exchanges.now; endpoint = c.args.endpoint.now } in
          subst (λ out. AllEnd c.args.tick.at c.args.tick.draw.now c.args.tick.given_up.now first out last) (append-nil here.invariant.so_far)
          (here.invariant.ends targets [] last (none_is last none)),
      here.invariant.fits,
    )

pub end-sent-requires : goal.end-sent-requires
end-sent-requires c =
    let there = first_is_there (is_over c.args.tick.at c.args.tick.given_up.now) c.loop.exchanges c.in-Some.key (sym c.find_over.ensures ∙ c.in-Some.is) in
    record { exchange = there.exchange; is = there.is }

-- one more goes after the others, or is lost as they are
one_more : (room : Bool) (front so_far sent out : List Datagram) → sent ≡ out
    → (front ++ (if room then so_far else [])) ++ (if room then sent else []) ≡ front ++ (if room then so_far ++ out else [])
one_more true front so_far sent out is = append_assoc front so_far sent ∙ ap (λ xs. front ++ (so_far ++ xs)) is
one_more false front so_far sent out is = append-nil (front ++ [])

pub loop-preserved : goal.loop-preserved
loop-preserved c =
    let here = c.loop in
    let kept = here.invariant in
    let room = c.args.room in
    let exchange = c.end-sent.ensures.ended.0 in
    let closes = c.end-sent.ensures.ended.1 in
    let sent = c.end-sent.ensures.ended.2 in
    let after = c.end-sent.ensures.ended.3 in
    let short = c.end-sent.ensures.ended.4 in
    let now = c.args.tick.at in
    let draw = c.args.tick.draw.now in
    let names = c.args.tick.given_up.now in
    let left = without_its here.endpoint exchange in
    let out = back_sends left exchange (timeout here.endpoint draw exchange) in
    record {
      so_far = kept.so_far ++ out;
      sent = c.put.ensures.items
          ∙ ap (λ xs. xs ++ (if room then option_to_list c.end-sent.result else [])) kept.sent
          ∙ one_more room c.args.out.now.items kept.so_far (option_to_list c.end-sent.result) out sent;
      fits = sendable_both kept.so_far out kept.fits
          (sendable_back exchange.confirmable left exchange.client (spelling (timeout here.endpoint draw exchange)) short);
      ends = λ targets later last more.
          let first : State = record { targets = targets; exchanges = c.args.exchanges.now; endpoint = c.args.endpoint.now } in
          let was : State = record { targets = targets; exchanges = here.exchanges; endpoint = here.endpoint } in
          let table = c.end-sent.new.exchanges in
          subst (λ xs. AllEnd now draw names first xs last) (sym (append_assoc kept.so_far out later))
          (kept.ends targets (out ++ later) last
          (one_is was last table c.in-Some.key exchange later (sym c.find_over.ensures ∙ c.in-Some.is) closes c.end-sent.ensures.ended.5
          (subst (λ (s : EndpointState). AllEnd now draw names (record { targets = targets; exchanges = table; endpoint = s }) later last) after more)));
      places = λ has. omega (arith, kept.places has, c.put.ensures.len, c.put.ensures.capacity, c.end-sent.ensures.count);
      count = omega (arith, kept.count, c.end-sent.ensures.count);
    }

pub returns : goal.returns
returns c =
    let here = c.loop in
    let none = none_is_there (is_over c.args.tick.at c.args.tick.given_up.now) here.exchanges (omega (arith, here.invariant.count, c.loop-test.false, c.count-end.ensures.value)) in (
      here.invariant.so_far,
      here.invariant.sent,
      λ targets.
          let last : State = record { targets = targets; exchanges = here.exchanges; endpoint = here.endpoint } in
          let first : State = record { targets = targets; exchanges = c.args.exchanges.now; endpoint = c.args.endpoint.now } in
          subst (λ out. AllEnd c.args.tick.at c.args.tick.draw.now c.args.tick.given_up.now first out last) (append-nil here.invariant.so_far)
          (here.invariant.ends targets [] last (none_is last none)),
      here.invariant.fits,
    )
