use Rattle.std.proofs.Common.{◌≡◌, ap, length, subst, sym, ◌∙◌, arith}
use Rattle.std.proofs.lemmas.List.{length-map}
use Rattle.std.specs.List.{filter_map, zip}
use Rattle.osc_message.specs.{IsSound, messages, repeated_to}
use Rattle.osc_message.proofs.Limits.{slowed_more}
use Rattle.osc_message.proofs.Sound.{each_due, done_slowed, done_ticked, plan_is, sound_paced, sound_ticked}
use Rattle.osc_message.proofs.tick.act.Goals as goal

pub slow_all-requires : goal.slow_all-requires
slow_all-requires c =
    let sending = c.args.sending.now.items in
    let planned = plan_is c.args.pace.now c.args.now sending c.deref.result.now c.make_plan-plan.new.dues.items c.deref-3.result.now c.deref.ensures.value c.make_plan-plan.ensures.dues c.deref-3.ensures.value in
    omega (arith, each_due c.args.pace.now c.args.now (messages sending) c.deref-3.result.now planned, length-map sending (λ q. q.message), ap length c.deref-2.ensures.value)

pub apply-requires-clause-each : goal.apply-requires-clause-each
apply-requires-clause-each c =
    let sending = c.args.sending.now.items in
    let planned = plan_is c.args.pace.now c.args.now sending c.deref.result.now c.make_plan-plan.new.dues.items c.deref-4.result.now c.deref.ensures.value c.make_plan-plan.ensures.dues c.deref-4.ensures.value in
    omega (arith, each_due c.args.pace.now c.args.now (messages sending) c.deref-4.result.now planned, length-map sending (λ q. q.message), c.deref.ensures.len, ap length c.deref.ensures.value)

pub returns-clause-items : goal.returns-clause-items
returns-clause-items c =
    let sending = c.args.sending.now.items in
    let planned = plan_is c.args.pace.now c.args.now sending c.deref.result.now c.make_plan-plan.new.dues.items c.deref-4.result.now c.deref.ensures.value c.make_plan-plan.ensures.dues c.deref-4.ensures.value in
    done_ticked c.args.pace.now c.args.now (messages sending) c.deref-4.result.now (messages c.apply.new.sending.items) planned c.apply.ensures.items

pub returns-clause-pace : goal.returns-clause-pace
returns-clause-pace c =
    let sending = c.args.sending.now.items in
    let planned = plan_is c.args.pace.now c.args.now sending c.deref.result.now c.make_plan-plan.new.dues.items c.deref-3.result.now c.deref.ensures.value c.make_plan-plan.ensures.dues c.deref-3.ensures.value in
    done_slowed c.args.pace.now c.args.now sending c.deref-2.result.now c.deref-3.result.now c.slow_all.new.pace c.deref-2.ensures.value planned c.slow_all.ensures

pub returns-clause-more : goal.returns-clause-more
returns-clause-more c = ap (λ p. p.more) c.slow_all.ensures ∙ slowed_more (filter_map repeated_to (zip (messages c.deref-2.result.now) c.deref-3.result.now)) c.args.pace.now

pub returns-clause-sound : goal.returns-clause-sound
returns-clause-sound c =
    let sending = c.args.sending.now.items in
    let pace = c.args.pace.now in
    let planned = plan_is pace c.args.now sending c.deref.result.now c.make_plan-plan.new.dues.items c.deref-4.result.now c.deref.ensures.value c.make_plan-plan.ensures.dues c.deref-4.ensures.value in
    let more : c.slow_all.new.pace.more ≡ pace.more = ap (λ p. p.more) c.slow_all.ensures ∙ slowed_more (filter_map repeated_to (zip (messages c.deref-2.result.now) c.deref-3.result.now)) pace in
    record {
      sound = subst (IsSound c.slow_all.new.pace) (sym (done_ticked pace c.args.now (messages sending) c.deref-4.result.now (messages c.apply.new.sending.items) planned c.apply.ensures.items))
          (sound_paced pace c.slow_all.new.pace _ (sym more) (sound_ticked pace c.args.now (messages sending) c.requires.sound.sound));
      placed = c.apply.ensures.placed c.requires.sound.placed;
    }
