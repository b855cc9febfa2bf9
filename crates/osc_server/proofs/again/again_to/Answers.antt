use Rattle.std.proofs.Common.{◌≡◌, ap, ◌∙◌, [], arith}
use Rattle.osc_coap.specs.{bare, with_option, with_payload}
use Rattle.osc_model.specs.{code, bare as bare_reply}
use Rattle.osc_message.specs.{reply_start}
use Rattle.osc_server.proofs.Replies.{again_is}
use Rattle.osc_server.proofs.again.again_to.Goals as goal

pub returns : goal.returns
returns c =
    let header = c.header_to-header.result in
    let endpoint = c.args.endpoint.now in
    let came = c.args.came.now in
    let start : bare header.kind 68 header.id header.token.now ≡ reply_start came.draw endpoint.next_id came.what 68 = c.header_to-header.ensures.header (bare_reply (code 2 4)) in
    let first : c.option.new.self ≡ with_option c.start-message.result 9 [] = rw c.unwrap.ensures at c.option.ensures.ok in
    let second : c.payload.new.self ≡ with_payload c.option.new.self c.reply.result.now = rw c.unwrap-2.ensures at c.payload.ensures.ok in
    let optioned : c.option.new.self ≡ with_option (bare header.kind 68 header.id header.token.now) 9 [] = first ∙ (λ i. with_option (c.start-message.ensures i) 9 []) in
    second ∙ (λ i. with_payload (optioned i) (c.reply.ensures.reply i)) ∙ (λ i. with_payload (with_option (start i) 9 []) c.args.last.now.reply) ∙ again_is endpoint came c.args.last.now
