use Rattle.std.proofs.Common.{◌++◌, List, ℕ, [], refl, sym, ap, ◌∙◌, arith}
use Rattle.osc_coap.specs.{bare, option_spelling, spelling}
use Rattle.osc_coap.specs.Message.{Message}
use Rattle.osc_protect.proofs.OuterLaws.{one_empty_option, start_length}
use Rattle.osc_protect.proofs.header.write_response_start.Goals as goal

pub write_start-requires-clause-room : goal.write_start-requires-clause-room
write_start-requires-clause-room c =
    omega (arith, c.requires.room, start_length c.length_of_growing.ensures.bare c.length_of_growing.ensures.option c.args.header)

pub append_empty_option-requires-clause-room : goal.append_empty_option-requires-clause-room
append_empty_option-requires-clause-room c =
    omega (arith, c.requires.room, c.write_start.ensures.length, c.write_start.ensures.capacity, start_length c.length_of_growing.ensures.bare c.length_of_growing.ensures.option c.args.header)

pub returns-clause-spelled : goal.returns-clause-spelled
returns-clause-spelled c =
    let header = c.args.header in
    let start = bare header.kind 68 header.id header.token.now in
    let same = one_empty_option header in
    record {
      lawful = rw (sym same) (c.growing.ensures.option start 9 [] (c.growing.ensures.bare header.kind 68 header.id header.token.now (omega arith) c.requires.token (λ zero_code. absurd (omega arith))) (omega arith)
          (record { rises = omega arith; number = omega arith; size = omega arith }));
      whole = c.append_empty_option.ensures.written
          ∙ ap (λ (t : List ℕ). t ++ option_spelling 0 (9, [])) c.write_start.ensures.written
          ∙ sym (c.spelling_of_growing.ensures.option start 9 [] refl)
          ∙ ap (λ (m : Message). spelling m) same;
    }

pub returns-clause-length : goal.returns-clause-length
returns-clause-length c =
    omega (arith, c.append_empty_option.ensures.length, c.write_start.ensures.length, start_length c.length_of_growing.ensures.bare c.length_of_growing.ensures.option c.args.header)
