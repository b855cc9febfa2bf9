use Rattle.osc_proxy.proofs.laws.a_request_goes_there_and_back.Goals as goal

pub returns : goal.returns
returns c =
    λ proxy passed passage step lawful takes_up back hears.
    let there = c.a_request_is_forwarded.ensures proxy passed passage step takes_up hears in
    record {
      there = there;
      back = λ later draw response second brought answers_it hears_it.
          let comes = c.an_answer_goes_back.ensures proxy passed brought passage later draw response step second lawful takes_up back there answers_it hears_it in
          record {
            back = comes;
            ends = λ last last_draw third rested ends.
                c.an_acknowledgement_ends_it.ensures proxy brought rested passage response last last_draw second third comes ends;
          };
    }
