use Rattle.std.proofs.Common.{◌≡◌, ◌+◌, ◌≤◌, List, ℕ, length, ap, subst, ◌∙◌, arith}
use Rattle.std.specs.Option.{IfSome, IsSome}
use Rattle.osc_coap.specs.{plaintext_spelling}
use Rattle.osc_context.specs.{algorithm_of}
use Rattle.osc_protect.specs.{length_of_request, longest_message, plain_bytes, request_length, request_value}
use Rattle.osc_protect.proofs.LengthLemmas.{least_protected}
use Rattle.osc_protect.proofs.SealLaws.{drafted, request_size, request_text, text_of, whole}
use Rattle.osc_protect.proofs.request.draft_request.Goals as goal

pub returns-in-Ok : goal.returns-in-Ok
returns-in-Ok g c =
    let inside = c.a_written_request.ensures.inside in
    let outer = c.a_written_request.ensures.outside in
    let lawful = c.token-token.ensures.lawful.options in
    let outside = c.args.outside.now in
    let request = c.args.request.now in
    let name = c.args.name.now in
    let number = c.args.number in
    let result = c.draft_outer.result in
    let made = c.draft_outer.ensures in
    let bytes : plaintext_spelling c.write_request.new.plaintext ≡ text_of request = ap plaintext_spelling c.in-Ok.ensures.ok in
    let text : length (plaintext_spelling c.write_request.new.plaintext) ≡ length (plain_bytes (whole outside request)) = ap length (bytes ∙ request_text inside outer outside request lawful) in
    let size : length_of_request (length (plaintext_spelling c.write_request.new.plaintext) + g.A.Ciphers.TAG (algorithm_of name)) name number outside ≡ request_length g.A.Ciphers.TAG name number (whole outside request) =
    ap (λ (t : List ℕ). length_of_request (length t + g.A.Ciphers.TAG (algorithm_of name)) name number outside) bytes
    ∙ request_size inside outer g.A.Ciphers.TAG name number outside request lawful in
    let fits = subst (λ (n : ℕ). (IsSome result → n ≤ longest_message) × (n ≤ longest_message → IsSome result)) size made.fits in
    record {
      drafted = λ some. drafted inside outer g.A.Ciphers.TAG name number outside request c.draft_outer.new.draft lawful (made.outer some) (ap plaintext_spelling made.text ∙ bytes) (fits.0 some);
      size = subst (λ (n : ℕ). IfSome result (λ s. s ≡ record { plaintext = length (plain_bytes (whole outside request)); message = n })) size
          (subst (λ (n : ℕ). IfSome result (λ s. s ≡ record { plaintext = n; message = length_of_request (length (plaintext_spelling c.write_request.new.plaintext) + g.A.Ciphers.TAG (algorithm_of name)) name number outside })) text made.size);
      fits = fits;
    }

pub returns-in-Err-clause-fits : goal.returns-in-Err-clause-fits
returns-in-Err-clause-fits g c =
    let outside = c.args.outside.now in
    let request = c.args.request.now in
    let name = c.args.name.now in
    let number = c.args.number in
    let least = least_protected c.length_of_growing.ensures.payload outside 2 (request_value name number) (length (text_of request) + g.A.Ciphers.TAG (algorithm_of name)) in
    let size = request_size c.a_written_request.ensures.inside c.a_written_request.ensures.outside g.A.Ciphers.TAG name number outside request c.token-token.ensures.lawful.options in
    (λ no. cc, λ fits. cc (c.in-Err.ensures.fits.1 (omega (arith, least, size, fits))))
