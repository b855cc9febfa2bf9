-- Words spell a request exactly where one is read, and it is that one.
use Rattle.std.proofs.Common.{◌≡◌, ℕ, List, [], ◌∷◌, Some, sym, ap, subst, ◌∙◌}
use Rattle.std.specs.Option.{ForSome}
use Rattle.osc_model.specs.{IsPath}
use Rattle.osc_model.specs.declared.request.Request.{Request}
use Rattle.osc_script.specs.{plain_request, SpellRequest}
use Rattle.osc_script.specs.Inner.Reading.{◌>>=◌, kept_in, method_in, request_in}
use Rattle.osc_script.proofs.Found.{step_found}
use Rattle.osc_script.proofs.Nodes.{method_found, method_again}
use Rattle.osc_script.proofs.Payloads.{kept_found, kept_again}

request_is : (x y : Request) → Some x ≡ Some y → x ≡ y
request_is x y e = cc

pub request_found : (words : List (List ℕ)) (request : Request) → request_in words ≡ Some request → ForSome request.path IsPath → SpellRequest words request
unfolding request_in
request_found [] request e has = absurd cc
request_found (a ∷ []) request e has = absurd cc
request_found (a ∷ b ∷ []) request e has = absurd cc
request_found (method ∷ path ∷ bytes ∷ []) request e has =
    let m = step_found (method_in method) (λ m. kept_in bytes >>= λ payload. Some (plain_request m path payload)) request e in
    let p = step_found (kept_in bytes) (λ payload. Some (plain_request m.0 path payload)) request m.2 in
    let is : plain_request m.0 path p.0 ≡ request = request_is (plain_request m.0 path p.0) request p.2 in (
      m.0,
      path,
      bytes,
      p.0,
      ap (λ (w : List ℕ). w ∷ path ∷ bytes ∷ []) (method_found method m.0 m.1),
      has path (ap (λ (r : Request). r.path) (sym is)),
      kept_found bytes p.0 p.1,
      sym is,
    )
request_found (a ∷ b ∷ c ∷ d ∷ words) request e has = absurd cc

some_path : (path other : List ℕ) → IsPath path → Some path ≡ Some other → IsPath other
some_path path other is e = let same : path ≡ other = cc in subst IsPath same is

pub request_again : (words : List (List ℕ)) (request : Request) → SpellRequest words request → (request_in words ≡ Some request) × ForSome request.path IsPath
unfolding request_in
request_again words request s =
    let read : request_in words ≡ Some request = ap request_in s.4 ∙ rw (method_again s.0, kept_again s.2 s.3 s.6) (ap Some (sym s.7)) in
    (read, λ path e. some_path s.1 path s.5 (sym (ap (λ (r : Request). r.path) s.7) ∙ e))
