-- The words of a client, with or without a file of their payload.
use Rattle.std.proofs.Common.{◌≡◌, ℕ, true, false, List, Option, Some, None, refl}
use Rattle.std.specs.Option.{IfSome, is_some}
use Rattle.osc_words.specs.declared.client_words.ClientWords.{ClientWords}
use Rattle.osc_programs.specs.{IsWithPayload, with_payload}
use Rattle.osc_programs.specs.Input.{IsWithin, longest_payload_file}

pub needs_none : (words : ClientWords) (named file : Option (List ℕ)) → is_some named ≡ false → IsWithPayload words named file words
needs_none words None file none = refl
needs_none words (Some name) file none = absurd cc

pub holds : (words filled : ClientWords) (named file : Option (List ℕ)) (payload : List ℕ) → is_some named ≡ true
    → IsWithin longest_payload_file file → IfSome file (λ known. payload ≡ known)
    → filled ≡ with_payload words payload → IsWithPayload words named file filled
holds words filled None file payload some within known is = absurd cc
holds words filled (Some name) file payload some within known is = (payload, within, known, is)
