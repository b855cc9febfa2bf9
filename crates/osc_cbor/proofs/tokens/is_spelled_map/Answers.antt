use Rattle.std.proofs.Common.{sym, ◌∙◌, eqb-true, eq-eqb}
use Rattle.osc_cbor.specs.{map}
use Rattle.osc_cbor.proofs.TokenLaws.{token_kind, token_there, map_of_kind}
use Rattle.osc_cbor.proofs.tokens.is_spelled_map.Goals as goal

pub returns-in-Ok-clause-map : goal.returns-in-Ok-clause-map
returns-in-Ok-clause-map c = λ d s e. map_of_kind d (sym (token_kind c.args.bytes.now d _ _ s c.in-Ok.ensures) ∙ eqb-true _ _ e ∙ c.number.ensures)

pub returns-in-Ok-clause-only : goal.returns-in-Ok-clause-only
returns-in-Ok-clause-only c = λ pairs s. eq-eqb _ _ (token_kind c.args.bytes.now (map pairs) _ _ s c.in-Ok.ensures ∙ sym c.number.ensures)

pub returns-in-Err-clause-only : goal.returns-in-Err-clause-only
returns-in-Err-clause-only c = λ pairs s. absurd (token_there c.args.bytes.now (map pairs) _ s c.in-Err.ensures)
