-- The reply that a text is.
use Rattle.std.proofs.Common.{◌≡◌, inl, inr, ◌∙◌, sym, ap, ℕ, List, Option, Some, None, Result, Ok, Err, refl}
use Rattle.osc_model.specs.declared.reply.Reply.{Reply}
use Rattle.osc_coap.specs.{SpellsPlaintext, plaintext_at}
use Rattle.osc_coap.specs.Plaintext.{Plaintext}
use Rattle.osc_options.specs.{if_reply, reply_of_plaintext, IsMemoryAside, IsReplyIn}
use Rattle.osc_options.specs.declared.error.PlaintextError.{PlaintextError}
use Rattle.osc_options.specs.declared.error.PlaintextError.TheVariants.{Format, Memory}

-- what was read as a reply is one
pub reads_as : (text : List ℕ) (came : Result Reply PlaintextError) (reply : Reply)
    → ((p : Plaintext) → plaintext_at text ≡ Some p → SpellsPlaintext text p)
    → ((p : Plaintext) → SpellsPlaintext text p → plaintext_at text ≡ Some p)
    → ((p : Plaintext) → SpellsPlaintext text p → IsMemoryAside Memory (reply_of_plaintext p) came)
    → (((p : Plaintext) → ¬ SpellsPlaintext text p) → came ≡ Err Format)
    → came ≡ Ok reply → IsReplyIn text reply
reads_as text came reply at again plain none is = by (plaintext_at text) refl
  where
    due : (p : Plaintext) → SpellsPlaintext text p → IsMemoryAside Memory (reply_of_plaintext p) came → IsReplyIn text reply
    due p spelled (inl same) = record { plaintext = p; spelled = spelled; says = ap if_reply (sym same ∙ is) }
    due p spelled (inr memory) = let wrong : Err Memory ≡ Ok reply = sym memory.1 ∙ is in absurd (cc)

    by : (found : Option Plaintext) → plaintext_at text ≡ found → IsReplyIn text reply
    by (Some p) found = due p (at p found) (plain p (at p found))
    by None found =
        let wrong : Err Format ≡ Ok reply = sym (none (λ p spelled. let bad : None ≡ Some p = sym found ∙ again p spelled in cc)) ∙ is in
        absurd (cc)
