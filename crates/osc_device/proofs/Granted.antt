-- A device whose token counts may post it.
use Rattle.std.proofs.Common.{◌≡◌, ◌≢◌, ◌∙◌, ap, inl, refl, sym, subst, ℕ, ◌<◌, ◌≤◌, Bool, true, if◌then◌else◌, List, [], ◌∷◌, length, drop, false, Option, Some, None, arith}
use Rattle.std.specs.Prelude.{IfSome}
use Rattle.std.proofs.lemmas.List.{length-drop, length-take}
use Rattle.osc_client.specs.{Exchanges, PostFits, begun_by}
use Rattle.osc_client.specs.State.{State as Client}
use Rattle.osc_model.specs.{is_revoked, nonce_drawn, token_drawn}
use Rattle.osc_server.specs.{standing_of}
use Rattle.osc_model.specs.declared.step.ClientResult.{ClientResult}
use Rattle.osc_model.specs.declared.step.ClientResult.TheVariants.{Refused}
use Rattle.osc_model.specs.declared.step.Step.{Step}
use Rattle.osc_dedup.specs.{looked}
use Rattle.osc_message.specs.{own_id}
use Rattle.osc_model.specs.declared.node.Draw.{Draw}
use Rattle.osc_model.specs.declared.node.Moment.{Moment}
use Rattle.osc_ccm.specs.{Sealings}
use Rattle.osc_authz.specs.{IsFull, KeepsPlace, alive, has_token, kept_places, known}
use Rattle.osc_authz.specs.Standing.{Standing}
use Rattle.osc_authz.specs.declared.token_entry.TokenEntry.{TokenEntry}
use Rattle.osc_scope.specs.{Entry}
use Rattle.osc_token.specs.declared.claims.Claims.{Claims}
use Rattle.osc_device.specs.{MayOpen, MayReturn, IsGranted, own_address}
use Rattle.osc_device.specs.State.{State}

-- an empty table is never full
at_most_one : (is : Bool) → (if is then 0 else 1) ≤ 1
at_most_one true = omega arith
at_most_one false = omega arith

few_places : (reserved : Option (List ℕ)) (id : List ℕ) → kept_places reserved id [] ≤ 1
few_places None id = omega arith
few_places (Some other) id = at_most_one _

nobody_there : (reserved : Option (List ℕ)) (id : List ℕ) (on : Standing) (table : List TokenEntry) → table ≡ [] → ¬ IsFull reserved id (alive on table)
nobody_there reserved id on table empty full =
    let none : IsFull reserved id (alive on []) = subst (λ (table : List TokenEntry). IsFull reserved id (alive on table)) empty full in
    absurd (omega (arith, none.many, few_places reserved id))

pub may_open : (is_sealing : Sealings) (device : State) (now : Moment) (draw : Draw) (claims : Claims) (entries : List Entry)
    → IsGranted is_sealing device claims entries → is_revoked device.server.desk.rules.revoked device.server.tree claims.material.id ≡ false
    → IfSome device.server.desk.rules.seconds (λ seconds. 0 < seconds)
    → device.own.waiting ≡ None → device.server.desk.table ≡ [] → device.server.endpoint.seen ≡ []
    → MayOpen is_sealing device now draw claims entries
may_open is_sealing device now draw claims entries granted unrevoked lasting idle empty unheard = record {
  may_exchange = record {
    idle = idle;
    token_key = device.server.desk.key;
    welcome = record {
      opens = inl refl;
      welcome = record {
        holds = granted.holds;
        lawful = granted.lawful;
        audience = granted.audience;
        begun = λ seconds is. let none = sym granted.not_before ∙ is in absurd cc;
        not_over = λ seconds is. let none = sym granted.expires ∙ is in absurd cc;
        allowed = granted.allowed;
        unrevoked = unrevoked;
        room = nobody_there device.server.desk.rules.reserved claims.material.id (standing_of device.server now) device.server.desk.table empty;
      };
    };
    makes = record {
      lasting = lasting;
      unknown = ap (known claims.material.id (nonce_drawn draw) ((begun_by device.own draw).recipient_id ∷ [])) empty;
    };
  };
  unheard = ap (looked now own_address (own_id draw device.own.endpoint.next_id)) unheard;
}

-- So may one for whose token a place is kept.
module _ (law : (on : Standing) (id : List ℕ) (table : List TokenEntry) → KeepsPlace (Some id) table → ¬ IsFull (Some id) id (alive on table)) where
  pub may_return : (is_sealing : Sealings) (device : State) (now : Moment) (draw : Draw) (claims : Claims) (entries : List Entry)
      → KeepsPlace device.server.desk.rules.reserved device.server.desk.table → MayReturn is_sealing device now draw claims entries
      → MayOpen is_sealing device now draw claims entries
  may_return is_sealing device now draw claims entries keeps may =
      let granted = may.granted in record {
        may_exchange = record {
          idle = may.idle;
          token_key = device.server.desk.key;
          welcome = record {
            opens = inl refl;
            welcome = record {
              holds = granted.holds;
              lawful = granted.lawful;
              audience = granted.audience;
              begun = λ seconds is. let none = sym granted.not_before ∙ is in absurd cc;
              not_over = λ seconds is. let none = sym granted.expires ∙ is in absurd cc;
              allowed = granted.allowed;
              unrevoked = may.unrevoked;
              room = subst (λ (reserved : Option (List ℕ)). ¬ IsFull reserved claims.material.id (alive (standing_of device.server now) device.server.desk.table)) (sym may.reserved)
                  (law (standing_of device.server now) claims.material.id device.server.desk.table
                  (subst (λ (reserved : Option (List ℕ)). KeepsPlace reserved device.server.desk.table) may.reserved keeps));
            };
          };
          makes = may.makes;
        };
        unheard = may.unheard;
      }

-- by which number it is refused, where it is
abbrev number_in : Option ClientResult → ℕ
number_in (Some (Refused number)) = number
number_in result = 0

-- a post that fits is never refused as too long
pub never_too_long : (old new : Client) (now : Moment) (draw : Draw) (step : Step) → length draw.0 ≡ 32 → PostFits old → Exchanges old now draw step new
    → step.notes.result ≢ Some (Refused 14)
never_too_long old new now draw step size fits (Exchanges.busy waits refused) is =
    let other : 17 ≡ 14 = ap number_in (sym (ap (λ (s : Step). s.notes.result) refused.told) ∙ is) in absurd (omega (arith, other))
never_too_long old new now draw step size fits (Exchanges.too_long idle long refused) is =
    let nonce : length (nonce_drawn draw) ≡ 8 = omega (arith, size, length-take 8 draw.0) in
    let token : length (token_drawn draw) ≡ 8 = omega (arith, size, length-drop 8 draw.0, length-take 8 (drop 8 draw.0)) in
    absurd (omega (arith, long, fits (begun_by old draw) (own_id draw old.endpoint.next_id) (token_drawn draw) nonce token))
never_too_long old new now draw step size fits (Exchanges.begins idle short spelled told kept) is =
    let none = sym (ap (λ (s : Step). s.notes.result) told) ∙ is in absurd cc
