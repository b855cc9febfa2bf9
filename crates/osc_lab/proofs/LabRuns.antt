-- A lab's steps are those of a run.
use Rattle.std.proofs.Common.{ℕ, Bool, List, Option, Some, None, subst, sym}
use Rattle.osc_model.specs.Tree.{Tree}
use Rattle.osc_run.specs.{IsReached}
use Rattle.osc_script.specs.declared.client_name.ClientName.{ClientName}
use Rattle.osc_script.specs.declared.line.Line.{Line}
use Rattle.osc_world.specs.declared.nodes.Whose.{Whose}
use Rattle.osc_lab.specs.{ComesOf, Leads, LineBegins, LiveLab, Prints, Rules, TakesTurns, TellsLines, Turn, Turns, WholeTurn, WholeTurns, all_taken, begins, client_of, next_turn, next_whole_turn, no_turn, no_whole_turn, nobody, rested, run_of, stays, then_line, then_turn}
use Rattle.osc_lab.specs.Network.{Network}
use Rattle.osc_lab.specs.Telling.{next_line, no_line}

module _ {P : Type 0} (net : Network P) where
  pub reached : (first : Tree) (old new : LiveLab P) → Leads net old new → IsReached (run_of first old.lab) → IsReached (run_of first new.lab)
  reached first old _ stays begun = begun
  reached first old new (then_turn who busy between _ so_far turn) begun = turn.goes.runs first (reached first old between so_far begun)
  reached first old new (then_line asked number between _ so_far (nobody none same)) begun =
      subst (λ (live : LiveLab P). IsReached (run_of first live.lab)) (sym same) (reached first old between so_far begun)
  reached first old new (then_line asked number between _ so_far (begins step)) begun = step.goes.runs first (reached first old between so_far begun)

  -- ---- what a lab does leads on

  pub leads_more : (first between last : LiveLab P) → Leads net first between → Leads net between last → Leads net first last
  leads_more first between _ so_far stays = so_far
  leads_more first between last so_far (then_turn who busy next _ further turn) = then_turn who busy next last (leads_more first between next so_far further) turn
  leads_more first between last so_far (then_line asked number next _ further line) = then_line asked number next last (leads_more first between next so_far further) line

  pub turn_leads : (who : Whose) (busy : Bool) (old new : LiveLab P) → Turn net who busy old new → Leads net old new
  turn_leads who busy old new turn = then_turn who busy old new stays turn

  pub begin_leads : (asked : Line) (number : ℕ) (old new : LiveLab P) → LineBegins net asked number old new → Leads net old new
  begin_leads asked number old new line = then_line asked number old new stays line

  pub turns_lead : (who : ℕ → Whose) (first : LiveLab P) (n : ℕ) (busy : Bool) (last : LiveLab P) → Turns net who first n busy last → Leads net first last
  turns_lead who first _ _ _ no_turn = stays
  turns_lead who first _ _ last (next_turn n some busy between _ so_far turn) = then_turn (who n) busy between last (turns_lead who first n some between so_far) turn

  pub whole_leads : (busy : Bool) (old new : LiveLab P) → WholeTurn net busy old new → Leads net old new
  whole_leads busy old new whole =
      leads_more old whole.served new (then_turn _ _ old whole.served stays whole.server)
      (leads_more whole.served whole.forwarded new (turns_lead _ whole.served _ _ whole.forwarded whole.proxies) (turns_lead _ whole.forwarded _ _ new whole.clients))

  pub whole_turns_lead : (number : ℕ) (first : LiveLab P) (n : ℕ) (last : LiveLab P) → WholeTurns net number first n last → Leads net first last
  whole_turns_lead number first _ _ no_whole_turn = stays
  whole_turns_lead number first _ last (next_whole_turn n busy between _ so_far whole goes_on) =
      leads_more first between last (whole_turns_lead number first n between so_far) (whole_leads busy between last whole)

  pub taken_leads : (number most : ℕ) (first last : LiveLab P) → TakesTurns net number most first last → Leads net first last
  taken_leads number most first last (all_taken all) = whole_turns_lead number first most last all
  taken_leads number most first last (rested n between lt so_far whole waits) =
      leads_more first between last (whole_turns_lead number first n between so_far) (whole_leads _ between last whole)

  line_leads : (rules : Rules) (asked : Line) (client : Option ClientName) (old : LiveLab P) (text : List ℕ) (new : LiveLab P) → ComesOf net rules asked client old text new
      → Leads net old new
  line_leads rules asked None old text new comes = subst (λ (live : LiveLab P). Leads net old live) (sym comes.1) stays
  line_leads rules asked (Some client) old text new comes =
      leads_more old comes.begun new (then_line asked _ old comes.begun stays comes.begins) (taken_leads _ rules.turns comes.begun new comes.takes)

  lines_lead : (rules : Rules) (first : LiveLab P) (lines : List Line) (text : List ℕ) (last : LiveLab P) → TellsLines net rules first lines text last → Leads net first last
  lines_lead rules first _ _ _ no_line = stays
  lines_lead rules first _ _ last (next_line lines next text some between _ so_far comes) =
      leads_more first between last (lines_lead rules first lines text between so_far) (line_leads rules next (client_of next) between some last comes)

  pub prints_leads : (number : ℕ) (lines : List Line) (text : List ℕ) (old new : LiveLab P) → Prints net number lines old text new → Leads net old new
  prints_leads number lines text old new prints = lines_lead _ old lines prints.told new prints.tells
