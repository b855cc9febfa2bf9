-- From the lines of a script to the lines of its trace.
use Rattle.std.specs.Prelude.{◌≡◌, ◌⊎◌, ◌↔◌, ℕ, ◌+◌, ◌==◌, if◌then◌else◌, Bool, true, false, IsTrue, List, [], ◌∷◌, ◌++◌, drop, length, Option, Some, None, codes}
use Rattle.std.specs.FinMap as map
use Rattle.std.specs.FinSet as set
use Rattle.osc_model.specs.{Answer, alone, default_port, exactly}
use Rattle.osc_model.specs.Tree.{Tree}
use Rattle.osc_model.specs.Scope.{Scope}
use Rattle.osc_model.specs.declared.code.Method.TheVariants.{Get}
use Rattle.osc_ccm.specs.{IsSealing, Sealing, Sealings, Tags, chosen_sealing, chosen_tag}
use Rattle.osc_client.specs.{HostAndPort}
use Rattle.osc_client.specs.declared.route.Route.{Route}
use Rattle.osc_proxy.specs.declared.targets.Target.{Target}
use Rattle.osc_run.specs.{history, grants_of}
use Rattle.osc_run.specs.Premise.{Premise}
use Rattle.osc_options.specs.{read_request}
use Rattle.osc_world.specs.{settled, skipped, Rounds, Beginning, Enrols, begun, new_proxy, State, Happens}
use Rattle.osc_world.specs.declared.event.What.{What}
use Rattle.osc_world.specs.declared.start.NewHolder.{NewHolder}
use Rattle.osc_script.specs.{claims_of, iv_of, token_key, address_of, client_name, IsScript}
use Rattle.osc_script.specs.declared.client_name.ClientName.{ClientName}
use Rattle.osc_script.specs.declared.line.Line.{Line}
use Rattle.osc_script.specs.declared.line.Line.TheVariants.{Put, Open, Revoked, Grant, Via, At, Draw, Drop, Skip, Quiet}
use Rattle.osc_script.specs.declared.node.NodeName.TheVariants.{Server, Client, Proxy}
use Rattle.osc_script.specs.declared.read.ScriptError.{ScriptError}
use Rattle.osc_script.specs.declared.read.ScriptError.TheVariants.{BadLine, OutOfMemory}
use Rattle.osc_script.specs.declared.proxy_name.ProxyName.{ProxyName}
use Rattle.osc_token.specs.declared.claims.Claims.{Claims}
use Rattle.osc_simulation.specs.Draw.{drawn}
use Rattle.osc_simulation.specs.Events.{datagram_number, what_of}
use Rattle.osc_simulation.specs.Names.{Names, made, names_in, number_of}
use Rattle.osc_simulation.specs.Records.{PrintAllRecords}
use Rattle.osc_simulation.specs.Text.{line as line_text}
use Rattle.osc_simulation.specs.Trace.{alone_text, end_text, numbered}
use Rattle.osc_simulation.specs.declared.error.TraceError.{TraceError}
use Rattle.osc_simulation.specs.declared.error.TraceError.TheVariants as trace_error
use Rattle.osc_simulation.specs.declared.stage.Stage.{Stage}
use Rattle.osc_simulation.specs.declared.trace.TraceForm.{TraceForm}

-- ---- the world before the first event

-- the resources that the set-up lines put
abbrev pub tree_after : Tree → Line → Tree
tree_after tree (Put path resource) = map.insert tree path resource
tree_after tree line = tree

abbrev pub tree_from : Tree → List Line → Tree
tree_from tree [] = tree
tree_from tree (line ∷ lines) = tree_from (tree_after tree line) lines

-- the paths whose GET needs no protection
abbrev pub scope_after : Scope → Line → Scope
scope_after scope (Open path) = set.insert scope (exactly path Get)
scope_after scope line = scope

abbrev pub scope_from : Scope → List Line → Scope
scope_from scope [] = scope
scope_from scope (line ∷ lines) = scope_from (scope_after scope line) lines

-- the revocation path, if a line says one
abbrev pub revocation_in : List Line → Option (List ℕ)
revocation_in [] = None
revocation_in (Revoked path ∷ lines) = Some path
revocation_in (line ∷ lines) = revocation_in lines

-- it seals and opens by AES-CCM with tags of 8 bytes or of 16, by the algorithm
abbrev pub sealing_of : ℕ → Sealing
sealing_of size key nonce aad text sealed = IsSealing key size nonce aad text sealed

abbrev pub is_sealing : Sealings
is_sealing = chosen_sealing (sealing_of 8) (sealing_of 16)

abbrev pub tag_of : Tags
tag_of = chosen_tag 8 16

-- the server, as proxies know it: by the host `s` and its port
abbrev pub server_origin : HostAndPort
server_origin = record { host = codes "s"; port = default_port }

-- the proxy by which a line says that the client sends, if one does
abbrev pub proxy_of : ClientName → List Line → Option ProxyName
proxy_of client [] = None
proxy_of client (Via other proxy ∷ lines) = if other.digit == client.digit then Some proxy else proxy_of client lines
proxy_of client (line ∷ lines) = proxy_of client lines

-- the way to the server: by this proxy, or straight
abbrev pub way_by : Option ProxyName → Route
way_by None = record { next_hop = address_of Server; origin = None }
way_by (Some proxy) = record { next_hop = address_of (Proxy proxy); origin = Some server_origin }

-- a client that a line grants these claims to, as the grant of this number, from 1: it is at its address, and sends as the lines say
abbrev pub holder_of : List Line → ℕ → ClientName → Claims → NewHolder
holder_of lines number client claims =
    record { at = address_of (Client client); way = way_by (proxy_of client lines); claims = claims; iv = iv_of number }

-- a line of a script of these lines that grants enrolls its client
abbrev pub Enrolled : List Line → Beginning → Line → Beginning → Type 0
Enrolled all old (Grant client scope not_before expires alg) new =
    let number = length old.clients + 1 in
    Enrols is_sealing old (holder_of all number client (claims_of number scope not_before expires alg)) new
Enrolled all old line new = new ≡ old

abbrev pub AllEnrolled : List Line → Beginning → List Line → Beginning → Type 0
AllEnrolled all old [] new = new ≡ old
AllEnrolled all old (line ∷ lines) new = (next : Beginning) × Enrolled all old line next × AllEnrolled all next lines new

-- what a proxy forwards to: the server alone
abbrev pub targets : List Target
targets = record { host = codes "s"; port = default_port; peer = address_of Server } ∷ []

-- a proxy is at its address, after the others
abbrev pub with_new_proxy : Beginning → ProxyName → Beginning
with_new_proxy start proxy = record start { proxies = start.proxies ++ new_proxy (address_of (Proxy proxy)) targets ∷ [] }

-- all of these, in order
abbrev pub with_proxies : Beginning → List ProxyName → Beginning
with_proxies start [] = start
with_proxies start (proxy ∷ proxies) = with_proxies (with_new_proxy start proxy) proxies

-- Nobody is enrolled yet. Tokens are sealed under the key 40 to 4f alone, for the audience `s`.
abbrev pub first_start : List Line → Beginning
first_start lines = record {
  first = tree_from map.empty lines;
  open_scope = scope_from set.empty lines;
  key = token_key;
  old_key = None;
  audience = codes "s";
  rules = record { revoked = revocation_in lines; seconds = None; remembered = 0; reserved = None; subtrees = true; answers = false };
  server_at = address_of Server;
  minted = [];
  clients = [];
  proxies = [];
}

-- what the lines make before anything happens
abbrev pub IsStartOf : List Line → Beginning → Type 0
IsStartOf lines start = (enrolled : Beginning) × AllEnrolled lines (first_start lines) lines enrolled × (start ≡ with_proxies enrolled (made lines))

-- the world before the first event
abbrev pub Begins : List Line → State → Type 0
Begins lines world = (start : Beginning) × IsStartOf lines start × (world ≡ begun start)

-- ---- the lines, one after another

-- How far a script has come is a `Stage`: its world, the moment, and what the last `draw` line gave. At first the moment is 0, and no
-- line gave a draw.
pub record IsFirst (stage : Stage) : Type 0 where
  pub moment : stage.moment.ms ≡ 0
  pub draws : stage.draws ≡ None

-- the most deliveries of a quiet round
abbrev pub quiet_limit : ℕ
quiet_limit = 1000

-- this happens, at the moment and with the draw of the event
abbrev pub Comes : Stage → What → Stage → Type 0
Comes old what new =
    (world : State) × Happens is_sealing tag_of old.world (record { moment = old.moment; draw = drawn old.draws (length old.world.records); what = what }) world
    × (new ≡ record old { world = world })

-- nothing happens by a line that is no event
abbrev pub ComesOf : Stage → Option What → Stage → Type 0
ComesOf old None new = new ≡ old
ComesOf old (Some what) new = Comes old what new

-- what waits is delivered, and whether nothing waits then
abbrev pub Quiets : Stage → Bool → Stage → Type 0
Quiets old quiet new =
    (world : State) × Rounds (Happens is_sealing tag_of) (record { drawn = drawn old.draws; at = old.moment }) quiet_limit old.world quiet world
    × (new ≡ record old { world = world })

-- what a line does, and whether a quiet round left nothing that waits
abbrev pub Does : Names → Stage → Line → Bool → Stage → Type 0
-- at MS: this is the moment from here on
Does names old (At moment) quiet new = (quiet ≡ true) × (new ≡ record old { moment = moment })
-- draw HEX16: the next event is given these first bytes
Does names old (Draw first) quiet new = (quiet ≡ true) × (new ≡ record old { draws = Some (record { event = length old.world.records; first = first }) })
-- drop K: the datagram waits no more
Does names old (Drop datagram) quiet new =
    (quiet ≡ true) × (new ≡ record old { world = record old.world { sent = settled (datagram_number old.world.sent datagram) old.world.sent } })
-- skip CLIENT N: the client's next number is raised
Does names old (Skip client number) quiet new =
    (quiet ≡ true) × (new ≡ record old { world = record old.world { nodes = skipped (number_of names.clients client) number old.world.nodes } })
-- quiet: what waits is delivered
Does names old Quiet quiet new = Quiets old quiet new
-- and the others are one event, or none
Does names old line quiet new = (quiet ≡ true) × ComesOf old (what_of names old.world.sent line) new

-- not quiet
abbrev pub quiet_text : Bool → List ℕ
quiet_text true = []
quiet_text false = line_text (codes "not quiet")

-- after the number of the script's line, where that is wanted
abbrev pub behind_number : Bool → ℕ → List ℕ → List ℕ
behind_number false number text = text
behind_number true number text = numbered number text

-- how a trace is printed: its form, and the names of its script
pub record Printing : Type 0 where
  pub form : TraceForm
  pub names : Names

-- the line of this number prints the events that it brought, and that a quiet round was stopped
abbrev pub PrintsLine : Printing → ℕ → Stage → Line → List ℕ → Stage → Type 0
PrintsLine printing number old line text new =
    (quiet : Bool) × (events : List ℕ) × Does printing.names old line quiet new
    × PrintAllRecords printing.form.bytes printing.names.clients new.world (drop (length old.world.records) new.world.records) events
    × (text ≡ behind_number printing.form.lines number (events ++ quiet_text quiet))

-- the lines one after another, of which the first has this number
abbrev pub Prints : Printing → ℕ → Stage → List Line → List ℕ → Stage → Type 0
Prints printing number old [] text last = (text ≡ []) × (last ≡ old)
Prints printing number old (line ∷ lines) text last =
    (first rest : List ℕ) × (next : Stage) × PrintsLine printing number old line first next × Prints printing (number + 1) next lines rest last
    × (text ≡ first ++ rest)

-- the end lines of a world
pub record IsEnd (world : State) (text : List ℕ) : Type 0 where
  pub held : Bool
  pub tells : IsTrue held ↔ Premise world.minted world.steps
  pub whole : text ≡ end_text world.nodes.server.tree (length (history world.steps)) held

-- what the entries of a client are answered where they alone follow the first resources; one that no line grants to has none
abbrev pub alone_in : Names → State → ClientName → List Answer
alone_in names world client = alone read_request world.nodes.server.desk.rules.revoked (grants_of world.minted) (number_of names.clients client) world.first (history world.steps)

-- the lines of that, if a client is wanted
abbrev pub only_text : Names → State → Option ClientName → List ℕ
only_text names world None = []
only_text names world (Some client) = alone_text (client_name client) (alone_in names world client)

-- the trace of a script: what its events print, the end lines, and what the wanted client's entries are answered alone
abbrev pub IsTrace : TraceForm → Option ClientName → List Line → List ℕ → Type 0
IsTrace form only lines text =
    (events end : List ℕ) × (first last : Stage) × Begins lines first.world × IsFirst first
    × Prints (record { form = form; names = names_in lines }) 1 first lines events last
    × IsEnd last.world end × (text ≡ events ++ end ++ only_text (names_in lines) last.world only)

-- what a script's text prints
abbrev pub Simulates : TraceForm → Option ClientName → List ℕ → List ℕ → Type 0
Simulates form only script text = (lines : List Line) × IsScript script lines × IsTrace form only lines text

-- ---- a trace that ends early

-- why there is no trace of a text that is no script
abbrev pub untraced : ScriptError → TraceError
untraced (BadLine n) = trace_error.BadLine n
untraced OutOfMemory = trace_error.OutOfMemory

-- What a run from this stage printed of its trace: what the lines before some place did, or that of all and the end lines.
pub data IsFront (printing : Printing) (first : Stage) (lines : List Line) (text : List ℕ) : Type 0 where
  in_lines : (before after : List Line) (last : Stage) → lines ≡ before ++ after → Prints printing 1 first before text last → IsFront printing first lines text
  at_end : (events end : List ℕ) (last : Stage) → Prints printing 1 first lines events last → IsEnd last.world end → text ≡ events ++ end
      → IsFront printing first lines text

-- What a trace of these lines printed that ends for lack of memory: nothing, where there was none for the world, or a front.
pub data IsCut (form : TraceForm) (lines : List Line) (text : List ℕ) : Type 0 where
  at_once : text ≡ [] → IsCut form lines text
  later : (first : Stage) → Begins lines first.world → IsFirst first → IsFront (record { form = form; names = names_in lines }) first lines text → IsCut form lines text

-- the same of a script's text, for whose lines there may have been none
abbrev pub CutShort : TraceForm → List ℕ → List ℕ → Type 0
CutShort form script text = (text ≡ []) ⊎ ((lines : List Line) × IsScript script lines × IsCut form lines text)
