-- Whose step an event is, what it is to do then, and how many datagrams it sends at most.
use Rattle.std.specs.Prelude.{ℕ, ◌≤◌, ◌<◌, ⊤, List, Option, Some, None, slice_get}
use Rattle.osc_context.specs.{greatest_number}
use Rattle.osc_run.specs.{Came, Due}
use Rattle.osc_client.specs.Steps as of_client
use Rattle.osc_proxy.specs.Steps as of_proxy
use Rattle.osc_world.specs.Nodes.{ClientTask, Begin, Ask, TellLie, Do, NodeStates, StartAgain, Take, Task, node_at, node_of}
use Rattle.osc_world.specs.declared.event.Event.{Event}
use Rattle.osc_world.specs.declared.event.What.{What}
use Rattle.osc_world.specs.declared.event.What.TheVariants as what
use Rattle.osc_world.specs.declared.log.SentDatagram.{SentDatagram}
use Rattle.osc_world.specs.declared.jobs.Job.{Job}
use Rattle.osc_world.specs.declared.jobs.Job.TheVariants as job
use Rattle.osc_world.specs.declared.jobs.ClientJob.{ClientJob}
use Rattle.osc_world.specs.declared.jobs.ClientJob.TheVariants as client_job
use Rattle.osc_world.specs.declared.nodes.Placed.{Placed}
use Rattle.osc_world.specs.declared.nodes.Whose.{Whose}
use Rattle.osc_world.specs.declared.nodes.Whose.TheVariants as whose

-- ---- whose step an event is

-- a datagram that was sent is for whom is where it comes to
abbrev pub hearer : NodeStates → Option SentDatagram → Whose
hearer nodes None = whose.Nobody
hearer nodes (Some datagram) = node_at nodes datagram.to

abbrev pub whose_step : NodeStates → List SentDatagram → What → Whose
whose_step nodes sent (what.Exchange client) = whose.Client client
whose_step nodes sent (what.Ask client request) = whose.Client client
whose_step nodes sent (what.Lie client number text) = whose.Client client
whose_step nodes sent (what.Tick node) = node_of node
whose_step nodes sent (what.Restart node) = node_of node
whose_step nodes sent (what.Deliver datagram) = hearer nodes (slice_get sent datagram)
whose_step nodes sent (what.Inject from to bytes) = node_at nodes to

-- ---- what it is to do

abbrev pub task_of : Event → Job → Task
task_of event (job.Hear from bytes) = Take (Came (record { at = event.moment; from = from; draw = event.draw; what = bytes.now }))
task_of event job.Tick = Take (Due event.moment event.draw)
task_of event job.StartAgain = StartAgain

abbrev pub client_task_of : Event → ClientJob → ClientTask
client_task_of event client_job.Begin = Begin event.moment event.draw
client_task_of event (client_job.Ask request) = Ask (record { at = event.moment; draw = event.draw; request = request.now })
client_task_of event (client_job.TellLie number text) = TellLie (record { number = number; text = text.now }) event.draw
client_task_of event (client_job.Do any) = Do (task_of event any)

-- a request has a code, and a lie's number is one that a seal may have
abbrev pub MayBeDone : ClientJob → Type 0
MayBeDone client_job.Begin = ⊤
MayBeDone (client_job.Ask request) = 0 < request.now.code.0
MayBeDone (client_job.TellLie number text) = number ≤ greatest_number
MayBeDone (client_job.Do any) = ⊤

-- ---- how many datagrams its step sends at most

abbrev pub most_of : {S : Type 0} → (S → ℕ) → Option (Placed S) → ℕ
most_of most None = 0
most_of most (Some placed) = most placed.node

abbrev pub most_sent : NodeStates → Whose → ℕ
most_sent nodes whose.Server = 1
most_sent nodes (whose.Client number) = most_of of_client.most_sent (slice_get nodes.clients number)
most_sent nodes (whose.Proxy number) = most_of of_proxy.most_sent (slice_get nodes.proxies number)
most_sent nodes whose.Nobody = 0
