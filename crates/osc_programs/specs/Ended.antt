-- How the programs end: their exit statuses, and what ends them.
use Rattle.std.specs.Prelude.{◌≡◌, ℕ, List, ◌++◌, if◌then◌else◌, Option, Some, None, nat_le, unwrap_or, codes, decimal}
use Rattle.std.specs.Option.{option_map_or}
use Rattle.std.specs.declared.io.ErrorKind.{ErrorKind}
use Rattle.std.specs.declared.io.ErrorKind.TheVariants as kind
use Rattle.clap.specs.Words.{kind_of}
use Rattle.clap.specs.declared.error.kind.ErrorKind.{ErrorKind as WordsKind}
use Rattle.clap.specs.declared.error.kind.ErrorKind.TheVariants as words_kind
use Rattle.osc_model.specs.declared.request.Request.{Request}
use Rattle.osc_token.specs.declared.claims.Claims.{Claims}
use Rattle.osc_words.specs.declared.words.WordsError.{WordsError}
use Rattle.osc_words.specs.declared.words.WordsError.TheVariants.{Clap, Value, NotOne, Unread, Memory}
use Rattle.osc_programs.specs.declared.ended.Ended.{Ended}
use Rattle.osc_programs.specs.declared.ended.Ended.TheVariants.{Done, BadCommandLine, BadLine, TooLong, BadSettings, OutOfMemory, Failed, PortFailed, NotDone, Unopened, NotKept}

abbrev pub status_of : Ended → ℕ
status_of Done = 0
status_of BadCommandLine = 2
status_of (BadLine number) = 2
status_of TooLong = 2
status_of BadSettings = 2
status_of OutOfMemory = 3
status_of Failed = 4
status_of PortFailed = 4
status_of NotDone = 1
status_of (Unopened error) = 4
status_of (NotKept error) = 4

-- ---- how each program may end

-- memory wanted, or an input, an output, the clock, the generator or a port failed
abbrev pub IsFault : Ended → Type 0
IsFault OutOfMemory = Unit {0}
IsFault Failed = Unit {0}
IsFault PortFailed = Unit {0}
IsFault other = ⊥

-- no settings could be read
abbrev pub NoSettings : Ended → Type 0
NoSettings BadSettings = Unit {0}
NoSettings other = IsFault other

-- no script could be read
abbrev pub NoScript : Ended → Type 0
NoScript TooLong = Unit {0}
NoScript OutOfMemory = Unit {0}
NoScript Failed = Unit {0}
NoScript other = ⊥

-- `osc sim`
abbrev pub EndsSim : Ended → Type 0
EndsSim Done = Unit {0}
EndsSim (BadLine number) = Unit {0}
EndsSim TooLong = Unit {0}
EndsSim OutOfMemory = Unit {0}
EndsSim Failed = Unit {0}
EndsSim other = ⊥

-- `osc token`
abbrev pub EndsToken : Ended → Type 0
EndsToken Done = Unit {0}
EndsToken BadCommandLine = Unit {0}
EndsToken OutOfMemory = Unit {0}
EndsToken Failed = Unit {0}
EndsToken other = ⊥

-- a lab can't begin, or go on
abbrev pub CannotLab : Ended → Type 0
CannotLab (BadLine number) = Unit {0}
CannotLab TooLong = Unit {0}
CannotLab other = IsFault other

-- `osc lab`
abbrev pub EndsLab : Ended → Type 0
EndsLab Done = Unit {0}
EndsLab other = CannotLab other

-- a node's turns
abbrev pub EndsTurns : Ended → Type 0
EndsTurns Done = Unit {0}
EndsTurns other = IsFault other

-- a change isn't kept
abbrev pub IsNotKept : Ended → Type 0
IsNotKept (NotKept error) = Unit {0}
IsNotKept other = ⊥

-- a turn of a node whose steps are kept fails
abbrev pub EndsUnkept : Ended → Type 0
EndsUnkept (NotKept error) = Unit {0}
EndsUnkept other = IsFault other

-- the turns of such a node
abbrev pub EndsKept : Ended → Type 0
EndsKept Done = Unit {0}
EndsKept other = EndsUnkept other

-- a store can't be opened
abbrev pub NotOpened : Ended → Type 0
NotOpened (Unopened error) = Unit {0}
NotOpened other = IsFault other

-- or its first resources aren't kept
abbrev pub NoStore : Ended → Type 0
NoStore (NotKept error) = Unit {0}
NoStore other = NotOpened other

-- a server has no settings, or its store isn't opened
abbrev pub NoServer : Ended → Type 0
NoServer BadSettings = Unit {0}
NoServer other = NoStore other

-- a server's turns, with a store or without
abbrev pub EndsServing : Ended → Type 0
EndsServing (Unopened error) = Unit {0}
EndsServing other = EndsKept other

-- `osc server`
abbrev pub EndsServer : Ended → Type 0
EndsServer BadSettings = Unit {0}
EndsServer other = EndsServing other

-- `osc store`
abbrev pub EndsStore : Ended → Type 0
EndsStore Done = Unit {0}
EndsStore other = NotOpened other

-- `osc proxy`, and settings that are only read
abbrev pub EndsNode : Ended → Type 0
EndsNode Done = Unit {0}
EndsNode other = NoSettings other

-- a request with the code 0.00 is no request, and can't be sent
abbrev pub CannotTalk : Request → Ended → Type 0
CannotTalk request BadCommandLine = request.code.0 ≡ 0
CannotTalk request other = IsFault other

-- the client can't begin, or go on
abbrev pub CannotAsk : Request → Ended → Type 0
CannotAsk request BadSettings = Unit {0}
CannotAsk request other = CannotTalk request other

-- a client that sends many requests can't go on
abbrev pub CannotTalkEach : Ended → Type 0
CannotTalkEach BadCommandLine = Unit {0}
CannotTalkEach other = IsFault other

-- or it can't begin
abbrev pub CannotAskEach : Ended → Type 0
CannotAskEach BadSettings = Unit {0}
CannotAskEach other = CannotTalkEach other

-- `osc client --requests`
abbrev pub EndsEach : Ended → Type 0
EndsEach Done = Unit {0}
EndsEach NotDone = Unit {0}
EndsEach other = CannotAskEach other

-- the outcome was told, or not
abbrev pub EndsTold : Ended → Type 0
EndsTold Done = Unit {0}
EndsTold NotDone = Unit {0}
EndsTold OutOfMemory = Unit {0}
EndsTold Failed = Unit {0}
EndsTold other = ⊥

-- `osc client`: it alone ends with status 1
abbrev pub EndsClient : Request → Ended → Type 0
EndsClient request Done = Unit {0}
EndsClient request NotDone = Unit {0}
EndsClient request other = CannotAsk request other

-- ---- what ends them

-- how a program ends whose command line has this fault: who asks for help or the version gets it
abbrev pub ended_by_kind : WordsKind → Ended
ended_by_kind words_kind.DisplayHelp = Done
ended_by_kind words_kind.DisplayVersion = Done
ended_by_kind words_kind.OutOfMemory = OutOfMemory
ended_by_kind other = BadCommandLine

abbrev pub ended_by : WordsError → Ended
ended_by (Clap error) = ended_by_kind (kind_of error)
ended_by (Value option) = BadCommandLine
ended_by (NotOne option) = BadCommandLine
ended_by (Unread option) = Failed
ended_by Memory = OutOfMemory

-- lack of memory is told apart from other faults of an input or an output
abbrev pub ended_by_io : ErrorKind → Ended
ended_by_io kind.OutOfMemory = OutOfMemory
ended_by_io _ = Failed

-- while the command line is read, a word that isn't UTF-8 is a bad one
abbrev pub started_by_io : ErrorKind → Ended
started_by_io kind.InvalidData = BadCommandLine
started_by_io error = ended_by_io error

-- what is told where no token was printed
abbrev pub token_fault_of : Ended → Option (List ℕ)
token_fault_of BadCommandLine = Some (codes "error: the claims have more than 65535 bytes")
token_fault_of OutOfMemory = Some (codes "out of memory")
token_fault_of ended = None

-- what a token is printed with that has no `exp`, or that never counts from this second on: it is over already, or before it begins
abbrev pub expiry_warning : Claims → ℕ → ℕ → Option (List ℕ)
expiry_warning claims now expires =
    if nat_le expires now then Some (codes "warning: the token is over already")
    else if nat_le expires (unwrap_or claims.not_before 0) then Some (codes "warning: the token is over before it begins")
    else None

abbrev pub token_warning_of : Claims → ℕ → Option (List ℕ)
token_warning_of claims now =
    option_map_or (expiry_warning claims now) claims.expires
    (Some (codes "warning: without --exp the token never expires, and keeps one of the server's 64 places"))

-- what is told where a program ended that runs nodes on sockets
abbrev pub running_fault_of : Ended → Option (List ℕ)
running_fault_of (BadLine number) = Some (codes "line " ++ decimal number ++ codes ": bad")
running_fault_of TooLong = Some (codes "the script has more than 16777216 bytes")
running_fault_of BadSettings = Some (codes "settings: bad")
running_fault_of OutOfMemory = Some (codes "out of memory")
running_fault_of PortFailed = Some (codes "port failed")
running_fault_of ended = None
