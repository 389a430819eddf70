-- What a place carries. Where it carries no number, block or total, or nothing of a wait, a call or an identification, none of its
-- actions asks for it. Assumes nothing.
use Rattle.std.specs.Prelude.{ℕ}
use Rattle.mode_a.specs.declared.Number.{Number}
use Rattle.mode_a.specs.declared.Number.TheVariants.{One}
use Rattle.mode_a.specs.declared.Mark.{Mark}
use Rattle.mode_a.specs.declared.Succession.{Succession}
use Rattle.mode_a.specs.declared.Stage.{Stage}
use Rattle.mode_a.specs.declared.Words.{Words}
use Rattle.mode_a.specs.declared.Waiting.{Waiting}
use Rattle.mode_a.specs.declared.Called.{Called}
use Rattle.mode_a.specs.declared.Called3.{Called3}
use Rattle.mode_a.specs.declared.Identified.{Identified}
use Rattle.mode_a.specs.declared.Gathered.{Gathered}
use Rattle.mode_a.specs.declared.Place.{Place}
use Rattle.mode_a.specs.declared.Place.TheVariants.{Sending, Turning, Opening, Ending, Receiving, Asking, StandBy, Lost, Calling, Calling3, Identifying, Answering}
use Rattle.mode_a.specs.Station.{silence, no_identity, no_seven}

abbrev pub number_in : Place → Number
number_in (Sending h) = h.number
number_in (Turning n) = n
number_in Opening = One
number_in (Ending e) = e.number
number_in (Receiving n) = n
number_in Asking = One
number_in (StandBy w) = One
number_in Lost = One
number_in (Calling c) = One
number_in (Calling3 c) = One
number_in (Identifying i) = One
number_in (Answering g) = One

abbrev pub block_in : Place → Words
block_in (Sending h) = h.block
block_in (Turning n) = silence
block_in Opening = silence
block_in (Ending e) = silence
block_in (Receiving n) = silence
block_in Asking = silence
block_in (StandBy w) = silence
block_in Lost = silence
block_in (Calling c) = silence
block_in (Calling3 c) = silence
block_in (Identifying i) = silence
block_in (Answering g) = silence

abbrev pub total_in : Place → ℕ
total_in (Sending h) = 0
total_in (Turning n) = 0
total_in Opening = 0
total_in (Ending e) = e.total
total_in (Receiving n) = 0
total_in Asking = 0
total_in (StandBy w) = 0
total_in Lost = 0
total_in (Calling c) = 0
total_in (Calling3 c) = 0
total_in (Identifying i) = 0
total_in (Answering g) = 0

abbrev unheard : Waiting
unheard = record { wait = 0; heard = Mark.None; heard3 = Succession.None }

abbrev pub waiting_in : Place → Waiting
waiting_in (Sending h) = unheard
waiting_in (Turning n) = unheard
waiting_in Opening = unheard
waiting_in (Ending e) = unheard
waiting_in (Receiving n) = unheard
waiting_in Asking = unheard
waiting_in (StandBy w) = w
waiting_in Lost = unheard
waiting_in (Calling c) = unheard
waiting_in (Calling3 c) = unheard
waiting_in (Identifying i) = unheard
waiting_in (Answering g) = unheard

abbrev uncalled : Called
uncalled = record { to = no_identity.four; sent = 0; last = Mark.None }

abbrev pub called_in : Place → Called
called_in (Sending h) = uncalled
called_in (Turning n) = uncalled
called_in Opening = uncalled
called_in (Ending e) = uncalled
called_in (Receiving n) = uncalled
called_in Asking = uncalled
called_in (StandBy w) = uncalled
called_in Lost = uncalled
called_in (Calling c) = c
called_in (Calling3 c) = uncalled
called_in (Identifying i) = uncalled
called_in (Answering g) = uncalled

abbrev uncalled3 : Called3
uncalled3 = record { to = no_seven; sent = 0 }

abbrev pub called3_in : Place → Called3
called3_in (Sending h) = uncalled3
called3_in (Turning n) = uncalled3
called3_in Opening = uncalled3
called3_in (Ending e) = uncalled3
called3_in (Receiving n) = uncalled3
called3_in Asking = uncalled3
called3_in (StandBy w) = uncalled3
called3_in Lost = uncalled3
called3_in (Calling c) = uncalled3
called3_in (Calling3 c) = c
called3_in (Identifying i) = uncalled3
called3_in (Answering g) = uncalled3

abbrev unidentified : Identified
unidentified = record { to = no_seven; stage = Stage.One; wrong = 0; last = 0 }

abbrev pub identified_in : Place → Identified
identified_in (Sending h) = unidentified
identified_in (Turning n) = unidentified
identified_in Opening = unidentified
identified_in (Ending e) = unidentified
identified_in (Receiving n) = unidentified
identified_in Asking = unidentified
identified_in (StandBy w) = unidentified
identified_in Lost = unidentified
identified_in (Calling c) = unidentified
identified_in (Calling3 c) = unidentified
identified_in (Identifying i) = i
identified_in (Answering g) = unidentified

abbrev ungathered : Gathered
ungathered = record { stage = Stage.One; got = no_seven }

abbrev pub gathered_in : Place → Gathered
gathered_in (Sending h) = ungathered
gathered_in (Turning n) = ungathered
gathered_in Opening = ungathered
gathered_in (Ending e) = ungathered
gathered_in (Receiving n) = ungathered
gathered_in Asking = ungathered
gathered_in (StandBy w) = ungathered
gathered_in Lost = ungathered
gathered_in (Calling c) = ungathered
gathered_in (Calling3 c) = ungathered
gathered_in (Identifying i) = ungathered
gathered_in (Answering g) = g
