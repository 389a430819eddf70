-- 02, T-02: what is told from a run about calls. Of the station it asks the place alone; the number of call bursts sent and who was called
-- are told from what was sent, offered and answered.
--
-- A refused event is no step: it is passed over everywhere.
-- Assumes nothing.
use Rattle.std.specs.Prelude.{Bool, not, ◌&&◌, ◌||◌, ℕ, suc, ◌%◌, eqb, if◌then◌else◌}
use Rattle.std.proofs.Math.Option.{Option, none, some}
use Rattle.signals.specs.Meaning.{rq}
use Rattle.signals.specs.Numbers.{Answer, answered, refused}
use Rattle.mode_a.specs.declared.Words.{Words}
use Rattle.mode_a.specs.declared.Identity.{Identity}
use Rattle.mode_a.specs.declared.Offer.{Offer}
use Rattle.mode_a.specs.declared.Station.{Station}
use Rattle.mode_a.specs.declared.Reply.{Reply}
use Rattle.identity.specs.Table3.{is_identity}
use Rattle.mode_a.specs.Calls.{call_block1, call_block2}
use Rattle.runs.specs.Places.{is_calling3}
use Rattle.runs.specs.Runs.{Run, start, ◌▷◌, said, after}

-- a call burst: X RQ X, "call block 1", or X X RQ, "call block 2", each X a signal of table 3a  3.5.2, 3.5.3
unfoldable pub is_call_burst : Words → Bool
is_call_burst w = is_identity w.0 && (eqb w.1 rq && is_identity w.2 || is_identity w.1 && eqb w.2 rq)

-- call block 1 of a three-block call (T-05) has the same form: a step that leads there sends no call burst of this kind
abbrev pub sends_call : Reply → Bool
sends_call r = is_call_burst r.sent && not (is_calling3 r.station.place)

-- how many call bursts in a row the run ends in
abbrev pub calls_on : Answer Reply → ℕ → ℕ
calls_on (answered r) k = if sends_call r then suc k else 0
calls_on (refused n v) k = k

unfoldable pub calls_in_a_row : Station → Run → ℕ
calls_in_a_row s start = 0
calls_in_a_row s (run ▷ e) = calls_on (said (after s run) e) (calls_in_a_row s run)

-- "call blocks 1 and 2 in turn": of a row, the odd ones are block 1 of the identity, and the even ones block 2
abbrev pub block_no : Identity → ℕ → Words
block_no i n = if eqb (n % 2) 1 then call_block1 i else call_block2 i

-- the identity of the last two-block call that was offered and taken, where there was one
abbrev pub calls_to : Answer Reply → Offer → Option Identity → Option Identity
calls_to (answered r) (Offer.Text w) before = before
calls_to (answered r) Offer.Over before = before
calls_to (answered r) Offer.End before = before
calls_to (answered r) Offer.Nothing before = before
calls_to (answered r) (Offer.Call i) before = if r.taken then some i else before
calls_to (answered r) (Offer.Call3 i) before = before
calls_to (refused n v) o before = before

unfoldable pub last_called : Station → Run → Option Identity
last_called s start = none
last_called s (run ▷ e) = calls_to (said (after s run) e) e.offer (last_called s run)
