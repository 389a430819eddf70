-- Demand 3: "the blocks taken from the other's offers"; 02, T-06: "The code's blocks, the two of βββ and the station's
-- own over count among blocks taken from that station's offers in demand 3".  R-172, R-245
-- Assumes nothing.
use Rattle.std.specs.Prelude.{Bool, ◌&&◌, List, [], ◌∷◌, if◌then◌else◌}
use Rattle.mode_a.specs.declared.Words.{Words}
use Rattle.mode_a.specs.declared.Code.{Code}
use Rattle.mode_a.specs.declared.Owed.{Owed}
use Rattle.mode_a.specs.declared.Offer.{Offer}
use Rattle.mode_a.specs.declared.Station.{Station}
use Rattle.mode_a.specs.declared.Reply.{Reply}
use Rattle.mode_a.specs.Heard.{first_of}
use Rattle.mode_a.specs.Answerback.{βββ, figures+?, block_owed}
use Rattle.runs.specs.Places.{is_sending}
use Rattle.runs.specs.Runs.{taking}

-- "take the offer .. Text gives that block, nothing gives βββ, over gives figures + ?": a block taken from an offer is the block of
-- an offer where a row takes and the station is at Sending after the step. An over taken at Receiving is no block, and end is none
-- that is held. A call that is offered there gives βββ (02, T-02) and is not reported as taken; its block counts all the same.
abbrev pub block_of : Offer → List Words
block_of (Offer.Text w) = w ∷ []
block_of Offer.Over = figures+? ∷ []
block_of Offer.End = []
block_of Offer.Nothing = βββ ∷ []
block_of (Offer.Call i) = βββ ∷ []
block_of (Offer.Call3 i) = βββ ∷ []

-- Where a part of an answer-back is owed, its next block is taken in the place of the offer (02, T-06).
abbrev pub block_from : Code → Owed → Offer → List Words
block_from c Owed.Nothing o = block_of o
block_from c (Owed.Back i) o = block_owed c (Owed.Back i) ∷ []
block_from c (Owed.Keep i) o = block_owed c (Owed.Keep i) ∷ []

abbrev pub taken_if : Bool → Station → Offer → Reply → List Words
taken_if t s o r = if t && is_sending r.station.place then block_from s.own.code s.owed o else []

abbrev pub taken_by : Station → Words → Offer → Reply → List Words
taken_by s b o r = taken_if (taking s.place (first_of b.0)) s o r
