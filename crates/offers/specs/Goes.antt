-- What goes next, a block of the offer, of an answer-back that is owed, or the end; and the answer that takes it under a number. That the two
-- together are `takes` of `mode_a` is proved (takes_next_lem). Assumes nothing.
use Rattle.std.specs.Prelude.{Bool, true, false, if◌then◌else◌}
use Rattle.mode_a.specs.declared.Words.{Words}
use Rattle.mode_a.specs.declared.Number.{Number}
use Rattle.mode_a.specs.declared.Code.{Code}
use Rattle.mode_a.specs.declared.Owed.{Owed}
use Rattle.mode_a.specs.declared.Offer.{Offer}
use Rattle.mode_a.specs.declared.Station.{Station}
use Rattle.mode_a.specs.declared.Reply.{Reply}
use Rattle.mode_a.specs.Answerback.{βββ, figures+?, block_owed, owed_then}
use Rattle.mode_a.specs.Step.{holds, takes_offer, owing}
use Rattle.offers.specs.declared.Going.{Going}

-- a block of the offer: nothing is owed behind it
abbrev pub block_offered : Words → Bool → Going
block_offered w t = record { block = w; taken = t; ends = false; behind = Owed.Nothing }

-- as takes_offer of `mode_a` has it; of the end, nothing but that it ends is looked at
abbrev pub next_offered : Offer → Going
next_offered (Offer.Text w) = block_offered w true
next_offered Offer.Over = block_offered figures+? true
next_offered Offer.End = record { block = βββ; taken = true; ends = true; behind = Owed.Nothing }
next_offered Offer.Nothing = block_offered βββ true
next_offered (Offer.Call i) = block_offered βββ false
next_offered (Offer.Call3 i) = block_offered βββ false

-- the next block of the answer-back, and the offer waits  R-238
abbrev pub next_owed : Code → Owed → Going
next_owed c w = record { block = block_owed c w; taken = false; ends = false; behind = owed_then c w }

-- what is owed goes before the offer
abbrev pub next_of : Code → Owed → Offer → Going
next_of c Owed.Nothing o = next_offered o
next_of c (Owed.Back i) o = next_owed c (Owed.Back i)
next_of c (Owed.Keep i) o = next_owed c (Owed.Keep i)

-- taken under the number
abbrev pub takes_next : Station → Number → Going → Reply
takes_next s n x =
    if x.ends then takes_offer s n Offer.End
    else holds (owing s x.behind) n x.block x.taken
