-- 01, Worked examples: "P: Sending 1, count 0, hears CS1, repeats; CS2, goes on with 2; 0, sends RQ RQ RQ."  R-145
-- Assumes nothing.
use Rattle.std.specs.Prelude.{Bool, false, ◌&&◌, List, [], ◌∷◌, ℕ, eqb}
use Rattle.signals.specs.declared.Case.TheVariants.{Letters}
use Rattle.signals.specs.Meaning.{cs1, cs2}
use Rattle.signals.specs.Numbers.{Answer, answered, refused}
use Rattle.mode_a.specs.declared.Role.TheVariants.{Master}
use Rattle.mode_a.specs.declared.Number.{Number}
use Rattle.mode_a.specs.declared.Number.TheVariants.{One, Two}
use Rattle.mode_a.specs.declared.Words.{Words}
use Rattle.mode_a.specs.declared.Place.{Place}
use Rattle.mode_a.specs.declared.Place.TheVariants.{Sending, Turning, Opening, Ending, Receiving, Asking, StandBy, Lost, Calling, Calling3, Identifying, Answering}
use Rattle.mode_a.specs.declared.Peer.TheVariants.{Nobody}
use Rattle.mode_a.specs.declared.Owed.{Owed}
use Rattle.mode_a.specs.declared.Offer.{Offer}
use Rattle.mode_a.specs.declared.Station.{Station}
use Rattle.mode_a.specs.declared.Reply.{Reply}
use Rattle.mode_a.specs.Station.{words, single, silence, RQ×3, same, no_identity}
use Rattle.mode_a.specs.Step.{stepping}

-- T E A is held, and E E E is offered
tea : Words
tea = words 116 86 71

next : Words
next = words 86 86 86

sending1 : Station
sending1 =
    record {
      role = Master;
      place = Sending (record { number = One; block = tea });
      count = 0;
      case = Letters;
      plus = false;
      own = no_identity;
      other = Nobody;
      owed = Owed.Nothing;
    }

alike : Words → Words → Bool
alike x y = eqb x.0 y.0 && (eqb x.1 y.1 && eqb x.2 y.2)

holding : Place → Number → Words → Bool
holding (Sending h) n b = same h.number n && alike h.block b
holding (Turning m) n b = false
holding Opening n b = false
holding (Ending e) n b = false
holding (Receiving m) n b = false
holding Asking n b = false
holding (StandBy w) n b = false
holding Lost n b = false
holding (Calling c) n b = false
holding (Calling3 c) n b = false
holding (Identifying i) n b = false
holding (Answering g) n b = false

-- the step is not refused; it sends these, holds the block under the number, and has the count
does : Words → Words → Number → Words → ℕ → Bool
does heard sent n b k = check (stepping sending1 heard (Offer.Text next))
  where
    check : Answer Reply → Bool
    check (answered r) = alike r.sent sent && (holding r.station.place n b && eqb r.station.count k)
    check (refused m v) = false

unfoldable pub mode_a_examples : List Bool
unfolding tea next sending1 alike holding does
mode_a_examples =
    does (single cs1) tea One tea 1  -- hears CS1, repeats
    ∷ does (single cs2) next Two next 0  -- CS2, goes on with 2
    ∷ does silence RQ×3 One tea 1  -- 0, sends RQ RQ RQ
    ∷ []
