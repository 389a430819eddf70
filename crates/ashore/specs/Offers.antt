-- 02, T-07: "An offer stands until taken", and demand 3: "the blocks taken from the other's offers". What a station takes over a record is
-- the record's offers to it, in order, each once and none left out but the last where that still stands; and between them blocks of its own:
-- βββ of its own accord, and the answers of T-06, for which an offer waits. The stations have the empty code, so an answer is βββ twice and
-- perhaps an over. Whether an over that was taken put figures + ? on the way or was taken at Receiving is left open here.  R-263
--
-- What is easily got wrong: an over that is offered to a station at Receiving is taken and puts no block on the way, and end puts none that
-- is held; an answer is sent though nothing was offered, and while it is sent the offer waits.
-- Assumes nothing.
use Rattle.std.specs.Prelude.{◌≡◌, Bool, true, false, ◌&&◌, ◌||◌, List, [], ◌∷◌, ◌++◌, ℕ, eqb, if◌then◌else◌}
use Rattle.mode_a.specs.declared.Role.{Role}
use Rattle.mode_a.specs.declared.Words.{Words}
use Rattle.mode_a.specs.declared.Offer.{Offer}
use Rattle.mode_a.specs.Station.{list_of}
use Rattle.mode_a.specs.Heard.{heard_of}
use Rattle.mode_a.specs.Over.{who, listened_all}
use Rattle.mode_a.specs.Answerback.{βββ, figures+?}
use Rattle.mode_a.specs.Step.{is_over}
use Rattle.runs.specs.Runs.{start, ◌▷◌, accepting}
use Rattle.runs.specs.Circuit.{Event, heard, Run, traffic, signals_in, Circuit, fresh, after}
use Rattle.circuit.specs.Demand.{Beginning}
use Rattle.entries.specs.declared.Entry.{Entry}
use Rattle.entries.specs.declared.Entry.TheVariants.{Burst, Text, Over, End}
use Rattle.entries.specs.Entries.{other_role, same_role}
use Rattle.entries.specs.Passage.{Passage, offer_to, stands, signals_of}
use Rattle.ashore.specs.Ashore.{Reached, direction_to}

-- the offers of a record to a station, in order
abbrev pub only_to : Role → Role → Offer → List Offer
only_to r q o = if same_role r q then o ∷ [] else []

abbrev pub offer_in : Role → Entry → List Offer
offer_in r (Burst q d) = []
offer_in r (Text q w) = only_to r q (Offer.Text w)
offer_in r (Over q) = only_to r q Offer.Over
offer_in r (End q) = only_to r q Offer.End

unfoldable pub offers_to : Role → List Entry → List Offer
offers_to r [] = []
offers_to r (e ∷ es) = offer_in r e ++ offers_to r es

-- the one that still stands, where one does
abbrev pub still : Offer → List Offer
still o = if stands o then o ∷ [] else []

-- what a taken offer gives: "Text gives that block .. over gives figures + ?, end gives ααα", which is not held
pub data Gives : Offer → List Words → Type 0 where
  text : (w : Words) → Gives (Offer.Text w) (w ∷ [])
  over_sent : Gives Offer.Over (figures+? ∷ [])
  over_at_receiving : Gives Offer.Over []
  end : Gives Offer.End []

-- The blocks that a station took, beside the offers that they are of. `answers` tells whether T-06's answers are among them.
pub data TakenFrom (answers : Bool) : List Offer → List Words → Type 0 where
  none_yet : TakenFrom answers [] []
  of_offer : {os : List Offer} {bs : List Words} {o : Offer} {l : List Words} → TakenFrom answers os bs → Gives o l →
      TakenFrom answers (os ++ o ∷ []) (bs ++ l)
  idle : {os : List Offer} {bs : List Words} → TakenFrom answers os bs → TakenFrom answers os (bs ++ βββ ∷ [])
  own_over : {os : List Offer} {bs : List Words} → answers ≡ true → TakenFrom answers os bs →
      TakenFrom answers os (bs ++ figures+? ∷ [])

pub record TookInOrder (answers : Bool) (es : List Entry) (p : Passage) (r : Role) : Type 0 where
  pub taken : List Offer
  pub in_order : offers_to r es ≡ taken ++ still (offer_to p.standing r)
  pub blocks : TakenFrom answers taken (direction_to p (other_role r)).taken

abbrev pub OffersInOrder : Type 0
OffersInOrder = (es : List Entry) (p : Passage) → Reached es p → (r : Role) → TookInOrder true es p r

-- D in figures is never accepted: no station that hears accepts a block in which D stands in figures case
abbrev pub asks : Circuit → Event → Bool
asks c e =
    accepting c.hearer.place (heard_of c.hearer.own (heard e c.burst))
    && (listened_all c.hearer.case c.hearer.plus (heard e c.burst)).asked

unfoldable pub NeverAsked : Circuit → Run → Type 0
NeverAsked c start = Unit {0}
NeverAsked c (run ▷ e) = NeverAsked c run × (asks (after c run) e ≡ false)

-- then no answer is among the blocks: they are of the record's offers, overs among these, and βββ
abbrev pub OffersAlone : Type 0
OffersAlone = (es : List Entry) (p : Passage) → Reached es p → NeverAsked fresh p.events → (r : Role) → TookInOrder false es p r

-- It is so of every record that offers no D, whatever the case: what is accepted was taken before.
abbrev pub holds_d : Words → Bool
holds_d w = eqb w.0 who || (eqb w.1 who || eqb w.2 who)

unfoldable pub NoD : List Entry → Type 0
NoD [] = Unit {0}
NoD (Burst r d ∷ es) = NoD es
NoD (Text r w ∷ es) = (holds_d w ≡ false) × NoD es
NoD (Over r ∷ es) = NoD es
NoD (End r ∷ es) = NoD es

abbrev pub WithoutD : Type 0
WithoutD = (es : List Entry) (p : Passage) → Reached es p → NoD es → NeverAsked fresh p.events

-- And then what a station prints is a beginning of the traffic of the offers that the other took: β is no traffic.
pub data TrafficFrom : List Offer → List ℕ → Type 0 where
  no_traffic : TrafficFrom [] []
  then_of : {os : List Offer} {ws : List ℕ} {o : Offer} {l : List Words} → TrafficFrom os ws → Gives o l →
      TrafficFrom (os ++ o ∷ []) (ws ++ signals_in l)

pub record PrintsOffers (es : List Entry) (p : Passage) (r : Role) : Type 0 where
  pub taken : List Offer
  pub in_order : offers_to (other_role r) es ≡ taken ++ still (offer_to p.standing (other_role r))
  pub traffic : List ℕ
  pub of_these : TrafficFrom taken traffic
  pub prints_a_beginning : Beginning ℕ (signals_of p r) traffic

abbrev pub OffersPrinted : Type 0
OffersPrinted = (es : List Entry) (p : Passage) → Reached es p → NeverAsked fresh p.events → (r : Role) → PrintsOffers es p r

-- and where no over is offered to the other, a beginning of the traffic of the texts that the record offers to it
unfoldable pub texts_in : List Offer → List ℕ
texts_in [] = []
texts_in (Offer.Text w ∷ os) = traffic (list_of w) ++ texts_in os
texts_in (Offer.Over ∷ os) = texts_in os
texts_in (Offer.End ∷ os) = texts_in os
texts_in (Offer.Nothing ∷ os) = texts_in os
texts_in (Offer.Call i ∷ os) = texts_in os
texts_in (Offer.Call3 i ∷ os) = texts_in os

unfoldable pub NoOver : List Offer → Type 0
NoOver [] = Unit {0}
NoOver (o ∷ os) = (is_over o ≡ false) × NoOver os

abbrev pub TextsPrinted : Type 0
TextsPrinted =
    (es : List Entry) (p : Passage) → Reached es p → NeverAsked fresh p.events → (r : Role) → NoOver (offers_to (other_role r) es) →
    Beginning ℕ (signals_of p r) (texts_in (offers_to (other_role r) es))
