-- The exchange after a confirmation: neither station is Lost in it.
--     follows_in_time   nor is either when the confirmation is heard
--     goes_on_lem       what the sender then sends is a block, ααα or βαβ, and no repetition for the other; its own count is 0
-- Assumes nothing.
use mathlib.Core.Path.{◌≡◌, refl, ap, ◌∙◌}
use mathlib.Core.Bool.{false, not}
use Rattle.signals.specs.Meaning.{meaning_of, traffic_of}
use Rattle.mode_a.specs.declared.Number.{Number}
use Rattle.mode_a.specs.declared.Words.{Words}
use Rattle.mode_a.specs.declared.Held.{Held}
use Rattle.mode_a.specs.declared.Ended.{Ended}
use Rattle.mode_a.specs.declared.Place.{Place}
use Rattle.mode_a.specs.declared.Place.TheVariants.{Turning, Receiving, Asking, Lost}
use Rattle.mode_a.specs.declared.Offer.{Offer}
use Rattle.mode_a.specs.declared.Owed.{Owed}
use Rattle.mode_a.specs.declared.Station.{Station}
use Rattle.mode_a.specs.declared.Doing.{Doing}
use Rattle.mode_a.specs.declared.Listening.{Listening}
use Rattle.mode_a.specs.declared.Reply.{Reply}
use Rattle.mode_a.specs.Station.{βαβ}
use Rattle.mode_a.specs.Heard.{First, Heard, may_hold, is_block, is_words, heard_of}
use Rattle.mode_a.specs.Over.{listened_all}
use Rattle.mode_a.specs.Rows.{row_of, sending, turning, ending, receiving}
use Rattle.mode_a.specs.Step.{moved_to, sends, owing, takes, accepts_heard, repeats, done}
use Rattle.runs.specs.Places.{is_lost}
use Rattle.runs.proofs.PlaceLaws.{places_apart}
use Rattle.runs.proofs.RowLaws.{by_sending, by_turning, by_ending}
use Rattle.runs.proofs.StepLaws.{Answers, placed, by_take, by_take_block, by_accept}
use Rattle.circuit.proofs.Link.{held}
use Rattle.circuit.proofs.ReplyLaws.{Fine}

-- a place other than Lost
pub in_time : (p : Place) → is_lost p ≡ false → p ≡ Lost → ⊥
in_time p i = places_apart p Lost (ap not i)

NotLost : Reply → Type 0
NotLost r = is_lost r.station.place ≡ false

-- What the station s sends that has heard the confirmation from a station at x: what it takes, under the number that x awaits, or βαβ to
-- one that asks for the turn.
pub data Follows (s : Station) (x : Place) (r : Reply) : Type 0 where
  took : {n : Number} (o : Offer) → Fine s o → x ≡ Receiving n → r ≡ takes s n o → Follows s x r
  turns : {n : Number} → x ≡ Asking → r ≡ sends (moved_to (owing s Owed.Nothing) (Turning n)) βαβ → Follows s x r

-- to repeat at a count of 0 is to stay
stays_at_0 : (s : Station) (v : Words) → s.count ≡ 0 → is_lost s.place ≡ false → is_lost (repeats s v).station.place ≡ false
stays_at_0 s v z i = rw z i

taken_in_time : (s : Station) (n : Number) (o : Offer) → NotLost (takes s n o)
unfolding NotLost
taken_in_time s n o = by_take NotLost s n o (λ u w t. refl) refl

accepted_in_time : (s : Station) (n : Number) (b : Words) (o : Offer) (l : Listening) → NotLost (accepts_heard s n b o l)
unfolding NotLost
accepted_in_time s n b o l = by_accept NotLost s n b o l (λ w u. refl) refl

-- Receiving that hears the block taken, or ααα
hears_taken : (s y : Station) (n : Number) (o p : Offer) → Fine s o →
    NotLost (done y (takes s n o).sent p (receiving n (heard_of y.own (takes s n o).sent)))
unfolding NotLost done heard_of is_block may_hold traffic_of meaning_of is_words
hears_taken s y n o p (k, i) =
    by_take_block (λ (r : Reply). NotLost (done y r.sent p (receiving n (heard_of y.own r.sent)))) s n s.own o k i (λ u w t j. rw j (accepted_in_time y n w p (listened_all y.case y.plus w))) refl

-- the sender, at a count of 0
module _ (y : Station) (b : Words) (p : Offer) (zero_count : y.count ≡ 0) (here : is_lost y.place ≡ false) where
  abbrev InTimeBy : Doing → Type 0
  InTimeBy d = NotLost (done y b p d)

  again : (w : Words) → InTimeBy (Doing.Repeats w)
  unfolding done NotLost
  again w = stays_at_0 y w zero_count here

  at_sending_lem : (h : Held) (f : First) → InTimeBy (sending h f)
  unfolding done NotLost
  at_sending_lem h f = by_sending InTimeBy h f (λ c. again _) (λ c. taken_in_time y _ p) (λ c. refl) (λ c. again _)

  at_turning : (n : Number) (h : Heard) → InTimeBy (turning y.role n h)
  unfolding done NotLost
  at_turning n h = by_turning InTimeBy y.role n h refl (again _) (again _)

  at_ending_lem : (e : Ended) (f : First) → InTimeBy (ending e f)
  unfolding done NotLost
  at_ending_lem e f = by_ending InTimeBy e f refl (λ l. refl)

has_taken : (s : Station) (n : Number) (o : Offer) (b : Words) (p : Offer) → let y = (takes s n o).station in
    NotLost (done y b p (row_of y.own y.role y.place (heard_of y.own b)))
has_taken s n o b p =
    by_take (λ (r : Reply). let y = r.station in NotLost (done y b p (row_of y.own y.role y.place (heard_of y.own b)))) s n o (λ u w t. at_sending_lem _ b p refl refl (held n w) (heard_of s.own b).first) (at_ending_lem _ b p refl refl (record { number = n; total = 1 }) (heard_of s.own b).first)

-- so neither is Lost then, nor in the exchange that follows
module _ (s : Station) (x : Place) (r : Reply) where
  pub follows_in_time : Follows s x r → (x ≡ Lost → ⊥) × (r.station.place ≡ Lost → ⊥)
  unfolding NotLost
  follows_in_time (took {n = n} o i p e) =
      (in_time x (ap is_lost p), in_time r.station.place (ap (λ (r : Reply). is_lost r.station.place) e ∙ taken_in_time s n o))
  follows_in_time (turns p e) = (in_time x (ap is_lost p), in_time r.station.place (ap (λ (r : Reply). is_lost r.station.place) e))

  pub goes_on_lem : (y : Station) (o₃ o₄ : Offer) (b : Words) (r₃ r₄ : Reply) → Follows s x r → y.place ≡ x → Answers y r.sent o₃ r₃ →
      Answers r.station b o₄ r₄ → (r₃.station.place ≡ Lost → ⊥) × (r₄.station.place ≡ Lost → ⊥)
  unfolding NotLost done heard_of is_words
  goes_on_lem y o₃ o₄ b r₃ r₄ (took {n = n} o i p e) q a₃ a₄ = (
    in_time r₃.station.place (rw (a₃.is_done, q ∙ p, e) (hears_taken s (placed y (Receiving n)) n o o₃ i)),
    in_time r₄.station.place (rw (a₄.is_done, e) (has_taken s n o b o₄)),
  )
  goes_on_lem y o₃ o₄ b r₃ r₄ (turns {n = n} p e) q a₃ a₄ = (
    in_time r₃.station.place (rw (a₃.is_done, q ∙ p, e)),
    in_time r₄.station.place (rw (a₄.is_done, e) (at_turning (moved_to (owing s Owed.Nothing) (Turning n)) b o₄ refl refl n (heard_of s.own b))),
  )
