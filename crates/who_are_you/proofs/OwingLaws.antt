-- One step, as far as an answer is concerned (02, T-06).
--     is_receiving_lem     a place with the number of Receiving carries what Receiving does
--     asked_turns          the block with D: CS3, and the answer owed from its first block on
--     Moves, owing_moves   what one step of a station that owes does: nothing is taken and it goes on owing, the block owed is held and the
--                          next is owed, or CS3 cuts the answer; and no offer is taken
-- Assumes nothing.
use mathlib.Core.Path.{◌≡◌, refl, sym, ◌∙◌}
use mathlib.Core.Bool.{Bool, true, false, not, ◌&&◌, ◌||◌, true≢false, and-eq-true_iff}
use mathlib.Core.List.{[], ◌∷◌}
use Rattle.std.specs.Prelude.{if◌then◌else◌}
use Rattle.signals.specs.Numbers.{answered}
use Rattle.mode_a.specs.declared.Number.{Number}
use Rattle.mode_a.specs.declared.Words.{Words}
use Rattle.mode_a.specs.declared.Owed.{Owed}
use Rattle.mode_a.specs.declared.Held.{Held}
use Rattle.mode_a.specs.declared.Place.{Place}
use Rattle.mode_a.specs.declared.Place.TheVariants.{Sending, Turning, Opening, Ending, Receiving, Asking, StandBy, Lost, Calling, Calling3, Identifying, Answering}
use Rattle.mode_a.specs.declared.Offer.{Offer}
use Rattle.mode_a.specs.declared.Station.{Station}
use Rattle.mode_a.specs.declared.Doing.{Doing}
use Rattle.mode_a.specs.declared.Doing.TheVariants.{Repeats, Takes}
use Rattle.mode_a.specs.declared.Reply.{Reply}
use Rattle.mode_a.specs.Station.{same, other}
use Rattle.mode_a.specs.Heard.{First, Cs, Cs3, Rq, Else, first_of, heard_of}
use Rattle.mode_a.specs.Over.{listened_all}
use Rattle.mode_a.specs.Answerback.{block_owed, owed_then}
use Rattle.mode_a.specs.Rows.{row_of, sending, opening}
use Rattle.mode_a.specs.Step.{is_asked, done}
use Rattle.runs.specs.Places.{is_sending, is_opening, is_receiving}
use Rattle.runs.specs.Runs.{Event, said, accepting, taking}
use Rattle.runs.proofs.CodeLaws.{is_owed}
use Rattle.runs.proofs.OwedLaws.{owing_at}
use Rattle.runs.proofs.RowLaws.{by_asking}
use Rattle.runs.proofs.StepLaws.{answers, by_repeat, by_owed}
use Rattle.who_are_you.specs.Answers.{asks, held_at, is_cs3, cuts}

pub is_receiving_lem : (p : Place) → is_receiving p ≡ true → (n : Number) × (p ≡ Receiving n)
is_receiving_lem (Sending h) e = absurd (true≢false (sym e))
is_receiving_lem (Turning n) e = absurd (true≢false (sym e))
is_receiving_lem Opening e = absurd (true≢false (sym e))
is_receiving_lem (Ending x) e = absurd (true≢false (sym e))
is_receiving_lem (Receiving n) e = (n, refl)
is_receiving_lem Asking e = absurd (true≢false (sym e))
is_receiving_lem (StandBy w) e = absurd (true≢false (sym e))
is_receiving_lem Lost e = absurd (true≢false (sym e))
is_receiving_lem (Calling c) e = absurd (true≢false (sym e))
is_receiving_lem (Calling3 c) e = absurd (true≢false (sym e))
is_receiving_lem (Identifying i) e = absurd (true≢false (sym e))
is_receiving_lem (Answering g) e = absurd (true≢false (sym e))

pub asked_turns : (s : Station) (e : Event) (r : Reply) → said s e ≡ answered r → asks s e ≡ true → r ≡ is_asked s e.burst (listened_all s.case s.plus e.burst)
unfolding done
asked_turns s e r a t =
    let p = (and-eq-true_iff (accepting s.place (heard_of s.own e.burst)) _).0 t in
    let q = (and-eq-true_iff (is_receiving s.place) _).0 p.0 in
    let n = is_receiving_lem s.place q.0 in
    go n.0 n.1 q.1 p.1
  where
    go : (n : Number) → s.place ≡ Receiving n → (heard_of s.own e.burst).block ≡ true → (listened_all s.case s.plus e.burst).asked ≡ true → r ≡ is_asked s e.burst (listened_all s.case s.plus e.burst)
    go n i k l = (answers s e.burst e.offer r a).is_done ∙ rw (i, k, l)

-- t: the row takes; c: CS3 is heard where it cuts
pub data Moves (s : Station) (t c : Bool) (r : Reply) : Type 0 where
  owes_on : r.station.owed ≡ s.owed → owing_at r.station.place ≡ true → t ≡ false → r.taken ≡ false → Moves s t c r
  takes_one : r.station.owed ≡ owed_then s.own.code s.owed → held_at r.station.place ≡ block_owed s.own.code s.owed ∷ [] → owing_at r.station.place ≡ true → t ≡ true → r.taken ≡ false → Moves s t c r
  is_cut : c ≡ true → r.station.owed ≡ Owed.Nothing → r.taken ≡ false → Moves s t c r

abbrev cutting : Place → First → Bool
cutting p f = (is_sending p || is_opening p) && is_cs3 f

module _ (s : Station) (b : Words) (o : Offer) (u : is_owed s.owed ≡ true) (v : owing_at s.place ≡ true) where
  repeats_on : (c : Bool) (w : Words) → Moves s false c (done s b o (Repeats w))
  unfolding done
  repeats_on c w = by_repeat (Moves s false c) s w (λ t. owes_on refl refl refl refl) (λ t. owes_on refl v refl refl)

  takes_owed_lem : (c : Bool) (n : Number) → Moves s true c (done s b o (Takes n))
  unfolding done
  takes_owed_lem c n = by_owed (Moves s true c) s n o (λ e. absurd (true≢false (sym (rw e at u)))) (λ t. takes_one refl refl refl refl refl)

  at_sending_lem : (h : Held) (f : First) → Moves s (taking (Sending h) f) (cutting (Sending h) f) (done s b o (sending h f))
  unfolding done
  at_sending_lem h (Cs n) = go (same n h.number)
    where
      go : (t : Bool) → Moves s (not t) false (done s b o (if t then Repeats h.block else Takes (other h.number)))
      go true = repeats_on false h.block
      go false = takes_owed_lem false (other h.number)
  at_sending_lem h Cs3 = is_cut refl refl refl
  at_sending_lem h Rq = repeats_on false _
  at_sending_lem h (Else x) = repeats_on false _

  at_opening : (f : First) → Moves s (taking Opening f) (cutting Opening f) (done s b o (opening s.role f))
  unfolding done
  at_opening (Cs n) = takes_owed_lem false n
  at_opening Cs3 = is_cut refl refl refl
  at_opening Rq = repeats_on false _
  at_opening (Else x) = repeats_on false _

  at_place : (p : Place) → owing_at p ≡ true → Moves s (taking p (first_of b.0)) (cutting p (first_of b.0)) (done s b o (row_of s.own s.role p (heard_of s.own b)))
  unfolding done heard_of
  at_place (Sending h) w = at_sending_lem h (first_of b.0)
  at_place (Turning n) w = absurd (true≢false (sym w))
  at_place Opening w = at_opening (first_of b.0)
  at_place (Ending x) w = absurd (true≢false (sym w))
  at_place (Receiving n) w = absurd (true≢false (sym w))
  at_place Asking w =
      by_asking (λ (d : Doing). Moves s false false (done s b o d)) (heard_of s.own b) (owes_on refl refl refl refl) (repeats_on false _)
  at_place (StandBy x) w = absurd (true≢false (sym w))
  at_place Lost w = owes_on refl refl refl refl
  at_place (Calling c) w = absurd (true≢false (sym w))
  at_place (Calling3 c) w = absurd (true≢false (sym w))
  at_place (Identifying i) w = absurd (true≢false (sym w))
  at_place (Answering g) w = absurd (true≢false (sym w))

pub owing_moves : (s : Station) (e : Event) (r : Reply) → said s e ≡ answered r → is_owed s.owed ≡ true → owing_at s.place ≡ true → Moves s (taking s.place (first_of e.burst.0)) (cuts s e) r
owing_moves s e r a u v =
    rw (answers s e.burst e.offer r a).is_done (at_place s e.burst e.offer u v s.place v)
