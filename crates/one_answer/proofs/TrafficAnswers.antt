-- The places of 01's rows that are in traffic, and Lost: the answer is the one that the reason has.
-- Assumes nothing.
use mathlib.Core.Path.{◌≡◌, refl}
use mathlib.Core.Bool.{Bool, true, false}
use Prim.Native.Nat.{◌+◌}
use native.Mathlib.Omega.{arith}
use lib.Dec.{leb}
use borrow.Author.Tests.{leb-true, leb-false}
use Rattle.std.specs.Prelude.{if◌then◌else◌}
use Rattle.signals.specs.Meaning.{cs3}
use Rattle.mode_a.specs.declared.Number.{Number}
use Rattle.mode_a.specs.declared.Words.{Words}
use Rattle.mode_a.specs.declared.Held.{Held}
use Rattle.mode_a.specs.declared.Ended.{Ended}
use Rattle.mode_a.specs.declared.Place.TheVariants.{Sending, Turning, Opening, Ending, Receiving, Asking, Lost}
use Rattle.mode_a.specs.declared.Offer.{Offer}
use Rattle.mode_a.specs.declared.Station.{Station}
use Rattle.mode_a.specs.declared.Reply.{Reply}
use Rattle.mode_a.specs.declared.Listening.{Listening}
use Rattle.mode_a.specs.declared.Doing.TheVariants.{Repeats, Goes, Takes, Receives, Opens, Accepts, Rests}
use Rattle.mode_a.specs.Station.{list_of, single, silence, βαβ, ααα, RQ×3, other, same, asks_for}
use Rattle.mode_a.specs.Heard.{First, Cs, Cs3, Rq, Else, is_block, is_words, heard_of}
use Rattle.mode_a.specs.Rows.{sending, turn_completed, turning_else, requests, opening, ends_again, ending}
use Rattle.mode_a.specs.Step.{accepts_by, accepts_heard, is_over, done}
use Rattle.runs.proofs.StepLaws.{placed}
use Rattle.reasons.specs.declared.Reason.{Reason}
use Rattle.reasons.specs.Reasons.{heard_by, times_out, named, not_named, sending_names, if_cs3, opening_names, ending_names, judged, accepted_for, reason_of}
use Rattle.reasons.specs.Conditions.{first_heard}
use Rattle.one_answer.specs.Answers.{kept, accepts, Does, own_number, other_number, other_number_ending, either, cs3_sending, cs3_turning, cs3_opening, rq_turning, turn, alphas, silent_lost, over_heard, over_heard_asked, who_are_you_lem, over_offered, accepted, asks_again, from_sending, from_turning, from_opening, from_receiving, from_asking, at_sending_lem, at_turning, at_opening, at_receiving, at_asking, ends_again_lem, ends_at_last}
use Rattle.one_answer.proofs.Ties.{Tie, Tied, judged_else, all_else, repeated, asked_again_lem}
use Rattle.one_answer.proofs.ReceivingLaws.{receiving_reason}

module _ (s : Station) (b : Words) (o : Offer) where
  pub sending_tied : (h : Held) → Tie (placed s (Sending h)) b o
  unfolding reason_of times_out done
  sending_tied h = go (first_heard s b)
    where
      by_number : (u : Bool) → Tied (placed s (Sending h)) b o (if u then Repeats h.block else Takes (other h.number)) (named (if u then Reason.Own else Reason.Other))
      by_number true = repeated _ b o h.block Reason.Own (from_sending h) (own_number h refl)
      by_number false = other_number h refl

      go : (f : First) → Tied (placed s (Sending h)) b o (sending h f) (sending_names h.number f)
      go (Cs n) = by_number (same n h.number)
      go Cs3 = cs3_sending h refl
      go Rq = asked_again_lem _ b o RQ×3 refl (from_sending h) (at_sending_lem h refl)
      go (Else x) = asked_again_lem _ b o RQ×3 refl (from_sending h) (at_sending_lem h refl)

  pub turning_tied : (n : Number) → Tie (placed s (Turning n)) b o
  unfolding reason_of times_out done
  turning_tied n = go (turn_completed s.role (heard_by s b)) (first_heard s b)
    where
      go : (u : Bool) (f : First) → Tied (placed s (Turning n)) b o (if u then Receives (other n) else turning_else f) (if u then named Reason.Rq else if_cs3 f)
      go true f = rq_turning n refl
      go false (Cs m) = asked_again_lem _ b o RQ×3 refl (from_turning n) (at_turning n refl)
      go false Cs3 = repeated _ b o βαβ Reason.Cs3 (from_turning n) (cs3_turning n refl)
      go false Rq = asked_again_lem _ b o RQ×3 refl (from_turning n) (at_turning n refl)
      go false (Else x) = asked_again_lem _ b o RQ×3 refl (from_turning n) (at_turning n refl)

  pub opening_tied : Tie (placed s Opening) b o
  unfolding reason_of times_out done
  opening_tied = go (first_heard s b) refl
    where
      go : (f : First) → first_heard s b ≡ f → Tied (placed s Opening) b o (opening s.role f) (opening_names f)
      go (Cs n) e = either n refl e
      go Cs3 e = cs3_opening refl
      go Rq e = asked_again_lem _ b o (requests s.role) refl from_opening (at_opening refl)
      go (Else x) e = asked_again_lem _ b o (requests s.role) refl from_opening (at_opening refl)

  pub ending_tied : (e : Ended) → Tie (placed s (Ending e)) b o
  unfolding reason_of times_out done
  ending_tied e = go (first_heard s b)
    where
      more : (u : Bool) → leb 4 e.total ≡ u → Tied (placed s (Ending e)) b o (if u then Rests 0 silence else Goes (Ending (record { number = e.number; total = e.total + 1 })) ααα) not_named
      more true l = all_else _ b o _ refl (ends_at_last e refl (λ k. omega (arith, leb-true 4 e.total l)))
      more false l = all_else _ b o _ refl (ends_again_lem e refl (leb-false 4 e.total l))

      by_number : (u : Bool) → Tied (placed s (Ending e)) b o (if u then ends_again e else Rests 0 silence) (if u then not_named else named Reason.Other)
      by_number true = more (leb 4 e.total) refl
      by_number false = other_number_ending e refl

      go : (f : First) → Tied (placed s (Ending e)) b o (ending e f) (ending_names e.number f)
      go (Cs n) = by_number (same n e.number)
      go Cs3 = more (leb 4 e.total) refl
      go Rq = more (leb 4 e.total) refl
      go (Else x) = more (leb 4 e.total) refl

  pub asking_tied : Tie (placed s Asking) b o
  unfolding reason_of times_out done
  asking_tied = go (heard_by s b).turned
    where
      go : (u : Bool) → Tied (placed s Asking) b o (if u then Opens else Repeats (single cs3)) (if u then named Reason.Turn else not_named)
      go true = turn refl
      go false = asked_again_lem _ b o (single cs3) refl from_asking (at_asking refl)

  pub lost_tied : Tie (placed s Lost) b o
  unfolding reason_of done
  lost_tied = silent_lost refl

  -- what is kept of the block, with this answer to each of the two questions
  abbrev listening : Bool → Bool → Listening
  listening v a = record { case = (kept s b).case; plus = (kept s b).plus; over = v; asked = a }

  pub receiving_tied : (n : Number) → Tie (placed s (Receiving n)) b o
  unfolding done heard_of
  receiving_tied n = rw (receiving_reason s b o n) (go (is_block b) (is_words b ααα))
    where
      over_taken : (P : Reply → Type 0) (u : Bool) → P (accepts (placed s (Receiving n)) b Asking (single cs3) u) → P (accepts_by (placed s (Receiving n)) n b u (listening true false))
      over_taken P true p = p
      over_taken P false p = p

      unasked : (u : Bool) → Does (placed s (Receiving n)) b o (if u then Reason.OverOffered else Reason.Accepted) (accepts_by (placed s (Receiving n)) n b u (listening false false))
      unasked true = over_offered n refl
      unasked false = accepted n refl

      by_heard : (v a : Bool) → (kept s b).asked ≡ a → Does (placed s (Receiving n)) b o (accepted_for (listening v a) (is_over o)) (accepts_heard (placed s (Receiving n)) n b o (listening v a))
      by_heard true true e = over_heard_asked n refl e
      by_heard true false e = over_taken (Does (placed s (Receiving n)) b o Reason.OverHeard) (is_over o) (over_heard n refl e)
      by_heard false true e = who_are_you_lem n refl
      by_heard false false e = unasked (is_over o)

      go : (k a : Bool) → Does (placed s (Receiving n)) b o (if k then accepted_for (kept s b) (is_over o) else if a then Reason.Alphas else if leb 31 s.count then Reason.TimeOut else judged (list_of b) Reason.Unexpected) (done (placed s (Receiving n)) b o (if k then Accepts n else if a then Rests 0 (asks_for (other n)) else Repeats (asks_for n)))
      go true a = by_heard (kept s b).over (kept s b).asked refl
      go false true = alphas n refl
      go false false =
          repeated _ b o (asks_for n) _ (from_receiving n) (judged_else _ b o (list_of b) _ (asks_again (asks_for n) (at_receiving n refl)))
