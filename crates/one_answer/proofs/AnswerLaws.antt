-- What the help desk says and what the set does cannot disagree (02, T-08).  R-288, R-293, R-294
--     answers_for_reasons   the answer of a step is the one that its reason has, at each of the twelve places
--     cannot_disagree       the same of what the two calls answer
--     accepted_exactly      the reasons of an accepted block are given where the step accepts one, and nowhere else
--     each_refused_alike    the question is refused where the step is, and alike
-- Assumes nothing.
use mathlib.Core.Path.{◌≡◌, refl, ap, sym, subst, ◌∙◌}
use mathlib.Core.Bool.{Bool, true, false, not, true≢false}
use Prim.Native.Nat.{ℕ}
use lib.Dec.{leb, ltb}
use lib.ListN.{length}
use Rattle.std.specs.Prelude.{if◌then◌else◌}
use Rattle.signals.specs.Numbers.{Answer, answered, refused, first_not}
use Rattle.identity.specs.Table3.{is_identity}
use Rattle.mode_a.specs.declared.Number.{Number}
use Rattle.mode_a.specs.declared.Words.{Words}
use Rattle.mode_a.specs.declared.Place.{Place}
use Rattle.mode_a.specs.declared.Place.TheVariants.{Sending, Turning, Opening, Ending, Receiving, Asking, StandBy, Lost, Calling, Calling3, Identifying, Answering}
use Rattle.mode_a.specs.declared.Offer.{Offer}
use Rattle.mode_a.specs.declared.Station.{Station}
use Rattle.mode_a.specs.declared.Listening.{Listening}
use Rattle.mode_a.specs.Station.{list_of, ααα}
use Rattle.mode_a.specs.Heard.{may_hold, is_block, is_words, heard_of}
use Rattle.mode_a.specs.Answerback.{passes}
use Rattle.mode_a.specs.Step.{is_over, done, sound, offered, called_to, stepping}
use Rattle.runs.specs.Places.{is_receiving}
use Rattle.runs.specs.Runs.{accepting}
use Rattle.runs.proofs.StepLaws.{answers, placed}
use Rattle.reasons.specs.declared.Reason.{Reason}
use Rattle.reasons.specs.Reasons.{row_at, judged, accepted_for, reason_of, explaining}
use Rattle.one_answer.specs.Answers.{kept, Does, AnswersForReasons, CannotDisagree, says_accepted, AcceptedExactly, EachRefusedAlike}
use Rattle.one_answer.proofs.Ties.{Tie, by_judged}
use Rattle.one_answer.proofs.ReceivingLaws.{receiving_reason}
use Rattle.one_answer.proofs.TrafficAnswers.{sending_tied, turning_tied, opening_tied, ending_tied, receiving_tied, asking_tied, lost_tied}
use Rattle.one_answer.proofs.CallAnswers.{standing_tied, calling_tied, calling3_tied}
use Rattle.one_answer.proofs.IdentificationAnswers.{identifying_tied, answering_tied}
use Rattle.one_answer.proofs.DoesLaws.{accepted_at_receiving}

-- the tie asks nothing of the station: it is of the row, and holds where the step is refused too
pub each_tied : (s : Station) (b : Words) (o : Offer) → Tie s b o
each_tied s b o = go s.place
  where
    go : (p : Place) → Tie (placed s p) b o
    go (Sending h) = sending_tied s b o h
    go (Turning n) = turning_tied s b o n
    go Opening = opening_tied s b o
    go (Ending e) = ending_tied s b o e
    go (Receiving n) = receiving_tied s b o n
    go Asking = asking_tied s b o
    go (StandBy w) = standing_tied s b o w
    go Lost = lost_tied s b o
    go (Calling c) = calling_tied s b o c
    go (Calling3 c) = calling3_tied s b o c
    go (Identifying i) = identifying_tied s b o i
    go (Answering g) = answering_tied s b o g

pub answers_for_reasons : AnswersForReasons
answers_for_reasons s b o a e = rw (answers s b o a e).is_done (each_tied s b o)

-- the step and the question refuse by the same tests, whatever they answer else
abbrev tested : {A : Type 0} → Bool → Bool → Bool → Bool → ℕ → ℕ → A → Answer A
tested call sound code text i j x =
    if call then refused 8 i
    else if not sound then refused 4 0
    else if not code then refused 9 0
    else if text then refused 3 j
    else answered x

abbrev judged_first : {A : Type 0} → Station → Offer → A → Answer A
judged_first s o x =
    tested (ltb (first_not is_identity (called_to s.own o)) (length (called_to s.own o))) (sound s) (passes s.own.code) (ltb (first_not may_hold (offered o)) (length (offered o))) (first_not is_identity (called_to s.own o)) (first_not may_hold (offered o)) x

answer_read : {A : Type 0} (s : Station) (o : Offer) (x y : A) → judged_first s o x ≡ answered y → x ≡ y
answer_read s o x y = go (ltb (first_not is_identity (called_to s.own o)) (length (called_to s.own o))) (sound s) (passes s.own.code) (ltb (first_not may_hold (offered o)) (length (offered o)))
  where
    go : (c t k q : Bool) → tested c t k q (first_not is_identity (called_to s.own o)) (first_not may_hold (offered o)) x ≡ answered y → x ≡ y
    go true t k q e = cc
    go false false k q e = cc
    go false true false q e = cc
    go false true true true e = cc
    go false true true false e = cc

refused_too : {A B : Type 0} (s : Station) (o : Offer) (x : A) (y : B) (n v : ℕ) → judged_first s o x ≡ refused n v → judged_first s o y ≡ refused n v
refused_too s o x y n v = go (ltb (first_not is_identity (called_to s.own o)) (length (called_to s.own o))) (sound s) (passes s.own.code) (ltb (first_not may_hold (offered o)) (length (offered o))) (first_not is_identity (called_to s.own o)) (first_not may_hold (offered o))
  where
    go : (c t k q : Bool) (i j : ℕ) → tested c t k q i j x ≡ refused n v → tested c t k q i j y ≡ refused n v
    go true t k q i j e = cc
    go false false k q i j e = cc
    go false true false q i j e = cc
    go false true true true i j e = cc
    go false true true false i j e = cc

pub each_refused_alike : EachRefusedAlike
unfolding stepping explaining
each_refused_alike s b o =
    record { as_the_step = refused_too s o (done s b o (row_at s b)) (reason_of s b o); as_the_question = refused_too s o (reason_of s b o) (done s b o (row_at s b)) }

pub cannot_disagree : CannotDisagree
unfolding explaining
cannot_disagree s b o a r e f =
    subst (λ (r : Reason). Does s b o r a) (answer_read s o (reason_of s b o) r (sym f)) (answers_for_reasons s b o a (sym e.0))

-- where a block is accepted
accepted_says : (l : Listening) (u : Bool) → says_accepted (accepted_for l u) ≡ true
accepted_says l u = go l.over l.asked u
  where
    go : (v a u : Bool) → says_accepted (accepted_for (record { case = l.case; plus = l.plus; over = v; asked = a }) u) ≡ true
    go true a u = refl
    go false true u = refl
    go false false true = refl
    go false false false = refl

module _ (s : Station) (b : Words) (o : Offer) where
  at_receiving : (n : Number) → says_accepted (reason_of (placed s (Receiving n)) b o) ≡ is_block b
  at_receiving n = ap says_accepted (receiving_reason s b o n) ∙ go (is_block b) (is_words b ααα) (leb 31 s.count)
    where
      go : (k a t : Bool) → says_accepted (if k then accepted_for (kept s b) (is_over o) else if a then Reason.Alphas else if t then Reason.TimeOut else judged (list_of b) Reason.Unexpected) ≡ k
      go true a t = accepted_says (kept s b) (is_over o)
      go false true t = refl
      go false false true = refl
      go false false false = by_judged (λ r. says_accepted r ≡ false) (list_of b) Reason.Unexpected (λ i w. refl) (λ i. refl) refl

  elsewhere : (p : Place) → is_receiving p ≡ false → says_accepted (reason_of (placed s p) b o) ≡ false
  elsewhere p e = go (says_accepted (reason_of (placed s p) b o)) refl
    where
      go : (t : Bool) → says_accepted (reason_of (placed s p) b o) ≡ t → t ≡ false
      go true f = absurd (true≢false (sym (accepted_at_receiving (placed s p) b o _ _ (each_tied (placed s p) b o) f) ∙ e))
      go false f = refl

pub accepted_exactly : AcceptedExactly
unfolding heard_of
accepted_exactly s b o = go s.place
  where
    go : (p : Place) → says_accepted (reason_of (placed s p) b o) ≡ accepting p (heard_of s.own b)
    go (Sending h) = elsewhere s b o (Sending h) refl
    go (Turning n) = elsewhere s b o (Turning n) refl
    go Opening = elsewhere s b o Opening refl
    go (Ending e) = elsewhere s b o (Ending e) refl
    go (Receiving n) = at_receiving s b o n
    go Asking = elsewhere s b o Asking refl
    go (StandBy w) = elsewhere s b o (StandBy w) refl
    go Lost = elsewhere s b o Lost refl
    go (Calling c) = elsewhere s b o (Calling c) refl
    go (Calling3 c) = elsewhere s b o (Calling3 c) refl
    go (Identifying i) = elsewhere s b o (Identifying i) refl
    go (Answering g) = elsewhere s b o (Answering g) refl
