-- What an answer prints and takes, by its reason, and where a block is accepted: read off each line of `Does`, once.
--     prints_only_accepted, accepted_prints   the traffic of the block where the reason is of an accepted block, else nothing
--     taken_reasons                           an offer that is taken
--     accepted_at_receiving                   a block is accepted at Receiving alone
-- Assumes nothing.
use mathlib.Core.Path.{◌≡◌, refl, ap, sym, ◌∙◌}
use mathlib.Core.Bool.{true, false, true≢false, false≢true}
use Rattle.std.specs.Prelude.{if◌then◌else◌}
use Rattle.mode_a.specs.declared.Number.{Number}
use Rattle.mode_a.specs.declared.Words.{Words}
use Rattle.mode_a.specs.declared.Place.TheVariants.{Receiving}
use Rattle.mode_a.specs.declared.Peer.TheVariants.{Four, Known}
use Rattle.mode_a.specs.declared.Offer.{Offer}
use Rattle.mode_a.specs.declared.Station.{Station}
use Rattle.mode_a.specs.declared.Reply.{Reply}
use Rattle.mode_a.specs.declared.Number.TheVariants.{One}
use Rattle.mode_a.specs.Station.{silence, other}
use Rattle.mode_a.specs.Step.{takes, knowing, is_over, traffic_in}
use Rattle.runs.specs.Places.{is_receiving}
use Rattle.runs.proofs.StepLaws.{by_take, by_meet}
use Rattle.reasons.specs.declared.Reason.{Reason}
use Rattle.one_answer.specs.Answers.{Unnamed, asks_again, ends_again_lem, ends_at_last, calls_on_lem, calls_on_3, Does, silent_lost, silent_standing_by, time_out, time_out_identifying, run_out, run_out_3, is_called_lem, is_called_3, call_offered, call_offered_3, own_number, other_number, other_number_ending, either, either_calling, either_calls_on, cs1_identifying, cs3_sending, cs3_turning, cs3_opening, cs3_calling, cs3_calling_3, cs3_identifying, cs4_calling_3, cs5_calling_3, rq_turning, rq_answering, turn, alphas, alphas_answering, right_sum_lem, wrong_sum_again, wrong_sum_ends, wrong_sum_rests, told, told_again, bad, repeat, unexpected, over_heard, over_heard_asked, who_are_you_lem, over_offered, accepted, says_accepted, may_take, PrintsOnlyAccepted, AcceptedPrints, TakenReasons}

record Facts (s : Station) (b : Words) (r : Reason) (a : Reply) : Type 0 where
  at_receiving : says_accepted r ≡ true → is_receiving s.place ≡ true
  prints : a.printed ≡ (if says_accepted r then traffic_in b else silence)
  taken : a.taken ≡ true → may_take r ≡ true

module _ (s : Station) (b : Words) (o : Offer) where
  -- nothing is printed, nor an offer taken; nothing is printed; the block is
  quiet : {r : Reason} {a : Reply} → says_accepted r ≡ false → a.printed ≡ silence → a.taken ≡ false → Facts s b r a
  quiet e p t = record { at_receiving = λ f. absurd (true≢false (sym f ∙ e)); prints = rw e p; taken = λ f. absurd (true≢false (sym f ∙ t)) }

  taking : {r : Reason} {a : Reply} → says_accepted r ≡ false → a.printed ≡ silence → may_take r ≡ true → Facts s b r a
  taking e p t = record { at_receiving = λ f. absurd (true≢false (sym f ∙ e)); prints = rw e p; taken = λ f. t }

  printing : {r : Reason} {a : Reply} (n : Number) → s.place ≡ Receiving n → says_accepted r ≡ true → a.printed ≡ traffic_in b → (a.taken ≡ true → may_take r ≡ true) → Facts s b r a
  printing n e q p t = record { at_receiving = λ f. ap is_receiving e; prints = rw q p; taken = t }

  unnamed : {r : Reason} (a : Reply) → says_accepted r ≡ false → Unnamed s a → Facts s b r a
  unnamed a e (asks_again w x) = quiet e refl refl
  unnamed a e (ends_again_lem x p l) = quiet e refl refl
  unnamed a e (ends_at_last x p l) = quiet e refl refl
  unnamed a e (calls_on_lem c p) = quiet e refl refl
  unnamed a e (calls_on_3 c p) = quiet e refl refl

  take : (t : Station) (n : Number) → (takes t n o).printed ≡ silence
  take t n = by_take (λ (a : Reply). a.printed ≡ silence) t n o (λ u w k. refl) refl

  facts : (r : Reason) (a : Reply) → Does s b o r a → Facts s b r a
  facts r a (silent_lost e) = quiet refl refl refl
  facts r a (silent_standing_by w v e f) = quiet refl refl refl
  facts r a (time_out l) = quiet refl refl refl
  facts r a (time_out_identifying l) = quiet refl refl refl
  facts r a (run_out c e) = quiet refl refl refl
  facts r a (run_out_3 c e) = quiet refl refl refl
  facts r a (is_called_lem e) = quiet refl refl refl
  facts r a (is_called_3 e) = quiet refl refl refl
  facts r a (call_offered i e) = taking refl refl refl
  facts r a (call_offered_3 i e) = taking refl refl refl
  facts r a (own_number h e) = quiet refl refl refl
  facts r a (other_number h e) = taking refl (take s (other h.number)) refl
  facts r a (other_number_ending x e) = quiet refl refl refl
  facts r a (either n e f) = taking refl (take s n) refl
  facts r a (either_calling n c e f m) = taking refl (take (knowing s (Four c.to)) n) refl
  facts r a (either_calls_on n c e f m) = quiet refl refl refl
  facts r a (cs1_identifying i e) = taking refl (take (knowing s (Known i.to)) One) refl
  facts r a (cs3_sending h e) = quiet refl refl refl
  facts r a (cs3_turning n e) = quiet refl refl refl
  facts r a (cs3_opening e) = quiet refl refl refl
  facts r a (cs3_calling c e) = quiet refl refl refl
  facts r a (cs3_calling_3 c e) = quiet refl refl refl
  facts r a (cs3_identifying i e) = quiet refl refl refl
  facts r a (cs4_calling_3 c e) = quiet refl refl refl
  facts r a (cs5_calling_3 c e) = quiet refl refl refl
  facts r a (rq_turning n e) = quiet refl refl refl
  facts r a (rq_answering g e) =
      taking refl (by_meet (λ (a : Reply). a.printed ≡ silence) (knowing s (Known g.got)) (is_over o) refl refl) refl
  facts r a (turn e) = quiet refl refl refl
  facts r a (alphas n e) = quiet refl refl refl
  facts r a (alphas_answering g e) = quiet refl refl refl
  facts r a (right_sum_lem i e) = quiet refl refl refl
  facts r a (wrong_sum_again i e n l) = quiet refl refl refl
  facts r a (wrong_sum_ends i e l f) = quiet refl refl refl
  facts r a (wrong_sum_rests i e n l) = quiet refl refl refl
  facts r a (told g e) = quiet refl refl refl
  facts r a (told_again g e) = quiet refl refl refl
  facts r a (bad i w _ u) = unnamed a refl u
  facts r a (repeat i _ u) = unnamed a refl u
  facts r a (unexpected _ u) = unnamed a refl u
  facts r a (over_heard n e f) = printing n e refl refl (λ t. refl)
  facts r a (over_heard_asked n e f) = printing n e refl refl (λ t. refl)
  facts r a (who_are_you_lem n e) = printing n e refl refl (λ t. absurd (false≢true t))
  facts r a (over_offered n e) = printing n e refl refl (λ t. refl)
  facts r a (accepted n e) = printing n e refl refl (λ t. absurd (false≢true t))

pub prints_only_accepted : PrintsOnlyAccepted
prints_only_accepted s b o r a d e = (facts s b o r a d).prints ∙ rw e

pub accepted_prints : AcceptedPrints
accepted_prints s b o r a d e = (facts s b o r a d).prints ∙ rw e

pub taken_reasons : TakenReasons
taken_reasons s b o r a d t = (facts s b o r a d).taken t

pub accepted_at_receiving : (s : Station) (b : Words) (o : Offer) (r : Reason) (a : Reply) → Does s b o r a → says_accepted r ≡ true → is_receiving s.place ≡ true
accepted_at_receiving s b o r a d e = (facts s b o r a d).at_receiving e
