-- The reason at Receiving, by what the burst is: a block, ααα, or neither. A block has no bad word and no RQ, and is not ααα.
-- Assumes nothing.
use mathlib.Core.Path.{◌≡◌, refl, sym, ◌∙◌}
use mathlib.Core.Bool.{Bool, true, false, ◌&&◌, true≢false, and-eq-true_iff}
use lib.Dec.{leb}
use Rattle.std.specs.Prelude.{if◌then◌else◌}
use Rattle.signals.specs.Numbers.{first_not}
use Rattle.mode_a.specs.declared.Number.{Number}
use Rattle.mode_a.specs.declared.Words.{Words}
use Rattle.mode_a.specs.declared.Place.TheVariants.{Receiving}
use Rattle.mode_a.specs.declared.Offer.{Offer}
use Rattle.mode_a.specs.declared.Station.{Station}
use Rattle.mode_a.specs.declared.Doing.TheVariants.{Repeats, Accepts, Rests}
use Rattle.mode_a.specs.Station.{list_of, ααα, other, asks_for}
use Rattle.mode_a.specs.Heard.{may_hold, is_block, is_words, heard_of}
use Rattle.mode_a.specs.Step.{is_over}
use Rattle.runs.proofs.StepLaws.{placed, block_no_ααα}
use Rattle.reasons.specs.declared.Reason.{Reason}
use Rattle.reasons.specs.Reasons.{is_repetition, times_out, named, not_named, by_name, judged, accepted_for, reason_of}
use Rattle.one_answer.specs.Answers.{kept}
use Rattle.one_answer.proofs.Ties.{unnamed_at}
use Rattle.one_answer.proofs.WordLaws.{held_word}

module _ (s : Station) (b : Words) (o : Offer) where
  block_judged : (r : Reason) → is_block b ≡ true → judged (list_of b) r ≡ r
  unfolding is_block first_not
  block_judged r e =
      let p = (and-eq-true_iff (may_hold b.0) (may_hold b.1 && may_hold b.2)).0 e in
      let q = (and-eq-true_iff (may_hold b.1) (may_hold b.2)).0 p.1 in
      let x = held_word b.0 p.0 in
      let y = held_word b.1 q.0 in
      let z = held_word b.2 q.1 in
      rw (x.0, y.0, z.0, x.2, y.2, z.2)

  pub receiving_reason : (n : Number) → reason_of (placed s (Receiving n)) b o ≡ (if is_block b then accepted_for (kept s b) (is_over o) else if is_words b ααα then Reason.Alphas else if leb 31 s.count then Reason.TimeOut else judged (list_of b) Reason.Unexpected)
  unfolding reason_of times_out heard_of
  receiving_reason n = go (is_block b) (is_words b ααα) refl refl
    where
      go : (k a : Bool) → is_block b ≡ k → is_words b ααα ≡ a → (if is_repetition (if k then Accepts n else if a then Rests 0 (asks_for (other n)) else Repeats (asks_for n)) && leb 31 s.count then Reason.TimeOut else by_name (if a then named Reason.Alphas else not_named) (unnamed_at (placed s (Receiving n)) b o)) ≡ (if k then accepted_for (kept s b) (is_over o) else if a then Reason.Alphas else if leb 31 s.count then Reason.TimeOut else judged (list_of b) Reason.Unexpected)
      go true true e f = absurd (true≢false (sym f ∙ block_no_ααα b e))
      go true false e f = block_judged _ e ∙ rw e
      go false true e f = refl
      go false false e f = rw e
