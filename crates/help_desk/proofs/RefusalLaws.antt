-- The question is refused where the step is, and else has its reason.  R-288
-- Assumes nothing.
use mathlib.Core.Path.{◌≡◌, ap, sym, ◌∙◌}
use mathlib.Core.Bool.{true, false}
use Prim.Native.Nat.{ℕ, ◌<◌, ◌≤◌}
use Rattle.std.specs.Prelude.{Ok, Err}
use Rattle.signals.specs.Numbers.{Answer, answered}
use Rattle.mode_a.specs.declared.Words.{Words}
use Rattle.mode_a.specs.declared.Offer.{Offer}
use Rattle.mode_a.specs.declared.Station.{Station}
use Rattle.mode_a.specs.declared.Refusal.{Refusal}
use Rattle.mode_a.specs.Answerback.{passes}
use Rattle.mode_a.specs.Step.{sound}
use Rattle.refusals.specs.Judging.{judging, Judges}
use Rattle.refusals.specs.Parts.{bad_offer, bad_call}
use Rattle.refusals.proofs.JudgedLaws.{unless_refused, refused_so, judged_first, call_refused, station_refused, code_refused, word_refused}
use Rattle.reasons.specs.declared.Reason.{Reason}
use Rattle.reasons.specs.Reasons.{reason_of, explaining, Explains}

module _ (s : Station) (b : Words) (o : Offer) where
  explaining_so : unless_refused (judging s o) (answered (reason_of s b o)) ≡ explaining s b o
  unfolding explaining
  explaining_so = judged_first s o (answered (reason_of s b o))

  pub refused_lem : (e : Refusal) → Judges s o (Err e) → Explains s b o (Err e)
  refused_lem e j =
      sym (refused_so e (answered (reason_of s b o)))
      ∙ ap (λ (a : Answer (Unit {0})). unless_refused a (answered (reason_of s b o))) j
      ∙ explaining_so

  -- a refusal wherever it is found, by what is judged before it: 8, then 4, then 9, then 3
  module _ (j : ℕ) (ej : j ≡ bad_call s.own o) where
    pub by_call : j < 14 → Explains s b o (Err (Refusal.BadCall j))
    by_call h = refused_lem (Refusal.BadCall j) (call_refused s o j ej h)

    module _ (g : 14 ≤ j) where
      pub by_station : sound s ≡ false → Explains s b o (Err Refusal.BadStation)
      by_station e = refused_lem Refusal.BadStation (station_refused s o j ej g e)

      module _ (e : sound s ≡ true) where
        pub by_code : passes s.own.code ≡ false → Explains s b o (Err Refusal.BadCode)
        by_code k = refused_lem Refusal.BadCode (code_refused s o j ej g e k)

        pub by_word : passes s.own.code ≡ true → (i : ℕ) → i ≡ bad_offer o → i < 3 → Explains s b o (Err (Refusal.BadWord i))
        by_word k i ei h = refused_lem (Refusal.BadWord i) (word_refused s o j ej g e k i ei h)

  pub because : (u : Unit {0}) → Judges s o (Ok u) → (r : Reason) → r ≡ reason_of s b o → Explains s b o (Ok r)
  because u j r e =
      ap answered e
      ∙ ap (λ (a : Answer (Unit {0})). unless_refused a (answered (reason_of s b o))) j
      ∙ explaining_so
