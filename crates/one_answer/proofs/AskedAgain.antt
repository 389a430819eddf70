-- "Why did it ask again?" (02, T-08): at Receiving a mutilated word, or else an RQ, or else three intact words of which one is α.  R-295
-- Assumes nothing.
use mathlib.Core.Path.{◌≡◌, refl, sym, subst, ◌∙◌}
use mathlib.Core.Bool.{Bool, true, false, true≢false}
use Prim.Native.Nat.{ℕ, ◌<◌}
use native.Mathlib.Omega.{arith}
use lib.Dec.{ltb}
use lib.ListN.{get_or}
use borrow.Author.Tests.{ltb-true, ltb-false, lt-leb, eqb-true, not-false}
use Rattle.std.specs.Prelude.{if◌then◌else◌}
use Rattle.signals.specs.Units.{intact_of}
use Rattle.signals.specs.Meaning.{alpha, rq}
use Rattle.signals.specs.Numbers.{first_not}
use Rattle.signals.proofs.NumberLaws.{all_head}
use Rattle.mode_a.specs.declared.Number.{Number}
use Rattle.mode_a.specs.declared.Words.{Words}
use Rattle.mode_a.specs.declared.Place.{Place}
use Rattle.mode_a.specs.declared.Place.TheVariants.{Receiving}
use Rattle.mode_a.specs.declared.Offer.{Offer}
use Rattle.mode_a.specs.declared.Station.{Station}
use Rattle.mode_a.specs.declared.Doing.{Doing}
use Rattle.mode_a.specs.declared.Doing.TheVariants.{Repeats, Accepts, Rests}
use Rattle.mode_a.specs.Station.{list_of, ααα, other, asks_for}
use Rattle.mode_a.specs.Heard.{is_block, is_words, heard_of}
use Rattle.mode_a.specs.Step.{is_over}
use Rattle.runs.proofs.StepLaws.{placed}
use Rattle.reasons.specs.declared.Reason.{Reason}
use Rattle.reasons.specs.Reasons.{row_at, not_rq, judged, accepted_for, reason_of}
use Rattle.reasons.specs.Conditions.{Earliest}
use Rattle.reasons.proofs.JudgedLaws.{found_earliest}
use Rattle.one_answer.specs.Answers.{kept, is_no_alpha, AskedAgain, for_bad, for_rq, for_other, WhyItAskedAgain}
use Rattle.one_answer.proofs.WordLaws.{word_held}
use Rattle.one_answer.proofs.ReceivingLaws.{receiving_reason}

module _ (b : Words) where
  abbrev Each : (ℕ → Bool) → Type 0
  Each f = (f b.0 ≡ true) × (f b.1 ≡ true) × (f b.2 ≡ true)

  -- the search finds none: each of the three words passes
  all_pass : (f : ℕ → Bool) → ltb (first_not f (list_of b)) 3 ≡ false → Each f
  all_pass f e =
      let x = all_head f b.0 _ (ltb-false _ 3 e) in
      let y = all_head f b.1 _ x.1 in
      (x.0, y.0, (all_head f b.2 _ y.1).0)

  -- and it finds one: that very word, where only one fails
  found : (f : ℕ → Bool) (x : ℕ) → ((w : ℕ) → f w ≡ false → w ≡ x) → ltb (first_not f (list_of b)) 3 ≡ true → Earliest f (list_of b) (first_not f (list_of b)) x
  found f x only e =
      let t = found_earliest f (list_of b) (ltb-true _ 3 e) in
      rw (only _ t.fails) at t

  whole : Each intact_of → Each is_no_alpha → Each not_rq → is_block b ≡ true
  unfolding is_block
  whole i a r =
      rw (word_held b.0 i.0 a.0 r.0, word_held b.1 i.1 a.1 r.1, word_held b.2 i.2 a.2 r.2)

  judged_for : is_block b ≡ false → AskedAgain b (judged (list_of b) Reason.Unexpected)
  judged_for n = go (ltb (first_not intact_of (list_of b)) 3) (ltb (first_not not_rq (list_of b)) 3) (ltb (first_not is_no_alpha (list_of b)) 3) refl refl refl
    where
      go : (t u v : Bool) → ltb (first_not intact_of (list_of b)) 3 ≡ t → ltb (first_not not_rq (list_of b)) 3 ≡ u → ltb (first_not is_no_alpha (list_of b)) 3 ≡ v → AskedAgain b (if t then Reason.Bad (first_not intact_of (list_of b)) (get_or (list_of b) (first_not intact_of (list_of b)) 0) else if u then Reason.Repeat (first_not not_rq (list_of b)) else Reason.Unexpected)
      go true u v p q r = for_bad _ _ (found_earliest intact_of (list_of b) (ltb-true _ 3 p))
      go false true v p q r = for_rq _ (found not_rq rq (λ w e. eqb-true w rq (not-false _ e)) q)
      go false false true p q r = for_other _ (found is_no_alpha alpha (λ w e. eqb-true w alpha (not-false _ e)) r)
      go false false false p q r = absurd (true≢false (sym (whole (all_pass intact_of p) (all_pass is_no_alpha r) (all_pass not_rq q)) ∙ n))

repeating : (s : Station) (b : Words) (o : Offer) (n : Number) (w : Words) → s.count < 31 → row_at (placed s (Receiving n)) b ≡ Repeats w → AskedAgain b (reason_of (placed s (Receiving n)) b o)
unfolding heard_of
repeating s b o n w l f =
    rw (receiving_reason s b o n, lt-leb 31 s.count l) (go (is_block b) (is_words b ααα) refl f)
  where
    go : (k a : Bool) → is_block b ≡ k → ◌≡◌ {A = Doing} (if k then Accepts n else if a then Rests 0 (asks_for (other n)) else Repeats (asks_for n)) (Repeats w) → AskedAgain b (if k then accepted_for (kept s b) (is_over o) else if a then Reason.Alphas else judged (list_of b) Reason.Unexpected)
    go true a e f = let z : ◌≡◌ {A = ℕ} 0 1 = cc in absurd (omega arith)
    go false true e f = let z : ◌≡◌ {A = ℕ} 0 1 = cc in absurd (omega arith)
    go false false e f = judged_for b e

pub why_it_asked_again : WhyItAskedAgain
why_it_asked_again s b o n w e f l =
    subst (λ (p : Place). row_at (placed s p) b ≡ Repeats w → AskedAgain b (reason_of (placed s p) b o)) (sym e) (repeating s b o n w l) f
