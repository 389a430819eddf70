-- And where a reason holds, the definition's test passes: what is not read off its condition at once.
--     expects_names, awaits_names, before_names   a stage of Identifying, and of Answering, names what it expects
--     goes_on, goes_on_3                          a call that is given up, and not for CS3, had gone on
--     whole_RQs, whole_alphas, whole_turned       a whole burst
--     RQs_no_alphas, not_completed, telling       and what it is not: one test of a row does not hide another
-- Assumes nothing.
use mathlib.Core.Path.{◌≡◌, refl}
use mathlib.Core.Bool.{Bool, true, false, not}
use Prim.Native.Nat.{ℕ}
use Rattle.std.specs.Prelude.{if◌then◌else◌}
use Rattle.identity.specs.declared.Seven.{Seven}
use Rattle.identity.specs.Table3.{is_identity}
use Rattle.mode_a.specs.declared.Role.{Role}
use Rattle.mode_a.specs.declared.Role.TheVariants.{Master, Slave}
use Rattle.mode_a.specs.declared.Stage.{Stage}
use Rattle.mode_a.specs.declared.Words.{Words}
use Rattle.mode_a.specs.declared.Called.{Called}
use Rattle.mode_a.specs.declared.Called3.{Called3}
use Rattle.mode_a.specs.declared.Gathered.{Gathered}
use Rattle.mode_a.specs.declared.Peer.TheVariants.{Four}
use Rattle.mode_a.specs.declared.Identified.{Identified}
use Rattle.mode_a.specs.declared.Station.{Station}
use Rattle.mode_a.specs.declared.Doing.TheVariants.{Rests, Reaches, Bars}
use Rattle.mode_a.specs.Identification.{Told, nothing_told, told_in}
use Rattle.mode_a.specs.Station.{silence, βαβ, ααα, RQ×3, mark_of, marks}
use Rattle.mode_a.specs.Heard.{First, Cs, Cs3, Rq, Else, Cs4, Cs5, Letter, Other, first_of, is_words, heard_of}
use Rattle.mode_a.specs.Rows.{turn_completed, calls_on, calling, calling3}
use Rattle.reasons.specs.declared.Reason.{Reason}
use Rattle.reasons.specs.Reasons.{heard_by, calls_on_at, calls3_on_at, named, not_named, comparing_names, identifying_names, telling_names, answering_names}
use Rattle.reasons.specs.Conditions.{first_heard, Expects, first_sum, second_sum, third_sum, Awaits, first_block, second_block, third_block, Before, first_again, second_again, third_again}
use Rattle.reasons.proofs.TestLaws.{same_words}

pub expects_names : (i : Identified) {k : Stage} {e : ℕ} → Expects i.to k e → (f : First) → identifying_names i k f ≡ comparing_names e f
expects_names i first_sum f = refl
expects_names i second_sum f = refl
expects_names i third_sum f = refl

pub awaits_names : {k : Stage} {t : Told} → Awaits k t → telling_names k t ≡ named Reason.Told
awaits_names (first_block a b) = refl
awaits_names (second_block a b) = refl
awaits_names (third_block a b c) = refl

pub before_names : {k : Stage} {t : Told} → Before k t → telling_names k t ≡ named Reason.ToldAgain
before_names (first_again a b) = refl
before_names (second_again a b) = refl
before_names (third_again a b c) = refl

untold : (k : Stage) → telling_names k nothing_told ≡ not_named
untold Stage.One = refl
untold Stage.Two = refl
untold Stage.Three = refl
untold Stage.Four = refl

pub goes_on : (c : Called) (f : First) → calling c f ≡ Rests 128 silence → ¬ (f ≡ Cs3) → calls_on_at c f ≡ true
goes_on c (Cs m) e n = go (marks c.last m) e
  where
    go : (t : Bool) → (if t then Reaches (Four c.to) m else calls_on c (mark_of m)) ≡ Rests 128 silence → not t ≡ true
    go true e = cc
    go false e = refl
goes_on c Cs3 e n = absurd (n refl)
goes_on c Rq e n = refl
goes_on c (Else x) e n = refl

pub goes_on_3 : (y : Seven) (c : Called3) (f : First) → calling3 y c f ≡ Bars c.to → ¬ (f ≡ Cs3) → calls3_on_at f ≡ true
goes_on_3 y c (Cs m) e n = refl
goes_on_3 y c Cs3 e n = absurd (n refl)
goes_on_3 y c Rq e n = refl
goes_on_3 y c (Else Cs4) e n = cc
goes_on_3 y c (Else Cs5) e n = cc
goes_on_3 y c (Else (Letter w)) e n = refl
goes_on_3 y c (Else Other) e n = refl

module _ (s : Station) (b : Words) where
  pub whole_RQs : b ≡ RQ×3 → (heard_by s b).RQs ≡ true
  unfolding heard_of is_words
  whole_RQs e = rw e

  pub whole_alphas : b ≡ ααα → (heard_by s b).alphas ≡ true
  unfolding heard_of is_words
  whole_alphas e = rw e

  pub whole_turned : b ≡ βαβ → (heard_by s b).turned ≡ true
  unfolding heard_of is_words
  whole_turned e = rw e

  pub RQs_no_alphas : b ≡ RQ×3 → (heard_by s b).alphas ≡ false
  unfolding heard_of is_words
  RQs_no_alphas e = rw e

  -- RQ RQ RQ begins with RQ, and is no identification block, nor is ααα
  RQs_first : (heard_by s b).RQs ≡ true → first_heard s b ≡ Rq
  unfolding heard_of first_of
  RQs_first t = rw (same_words b RQ×3 t)

  RQs_untold : (heard_by s b).RQs ≡ true → (heard_by s b).told ≡ nothing_told
  unfolding heard_of told_in is_identity
  RQs_untold t = rw (same_words b RQ×3 t)

  alphas_untold : (heard_by s b).alphas ≡ true → (heard_by s b).told ≡ nothing_told
  unfolding heard_of told_in is_identity
  alphas_untold t = rw (same_words b ααα t)

  pub not_completed : first_heard s b ≡ Cs3 → (r : Role) → turn_completed r (heard_by s b) ≡ false
  not_completed f Master = go (heard_by s b).RQs refl
    where
      go : (t : Bool) → (heard_by s b).RQs ≡ t → t ≡ false
      go true t = let e = RQs_first t in cc
      go false t = refl
  not_completed f Slave = rw f

  pub telling : (g : Gathered) (q : Reason) → telling_names g.stage (heard_by s b).told ≡ named q → answering_names g (heard_by s b) ≡ named q
  telling g q e = rw (off (heard_by s b).alphas alphas_untold, off (heard_by s b).RQs RQs_untold) e
    where
      off : (t : Bool) → (t ≡ true → (heard_by s b).told ≡ nothing_told) → t ≡ false
      off true f = let z = rw (f refl) at e in let u = untold g.stage in cc
      off false f = refl
