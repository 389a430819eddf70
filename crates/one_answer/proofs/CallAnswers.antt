-- Stand-by and the two kinds of calling (02, T-02 and T-05): the answer is the one that the reason has.
-- Assumes nothing.
use mathlib.Core.Path.{◌≡◌, refl}
use mathlib.Core.Bool.{Bool, true, false, not, ◌&&◌, ◌||◌, and-false}
use Prim.Native.Nat.{◌+◌}
use lib.Dec.{eqb, leb}
use Rattle.std.specs.Prelude.{if◌then◌else◌}
use Rattle.mode_a.specs.declared.Number.{Number}
use Rattle.mode_a.specs.declared.Mark.{Mark}
use Rattle.mode_a.specs.declared.Peer.TheVariants.{Four}
use Rattle.mode_a.specs.declared.Words.{Words}
use Rattle.mode_a.specs.declared.Waiting.{Waiting}
use Rattle.mode_a.specs.declared.Called.{Called}
use Rattle.mode_a.specs.declared.Called3.{Called3}
use Rattle.mode_a.specs.declared.Place.TheVariants.{StandBy, Calling, Calling3}
use Rattle.mode_a.specs.declared.Offer.{Offer}
use Rattle.mode_a.specs.declared.Station.{Station}
use Rattle.mode_a.specs.declared.Doing.{Doing}
use Rattle.mode_a.specs.declared.Doing.TheVariants.{Goes, Rests, Answers, Listens, Reaches, Answers3, Bars}
use Rattle.mode_a.specs.Calls.{next_block, next_block3}
use Rattle.mode_a.specs.Station.{silence, mark_of, marks}
use Rattle.mode_a.specs.Heard.{First, Cs, Cs3, Rq, Else, Cs4, Cs5, Letter, Other}
use Rattle.mode_a.specs.Rows.{both_heard, all_heard, heard_then, calling, calling3}
use Rattle.mode_a.specs.Step.{bars, called, called3, waits_on, done}
use Rattle.runs.proofs.StepLaws.{placed}
use Rattle.reasons.specs.declared.Reason.{Reason}
use Rattle.reasons.specs.Reasons.{heard_by, row_at, is_placed, times_out, calls_on_at, calls3_on_at, Named, named, not_named, calling_names, calling3_names, by_name, reason_of}
use Rattle.reasons.specs.Conditions.{first_heard}
use Rattle.one_answer.specs.Answers.{Does, silent_standing_by, is_called_lem, is_called_3, call_offered, call_offered_3, run_out, run_out_3, either_calling, either_calls_on, cs3_calling, cs3_calling_3, cs4_calling_3, cs5_calling_3, calls_on_lem, calls_on_3}
use Rattle.one_answer.proofs.Ties.{Tie, TiedBy, unnamed_at, all_else}

module _ (s : Station) (b : Words) (o : Offer) where
  module _ (w : Waiting) where
    abbrev at : Station
    at = placed s (StandBy w)

    -- what Stand-by keeps of the burst; what it does, and names, by whether a call of either kind is complete and whether one is placed
    abbrev keeps : Waiting
    keeps = record { wait = w.wait; heard = (heard_by s b).call; heard3 = heard_then w.heard3 (heard_by s b).call3 }

    abbrev does : Bool → Bool → Doing
    does t u = if t then Answers else if u then Answers3 else Listens keeps

    abbrev names : Bool → Bool → Bool → Named
    names t u p = if t || u then named Reason.Called else if p then named Reason.CallOffered else not_named

    -- it answers no call: the one offered is placed, or it is silent
    places : (o : Offer) → row_at at b ≡ Listens keeps → TiedBy at b o (not (is_placed w s.other o)) (Listens keeps) false (names false false (is_placed w s.other o))
    unfolding done
    places (Offer.Text x) e = silent_standing_by w _ refl e
    places Offer.Over e = silent_standing_by w _ refl e
    places Offer.End e = silent_standing_by w _ refl e
    places Offer.Nothing e = silent_standing_by w _ refl e
    places (Offer.Call i) e = go (eqb w.wait 0)
      where
        go : (t : Bool) → Does at b (Offer.Call i) (if not t then Reason.Silent else by_name (names false false t) (unnamed_at at b (Offer.Call i))) (if t then called at i else waits_on at keeps)
        go true = call_offered i refl
        go false = silent_standing_by w _ refl e
    places (Offer.Call3 i) e = go (leb 1 w.wait && bars s.other i)
      where
        go : (t : Bool) → Does at b (Offer.Call3 i) (if not (not t) then Reason.Silent else by_name (names false false (not t)) (unnamed_at at b (Offer.Call3 i))) (if t then waits_on at keeps else called3 at i)
        go true = silent_standing_by w _ refl e
        go false = call_offered_3 i refl

    pub standing_tied : Tie at b o
    unfolding reason_of times_out done
    standing_tied = go (both_heard w.heard (heard_by s b).call) (all_heard w.heard3 (heard_by s b).call3) refl
      where
        go : (t u : Bool) → row_at at b ≡ does t u → TiedBy at b o (not ((t || u) || is_placed w s.other o)) (does t u) false (names t u (is_placed w s.other o))
        go true u e = is_called_lem e
        go false true e = is_called_3 e
        go false false e = places o e

  -- a call goes on, or has run out
  abbrev on : Called → Mark → Bool → Doing
  on c m u =
      if u then Rests 128 silence
      else Goes (Calling (record { to = c.to; sent = c.sent + 1; last = m })) (next_block c.to c.sent)

  pub calling_tied : (c : Called) → Tie (placed s (Calling c)) b o
  unfolding reason_of times_out done
  calling_tied c = go (first_heard s b) refl
    where
      by_mark_lem : (n : Number) → first_heard s b ≡ Cs n → (m u : Bool) → marks c.last n ≡ m → TiedBy (placed s (Calling c)) b o false (if m then Reaches (Four c.to) n else on c (mark_of n) u) (u && not m) (named Reason.Either)
      by_mark_lem n e true true m = either_calling n c refl e m
      by_mark_lem n e true false m = either_calling n c refl e m
      by_mark_lem n e false true m = run_out c refl
      by_mark_lem n e false false m = either_calls_on n c refl e m

      more : (u : Bool) → TiedBy (placed s (Calling c)) b o false (on c Mark.None u) (u && true) not_named
      more true = run_out c refl
      more false = all_else _ b o _ refl (calls_on_lem c refl)

      go : (f : First) → first_heard s b ≡ f → TiedBy (placed s (Calling c)) b o false (calling c f) (leb 128 c.sent && calls_on_at c f) (calling_names f)
      go (Cs n) e = by_mark_lem n e (marks c.last n) (leb 128 c.sent) refl
      go Cs3 e = rw (and-false (leb 128 c.sent)) (cs3_calling c refl)
      go Rq e = more (leb 128 c.sent)
      go (Else x) e = more (leb 128 c.sent)

  pub calling3_tied : (c : Called3) → Tie (placed s (Calling3 c)) b o
  unfolding reason_of times_out done
  calling3_tied c = go (first_heard s b)
    where
      more : (u : Bool) → TiedBy (placed s (Calling3 c)) b o false (if u then Bars c.to else Goes (Calling3 (record { to = c.to; sent = c.sent + 1 })) (next_block3 c.to c.sent)) (u && true) not_named
      more true = run_out_3 c refl
      more false = all_else _ b o _ refl (calls_on_3 c refl)

      go : (f : First) → TiedBy (placed s (Calling3 c)) b o false (calling3 s.own.seven c f) (leb 128 c.sent && calls3_on_at f) (calling3_names f)
      go (Cs n) = more (leb 128 c.sent)
      go Cs3 = rw (and-false (leb 128 c.sent)) (cs3_calling_3 c refl)
      go Rq = more (leb 128 c.sent)
      go (Else Cs4) = rw (and-false (leb 128 c.sent)) (cs4_calling_3 c refl)
      go (Else Cs5) = rw (and-false (leb 128 c.sent)) (cs5_calling_3 c refl)
      go (Else (Letter w)) = more (leb 128 c.sent)
      go (Else Other) = more (leb 128 c.sent)
