-- 02, T-05: the wrong check-sum that is the same as the last one ends the circuit, and which of the others have the block sent again (001,
-- 3.6.12).
--     ends_by_sums   exactly these, of every run that does not start at Identifying
-- Assumes nothing.
use mathlib.Core.Path.{◌≡◌, refl, ap, sym, subst, ◌∙◌}
use mathlib.Core.Bool.{Bool, true, false, not, ◌&&◌, true≢false, false≢true}
use mathlib.Core.Option.{Option, none, some}
use mathlib.Core.Logic.{◌↔◌}
use Prim.Native.Nat.{ℕ, ◌+◌, ◌<◌}
use native.Mathlib.Omega.{arith}
use lib.Dec.{eqb, leb}
use borrow.Author.Tests.{eqb-true, eq-eqb, not-true, leb-true, leb-false}
use Rattle.std.specs.Prelude.{if◌then◌else◌}
use Rattle.signals.specs.Numbers.{Answer, answered, refused}
use Rattle.identity.specs.declared.Seven.{Seven}
use Rattle.identity.specs.Sums.{check_sum1, check_sum2, check_sum3}
use Rattle.mode_a.specs.declared.Number.TheVariants.{Two}
use Rattle.mode_a.specs.declared.Words.{Words}
use Rattle.mode_a.specs.declared.Stage.{Stage}
use Rattle.mode_a.specs.declared.Identified.{Identified}
use Rattle.mode_a.specs.declared.Place.{Place}
use Rattle.mode_a.specs.declared.Place.TheVariants.{Sending, Turning, Opening, Ending, Receiving, Asking, StandBy, Lost, Calling, Calling3, Identifying, Answering}
use Rattle.mode_a.specs.declared.Offer.{Offer}
use Rattle.mode_a.specs.declared.Station.{Station}
use Rattle.mode_a.specs.declared.Doing.TheVariants.{Goes, Rests, Again}
use Rattle.mode_a.specs.declared.Reply.{Reply}
use Rattle.mode_a.specs.Identification.{identity_block}
use Rattle.mode_a.specs.Station.{silence, ααα}
use Rattle.mode_a.specs.Heard.{First, Cs, Cs3, Rq, Else, Cs4, Cs5, Letter, Other, first_of, heard_of}
use Rattle.mode_a.specs.Rows.{wrong_sum, comparing, at_stage, identifying}
use Rattle.mode_a.specs.Step.{ends, done, stepping, station_after}
use Rattle.runs.specs.Places.{is_ending, is_identifying, telling, stage_no}
use Rattle.runs.specs.Runs.{Event, Run, start, ◌▷◌, said, after, another_letter, wrong_at}
use Rattle.runs.proofs.StepLaws.{answers, by_again}
use Rattle.identification.specs.Runs.{hears_wrong, same_stage, is_wrong, within, wrongs_in_stage, last_of, last_wrong}
use Rattle.identification.specs.Telling.{EndsBySums}
use Rattle.identification.proofs.StepLaws.{wrong_in, last_in, letter_is, Does, repeated, goes_on, leaves, enters, elsewhere, does}
use Rattle.identification.proofs.TellingLaws.{stays_at, goes_off, leaves_off, not_there}

-- outside Identifying there is none
last_none : (p : Place) → is_identifying p ≡ false → last_in p ≡ none
last_none (Sending h) e = refl
last_none (Turning n) e = refl
last_none Opening e = refl
last_none (Ending x) e = refl
last_none (Receiving n) e = refl
last_none Asking e = refl
last_none (StandBy w) e = refl
last_none Lost e = refl
last_none (Calling c) e = refl
last_none (Calling3 c) e = refl
last_none (Identifying i) e = absurd (true≢false e)
last_none (Answering g) e = refl

untold : (p : Place) → telling p ≡ false → is_identifying p ≡ false
untold p t = go (is_identifying p) refl
  where
    go : (u : Bool) → is_identifying p ≡ u → u ≡ false
    go true e = absurd (false≢true (sym t ∙ rw e))
    go false e = refl

-- what is kept is what was heard
last_step : (s : Station) (b : Words) (r : Reply) (l : Option ℕ) → l ≡ last_in s.place → Does s b r → last_of (answered r) (same_stage s.place r.station.place) (hears_wrong s.place (first_of b.0)) b.0 l ≡ last_in r.station.place
last_step s b r l e (repeated a) = rw (stays_at s b r a, e) (sym a.last)
last_step s b r l e (goes_on n) = rw (goes_off s b r n) (sym n.last)
last_step s b r l e (leaves t u f) = rw (leaves_off s b r t u) (sym (last_none r.station.place (untold r.station.place u)))
last_step s b r l e (enters t g c n) = rw (not_there s b r t) (sym n)
last_step s b r l e (elsewhere t u) = rw (not_there s b r t) (sym (last_none r.station.place (untold r.station.place u)))

-- where there is no last one, none is counted
none_counted : (p : Place) → last_in p ≡ none → wrong_in p ≡ 0
none_counted (Sending h) e = refl
none_counted (Turning n) e = refl
none_counted Opening e = refl
none_counted (Ending x) e = refl
none_counted (Receiving n) e = refl
none_counted Asking e = refl
none_counted (StandBy w) e = refl
none_counted Lost e = refl
none_counted (Calling c) e = refl
none_counted (Calling3 c) e = refl
none_counted (Identifying i) e = go (leb 1 i.wrong) refl e
  where
    go : (t : Bool) → leb 1 i.wrong ≡ t → (if t then some i.last else none) ≡ none → i.wrong ≡ 0
    go true l e = let z : ◌≡◌ {A = ℕ} 0 1 = cc in absurd (omega arith)
    go false l e = let h = leb-false 1 i.wrong l in omega arith
none_counted (Answering g) e = refl

-- and how many are kept is how many were heard
wrongs_step : (s : Station) (b : Words) (r : Reply) (k : ℕ) → k ≡ wrong_in s.place → Does s b r → within (answered r) (same_stage s.place r.station.place) (hears_wrong s.place (first_of b.0)) k ≡ wrong_in r.station.place
wrongs_step s b r k e (repeated a) = rw (stays_at s b r a, e) (sym a.wrong)
wrongs_step s b r k e (goes_on n) = rw (goes_off s b r n) (sym (none_counted r.station.place n.last))
wrongs_step s b r k e (leaves t u f) = rw (leaves_off s b r t u) (sym (none_counted r.station.place (last_none r.station.place (untold r.station.place u))))
wrongs_step s b r k e (enters t g c n) = rw (not_there s b r t) (sym (none_counted r.station.place n))
wrongs_step s b r k e (elsewhere t u) = rw (not_there s b r t) (sym (none_counted r.station.place (last_none r.station.place (untold r.station.place u))))

module _ (from : Station) (outside : is_identifying from.place ≡ false) where
  last_run : (run : Run) → last_wrong from run ≡ last_in (after from run).place
  unfolding last_wrong
  last_run start = sym (last_none from.place outside)
  last_run (run ▷ e) = go (last_run run) (said (after from run) e) refl
    where
      go : last_wrong from run ≡ last_in (after from run).place → (a : Answer Reply) → said (after from run) e ≡ a → last_of a (same_stage (after from run).place (station_after (after from run) a).place) (hears_wrong (after from run).place (first_of e.burst.0)) e.burst.0 (last_wrong from run) ≡ last_in (station_after (after from run) a).place
      go k (answered r) p = last_step (after from run) e.burst r (last_wrong from run) k (does (after from run) e.burst e.offer r p)
      go k (refused n v) p = k

  wrongs_run : (run : Run) → wrongs_in_stage from run ≡ wrong_in (after from run).place
  unfolding wrongs_in_stage
  wrongs_run start = sym (none_counted from.place (last_none from.place outside))
  wrongs_run (run ▷ e) = go (wrongs_run run) (said (after from run) e) refl
    where
      go : wrongs_in_stage from run ≡ wrong_in (after from run).place → (a : Answer Reply) → said (after from run) e ≡ a → within a (same_stage (after from run).place (station_after (after from run) a).place) (hears_wrong (after from run).place (first_of e.burst.0)) (wrongs_in_stage from run) ≡ wrong_in (station_after (after from run) a).place
      go k (answered r) p = wrongs_step (after from run) e.burst r (wrongs_in_stage from run) k (does (after from run) e.burst e.offer r p)
      go k (refused n v) p = k

-- the row of a wrong check-sum
wrong_sum_lem : (y : Seven) (i : Identified) (e : ℕ) (s : Stage) (f : First) → another_letter e f ≡ true → (w : ℕ) × (f ≡ Else (Letter w)) × (comparing y i e s f ≡ wrong_sum y i w)
wrong_sum_lem y i e s (Cs n) h = absurd (false≢true h)
wrong_sum_lem y i e s Cs3 h = absurd (false≢true h)
wrong_sum_lem y i e s Rq h = absurd (false≢true h)
wrong_sum_lem y i e s (Else Cs4) h = absurd (false≢true h)
wrong_sum_lem y i e s (Else Cs5) h = absurd (false≢true h)
wrong_sum_lem y i e s (Else Other) h = absurd (false≢true h)
wrong_sum_lem y i e s (Else (Letter w)) h = (w, refl, rw (not-true (eqb w e) h))

wrong_row : (y : Seven) (i : Identified) (f : First) → wrong_at i.stage i.to f ≡ true → (w : ℕ) × (f ≡ Else (Letter w)) × (identifying y i f ≡ wrong_sum y i w)
wrong_row y i f = go i.stage
  where
    go : (s : Stage) → wrong_at s i.to f ≡ true → (w : ℕ) × (f ≡ Else (Letter w)) × (at_stage y i f s ≡ wrong_sum y i w)
    go Stage.One h = wrong_sum_lem y i (check_sum1 i.to) Stage.Two f h
    go Stage.Two h = wrong_sum_lem y i (check_sum2 i.to) Stage.Three f h
    go Stage.Three h = wrong_sum_lem y i (check_sum3 i.to) Stage.Four f h
    go Stage.Four h = absurd (false≢true h)

-- it ends the circuit exactly where the last one was the same
same_last : (i : Identified) (w : ℕ) → (leb 1 i.wrong && eqb w i.last ≡ true) ↔ (last_in (Identifying i) ≡ some w)
same_last i w = go (leb 1 i.wrong) refl
  where
    go : (t : Bool) → leb 1 i.wrong ≡ t → (t && eqb w i.last ≡ true) ↔ ((if t then some i.last else none) ≡ some w)
    go true e = (λ h. ap some (sym (eqb-true w i.last h)), λ h. let x : i.last ≡ w = cc in eq-eqb w i.last (sym x))
    go false e = (λ h. absurd (false≢true h), λ h. let z : ◌≡◌ {A = ℕ} 0 1 = cc in absurd (omega arith))

-- and has the block sent again exactly where it is neither that one, nor a fifth, nor the 32nd repetition
sent_again : (i : Identified) (w c : ℕ) → (not (leb 1 i.wrong && eqb w i.last) && (not (leb 4 i.wrong) && not (leb 31 c)) ≡ true) ↔ ((i.wrong < 4) × (last_in (Identifying i) ≡ some w → ⊥) × (c < 31))
sent_again i w c = go (leb 1 i.wrong && eqb w i.last) (leb 4 i.wrong) (leb 31 c) refl refl refl
  where
    go : (t u v : Bool) → leb 1 i.wrong && eqb w i.last ≡ t → leb 4 i.wrong ≡ u → leb 31 c ≡ v → (not t && (not u && not v) ≡ true) ↔ ((i.wrong < 4) × (last_in (Identifying i) ≡ some w → ⊥) × (c < 31))
    go true u v e f g = (λ h. absurd (false≢true h), λ h. absurd (h.1 ((same_last i w).0 e)))
    go false true v e f g = (λ h. absurd (false≢true h), λ h. let x = leb-true 4 i.wrong f in let y = h.0 in absurd (omega arith))
    go false false true e f g = (λ h. absurd (false≢true h), λ h. let x = leb-true 31 c g in let y = h.2 in absurd (omega arith))
    go false false false e f g =
        let x = leb-false 4 i.wrong f in
        let y = leb-false 31 c g in
        (λ h. (omega arith, λ l. false≢true (sym e ∙ (same_last i w).1 l), omega arith), λ h. refl)

-- t: the last one was the same; u: four are counted
Ends : Station → Identified → Bool → Bool → Reply → Type 0
Ends s i t u r = (is_ending r.station.place ≡ t) × (is_ending r.station.place ≡ true → r ≡ ends s) × (same_stage (Identifying i) r.station.place ≡ (not t && (not u && not (leb 31 s.count))))

by_sum : (s : Station) (b : Words) (o : Offer) (i : Identified) (w : ℕ) → Ends s i (leb 1 i.wrong && eqb w i.last) (leb 4 i.wrong) (done s b o (wrong_sum s.own.seven i w))
unfolding Ends done
by_sum s b o i w = go (leb 1 i.wrong && eqb w i.last) (leb 4 i.wrong)
  where
    go : (t u : Bool) → Ends s i t u (done s b o (if t then Goes (Ending (record { number = Two; total = 1 })) ααα else if u then Rests 0 silence else Again (Identifying (record { to = i.to; stage = i.stage; wrong = i.wrong + 1; last = w })) (identity_block s.own.seven i.stage)))
    go true u = (refl, λ h. refl, refl)
    go false true = (refl, λ h. absurd (false≢true h), refl)
    go false false =
        by_again (Ends s i false false) s (Identifying (record { to = i.to; stage = i.stage; wrong = i.wrong + 1; last = w })) (identity_block s.own.seven i.stage) (λ u. (refl, λ h. absurd (false≢true h), rw u)) (λ u. (refl, λ h. absurd (false≢true h), rw (u, eq-eqb (stage_no i.stage) (stage_no i.stage) refl)))

-- a wrong check-sum is heard at Identifying
at_identifying : (p : Place) (f : First) → hears_wrong p f ≡ true → (i : Identified) × (p ≡ Identifying i)
at_identifying (Sending h) f e = absurd (false≢true e)
at_identifying (Turning n) f e = absurd (false≢true e)
at_identifying Opening f e = absurd (false≢true e)
at_identifying (Ending x) f e = absurd (false≢true e)
at_identifying (Receiving n) f e = absurd (false≢true e)
at_identifying Asking f e = absurd (false≢true e)
at_identifying (StandBy w) f e = absurd (false≢true e)
at_identifying Lost f e = absurd (false≢true e)
at_identifying (Calling c) f e = absurd (false≢true e)
at_identifying (Calling3 c) f e = absurd (false≢true e)
at_identifying (Identifying i) f e = (i, refl)
at_identifying (Answering g) f e = absurd (false≢true e)

-- what is told of a run in EndsBySums, of one step and of what the place has counted
abbrev BySums : Station → Words → Reply → Type 0
BySums s b r = ((is_ending r.station.place ≡ true) ↔ (last_in s.place ≡ some b.0)) × (is_ending r.station.place ≡ true → r ≡ ends s) × ((same_stage s.place r.station.place ≡ true) ↔ ((wrong_in s.place < 4) × (last_in s.place ≡ some b.0 → ⊥) × (s.count < 31)))

ends_step : (s : Station) (b : Words) (o : Offer) (r : Reply) → stepping s b o ≡ answered r → hears_wrong s.place (first_of b.0) ≡ true → BySums s b r
unfolding Ends heard_of
ends_step s b o r answer h = go (at_identifying s.place (first_of b.0) h)
  where
    go : (i : Identified) × (s.place ≡ Identifying i) → BySums s b r
    go (i, p) = found (wrong_row s.own.seven i (first_of b.0) (sym (ap (λ (p : Place). hears_wrong p (first_of b.0)) p) ∙ h))
      where
        found : (w : ℕ) × (first_of b.0 ≡ Else (Letter w)) × (identifying s.own.seven i (first_of b.0) ≡ wrong_sum s.own.seven i w) → BySums s b r
        found (w, f, q) =
            let word : b.0 ≡ w = letter_is b.0 w f in
            let is : r ≡ done s b o (wrong_sum s.own.seven i w) = (answers s b o r answer).is_done ∙ rw p (rw q) in
            let x = subst (Ends s i (leb 1 i.wrong && eqb w i.last) (leb 4 i.wrong)) (sym is) (by_sum s b o i w) in
            let l = same_last i w in
            let m = sent_again i w s.count in
            let at = ap (λ (p : Place). same_stage p r.station.place) p in
            let last : last_in s.place ≡ last_in (Identifying i) = ap last_in p in
            let wrong : wrong_in s.place ≡ i.wrong = ap wrong_in p in
            ((λ e. last ∙ l.0 (sym x.0 ∙ e) ∙ ap some (sym word), λ e. x.0 ∙ l.1 (sym last ∙ e ∙ ap some word)), x.1, (λ e. let y = m.0 (sym x.2 ∙ sym at ∙ e) in (subst (λ (n : ℕ). n < 4) (sym wrong) y.0, λ z. y.1 (sym last ∙ z ∙ ap some word), y.2), λ y. at ∙ x.2 ∙ m.1 (subst (λ (n : ℕ). n < 4) wrong y.0, λ z. y.1 (last ∙ z ∙ ap some (sym word)), y.2)))

pub ends_by_sums : (from : Station) → is_identifying from.place ≡ false → (run : Run) (e : Event) (r : Reply) → said (after from run) e ≡ answered r → is_wrong (after from run) e ≡ true → EndsBySums from run e r
ends_by_sums from outside run e r answer h =
    let x = ends_step (after from run) e.burst e.offer r answer h in
    let l = last_run from outside run in
    let k = wrongs_run from outside run in
    let at = ap (λ (a : Answer Reply). same_stage (after from run).place (station_after (after from run) a).place) answer in
    record {
      ends_exactly = (λ t. l ∙ x.0.0 t, λ t. x.0.1 (sym l ∙ t));
      ends_so = x.1;
      again_exactly = (λ t. let y = x.2.0 (sym at ∙ t) in (subst (λ (n : ℕ). n < 4) (sym k) y.0, λ z. y.1 (sym l ∙ z), y.2), λ y. at ∙ x.2.1 (subst (λ (n : ℕ). n < 4) k y.0, λ z. y.1 (l ∙ z), y.2));
    }
