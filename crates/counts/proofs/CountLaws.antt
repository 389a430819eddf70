-- The repetition count, Ending's four and Stand-by, of every run from a fresh station.  R-072, R-084, R-085, R-096 to R-100
--     counted   for a fresh master, for a fresh slave, for a station made at Stand-by, and for any station that starts with count 0 at
--               a place other than Ending, and with letters of table 3a where it calls with three blocks or identifies
--     uncallable_is_silent, uncallable_for_good   Stand-by without an identity, as of the fresh ones of 01: silent for good but for a call
--               that is offered
-- Assumes nothing.
use mathlib.Core.Path.{◌≡◌, refl, ap, sym, subst, ◌∙◌}
use mathlib.Core.Bool.{Bool, true, false, not, ◌&&◌, and-false, and-eq-true_iff, true≢false}
use Prim.Native.Nat.{ℕ, suc, ◌≤◌}
use native.Mathlib.Omega.{arith}
use native.Mathlib.Numerals.{add-one}
use lib.Dec.{eqb, leb}
use borrow.Author.Tests.{leb-true, leb-false, eq-eqb, ne_eqb}
use Rattle.std.specs.Prelude.{if◌then◌else◌}
use Rattle.signals.specs.Numbers.{Answer, answered, refused}
use Rattle.mode_a.specs.declared.Words.{Words}
use Rattle.mode_a.specs.declared.Mark.{Mark}
use Rattle.mode_a.specs.declared.Part.{Part}
use Rattle.mode_a.specs.declared.Own.{Own}
use Rattle.mode_a.specs.declared.Offer.{Offer}
use Rattle.mode_a.specs.declared.Station.{Station}
use Rattle.mode_a.specs.declared.Reply.{Reply}
use Rattle.identity.specs.Sums.{is_callable7}
use Rattle.mode_a.specs.Calls.{is_callable}
use Rattle.mode_a.specs.Station.{silence, resting, fresh_master, fresh_slave, fresh_at}
use Rattle.mode_a.specs.Heard.{call_of, call3_of, heard_of}
use Rattle.mode_a.specs.Rows.{row_of}
use Rattle.mode_a.specs.Step.{done, wait_at, sound, stepping, station_after}
use Rattle.runs.specs.Places.{is_stand_by, is_lost, changed, losing, telling, counting}
use Rattle.runs.specs.Runs.{Event, Run, start, ◌▷◌, said, after, is_call}
use Rattle.runs.proofs.LetterLaws.{Lettered, lettered_run}
use Rattle.runs.proofs.StepLaws.{answers, is_answered_lem, own_lasts, keeps}
use Rattle.counts.specs.Runs.{stays, uncounted, repetition, goes_on, in_a_row, sentααα, alphas_in_a_row}
use Rattle.counts.specs.Counts.{Counted}
use Rattle.counts.proofs.StepLaws.{Fact, step_fact, is_repeats}
use Rattle.counts.proofs.EndLaws.{Total, total_of, total_next, after_four, ending_total}
use Rattle.counts.proofs.StandByLaws.{prints_nothing_lem, takes_calls_alone, is_silent, stays_there, uncallable_hears_none, uncallable_hears_none3}

-- an answer is what the row did
fact_of : (s : Station) (b : Words) (o : Offer) (r : Reply) → stepping s b o ≡ answered r → Fact s (heard_of s.own b) (row_of s.own s.role s.place (heard_of s.own b)) r
fact_of s b o r e = rw (answers s b o r e).is_done (step_fact s b o (heard_of s.own b))

-- and so is the answer of the same station with count 0
uncounted_is : (s : Station) (b : Words) (o : Offer) (r : Reply) → stepping s b o ≡ answered r → stepping (uncounted s) b o ≡ answered (done (uncounted s) b o (row_of s.own s.role s.place (heard_of s.own b)))
unfolding sound
uncounted_is s b o r e = let a = answers s b o r e in is_answered_lem (uncounted s) b o ((and-eq-true_iff _ _).1 (a.is_sound, a.is_owed_lem)) a.is_passed a.is_fine

-- so a step is a repetition exactly where the row repeats
told_of : (s : Station) (e : Event) (r : Reply) → stepping s e.burst e.offer ≡ answered r → repetition s e ≡ is_repeats (row_of s.own s.role s.place (heard_of s.own e.burst))
told_of s e r p =
    ap (λ (a : Answer Reply). stays s.place (heard_of s.own e.burst) (station_after (uncounted s) a).place) (uncounted_is s e.burst e.offer r p) ∙ (step_fact (uncounted s) e.burst e.offer (heard_of s.own e.burst)).told refl

-- what is kept from step to step: k repetitions in a row
record Kept (s : Station) (k : ℕ) : Type 0 where
  counts : s.count ≡ k
  small : k ≤ 31
  zero_lost : is_lost s.place ≡ true → s.count ≡ 0
  elsewhere : counting s.place ≡ false → s.count ≡ 0

module _ (s : Station) (k : ℕ) (kept : Kept s k) (b : Words) (r : Reply) (f : Fact s (heard_of s.own b) (row_of s.own s.role s.place (heard_of s.own b)) r) (again : Bool) (told : again ≡ is_repeats (row_of s.own s.role s.place (heard_of s.own b))) where
  -- the 32nd is the one at a count of 31
  at_31 : leb 31 s.count ≡ eqb k 31
  at_31 = rw kept.counts (tests (leb 31 k) refl)
    where
      tests : (v : Bool) → leb 31 k ≡ v → v ≡ eqb k 31
      tests true p = let h = leb-true 31 k p in let l = kept.small in sym (eq-eqb k 31 (omega arith))
      tests false p = let h = leb-false 31 k p in sym (ne_eqb k 31 (λ e. omega arith))

  -- not Lost before: Lost exactly by the 32nd, at one of the five places
  by_32 : is_lost s.place ≡ false → is_lost r.station.place ≡ losing s.place && (again && eqb k 31)
  by_32 nl = rw told (go (is_repeats (row_of s.own s.role s.place (heard_of s.own b))) refl)
    where
      go : (t : Bool) → is_repeats (row_of s.own s.role s.place (heard_of s.own b)) ≡ t → is_lost r.station.place ≡ losing s.place && (t && eqb k 31)
      go true e = (f.repeated e).lost ∙ ap (λ (t : Bool). losing s.place && t) at_31
      go false e = f.no_lost e nl ∙ sym (and-false (losing s.place))

  -- and in identification at Stand-by
  rests_by_32 : telling s.place ≡ true → again ≡ true → is_stand_by r.station.place ≡ eqb k 31
  rests_by_32 t e = (f.repeated (sym told ∙ e)).rests t ∙ at_31

  then_silent : telling s.place ≡ true → again ≡ true → k ≡ 31 → (r.station.place ≡ resting (wait_at s.other 0)) × (r.sent ≡ silence) × (r.printed ≡ silence) × (r.taken ≡ false)
  then_silent t e n = (f.repeated (sym told ∙ e)).silent t (at_31 ∙ eq-eqb k 31 n)

  next : Kept r.station (if again && not (changed s.place r.station.place) then suc k else 0)
  next = rw told (go (is_repeats (row_of s.own s.role s.place (heard_of s.own b))) (is_lost s.place) refl refl)
    where
      none : r.station.count ≡ 0 → Kept r.station 0
      none z = record { counts = z; small = omega arith; zero_lost = λ x. z; elsewhere = λ x. z }

      go : (t l : Bool) → is_repeats (row_of s.own s.role s.place (heard_of s.own b)) ≡ t → is_lost s.place ≡ l → Kept r.station (if t && not (changed s.place r.station.place) then suc k else 0)
      go true true e l = absurd (true≢false (sym e ∙ (f.stays_lost l).0))
      go true false e l = rw (f.repeated e).changes (tests (leb 31 s.count) refl)
        where
          tests : (v : Bool) → leb 31 s.count ≡ v → Kept r.station (if not v then suc k else 0)
          tests true p = none (rw p at (f.repeated e).counted)
          tests false p =
              record {
                counts = (rw p at (f.repeated e).counted) ∙ add-one s.count ∙ ap suc kept.counts;
                small = let h = leb-false 31 s.count p in let i = kept.counts in omega arith;
                zero_lost = λ x. absurd (true≢false (sym x ∙ (f.repeated e).lost ∙ ap (λ (t : Bool). losing s.place && t) p ∙ and-false (losing s.place)));
                elsewhere = f.elsewhere;
              }
      go false l e p = none (f.moved e)

module _ (fresh : Station) (none : fresh.count ≡ 0) (none_sent : total_of fresh.place ≡ 0) (lettered : Lettered fresh) where
  kept_run : (run : Run) → Kept (after fresh run) (in_a_row fresh run)
  unfolding in_a_row
  kept_run start =
      record { counts = none; small = omega arith; zero_lost = λ x. none; elsewhere = λ x. none }
  kept_run (run ▷ e) = go (kept_run run) (said (after fresh run) e) refl
    where
      go : Kept (after fresh run) (in_a_row fresh run) → (a : Answer Reply) → said (after fresh run) e ≡ a → Kept (station_after (after fresh run) a) (goes_on a (repetition (after fresh run) e && not (changed (after fresh run).place (station_after (after fresh run) a).place)) (in_a_row fresh run))
      go k (answered r) p =
          next (after fresh run) (in_a_row fresh run) k e.burst r (fact_of (after fresh run) e.burst e.offer r p) (repetition (after fresh run) e) (told_of (after fresh run) e r p)
      go k (refused n v) p = k

  total_run : (run : Run) → Total (after fresh run).place (alphas_in_a_row fresh run)
  unfolding alphas_in_a_row
  total_run start = record { is = none_sent; four = omega (arith, none_sent) }
  total_run (run ▷ e) = go (total_run run) (said (after fresh run) e) refl
    where
      go : Total (after fresh run).place (alphas_in_a_row fresh run) → (a : Answer Reply) → said (after fresh run) e ≡ a → Total (station_after (after fresh run) a).place (goes_on a (sentααα a) (alphas_in_a_row fresh run))
      go k (answered r) p = total_next (after fresh run) e.burst e.offer r (alphas_in_a_row fresh run) p (lettered_run fresh lettered run) k
      go k (refused n v) p = k

  unheard_run : (run : Run) (b : Words) → call_of fresh.own.four b ≡ Mark.None → call_of (after fresh run).own.four b ≡ Mark.None
  unheard_run run b h = rw (own_lasts fresh run) h

  unheard3_run : (run : Run) (b : Words) → call3_of fresh.own.seven b ≡ Part.None → call3_of (after fresh run).own.seven b ≡ Part.None
  unheard3_run run b h = rw (own_lasts fresh run) h

  -- Lost and Stand-by stay
  lost_run : (run : Run) (e : Event) → is_lost (after fresh run).place ≡ true → is_lost (after fresh (run ▷ e)).place ≡ true
  lost_run run e =
      keeps (λ (s : Station). is_lost s.place ≡ true) (after fresh run) e (λ r p l. ((fact_of (after fresh run) e.burst e.offer r p).stays_lost l).1)

  standby_run : (run : Run) (e : Event) → is_stand_by (after fresh run).place ≡ true → call_of fresh.own.four e.burst ≡ Mark.None → call3_of fresh.own.seven e.burst ≡ Part.None → is_call e.offer ≡ false → is_stand_by (after fresh (run ▷ e)).place ≡ true
  standby_run run e n h h3 c =
      keeps (λ (s : Station). is_stand_by s.place ≡ true) (after fresh run) e (λ r p n. stays_there (after fresh run) e.burst e.offer r p n c (unheard_run run e.burst h) (unheard3_run run e.burst h3)) n

  pub counted : (run : Run) → Counted fresh run
  counted run =
      record {
        counts = (kept_run run).counts;
        at_most = (kept_run run).small;
        lost_counts = (kept_run run).zero_lost;
        elsewhere_counts = (kept_run run).elsewhere;
        lost_by_the_32nd = λ e r p nl. by_32 (after fresh run) (in_a_row fresh run) (kept_run run) e.burst r (fact_of (after fresh run) e.burst e.offer r p) (repetition (after fresh run) e) (told_of (after fresh run) e r p) nl;
        standby_by_the_32nd = λ e r p t a. rests_by_32 (after fresh run) (in_a_row fresh run) (kept_run run) e.burst r (fact_of (after fresh run) e.burst e.offer r p) (repetition (after fresh run) e) (told_of (after fresh run) e r p) t a;
        standby_then = λ e r p t a n. then_silent (after fresh run) (in_a_row fresh run) (kept_run run) e.burst r (fact_of (after fresh run) e.burst e.offer r p) (repetition (after fresh run) e) (told_of (after fresh run) e r p) t a n;
        lost_is_silent = λ e r p l. (fact_of (after fresh run) e.burst e.offer r p).silent l;
        lost_for_good = lost_run run;
        totals = λ x p. ending_total x (after fresh run).place p ∙ (total_run run).is;
        four_at_most = subst (λ (n : ℕ). n ≤ 4) (total_run run).is (total_run run).four;
        standby_after_four = λ e r p n. after_four (after fresh run) e.burst e.offer r p (lettered_run fresh lettered run) ((total_run run).is ∙ n);
        standby_prints_nothing = λ e r p n. prints_nothing_lem (after fresh run) e.burst e.offer r p n;
        standby_takes_calls_alone = λ e r p n c. takes_calls_alone (after fresh run) e.burst e.offer r p n c;
        standby_is_silent = λ e r p n h h3 c. is_silent (after fresh run) e.burst e.offer r p n c (unheard_run run e.burst h) (unheard3_run run e.burst h3);
        standby_for_good = standby_run run;
      }

pub master_counted : (run : Run) → Counted fresh_master run
master_counted = counted fresh_master refl refl tt

pub slave_counted : (run : Run) → Counted fresh_slave run
slave_counted = counted fresh_slave refl refl tt

-- 02, T-02 and T-05: a station at Stand-by, with the identities by which it is called
pub standing_counted : (own : Own) (run : Run) → Counted (fresh_at own) run
standing_counted own = counted (fresh_at own) refl refl tt

-- "Stand-by .. silent for good", of a station without an identity by which it could be called, while no call is offered: what it hears
-- does not matter
module _ (fresh : Station) (none : is_callable fresh.own.four ≡ false) (none3 : is_callable7 fresh.own.seven ≡ false) (run : Run) (all : Counted fresh run) (here : is_stand_by (after fresh run).place ≡ true) (e : Event) (not_offered : is_call e.offer ≡ false) where
  pub uncallable_is_silent : (r : Reply) → stepping (after fresh run) e.burst e.offer ≡ answered r → r.sent ≡ silence
  uncallable_is_silent r p =
      all.standby_is_silent e r p here (uncallable_hears_none fresh.own.four e.burst none) (uncallable_hears_none3 fresh.own.seven e.burst none3) not_offered

  pub uncallable_for_good : is_stand_by (after fresh (run ▷ e)).place ≡ true
  uncallable_for_good =
      all.standby_for_good e here (uncallable_hears_none fresh.own.four e.burst none) (uncallable_hears_none3 fresh.own.seven e.burst none3) not_offered
