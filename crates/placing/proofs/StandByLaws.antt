-- 02, T-02: Stand-by hears and places calls (001, 3.5.4, 3.5.5, 3.5.7).
--     stands_exactly        a step from Stand-by answers a call, places one, or waits on
--     waits_128             after a call that failed no two-block call is placed in 128 steps, and then one is
--     hears_call_exactly    a call is answered exactly after both own call blocks in two successive steps at Stand-by
-- Assumes nothing.
use mathlib.Core.Path.{◌≡◌, refl, ap, sym, subst, ◌∙◌}
use mathlib.Core.Bool.{Bool, true, false, ◌&&◌, ◌||◌, true≢false, false≢true}
use mathlib.Core.Logic.{◌⊎◌, inl, inr}
use mathlib.Core.Option.{Option, none, some}
use Prim.Native.Nat.{ℕ, ◌-◌}
use native.Mathlib.Omega.{arith}
use lib.Dec.{eqb, leb}
use borrow.Author.Tests.{eqb-true, eqb-false}
use Rattle.std.specs.Prelude.{if◌then◌else◌}
use Rattle.signals.specs.Meaning.{cs4}
use Rattle.signals.specs.Numbers.{Answer, answered, refused}
use Rattle.identity.specs.declared.Seven.{Seven}
use Rattle.mode_a.specs.declared.Role.TheVariants.{Slave}
use Rattle.mode_a.specs.Station.{single}
use Rattle.mode_a.specs.declared.Words.{Words}
use Rattle.mode_a.specs.declared.Mark.{Mark}
use Rattle.mode_a.specs.declared.Identity.{Identity}
use Rattle.mode_a.specs.declared.Own.{Own}
use Rattle.mode_a.specs.declared.Waiting.{Waiting}
use Rattle.mode_a.specs.declared.Place.{Place}
use Rattle.mode_a.specs.declared.Place.TheVariants.{StandBy}
use Rattle.mode_a.specs.declared.Offer.{Offer}
use Rattle.mode_a.specs.declared.Station.{Station}
use Rattle.mode_a.specs.declared.Reply.{Reply}
use Rattle.mode_a.specs.Calls.{is_callable, call_block1, call_block2}
use Rattle.mode_a.specs.Heard.{call_of, call3_of}
use Rattle.mode_a.specs.Rows.{both_heard, all_heard, heard_then}
use Rattle.mode_a.specs.Step.{begun, called, called3, sends, unidentified, waits_on, bars, listens, stepping, station_after}
use Rattle.runs.specs.Places.{place_no, is_receiving, is_stand_by, is_lost, is_calling, is_calling3, is_answering, at_stand_by, none_answered}
use Rattle.runs.specs.Runs.{Event, Run, start, ◌▷◌, said, next, after, is_taken, Step, step_or, last_step, one_step, steps_in, StaysAtStandBy}
use Rattle.runs.proofs.PlaceLaws.{is_standby}
use Rattle.runs.proofs.StepLaws.{answers, standby_answers, standby_answers3, standby_listens, own_lasts}
use Rattle.placing.specs.StandBy.{AnswersCall, PlacesCall, OneOfFour, Stands, Waits, Successive, BothBlocks, NoneHeard, HearsCall, Enters}
use Rattle.placing.proofs.BurstLaws.{Says, call_says, hears_1, hears_2}
use Rattle.placing.proofs.StepLaws.{is_call2, Does, elsewhere, rests, waits, places, calls_on_lem, does}

-- a step from Stand-by
module _ (s : Station) (b : Words) (o : Offer) (r : Reply) (answer : stepping s b o ≡ answered r) (w : Waiting) (here : s.place ≡ StandBy w) where
  abbrev both : Bool
  both = both_heard w.heard (call_of s.own.four b)

  abbrev all : Bool
  all = all_heard w.heard3 (call3_of s.own.seven b)

  answered_call : both ≡ true → AnswersCall r
  answered_call t = rw (standby_answers s b o r (answers s b o r answer) w here t) (record { slave = refl; awaits_1 = refl; sends_cs1 = refl; prints_nothing_lem = refl; takes_nothing = refl; nobody = refl; letters = (refl, refl, refl) })

  abbrev Listened : Reply → Type 0
  Listened r = Stands w o r × (is_receiving r.station.place ≡ false)

  placed : (i : Identity) → o ≡ Offer.Call i → w.wait ≡ 0 → Listened (called s i)
  placed i z n = (
    record {
      one_of_four = OneOfFour.places i z n (record { master = refl; calls = refl; sends_block_1 = refl; prints_nothing_lem = refl; takes_it = refl; nobody = refl; letters = (refl, refl, refl) });
      places_exactly = (λ x. ((i, z), refl, n), λ x. refl);
      never_lost = refl;
    },
    refl,
  )

  abbrev kept : Waiting
  kept = record { wait = w.wait; heard = call_of s.own.four b; heard3 = heard_then w.heard3 (call3_of s.own.seven b) }

  -- no two-block call is offered, or steps are left to wait
  stayed : ((i : Identity) → o ≡ Offer.Call i → w.wait ≡ 0 → ⊥) → Listened (waits_on s kept)
  stayed x = (
    record {
      one_of_four = OneOfFour.waits (record { stays = (_, refl, refl); is_silent = refl; prints_nothing_lem = refl; takes_nothing = refl });
      places_exactly = (λ y. absurd (false≢true y), λ y. absurd (x y.0.0 y.0.1 y.2));
      never_lost = refl;
    },
    refl,
  )

  -- a three-block call is answered, or placed
  answered_3 : Listened (sends (begun s Slave unidentified) (single cs4))
  answered_3 = (
    record {
      one_of_four = OneOfFour.of_three_blocks refl refl;
      places_exactly = (λ y. absurd (false≢true y), λ y. absurd (false≢true y.1));
      never_lost = refl;
    },
    refl,
  )

  placed_3 : (i : Seven) → o ≡ Offer.Call3 i → Listened (called3 s i)
  placed_3 i z = (
    record {
      one_of_four = OneOfFour.of_three_blocks refl refl;
      places_exactly = (λ y. absurd (false≢true y), λ y. absurd (false≢true (sym (ap is_call2 z) ∙ ap is_call2 y.0.1)));
      never_lost = refl;
    },
    refl,
  )

  listened : both ≡ false → Listened r
  listened t = go all refl
    where
      other : (p : Offer) → o ≡ p → is_call2 p ≡ false → (i : Identity) → o ≡ Offer.Call i → w.wait ≡ 0 → ⊥
      other p e x i z n = false≢true (sym x ∙ ap is_call2 (sym e ∙ z))

      by_offer : (p : Offer) → o ≡ p → Listened (listens s kept p)
      by_offer (Offer.Text x) e = stayed (other _ e refl)
      by_offer Offer.Over e = stayed (other _ e refl)
      by_offer Offer.End e = stayed (other _ e refl)
      by_offer Offer.Nothing e = stayed (other _ e refl)
      by_offer (Offer.Call i) e = tests (eqb w.wait 0) refl
        where
          tests : (t : Bool) → eqb w.wait 0 ≡ t → Listened (if t then called s i else waits_on s kept)
          tests true n = placed i e (eqb-true w.wait 0 n)
          tests false n = stayed (λ j z. eqb-false w.wait 0 n)
      by_offer (Offer.Call3 i) e = tests (leb 1 w.wait && bars s.other i)
        where
          tests : (t : Bool) → Listened (if t then waits_on s kept else called3 s i)
          tests true = stayed (other _ e refl)
          tests false = placed_3 i e

      go : (u : Bool) → all ≡ u → Listened r
      go true u = rw (standby_answers3 s b o r (answers s b o r answer) w here t u) answered_3
      go false u = rw (standby_listens s b o r (answers s b o r answer) w here t u) (by_offer o refl)

  -- a two-block call is answered exactly where both are heard
  receiving_is : is_receiving r.station.place ≡ both
  receiving_is = go both refl
    where
      go : (t : Bool) → both ≡ t → is_receiving r.station.place ≡ t
      go true t = ap is_receiving (answered_call t).awaits_1
      go false t = (listened t).1

  pub stands_exactly : Stands w o r
  stands_exactly = go both refl
    where
      go : (t : Bool) → both ≡ t → Stands w o r
      go true t =
          let a = answered_call t in
          record {
            one_of_four = OneOfFour.answers a;
            places_exactly = (λ x. absurd (false≢true (sym (ap is_calling a.awaits_1) ∙ x)), λ x. absurd (false≢true (sym (ap none_answered a.awaits_1) ∙ x.1)));
            never_lost = ap is_lost a.awaits_1;
          }
      go false t = (listened t).0

-- no two-block call is placed while steps are left to wait, and one is where none is left
module _ (s : Station) (a : Event) (w : Waiting) (here : s.place ≡ StandBy w) where
  places_none : (w.wait ≡ 0 → ⊥) → (is_calling (next s a).place ≡ false) × (is_taken (said s a) ≡ is_calling3 (next s a).place)
  places_none left = go (said s a) refl
    where
      not_both : (p : Place) → is_answering p || is_calling3 p ≡ true → is_calling p ≡ false
      not_both p e = tests (is_calling p) refl
        where
          tests : (t : Bool) → is_calling p ≡ t → t ≡ false
          tests true x = absurd (true≢false (sym e ∙ rw (eqb-true (place_no p) 8 x)))
          tests false x = refl

      by_four : (r : Reply) → OneOfFour w a.offer r → (is_calling r.station.place ≡ false) × (r.taken ≡ is_calling3 r.station.place)
      by_four r (OneOfFour.answers x) = (ap is_calling x.awaits_1, x.takes_nothing ∙ sym (ap is_calling3 x.awaits_1))
      by_four r (OneOfFour.places i z n x) = absurd (left n)
      by_four r (OneOfFour.of_three_blocks x y) = (not_both r.station.place x, y)
      by_four r (OneOfFour.waits x) = (ap is_calling x.stays.1, x.takes_nothing ∙ sym (ap is_calling3 x.stays.1))

      go : (x : Answer Reply) → said s a ≡ x → (is_calling (station_after s x).place ≡ false) × (is_taken x ≡ is_calling3 (station_after s x).place)
      go (answered r) p = by_four r (stands_exactly s a.burst a.offer r p w here).one_of_four
      go (refused n v) p = (ap is_calling here, sym (ap is_calling3 here))

  places_one : w.wait ≡ 0 → (i : Identity) (r : Reply) → a.offer ≡ Offer.Call i → said s a ≡ answered r → none_answered r.station.place ≡ true → PlacesCall i r
  places_one none_left i r z p n = by_four (stands_exactly s a.burst a.offer r p w here).one_of_four
    where
      calling : is_calling r.station.place ≡ true
      calling = (stands_exactly s a.burst a.offer r p w here).places_exactly.1 ((i, z), n, none_left)

      three_not : (p : Place) → is_calling p ≡ true → is_answering p || is_calling3 p ≡ true → ⊥
      three_not p x y = true≢false (sym y ∙ rw (eqb-true (place_no p) 8 x))

      by_four : OneOfFour w a.offer r → PlacesCall i r
      by_four (OneOfFour.answers x) = absurd (true≢false (sym calling ∙ ap is_calling x.awaits_1))
      by_four (OneOfFour.places j y m x) = let u : j ≡ i = cc in subst (λ (k : Identity). PlacesCall k r) u x
      by_four (OneOfFour.of_three_blocks x y) = absurd (three_not r.station.place calling x)
      by_four (OneOfFour.waits x) = absurd (true≢false (sym calling ∙ ap is_calling x.stays.1))

-- the steps left to wait, and which call block was heard, at Stand-by
abbrev wait_in : Place → ℕ
wait_in p = at_stand_by (λ w. w.wait) 0 p

abbrev heard_in : Place → Mark
heard_in p = at_stand_by (λ w. w.heard) Mark.None p

-- "waits 128 cycles in stand-by"
module _ (s : Station) (b : Words) (o : Offer) (r : Reply) where
  -- a call that fails, of two blocks or of three, leaves 128 steps to wait
  failed : Does s b o r → is_calling s.place || is_calling3 s.place ≡ true → is_stand_by r.station.place ≡ true → wait_in r.station.place ≡ 128
  failed (elsewhere x y c t) k h = absurd (true≢false (sym h ∙ x))
  failed (rests x (p, q) c t) k h = ap wait_in p ∙ rw k
  failed (waits w e q) k h = absurd (true≢false (sym k ∙ ap (λ (p : Place). is_calling p || is_calling3 p) e))
  failed (places w i e z y q) k h = absurd (true≢false (sym k ∙ ap (λ (p : Place). is_calling p || is_calling3 p) e))
  failed (calls_on_lem c e m q) k h = absurd (true≢false (sym h ∙ ap (λ (r : Reply). is_stand_by r.station.place) q))

  -- and each step there one less
  one_less : Does s b o r → is_stand_by s.place ≡ true → is_stand_by r.station.place ≡ true → wait_in r.station.place ≡ wait_in s.place - 1
  one_less (elsewhere x y c t) k h = absurd (true≢false (sym h ∙ x))
  one_less (rests x (p, q) c t) k h = absurd (true≢false (sym k ∙ x))
  one_less (waits w e q) k h = ap (λ (r : Reply). wait_in r.station.place) q ∙ ap (λ (p : Place). wait_in p - 1) (sym e)
  one_less (places w i e z y q) k h = absurd (true≢false (sym h ∙ ap (λ (r : Reply). is_stand_by r.station.place) q))
  one_less (calls_on_lem c e m q) k h = absurd (true≢false (sym h ∙ ap (λ (r : Reply). is_stand_by r.station.place) q))

  -- what it keeps is which call block it has just heard there
  mark_step : Does s b o r → is_stand_by r.station.place ≡ true → heard_in r.station.place ≡ (if is_stand_by s.place then call_of s.own.four b else Mark.None)
  mark_step (elsewhere x y c t) h = absurd (true≢false (sym h ∙ x))
  mark_step (rests x (p, q) c t) h = ap heard_in p ∙ rw x
  mark_step (waits w e q) h = ap (λ (r : Reply). heard_in r.station.place) q ∙ rw (ap is_stand_by e)
  mark_step (places w i e z y q) h = absurd (true≢false (sym h ∙ ap (λ (r : Reply). is_stand_by r.station.place) q))
  mark_step (calls_on_lem c e m q) h = absurd (true≢false (sym h ∙ ap (λ (r : Reply). is_stand_by r.station.place) q))

module _ (s : Station) (e : Event) (calling : is_calling s.place || is_calling3 s.place ≡ true) (standby : is_stand_by (next s e).place ≡ true) where
  begins : wait_in (next s e).place ≡ 128
  begins = go (said s e) refl standby
    where
      go : (a : Answer Reply) → said s e ≡ a → is_stand_by (station_after s a).place ≡ true → wait_in (station_after s a).place ≡ 128
      go (answered r) p h = failed s e.burst e.offer r (does s e.burst e.offer r p) calling h
      go (refused n v) p h = absurd (true≢false (sym calling ∙ rw (eqb-true (place_no s.place) 6 h)))

  record Left (run : Run) : Type 0 where
    there : is_stand_by (after (next s e) run).place ≡ true
    left : wait_in (after (next s e) run).place ≡ 128 - steps_in (next s e) run

  left_run : (run : Run) → StaysAtStandBy (next s e) run → Left run
  unfolding steps_in StaysAtStandBy
  left_run start y = record { there = standby; left = begins }
  left_run (run ▷ a) y = record { there = y.1; left = go (left_run run y.0) (said (after (next s e) run) a) refl y.1 }
    where
      go : Left run → (x : Answer Reply) → said (after (next s e) run) a ≡ x → is_stand_by (station_after (after (next s e) run) x).place ≡ true → wait_in (station_after (after (next s e) run) x).place ≡ 128 - one_step x (steps_in (next s e) run)
      go k (answered r) p h =
          let l = one_less (after (next s e) run) a.burst a.offer r (does (after (next s e) run) a.burst a.offer r p) k.there h in
          let m = k.left in
          omega arith
      go k (refused n v) p h = k.left

  pub waits_128 : (run : Run) → StaysAtStandBy (next s e) run → Waits s e run
  waits_128 run y =
      let k = left_run run y in
      let at = is_standby (after (next s e) run).place k.there in
      let left : at.0.wait ≡ 128 - steps_in (next s e) run = sym (ap wait_in at.1) ∙ k.left in
      record {
        waits = λ l a. places_none (after (next s e) run) a at.0 at.1 (λ z. omega arith);
        calls_again = λ l a i r z p n. places_one (after (next s e) run) a at.0 at.1 (omega arith) i r z p n;
      }

-- which call block was heard last, told from the run
abbrev last_mark : Identity → Option Step → Mark
last_mark i none = Mark.None
last_mark i (some x) = if is_stand_by x.place then call_of i x.burst else Mark.None

-- both blocks: one heard by the last step at Stand-by, and the other now
abbrev InSuccession : Identity → Option Step → Words → Type 0
InSuccession i l b = (Successive l b (call_block1 i) (call_block2 i)) ⊎ (Successive l b (call_block2 i) (call_block1 i))

module _ (i : Identity) (b : Words) where
  both_say : (m n : Mark) (x : Words) → Says i x m → Says i b n → both_heard m n ≡ true → (is_callable i ≡ true) × (((x ≡ call_block1 i) × (b ≡ call_block2 i)) ⊎ ((x ≡ call_block2 i) × (b ≡ call_block1 i)))
  both_say Mark.None n x p q e = absurd (false≢true e)
  both_say Mark.One Mark.None x p q e = absurd (false≢true e)
  both_say Mark.One Mark.One x p q e = absurd (false≢true e)
  both_say Mark.One Mark.Two x p q e = (p.0, inl (p.1, q.1))
  both_say Mark.Two Mark.None x p q e = absurd (false≢true e)
  both_say Mark.Two Mark.One x p q e = (p.0, inr (p.1, q.1))
  both_say Mark.Two Mark.Two x p q e = absurd (false≢true e)

  told : (l : Option Step) → both_heard (last_mark i l) (call_of i b) ≡ true → (is_callable i ≡ true) × InSuccession i l b
  told none e = absurd (false≢true e)
  told (some x) e = go (is_stand_by x.place) refl e
    where
      with_place : is_stand_by x.place ≡ true → (is_callable i ≡ true) × (((x.burst ≡ call_block1 i) × (b ≡ call_block2 i)) ⊎ ((x.burst ≡ call_block2 i) × (b ≡ call_block1 i))) → (is_callable i ≡ true) × InSuccession i (some x) b
      with_place p (k, inl (y, z)) = (k, inl ((p, y), z))
      with_place p (k, inr (y, z)) = (k, inr ((p, y), z))

      go : (t : Bool) → is_stand_by x.place ≡ t → both_heard (if t then call_of i x.burst else Mark.None) (call_of i b) ≡ true → (is_callable i ≡ true) × InSuccession i (some x) b
      go true p e = with_place p (both_say (call_of i x.burst) (call_of i b) x.burst (call_says i x.burst) (call_says i b) e)
      go false p e = absurd (false≢true e)

  tells : (l : Option Step) → is_callable i ≡ true → InSuccession i l b → both_heard (last_mark i l) (call_of i b) ≡ true
  tells none k (inl h) = absurd h.0
  tells none k (inr h) = absurd h.0
  tells (some x) k (inl h) = rw (h.0.0, h.0.1, h.1, hears_1 i k, hears_2 i k)
  tells (some x) k (inr h) = rw (h.0.0, h.0.1, h.1, hears_1 i k, hears_2 i k)

-- "The slave answers CS1 after both blocks in succession"
module _ (from : Station) (none_heard : NoneHeard from) where
  mark_run : (run : Run) → is_stand_by (after from run).place ≡ true → heard_in (after from run).place ≡ last_mark from.own.four (last_step from run)
  unfolding last_step
  mark_run start h = let w = is_standby from.place h in ap heard_in w.1 ∙ none_heard w.0 w.1
  mark_run (run ▷ e) h = go (mark_run run) (said (after from run) e) refl h
    where
      go : (is_stand_by (after from run).place ≡ true → heard_in (after from run).place ≡ last_mark from.own.four (last_step from run)) → (a : Answer Reply) → said (after from run) e ≡ a → is_stand_by (station_after (after from run) a).place ≡ true → heard_in (station_after (after from run) a).place ≡ last_mark from.own.four (step_or a (some (record { place = (after from run).place; burst = e.burst })) (last_step from run))
      go k (answered r) p h =
          mark_step (after from run) e.burst e.offer r (does (after from run) e.burst e.offer r p) h ∙ ap (λ (x : Own). if is_stand_by (after from run).place then call_of x.four e.burst else Mark.None) (own_lasts from run)
      go k (refused n v) p h = k h

  module _ (run : Run) (w : Waiting) (here : (after from run).place ≡ StandBy w) (e : Event) (r : Reply) (answer : said (after from run) e ≡ answered r) where
    mark_now : w.heard ≡ last_mark from.own.four (last_step from run)
    mark_now = sym (ap heard_in here) ∙ mark_run run (ap is_stand_by here)

    both_now : both_heard w.heard (call_of (after from run).own.four e.burst) ≡ both_heard (last_mark from.own.four (last_step from run)) (call_of from.own.four e.burst)
    both_now = rw (mark_now, own_lasts from run)

    heard_so_lem : HearsCall from run e r
    heard_so_lem =
        record {
          answers_exactly = (λ x. let h = told from.own.four e.burst (last_step from run) (sym both_now ∙ sym receives ∙ x) in record { is_callable_lem = h.0; in_succession_lem = h.1 }, λ h. receives ∙ hears h);
          answers_so = λ h. answered_call (after from run) e.burst e.offer r answer w here (hears h);
        }
      where
        receives : is_receiving r.station.place ≡ both_heard w.heard (call_of (after from run).own.four e.burst)
        receives = receiving_is (after from run) e.burst e.offer r answer w here

        hears : BothBlocks from run e → both_heard w.heard (call_of (after from run).own.four e.burst) ≡ true
        hears h = both_now ∙ tells from.own.four e.burst (last_step from run) h.is_callable_lem h.in_succession_lem

pub hears_call_exactly : (from : Station) → NoneHeard from → (run : Run) (w : Waiting) → (after from run).place ≡ StandBy w → (e : Event) (r : Reply) → said (after from run) e ≡ answered r → HearsCall from run e r
hears_call_exactly from none_heard run w here e r answer = heard_so_lem from none_heard run w here e r answer

-- entering Stand-by
pub enters_alone : (s : Station) (b : Words) (o : Offer) (r : Reply) → stepping s b o ≡ answered r → is_stand_by s.place ≡ false → is_stand_by r.station.place ≡ true → Enters s r
enters_alone s b o r answer x h = go (does s b o r answer)
  where
    go : Does s b o r → Enters s r
    go (elsewhere n c d e) = absurd (true≢false (sym h ∙ n))
    go (rests y (p, q) c t) = record { rests_so = p; alone = q }
    go (waits w p e) = absurd (true≢false (sym (ap is_stand_by p) ∙ x))
    go (places w i p e f g) = absurd (true≢false (sym (ap is_stand_by p) ∙ x))
    go (calls_on_lem c p l e) = absurd (true≢false (sym h ∙ ap (λ (r : Reply). is_stand_by r.station.place) e))
