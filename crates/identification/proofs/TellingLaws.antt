-- 02, T-05: wrong check-sums, and how long identification lasts, of every run (001, 3.6.12 and 3.6.18).
--     wrong_sums       at one stage the block goes out again for wrong check-sums four times at most
--     lasts_128        at most 31 repetitions that stay at a stage, and 128 steps at Identifying and at Answering
-- Assumes nothing.
use mathlib.Core.Path.{◌≡◌, refl, ap, sym, ◌∙◌}
use mathlib.Core.Bool.{Bool, true, false, not, ◌&&◌, ◌||◌, true≢false}
use Prim.Native.Nat.{ℕ, suc, ◌+◌, ◌*◌, ◌≤◌}
use native.Mathlib.Omega.{arith}
use lib.Dec.{eqb}
use borrow.Author.Tests.{eqb-true, eq-eqb, not-false}
use Rattle.std.specs.Prelude.{if◌then◌else◌}
use Rattle.signals.specs.Numbers.{Answer, answered, refused}
use Rattle.mode_a.specs.declared.Own.{Own}
use Rattle.mode_a.specs.declared.Stage.{Stage}
use Rattle.mode_a.specs.declared.Identified.{Identified}
use Rattle.mode_a.specs.declared.Words.{Words}
use Rattle.mode_a.specs.declared.Place.{Place}
use Rattle.mode_a.specs.declared.Place.TheVariants.{Sending, Turning, Opening, Ending, Receiving, Asking, StandBy, Lost, Calling, Calling3, Identifying, Answering}
use Rattle.mode_a.specs.declared.Station.{Station}
use Rattle.mode_a.specs.declared.Reply.{Reply}
use Rattle.mode_a.specs.Identification.{identity_block}
use Rattle.mode_a.specs.Heard.{first_of}
use Rattle.mode_a.specs.Step.{station_after}
use Rattle.runs.specs.Places.{place_no, is_ending, is_stand_by, changed, advanced, telling, stage_no, stage_in}
use Rattle.runs.specs.Runs.{Run, start, ◌▷◌, said, after}
use Rattle.runs.proofs.StepLaws.{own_lasts}
use Rattle.identification.specs.Runs.{hears_wrong, same_stage, within, wrongs_in_stage, repeats_in_stage, steps_at}
use Rattle.identification.specs.Telling.{WrongSums, Lasts}
use Rattle.identification.proofs.StepLaws.{wrong_in, block_in, Again, Onward, Does, repeated, goes_on, leaves, enters, elsewhere, does}

-- the stage is 1 to 4 where there is one
stage_no_lem : (g : Stage) → (1 ≤ stage_no g) × (stage_no g ≤ 4)
stage_no_lem Stage.One = (omega arith, omega arith)
stage_no_lem Stage.Two = (omega arith, omega arith)
stage_no_lem Stage.Three = (omega arith, omega arith)
stage_no_lem Stage.Four = (omega arith, omega arith)

stage_in_lem : (p : Place) → (telling p ≡ true → 1 ≤ stage_in p) × (stage_in p ≤ 4)
stage_in_lem (Sending h) = (λ e. absurd (true≢false (sym e)), omega arith)
stage_in_lem (Turning n) = (λ e. absurd (true≢false (sym e)), omega arith)
stage_in_lem Opening = (λ e. absurd (true≢false (sym e)), omega arith)
stage_in_lem (Ending x) = (λ e. absurd (true≢false (sym e)), omega arith)
stage_in_lem (Receiving n) = (λ e. absurd (true≢false (sym e)), omega arith)
stage_in_lem Asking = (λ e. absurd (true≢false (sym e)), omega arith)
stage_in_lem (StandBy w) = (λ e. absurd (true≢false (sym e)), omega arith)
stage_in_lem Lost = (λ e. absurd (true≢false (sym e)), omega arith)
stage_in_lem (Calling c) = (λ e. absurd (true≢false (sym e)), omega arith)
stage_in_lem (Calling3 c) = (λ e. absurd (true≢false (sym e)), omega arith)
stage_in_lem (Identifying i) = (λ e. (stage_no_lem i.stage).0, (stage_no_lem i.stage).1)
stage_in_lem (Answering g) = (λ e. (stage_no_lem g.stage).0, (stage_no_lem g.stage).1)

-- a step that leaves neither place nor stage is a repetition, and the others are none
module _ (s : Station) (b : Words) (r : Reply) where
  pub stays_at : Again s b r → same_stage s.place r.station.place ≡ true
  stays_at a = rw (a.here, a.same, eq-eqb (stage_in s.place) (stage_in r.station.place) (sym a.stage))

  pub goes_off : Onward s b r → same_stage s.place r.station.place ≡ false
  goes_off n = go (eqb (stage_in s.place) (stage_in r.station.place)) refl
    where
      go : (t : Bool) → eqb (stage_in s.place) (stage_in r.station.place) ≡ t → telling s.place && (not (changed s.place r.station.place) && not (not t)) ≡ false
      go true e = let x = eqb-true (stage_in s.place) (stage_in r.station.place) e in let y = n.stage in absurd (omega arith)
      go false e = rw (n.here, n.same)

  -- to leave identification is to leave the place
  pub leaves_off : telling s.place ≡ true → telling r.station.place ≡ false → same_stage s.place r.station.place ≡ false
  leaves_off t u = go (eqb (place_no s.place) (place_no r.station.place)) refl
    where
      go : (v : Bool) → eqb (place_no s.place) (place_no r.station.place) ≡ v → telling s.place && (not (not v) && not (advanced s.place r.station.place)) ≡ false
      go true e =
          absurd (true≢false (sym t ∙ ap (λ (n : ℕ). eqb n 10 || eqb n 11) (eqb-true (place_no s.place) (place_no r.station.place) e) ∙ u))
      go false e = rw t

  pub not_there : telling s.place ≡ false → same_stage s.place r.station.place ≡ false
  not_there t = rw t

-- wrong check-sums: k of them at this stage, and as many or more are counted
record Wrongs (p : Place) (k : ℕ) : Type 0 where
  counted : telling p ≡ true → k ≤ wrong_in p
  small : k ≤ 4

no_wrongs : (p : Place) → Wrongs p 0
no_wrongs p = record { counted = λ t. omega arith; small = omega arith }

wrongs_step : (s : Station) (b : Words) (r : Reply) (k : ℕ) → Wrongs s.place k → Does s b r → Wrongs r.station.place (within (answered r) (same_stage s.place r.station.place) (hears_wrong s.place (first_of b.0)) k)
wrongs_step s b r k w (repeated a) = rw (stays_at s b r a) (go (hears_wrong s.place (first_of b.0)) refl a.wrong)
  where
    go : (t : Bool) → hears_wrong s.place (first_of b.0) ≡ t → wrong_in r.station.place ≡ (if t then suc (wrong_in s.place) else wrong_in s.place) → Wrongs r.station.place (if t then suc k else k)
    go true h e =
        let l = w.counted a.here in
        let m = a.wrong_below h in
        record { counted = λ t. omega arith; small = omega arith }
    go false h e = let l = w.counted a.here in let m = w.small in record { counted = λ t. omega arith; small = omega arith }
wrongs_step s b r k w (goes_on n) = rw (goes_off s b r n) (no_wrongs r.station.place)
wrongs_step s b r k w (leaves t u f) = rw (leaves_off s b r t u) (no_wrongs r.station.place)
wrongs_step s b r k w (enters t g c v) = rw (not_there s b r t) (no_wrongs r.station.place)
wrongs_step s b r k w (elsewhere t u) = rw (not_there s b r t) (no_wrongs r.station.place)

-- a wrong check-sum is heard at Identifying alone
wrong_here : (p : Place) (b : Words) → hears_wrong p (first_of b.0) ≡ true → telling p ≡ true
wrong_here (Sending h) b e = e
wrong_here (Turning n) b e = e
wrong_here Opening b e = e
wrong_here (Ending x) b e = e
wrong_here (Receiving n) b e = e
wrong_here Asking b e = e
wrong_here (StandBy w) b e = e
wrong_here Lost b e = e
wrong_here (Calling c) b e = e
wrong_here (Calling3 c) b e = e
wrong_here (Identifying i) b e = refl
wrong_here (Answering g) b e = refl

fifth_step : (s : Station) (b : Words) (r : Reply) (k : ℕ) → Wrongs s.place k → Does s b r → hears_wrong s.place (first_of b.0) ≡ true → k ≡ 4 → is_ending r.station.place || is_stand_by r.station.place ≡ true
fifth_step s b r k w (repeated a) h e = let l = w.counted a.here in let m = a.wrong_below h in absurd (omega arith)
fifth_step s b r k w (goes_on n) h e = absurd (true≢false (sym h ∙ n.not_wrong))
fifth_step s b r k w (leaves t u f) h e = f h
fifth_step s b r k w (enters t g c n) h e = absurd (true≢false (sym (wrong_here s.place b h) ∙ t))
fifth_step s b r k w (elsewhere t u) h e = absurd (true≢false (sym (wrong_here s.place b h) ∙ t))

again_step : (s : Station) (b : Words) (r : Reply) (i : Identified) → s.place ≡ Identifying i → Does s b r → hears_wrong s.place (first_of b.0) ≡ true → same_stage s.place r.station.place ≡ true → r.sent ≡ identity_block s.own.seven i.stage
again_step s b r i p (repeated a) h e = a.block h ∙ ap (block_in s.own.seven) p
again_step s b r i p (goes_on n) h e = absurd (true≢false (sym e ∙ goes_off s b r n))
again_step s b r i p (leaves t u f) h e = absurd (true≢false (sym e ∙ leaves_off s b r t u))
again_step s b r i p (enters t g c n) h e = absurd (true≢false (sym e ∙ not_there s b r t))
again_step s b r i p (elsewhere t u) h e = absurd (true≢false (sym e ∙ not_there s b r t))

module _ (from : Station) where
  wrongs_run : (run : Run) → Wrongs (after from run).place (wrongs_in_stage from run)
  unfolding wrongs_in_stage
  wrongs_run start = no_wrongs from.place
  wrongs_run (run ▷ e) = go (wrongs_run run) (said (after from run) e) refl
    where
      go : Wrongs (after from run).place (wrongs_in_stage from run) → (a : Answer Reply) → said (after from run) e ≡ a → Wrongs (station_after (after from run) a).place (within a (same_stage (after from run).place (station_after (after from run) a).place) (hears_wrong (after from run).place (first_of e.burst.0)) (wrongs_in_stage from run))
      go k (answered r) p = wrongs_step (after from run) e.burst r _ k (does (after from run) e.burst e.offer r p)
      go k (refused n v) p = k

  pub wrong_sums : (run : Run) → WrongSums from run
  wrong_sums run =
      record {
        at_most_four = (wrongs_run run).small;
        goes_out_again = λ i e r h p w m. again_step (after from run) e.burst r i h (does (after from run) e.burst e.offer r p) w (ap (λ (a : Answer Reply). same_stage (after from run).place (station_after (after from run) a).place) (sym p) ∙ m) ∙ ap (λ (o : Own). identity_block o.seven i.stage) (own_lasts from run);
        fifth_leads_away = λ e r p w n. fifth_step (after from run) e.burst r _ (wrongs_run run) (does (after from run) e.burst e.offer r p) w n;
      }

-- a sixth sending of a block for wrong check-sums, which would be five times again
pub no_sixth_sending : (from : Station) (run : Run) → wrongs_in_stage from run ≡ 5 → ⊥
no_sixth_sending from run e = let l = (wrong_sums from run).at_most_four in omega arith

-- how long it lasts: m repetitions at this stage, and k steps at the place with the number n, which is one of identification
record Kept (n : ℕ) (s : Station) (m k : ℕ) : Type 0 where
  count_small : telling s.place ≡ true → s.count ≤ 31
  repeats_so : telling s.place ≡ true → m ≤ s.count
  repeats_small : m ≤ 31
  steps_so : eqb (place_no s.place) n ≡ true → k + 32 ≤ 32 * stage_in s.place + s.count
  steps_small : k ≤ 128

module _ (n : ℕ) (tells : (p : Place) → eqb (place_no p) n ≡ true → telling p ≡ true) where
  -- outside identification nothing has begun
  none_yet : (s : Station) (k : ℕ) → k ≤ 128 → telling s.place ≡ false → Kept n s 0 k
  none_yet s k l t =
      record {
        count_small = λ u. absurd (true≢false (sym u ∙ t));
        repeats_so = λ u. absurd (true≢false (sym u ∙ t));
        repeats_small = omega arith;
        steps_so = λ u. absurd (true≢false (sym (tells s.place u) ∙ t));
        steps_small = l;
      }

  -- the same place has the same number
  same_number : (p q : Place) → changed p q ≡ false → eqb (place_no q) n ≡ eqb (place_no p) n
  same_number p q e = ap (λ (x : ℕ). eqb x n) (sym (eqb-true (place_no p) (place_no q) (not-false _ e)))

  kept_step : (s : Station) (b : Words) (r : Reply) (m k : ℕ) → Kept n s m k → Does s b r → Kept n r.station (within (answered r) (same_stage s.place r.station.place) (same_stage s.place r.station.place) m) (within (answered r) (eqb (place_no s.place) n) (eqb (place_no s.place) n) k)
  kept_step s b r m k h (repeated a) = rw (stays_at s b r a) (go (eqb (place_no s.place) n) refl)
    where
      go : (t : Bool) → eqb (place_no s.place) n ≡ t → Kept n r.station (suc m) (if t then (if t then suc k else k) else 0)
      go true e =
          let x = h.steps_so e in
          let y = h.repeats_so a.here in
          let z = a.below in
          let c = a.counted in
          let g = a.stage in
          let l = (stage_in_lem s.place).1 in
          record { count_small = λ u. omega arith; repeats_so = λ u. omega arith; repeats_small = omega arith; steps_so = λ u. omega arith; steps_small = omega arith }
      go false e =
          let y = h.repeats_so a.here in
          let z = a.below in
          let c = a.counted in
          record { count_small = λ u. omega arith; repeats_so = λ u. omega arith; repeats_small = omega arith; steps_so = λ u. absurd (true≢false (sym u ∙ same_number s.place r.station.place a.same ∙ e)); steps_small = omega arith }
  kept_step s b r m k h (goes_on v) = rw (goes_off s b r v) (go (eqb (place_no s.place) n) refl)
    where
      go : (t : Bool) → eqb (place_no s.place) n ≡ t → Kept n r.station 0 (if t then (if t then suc k else k) else 0)
      go true e =
          let x = h.steps_so e in
          let z = h.count_small v.here in
          let c = v.counted in
          let g = v.stage in
          let l = (stage_in_lem r.station.place).1 in
          record { count_small = λ u. omega arith; repeats_so = λ u. omega arith; repeats_small = omega arith; steps_so = λ u. omega arith; steps_small = omega arith }
      go false e =
          let c = v.counted in
          record { count_small = λ u. omega arith; repeats_so = λ u. omega arith; repeats_small = omega arith; steps_so = λ u. absurd (true≢false (sym u ∙ same_number s.place r.station.place v.same ∙ e)); steps_small = omega arith }
  kept_step s b r m k h (leaves t u f) = rw (leaves_off s b r t u) (go (eqb (place_no s.place) n) refl)
    where
      go : (v : Bool) → eqb (place_no s.place) n ≡ v → Kept n r.station 0 (if v then (if v then suc k else k) else 0)
      go true e =
          let x = h.steps_so e in
          let z = h.count_small t in
          let l = (stage_in_lem s.place).1 in
          none_yet r.station (suc k) (omega arith) u
      go false e = none_yet r.station 0 (omega arith) u
  kept_step s b r m k h (enters t g c v) = rw (not_there s b r t) (go (eqb (place_no s.place) n) refl)
    where
      go : (v : Bool) → eqb (place_no s.place) n ≡ v → Kept n r.station 0 (if v then (if v then suc k else k) else 0)
      go true e = absurd (true≢false (sym (tells s.place e) ∙ t))
      go false e = record { count_small = λ u. omega arith; repeats_so = λ u. omega arith; repeats_small = omega arith; steps_so = λ u. omega arith; steps_small = omega arith }
  kept_step s b r m k h (elsewhere t u) = rw (not_there s b r t) (go (eqb (place_no s.place) n) refl)
    where
      go : (v : Bool) → eqb (place_no s.place) n ≡ v → Kept n r.station 0 (if v then (if v then suc k else k) else 0)
      go true e = absurd (true≢false (sym (tells s.place e) ∙ t))
      go false e = none_yet r.station 0 (omega arith) u

  module _ (from : Station) (fine : from.count ≤ 31) where
    kept_run : (run : Run) → Kept n (after from run) (repeats_in_stage from run) (steps_at (λ p. eqb (place_no p) n) from run)
    unfolding repeats_in_stage steps_at
    kept_run start = go (telling from.place) refl
      where
        go : (t : Bool) → telling from.place ≡ t → Kept n from 0 0
        go true t =
            let l = (stage_in_lem from.place).0 t in
            record { count_small = λ u. fine; repeats_so = λ u. omega arith; repeats_small = omega arith; steps_so = λ u. omega arith; steps_small = omega arith }
        go false t = none_yet from 0 (omega arith) t
    kept_run (run ▷ e) = go (kept_run run) (said (after from run) e) refl
      where
        go : Kept n (after from run) (repeats_in_stage from run) (steps_at (λ p. eqb (place_no p) n) from run) → (a : Answer Reply) → said (after from run) e ≡ a → Kept n (station_after (after from run) a) (within a (same_stage (after from run).place (station_after (after from run) a).place) (same_stage (after from run).place (station_after (after from run) a).place) (repeats_in_stage from run)) (within a (eqb (place_no (after from run).place) n) (eqb (place_no (after from run).place) n) (steps_at (λ p. eqb (place_no p) n) from run))
        go k (answered r) p = kept_step (after from run) e.burst r _ _ k (does (after from run) e.burst e.offer r p)
        go k (refused m v) p = k

pub lasts_128 : (from : Station) → from.count ≤ 31 → (run : Run) → Lasts from run
lasts_128 from fine run =
    record {
      at_most_31 = (kept_run 10 ten from fine run).repeats_small;
      identifying_128 = (kept_run 10 ten from fine run).steps_small;
      answering_128 = (kept_run 11 eleven from fine run).steps_small;
    }
  where
    ten : (p : Place) → eqb (place_no p) 10 ≡ true → telling p ≡ true
    ten p e = rw e

    eleven : (p : Place) → eqb (place_no p) 11 ≡ true → telling p ≡ true
    eleven p e = rw (eqb-true (place_no p) 11 e)

-- the 33rd repetition in a row at one stage, which would follow 32 that stay there
pub no_33rd : (from : Station) → from.count ≤ 31 → (run : Run) → repeats_in_stage from run ≡ 32 → ⊥
no_33rd from fine run e = let l = (lasts_128 from fine run).at_most_31 in omega arith
