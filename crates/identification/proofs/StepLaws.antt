-- One step, as far as identification is concerned: it repeats at its stage, goes on to the next, leads away, enters the first, or has to do
-- with none of it.
--     does   of every step
-- Assumes nothing.
use mathlib.Core.Path.{◌≡◌, refl, sym, subst, ◌∙◌}
use mathlib.Core.Bool.{true, false, ◌||◌, true≢false, false≢true}
use mathlib.Core.Option.{Option, none, some}
use Prim.Native.Nat.{ℕ, suc, ◌+◌, ◌≤◌}
use native.Mathlib.Omega.{arith}
use native.Mathlib.Numerals.{add-one}
use lib.Dec.{leb}
use borrow.Author.Tests.{leb-false, le-leb}
use Rattle.std.specs.Prelude.{if◌then◌else◌}
use Rattle.signals.specs.Numbers.{answered}
use Rattle.identity.specs.declared.Seven.{Seven}
use Rattle.mode_a.specs.declared.Number.{Number}
use Rattle.mode_a.specs.declared.Number.TheVariants.{One}
use Rattle.mode_a.specs.declared.Words.{Words}
use Rattle.mode_a.specs.declared.Stage.{Stage}
use Rattle.mode_a.specs.declared.Identified.{Identified}
use Rattle.mode_a.specs.declared.Gathered.{Gathered}
use Rattle.mode_a.specs.declared.Peer.TheVariants.{Four, Known}
use Rattle.mode_a.specs.declared.Place.{Place}
use Rattle.mode_a.specs.declared.Place.TheVariants.{Sending, Turning, Opening, Ending, Receiving, Asking, StandBy, Lost, Calling, Calling3, Identifying, Answering}
use Rattle.mode_a.specs.declared.Offer.{Offer}
use Rattle.mode_a.specs.declared.Station.{Station}
use Rattle.mode_a.specs.declared.Doing.{Doing}
use Rattle.mode_a.specs.declared.Reply.{Reply}
use Rattle.mode_a.specs.Identification.{identity_block}
use Rattle.mode_a.specs.Station.{single, silence}
use Rattle.mode_a.specs.Heard.{Else, Letter, further_of, first_of, heard_of}
use Rattle.mode_a.specs.Over.{listened_all}
use Rattle.mode_a.specs.Rows.{row_of, is_last}
use Rattle.mode_a.specs.Step.{takes, repeats, knowing, again, is_over, done, stepping}
use Rattle.mode_a.proofs.HeardLaws.{Says, first_says, first_else, SaysFurther, further_says}
use Rattle.runs.specs.Places.{is_ending, is_stand_by, changed, telling, stage_no, stage_in}
use Rattle.runs.specs.Runs.{next_stage, wrong_at}
use Rattle.runs.proofs.RowLaws.{by_sending, by_turning, by_opening, by_ending, by_receiving, by_asking, by_standing, by_calling, by_calling3, by_identifying, by_answering}
use Rattle.runs.proofs.StepLaws.{answers, placed, by_repeat, by_again, by_meet, by_take, by_accept, by_listen}
use Rattle.identification.specs.Runs.{hears_wrong}

-- how many wrong check-sums a place has counted
abbrev pub wrong_in : Place → ℕ
wrong_in (Sending h) = 0
wrong_in (Turning n) = 0
wrong_in Opening = 0
wrong_in (Ending e) = 0
wrong_in (Receiving n) = 0
wrong_in Asking = 0
wrong_in (StandBy w) = 0
wrong_in Lost = 0
wrong_in (Calling c) = 0
wrong_in (Calling3 c) = 0
wrong_in (Identifying i) = i.wrong
wrong_in (Answering g) = 0

-- the block that Identifying sends; nothing elsewhere
abbrev pub block_in : Seven → Place → Words
block_in y (Sending h) = silence
block_in y (Turning n) = silence
block_in y Opening = silence
block_in y (Ending e) = silence
block_in y (Receiving n) = silence
block_in y Asking = silence
block_in y (StandBy w) = silence
block_in y Lost = silence
block_in y (Calling c) = silence
block_in y (Calling3 c) = silence
block_in y (Identifying i) = identity_block y i.stage
block_in y (Answering g) = silence

-- the last wrong check-sum that a place has counted
abbrev pub last_in : Place → Option ℕ
last_in (Sending h) = none
last_in (Turning n) = none
last_in Opening = none
last_in (Ending e) = none
last_in (Receiving n) = none
last_in Asking = none
last_in (StandBy w) = none
last_in Lost = none
last_in (Calling c) = none
last_in (Calling3 c) = none
last_in (Identifying i) = if leb 1 i.wrong then some i.last else none
last_in (Answering g) = none

-- the letter that is read from a first word is that word
pub letter_is : (v w : ℕ) → first_of v ≡ Else (Letter w) → v ≡ w
letter_is v w e =
    let says = subst (Says v) e (first_says v) in
    let same : Else (further_of v) ≡ Else (Letter w) = sym (first_else v says.0 says.1 says.2 says.3) ∙ e in
    let further : further_of v ≡ Letter w = cc in
    (subst (SaysFurther v) further (further_says v)).0

-- a repetition at the stage, with what it heard
pub record Again (s : Station) (b : Words) (r : Reply) : Type 0 where
  pub here : telling s.place ≡ true
  pub same : changed s.place r.station.place ≡ false
  pub stage : stage_in r.station.place ≡ stage_in s.place
  pub below : s.count ≤ 30
  pub counted : r.station.count ≡ suc s.count
  pub wrong : wrong_in r.station.place ≡ (if hears_wrong s.place (first_of b.0) then suc (wrong_in s.place) else wrong_in s.place)
  pub wrong_below : hears_wrong s.place (first_of b.0) ≡ true → wrong_in s.place ≤ 3
  pub block : hears_wrong s.place (first_of b.0) ≡ true → r.sent ≡ block_in s.own.seven s.place
  pub last : last_in r.station.place ≡ (if hears_wrong s.place (first_of b.0) then some b.0 else last_in s.place)

-- the next stage
pub record Onward (s : Station) (b : Words) (r : Reply) : Type 0 where
  pub here : telling s.place ≡ true
  pub same : changed s.place r.station.place ≡ false
  pub stage : stage_in r.station.place ≡ suc (stage_in s.place)
  pub counted : r.station.count ≡ 0
  pub not_wrong : hears_wrong s.place (first_of b.0) ≡ false
  pub last : last_in r.station.place ≡ none

pub data Does (s : Station) (b : Words) (r : Reply) : Type 0 where
  repeated : Again s b r → Does s b r
  goes_on : Onward s b r → Does s b r
  leaves : telling s.place ≡ true → telling r.station.place ≡ false → (hears_wrong s.place (first_of b.0) ≡ true → is_ending r.station.place || is_stand_by r.station.place ≡ true) → Does s b r
  enters : telling s.place ≡ false → stage_in r.station.place ≡ 1 → r.station.count ≡ 0 → last_in r.station.place ≡ none → Does s b r
  elsewhere : telling s.place ≡ false → telling r.station.place ≡ false → Does s b r

-- no check-sum is heard behind the third stage
last_not_wrong : (g : Stage) (i : Identified) (b : Words) → is_last g ≡ true → wrong_at g i.to (first_of b.0) ≡ false
last_not_wrong Stage.One i b e = absurd (false≢true e)
last_not_wrong Stage.Two i b e = absurd (false≢true e)
last_not_wrong Stage.Three i b e = absurd (false≢true e)
last_not_wrong Stage.Four i b e = refl

next_stage_lem : (g : Stage) → is_last g ≡ false → stage_no (next_stage g) ≡ suc (stage_no g)
next_stage_lem Stage.One e = refl
next_stage_lem Stage.Two e = refl
next_stage_lem Stage.Three e = refl
next_stage_lem Stage.Four e = absurd (true≢false e)

module _ (s : Station) (b : Words) (o : Offer) where
  abbrev Row : Place → Doing → Type 0
  Row p d = Does (placed s p) b (done (placed s p) b o d)

  -- a row that repeats, or takes, at a place that is none of identification
  repeats_so : (p : Place) (w : Words) → telling p ≡ false → Does (placed s p) b (repeats (placed s p) w)
  repeats_so p w e = by_repeat (Does (placed s p) b) (placed s p) w (λ u. elsewhere e refl) (λ u. elsewhere e e)

  takes_so : (p : Place) (t : Station) (n : Number) → telling p ≡ false → Does (placed s p) b (takes t n o)
  takes_so p t n e = by_take (Does (placed s p) b) t n o (λ v w u. elsewhere e refl) (elsewhere e refl)

  -- the repetitions of Identifying, by whether a wrong check-sum was heard
  told : (i : Identified) → wrong_at i.stage i.to (first_of b.0) ≡ false → Does (placed s (Identifying i)) b (again (placed s (Identifying i)) (Identifying i) (identity_block s.own.seven i.stage))
  told i f =
      by_again (Does (placed s (Identifying i)) b) (placed s (Identifying i)) (Identifying i) _ (λ u. leaves refl refl (λ w. refl)) (λ u. repeated (record {
        here = refl;
        same = refl;
        stage = refl;
        below = let h = leb-false 31 s.count u in omega arith;
        counted = add-one s.count;
        wrong = rw f;
        wrong_below = λ w. absurd (true≢false (sym w ∙ f));
        block = λ w. refl;
        last = rw f;
      }))

  told_wrong : (i : Identified) (w : ℕ) → first_of b.0 ≡ Else (Letter w) → wrong_at i.stage i.to (first_of b.0) ≡ true → leb 4 i.wrong ≡ false → Does (placed s (Identifying i)) b (again (placed s (Identifying i)) (Identifying (record { to = i.to; stage = i.stage; wrong = i.wrong + 1; last = w })) (identity_block s.own.seven i.stage))
  told_wrong i w heard f l =
      by_again (Does (placed s (Identifying i)) b) (placed s (Identifying i)) (Identifying (record { to = i.to; stage = i.stage; wrong = i.wrong + 1; last = w })) _ (λ u. leaves refl refl (λ w. refl)) (λ u. repeated (record {
        here = refl;
        same = refl;
        stage = refl;
        below = let h = leb-false 31 s.count u in omega arith;
        counted = add-one s.count;
        wrong = rw f (add-one i.wrong);
        wrong_below = λ x. let h = leb-false 4 i.wrong l in omega arith;
        block = λ x. refl;
        last = rw (f, le-leb 1 (i.wrong + 1) (omega arith), letter_is b.0 w heard);
      }))

  asked : (g : Gathered) (x : Seven) (w : ℕ) → Does (placed s (Answering g)) b (again (placed s (Answering g)) (Answering (record { stage = g.stage; got = x })) (single w))
  asked g x w =
      by_again (Does (placed s (Answering g)) b) (placed s (Answering g)) (Answering (record { stage = g.stage; got = x })) (single w) (λ u. leaves refl refl (λ w. refl)) (λ u. repeated (record {
        here = refl;
        same = refl;
        stage = refl;
        below = let h = leb-false 31 s.count u in omega arith;
        counted = add-one s.count;
        wrong = refl;
        wrong_below = λ w. absurd (false≢true w);
        block = λ w. absurd (false≢true w);
        last = refl;
      }))

  by_place : (p : Place) → Row p (row_of s.own s.role p (heard_of s.own b))
  unfolding done heard_of
  by_place (Sending x) =
      by_sending (Row (Sending x)) x (first_of b.0) (λ c. repeats_so (Sending x) _ refl) (λ c. takes_so (Sending x) (placed s (Sending x)) _ refl) (λ c. elsewhere refl refl) (λ c. repeats_so (Sending x) _ refl)
  by_place (Turning n) =
      by_turning (Row (Turning n)) s.role n (heard_of s.own b) (elsewhere refl refl) (repeats_so (Turning n) _ refl) (repeats_so (Turning n) _ refl)
  by_place Opening =
      by_opening (Row Opening) s.role (first_of b.0) (λ n. takes_so Opening (placed s Opening) n refl) (elsewhere refl refl) (repeats_so Opening _ refl)
  by_place (Ending x) = by_ending (Row (Ending x)) x (first_of b.0) (elsewhere refl refl) (λ l. elsewhere refl refl)
  by_place (Receiving n) =
      by_receiving (Row (Receiving n)) n (heard_of s.own b) (λ y. by_accept (Does (placed s (Receiving n)) b) (placed s (Receiving n)) n b o (listened_all s.case s.plus b) (λ v u. elsewhere refl refl) (elsewhere refl refl)) (λ y. elsewhere refl refl) (λ y. repeats_so (Receiving n) _ refl)
  by_place Asking = by_asking (Row Asking) (heard_of s.own b) (elsewhere refl refl) (repeats_so Asking _ refl)
  by_place (StandBy w) =
      by_standing (Row (StandBy w)) w (heard_of s.own b).call (heard_of s.own b).call3 (λ y. elsewhere refl refl) (λ y z. enters refl refl refl refl) (λ y z. by_listen (Does (placed s (StandBy w)) b) (placed s (StandBy w)) _ o (λ i c z. elsewhere refl refl) (λ i c z. elsewhere refl refl) (elsewhere refl refl))
  by_place Lost = elsewhere refl refl
  by_place (Calling c) =
      by_calling (Row (Calling c)) c (first_of b.0) (λ n f m. takes_so (Calling c) (knowing (placed s (Calling c)) (Four c.to)) n refl) (elsewhere refl refl) (λ l. elsewhere refl refl)
  by_place (Calling3 c) =
      by_calling3 (Row (Calling3 c)) s.own.seven c (first_of b.0) (λ e. enters refl refl refl refl) (λ e. elsewhere refl refl) (elsewhere refl refl) (λ l. elsewhere refl refl)
  by_place (Identifying i) =
      by_identifying (Row (Identifying i)) s.own.seven i (first_of b.0) (λ f. told i f) (λ f l. goes_on (record { here = refl; same = refl; stage = next_stage_lem i.stage l; counted = refl; not_wrong = f; last = refl })) (λ w e f n l. told_wrong i w e f l) (λ w e f n. leaves refl refl (λ x. refl)) (λ f l. leaves refl refl (λ x. refl)) (λ e l. by_take (Does (placed s (Identifying i)) b) (knowing (placed s (Identifying i)) (Known i.to)) One o (λ v w t. leaves refl refl (λ x. absurd (true≢false (sym x ∙ last_not_wrong i.stage i b l)))) (leaves refl refl (λ x. refl))) (λ e l. leaves refl refl (λ x. absurd (true≢false (sym x ∙ last_not_wrong i.stage i b l))))
  by_place (Answering g) =
      by_answering (Row (Answering g)) s.own.seven g (heard_of s.own b) (leaves refl refl (λ x. refl)) (λ l. by_meet (Does (placed s (Answering g)) b) (knowing (placed s (Answering g)) (Known g.got)) (is_over o) (leaves refl refl (λ x. absurd (false≢true x))) (leaves refl refl (λ x. absurd (false≢true x)))) (λ l x w. goes_on (record { here = refl; same = refl; stage = next_stage_lem g.stage l; counted = refl; not_wrong = refl; last = refl })) (λ x w. asked g x w)

pub does : (s : Station) (b : Words) (o : Offer) (r : Reply) → stepping s b o ≡ answered r → Does s b r
does s b o r e = rw (answers s b o r e).is_done (by_place s b o s.place)
