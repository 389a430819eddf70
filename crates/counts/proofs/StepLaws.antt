-- One step: it is a repetition exactly where the row repeats, and what that does to the count and to the place. Assumes nothing.
use mathlib.Core.Path.{◌≡◌, refl, ap, sym, ◌∙◌}
use mathlib.Core.Bool.{Bool, true, false, not, ◌&&◌, and-false, true≢false, and-eq-true_iff}
use Prim.Native.Nat.{◌+◌}
use lib.Dec.{eqb, leb}
use borrow.Author.Tests.{eq-eqb}
use Rattle.std.specs.Prelude.{if◌then◌else◌}
use Rattle.mode_a.specs.declared.Number.{Number}
use Rattle.mode_a.specs.declared.Number.TheVariants.{One}
use Rattle.mode_a.specs.declared.Stage.{Stage}
use Rattle.mode_a.specs.declared.Peer.TheVariants.{Four, Known}
use Rattle.mode_a.specs.declared.Words.{Words}
use Rattle.mode_a.specs.declared.Held.{Held}
use Rattle.mode_a.specs.declared.Ended.{Ended}
use Rattle.mode_a.specs.declared.Place.{Place}
use Rattle.mode_a.specs.declared.Place.TheVariants.{Sending, Turning, Opening, Ending, Receiving, Asking, StandBy, Lost, Calling, Calling3, Identifying, Answering}
use Rattle.mode_a.specs.declared.Offer.{Offer}
use Rattle.mode_a.specs.declared.Station.{Station}
use Rattle.mode_a.specs.declared.Doing.{Doing}
use Rattle.mode_a.specs.declared.Doing.TheVariants.{Repeats, Goes, Takes, Receives, Opens, Accepts, Rests, Answers, Listens, Reaches, Answers3, Bars, Ends, Turns, Meets, Again, Yields}
use Rattle.mode_a.specs.declared.Reply.{Reply}
use Rattle.mode_a.specs.Station.{silence, resting}
use Rattle.mode_a.specs.Heard.{Heard}
use Rattle.mode_a.specs.Over.{listened_all}
use Rattle.mode_a.specs.Rows.{row_of, is_last}
use Rattle.mode_a.specs.Step.{done, takes, knowing, wait_at, is_over}
use Rattle.runs.specs.Places.{place_no, is_stand_by, is_lost, changed, losing, telling, counting, stage_no}
use Rattle.runs.specs.Runs.{next_stage}
use Rattle.runs.proofs.RowLaws.{by_sending, by_turning, by_opening, by_ending, by_receiving, by_asking, by_standing, by_calling, by_calling3, by_identifying, by_answering}
use Rattle.runs.proofs.StepLaws.{placed, by_repeat, by_again, by_meet, by_take, by_accept, by_listen}
use Rattle.counts.specs.Runs.{stays}

abbrev pub is_repeats : Doing → Bool
is_repeats (Repeats w) = true
is_repeats (Goes p w) = false
is_repeats (Takes n) = false
is_repeats (Receives n) = false
is_repeats Opens = false
is_repeats (Accepts n) = false
is_repeats (Rests n w) = false
is_repeats Answers = false
is_repeats (Listens w) = false
is_repeats (Reaches p n) = false
is_repeats Answers3 = false
is_repeats (Bars i) = false
is_repeats (Ends i) = false
is_repeats (Turns i) = false
is_repeats (Meets i) = false
is_repeats (Again p w) = true
is_repeats (Yields n) = false

-- what holds of a repetition: at one of the five places the 32nd makes it Lost, in identification it leads to Stand-by
pub record Repeated (s : Station) (r : Reply) : Type 0 where
  pub lost : is_lost r.station.place ≡ losing s.place && leb 31 s.count
  pub counted : r.station.count ≡ (if leb 31 s.count then 0 else s.count + 1)
  pub changes : changed s.place r.station.place ≡ leb 31 s.count
  pub rests : telling s.place ≡ true → is_stand_by r.station.place ≡ leb 31 s.count
  pub silent : telling s.place ≡ true → leb 31 s.count ≡ true → (r.station.place ≡ resting (wait_at s.other 0)) × (r.sent ≡ silence) × (r.printed ≡ silence) × (r.taken ≡ false)

-- what holds of a step from the place p that hears h and does d
pub record Fact (s : Station) (h : Heard) (d : Doing) (r : Reply) : Type 0 where
  pub told : leb 31 s.count ≡ false → stays s.place h r.station.place ≡ is_repeats d
  pub stays_lost : is_lost s.place ≡ true → (is_repeats d ≡ false) × (is_lost r.station.place ≡ true)
  pub repeated : is_repeats d ≡ true → Repeated s r
  pub moved : is_repeats d ≡ false → r.station.count ≡ 0
  pub elsewhere : counting r.station.place ≡ false → r.station.count ≡ 0
  pub no_lost : is_repeats d ≡ false → is_lost s.place ≡ false → is_lost r.station.place ≡ false
  pub silent : is_lost r.station.place ≡ true → (r.sent ≡ silence) × (r.printed ≡ silence) × (r.taken ≡ false)

-- where staying is told as a repetition, repetitions count
counts_here : (p : Place) (h : Heard) → stays p h p ≡ true → counting p ≡ true
unfolding stays
counts_here p h e = ((and-eq-true_iff _ _).0 e).0

same_place : (p : Place) → changed p p ≡ false
same_place p = ap not (eq-eqb (place_no p) (place_no p) refl)

-- a row that repeats at one of the five places, where staying is told as a repetition
again : (s : Station) (h : Heard) (b : Words) (o : Offer) (w : Words) → losing s.place ≡ true → telling s.place ≡ false → is_lost s.place ≡ false → stays s.place h s.place ≡ true → Fact s h (Repeats w) (done s b o (Repeats w))
unfolding done
again s h b o w loses untold kept same =
    by_repeat (Fact s h (Repeats w)) s w (λ e. record {
      told = λ x. absurd (true≢false (sym e ∙ x));
      stays_lost = λ l. absurd (true≢false (sym l ∙ kept));
      repeated = λ x. record {
        lost = sym ((and-eq-true_iff _ _).1 (loses, e));
        counted = rw e;
        changes = ap not kept ∙ sym e;
        rests = λ t. absurd (true≢false (sym t ∙ untold));
        silent = λ t. absurd (true≢false (sym t ∙ untold));
      };
      moved = λ x. absurd (true≢false x);
      elsewhere = λ x. refl;
      no_lost = λ x. absurd (true≢false x);
      silent = λ x. (refl, refl, refl);
    }) (λ e. record {
      told = λ x. same;
      stays_lost = λ l. absurd (true≢false (sym l ∙ kept));
      repeated = λ x. record {
        lost = kept ∙ sym (ap (λ (t : Bool). losing s.place && t) e ∙ and-false (losing s.place));
        counted = rw e;
        changes = same_place s.place ∙ sym e;
        rests = λ t. absurd (true≢false (sym t ∙ untold));
        silent = λ t. absurd (true≢false (sym t ∙ untold));
      };
      moved = λ x. absurd (true≢false x);
      elsewhere = λ x. absurd (true≢false (sym (counts_here s.place h same) ∙ x));
      no_lost = λ x. absurd (true≢false x);
      silent = λ x. absurd (true≢false (sym x ∙ kept));
    })

-- a row that repeats in identification, at the same place and stage
tells_again : (s : Station) (h : Heard) (b : Words) (o : Offer) (p : Place) (w : Words) → losing s.place ≡ false → is_lost s.place ≡ false → changed s.place (resting 0) ≡ true → changed s.place p ≡ false → is_lost p ≡ false → is_stand_by p ≡ false → counting p ≡ true → stays s.place h p ≡ true → Fact s h (Again p w) (done s b o (Again p w))
unfolding done
tells_again s h b o p w kept_on kept leaves same found here counted same_told =
    by_again (Fact s h (Again p w)) s p w (λ e. record {
      told = λ x. absurd (true≢false (sym e ∙ x));
      stays_lost = λ l. absurd (true≢false (sym l ∙ kept));
      repeated = λ x. record {
        lost = sym (ap (λ (t : Bool). t && leb 31 s.count) kept_on);
        counted = rw e;
        changes = leaves ∙ sym e;
        rests = λ t. sym e;
        silent = λ t l. (refl, refl, refl, refl);
      };
      moved = λ x. absurd (true≢false x);
      elsewhere = λ x. refl;
      no_lost = λ x. absurd (true≢false x);
      silent = λ x. absurd (true≢false (sym x));
    }) (λ e. record {
      told = λ x. same_told;
      stays_lost = λ l. absurd (true≢false (sym l ∙ kept));
      repeated = λ x. record {
        lost = found ∙ sym (ap (λ (t : Bool). t && leb 31 s.count) kept_on);
        counted = rw e;
        changes = same ∙ sym e;
        rests = λ t. here ∙ sym e;
        silent = λ t l. absurd (true≢false (sym l ∙ e));
      };
      moved = λ x. absurd (true≢false x);
      elsewhere = λ x. absurd (true≢false (sym counted ∙ x));
      no_lost = λ x. absurd (true≢false x);
      silent = λ x. absurd (true≢false (sym x ∙ found));
    })

-- the same stage is the same, and the next is another
same_stage_lem : (g : Stage) → not (eqb (stage_no g) (stage_no g)) ≡ false
same_stage_lem g = ap not (eq-eqb (stage_no g) (stage_no g) refl)

next_stage_lem : (g : Stage) → is_last g ≡ false → not (eqb (stage_no g) (stage_no (next_stage g))) ≡ true
next_stage_lem Stage.One e = refl
next_stage_lem Stage.Two e = refl
next_stage_lem Stage.Three e = refl
next_stage_lem Stage.Four e = absurd (true≢false e)

-- a row that does not repeat, from a place that is not Lost to a place that is not
else_fact : (s : Station) (h : Heard) (d : Doing) (r : Reply) → is_repeats d ≡ false → stays s.place h r.station.place ≡ false → is_lost s.place ≡ false → r.station.count ≡ 0 → is_lost r.station.place ≡ false → Fact s h d r
else_fact s h d r e told kept zero_now after =
    record {
      told = λ x. told ∙ sym e;
      stays_lost = λ l. absurd (true≢false (sym l ∙ kept));
      repeated = λ x. absurd (true≢false (sym x ∙ e));
      moved = λ x. zero_now;
      elsewhere = λ x. zero_now;
      no_lost = λ x y. after;
      silent = λ x. absurd (true≢false (sym x ∙ after));
    }

-- an offer taken, by the station itself or by it with another at the other end: it is at Sending or Ending then, with count 0
taken_fact : (s s' : Station) (h : Heard) (d : Doing) (n : Number) (o : Offer) → is_repeats d ≡ false → ((x : Held) → stays s.place h (Sending x) ≡ false) → ((e : Ended) → stays s.place h (Ending e) ≡ false) → is_lost s.place ≡ false → Fact s h d (takes s' n o)
taken_fact s s' h d n o none holds ends kept =
    by_take (Fact s h d) s' n o (λ v w t. else_fact s h d _ none (holds _) kept refl refl) (else_fact s h d _ none (ends _) kept refl refl)

module _ (s : Station) (b : Words) (o : Offer) (h : Heard) where
  abbrev Row : Place → Doing → Type 0
  Row p d = Fact (placed s p) h d (done (placed s p) b o d)

  row_fact : (p : Place) → Row p (row_of s.own s.role p h)
  unfolding done stays
  row_fact (Sending x) =
      by_sending (Row (Sending x)) x h.first (λ y. again _ h b o _ refl refl refl (rw y)) (λ y. taken_fact _ (placed s (Sending x)) h _ _ o refl (λ z. rw y) (λ z. rw y) refl) (λ y. else_fact _ h _ _ refl (rw y) refl refl refl) (λ y. again _ h b o _ refl refl refl (rw y))
  row_fact (Turning n) =
      by_turning (Row (Turning n)) s.role n h (else_fact _ h _ _ refl refl refl refl refl) (again _ h b o _ refl refl refl refl) (again _ h b o _ refl refl refl refl)
  row_fact Opening =
      by_opening (Row Opening) s.role h.first (λ n. taken_fact _ (placed s Opening) h _ n o refl (λ z. refl) (λ z. refl) refl) (else_fact _ h _ _ refl refl refl refl refl) (again _ h b o _ refl refl refl refl)
  row_fact (Ending x) =
      by_ending (Row (Ending x)) x h.first (else_fact _ h _ _ refl refl refl refl refl) (λ l. else_fact _ h _ _ refl refl refl refl refl)
  row_fact (Receiving n) =
      by_receiving (Row (Receiving n)) n h (λ y. by_accept (Fact (placed s (Receiving n)) h (Accepts n)) (placed s (Receiving n)) n b o (listened_all s.case s.plus b) (λ v u. else_fact _ h _ _ refl (rw y) refl refl refl) (else_fact _ h _ _ refl (rw y) refl refl refl)) (λ y. else_fact _ h _ _ refl (rw y) refl refl refl) (λ y. again _ h b o _ refl refl refl (rw y))
  row_fact Asking = by_asking (Row Asking) h (else_fact _ h _ _ refl refl refl refl refl) (again _ h b o _ refl refl refl refl)
  row_fact (StandBy w) =
      by_standing (Row (StandBy w)) w h.call h.call3 (λ y. else_fact _ h _ _ refl refl refl refl refl) (λ y z. else_fact _ h _ _ refl refl refl refl refl) (λ y z. by_listen (Fact (placed s (StandBy w)) h (Listens _)) (placed s (StandBy w)) _ o (λ i c z. else_fact _ h _ _ refl refl refl refl refl) (λ i c z. else_fact _ h _ _ refl refl refl refl refl) (else_fact _ h _ _ refl refl refl refl refl))
  row_fact Lost =
      record {
        told = λ x. refl;
        stays_lost = λ l. (refl, refl);
        repeated = λ x. absurd (true≢false (sym x));
        moved = λ x. refl;
        elsewhere = λ x. refl;
        no_lost = λ x y. absurd (true≢false y);
        silent = λ x. (refl, refl, refl);
      }
  row_fact (Calling c) =
      by_calling (Row (Calling c)) c h.first (λ n f m. taken_fact _ (knowing (placed s (Calling c)) (Four c.to)) h _ n o refl (λ z. refl) (λ z. refl) refl) (else_fact _ h _ _ refl refl refl refl refl) (λ l. else_fact _ h _ _ refl refl refl refl refl)
  row_fact (Calling3 c) =
      by_calling3 (Row (Calling3 c)) s.own.seven c h.first (λ e. else_fact _ h _ _ refl refl refl refl refl) (λ e. else_fact _ h _ _ refl refl refl refl refl) (else_fact _ h _ _ refl refl refl refl refl) (λ l. else_fact _ h _ _ refl refl refl refl refl)
  row_fact (Identifying i) =
      by_identifying (Row (Identifying i)) s.own.seven i h.first (λ e. tells_again _ h b o _ _ refl refl refl refl refl refl refl (rw (same_stage_lem i.stage))) (λ e l. else_fact _ h _ _ refl (rw (next_stage_lem i.stage l)) refl refl refl) (λ w e l m n. tells_again _ h b o _ _ refl refl refl refl refl refl refl (rw (same_stage_lem i.stage))) (λ w e l m. else_fact _ h _ _ refl refl refl refl refl) (λ e l. else_fact _ h _ _ refl refl refl refl refl) (λ e l. taken_fact _ (knowing (placed s (Identifying i)) (Known i.to)) h _ One o refl (λ z. refl) (λ z. refl) refl) (λ e l. else_fact _ h _ _ refl refl refl refl refl)
  row_fact (Answering g) =
      by_answering (Row (Answering g)) s.own.seven g h (else_fact _ h _ _ refl refl refl refl refl) (λ l. by_meet (Fact (placed s (Answering g)) h (Meets g.got)) (knowing (placed s (Answering g)) (Known g.got)) (is_over o) (else_fact _ h _ _ refl refl refl refl refl) (else_fact _ h _ _ refl refl refl refl refl)) (λ l x w. else_fact _ h _ _ refl (rw (next_stage_lem g.stage l)) refl refl refl) (λ x w. tells_again _ h b o _ _ refl refl refl refl refl refl refl (rw (same_stage_lem g.stage)))

-- of every step
pub step_fact : (s : Station) (b : Words) (o : Offer) (h : Heard) → Fact s h (row_of s.own s.role s.place h) (done s b o (row_of s.own s.role s.place h))
step_fact s b o h = row_fact s b o h s.place
