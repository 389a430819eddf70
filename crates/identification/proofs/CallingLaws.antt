-- 02, T-05: the station that calls with three blocks, of every run that starts outside such a call (001, 3.5.4, 3.5.7, 3.5.8, 3.6.1).
--     in_turn_3          call bursts in a row are told by the station's own number, never more than 128, the three blocks in turn
--     call_3_ends        CS4 once leads to identification, CS5 to the end procedure, CS3 and the 128 to Stand-by
-- Assumes nothing.
use mathlib.Core.Path.{◌≡◌, refl, ap, sym, subst, ◌∙◌}
use mathlib.Core.Bool.{Bool, true, false, ◌&&◌, ◌||◌, and-false, true≢false, false≢true}
use mathlib.Core.Logic.{◌⊎◌, inl, inr}
use mathlib.Core.Option.{Option, none, some}
use Prim.Native.Nat.{ℕ, suc, ◌+◌, ◌%◌, ◌<◌, ◌≤◌}
use native.Mathlib.Omega.{arith}
use lib.Dec.{eqb, leb}
use borrow.Author.Tests.{leb-true, leb-false, eqb-true, eqb-false, eq-eqb, ne_eqb}
use Rattle.std.specs.Prelude.{if◌then◌else◌}
use Rattle.signals.specs.Meaning.{cs3, cs4, cs5}
use Rattle.signals.specs.Numbers.{Answer, answered, refused}
use Rattle.identity.specs.declared.Seven.{Seven}
use Rattle.identity.specs.Sums.{is_callable7}
use Rattle.mode_a.specs.declared.Words.{Words}
use Rattle.mode_a.specs.declared.Stage.{Stage}
use Rattle.mode_a.specs.declared.Called3.{Called3}
use Rattle.mode_a.specs.declared.Peer.TheVariants.{Barred}
use Rattle.mode_a.specs.declared.Place.{Place}
use Rattle.mode_a.specs.declared.Place.TheVariants.{Sending, Turning, Opening, Ending, Receiving, Asking, StandBy, Lost, Calling, Calling3, Identifying, Answering}
use Rattle.mode_a.specs.declared.Offer.{Offer}
use Rattle.mode_a.specs.declared.Station.{Station}
use Rattle.mode_a.specs.declared.Doing.TheVariants.{Goes, Bars}
use Rattle.mode_a.specs.declared.Reply.{Reply}
use Rattle.mode_a.specs.Calls.{call3_block1, call3_block2, call3_block3, next_block3}
use Rattle.mode_a.specs.Identification.{identity_block}
use Rattle.mode_a.specs.Station.{silence}
use Rattle.mode_a.specs.Heard.{First, Cs, Cs3, Rq, Else, Further, Cs4, Cs5, Letter, Other, further_of, first_of, heard_of}
use Rattle.mode_a.specs.Rows.{calling3, calls_on3, row_of}
use Rattle.mode_a.specs.Step.{moved_to, sends, rested, knowing, ends, done, stepping, station_after}
use Rattle.mode_a.proofs.HeardLaws.{Says, first_says, first_else, SaysFurther, further_says, first_cs3}
use Rattle.runs.specs.Places.{is_ending, is_stand_by, is_calling3, is_identifying, at_calling3}
use Rattle.runs.specs.Runs.{Event, Run, start, ◌▷◌, said, after}
use Rattle.runs.proofs.StepLaws.{answers}
use Rattle.identification.specs.Runs.{within, calls3_in_a_row, block_no3, calls_to3, last_called3}
use Rattle.identification.specs.ThreeBlocks.{InTurn3, CallEnds3}
use Rattle.identification.proofs.CallStepLaws.{is_call3, Does, elsewhere, rests, waits, places, calls_on_lem, does}

-- the number of call bursts that a place keeps
abbrev sent_of : Place → ℕ
sent_of p = at_calling3 (λ c. c.sent) 0 p

sent_none : (p : Place) → is_calling3 p ≡ false → sent_of p ≡ 0
sent_none (Sending h) e = refl
sent_none (Turning n) e = refl
sent_none Opening e = refl
sent_none (Ending x) e = refl
sent_none (Receiving n) e = refl
sent_none Asking e = refl
sent_none (StandBy w) e = refl
sent_none Lost e = refl
sent_none (Calling c) e = refl
sent_none (Calling3 c) e = absurd (true≢false e)
sent_none (Identifying i) e = refl
sent_none (Answering g) e = refl

-- "in turn": the block that follows n of them is due as number n + 1
next_block_lem : (i : Seven) (n : ℕ) → next_block3 i n ≡ block_no3 i (suc n)
unfolding next_block3
next_block_lem i n = go (eqb (n % 3) 0) (eqb (n % 3) 1) refl refl
  where
    go : (t u : Bool) → eqb (n % 3) 0 ≡ t → eqb (n % 3) 1 ≡ u → (if t then call3_block1 i else if u then call3_block2 i else call3_block3 i) ≡ (if eqb (suc n % 3) 1 then call3_block1 i else if eqb (suc n % 3) 2 then call3_block2 i else call3_block3 i)
    go true u e f = let h = eqb-true (n % 3) 0 e in rw (eq-eqb (suc n % 3) 1 (omega arith))
    go false true e f =
        let h = eqb-true (n % 3) 1 f in rw (ne_eqb (suc n % 3) 1 (λ z. omega arith), eq-eqb (suc n % 3) 2 (omega arith))
    go false false e f =
        let h = eqb-false (n % 3) 0 e in
        let k = eqb-false (n % 3) 1 f in
        rw (ne_eqb (suc n % 3) 1 (λ z. h (omega arith)), ne_eqb (suc n % 3) 2 (λ z. k (omega arith)))

-- a call that is not taken is not the last one
untaken : (r : Reply) (o : Offer) (l : Option Seven) → is_call3 o && r.taken ≡ false → calls_to3 (answered r) o l ≡ l
untaken r (Offer.Text w) l e = refl
untaken r Offer.Over l e = refl
untaken r Offer.End l e = refl
untaken r Offer.Nothing l e = refl
untaken r (Offer.Call i) l e = refl
untaken r (Offer.Call3 i) l e = rw e

-- what is kept from step to step, where k call bursts were sent in a row and l was called last
record Kept (p : Place) (k : ℕ) (l : Option Seven) : Type 0 where
  is : sent_of p ≡ k
  small : k ≤ 128
  to : (c : Called3) → p ≡ Calling3 c → (l ≡ some c.to) × (is_callable7 c.to ≡ true)

outside : (p : Place) (l : Option Seven) → is_calling3 p ≡ false → Kept p 0 l
outside p l x = record { is = sent_none p x; small = omega arith; to = λ c e. absurd (true≢false (sym (ap is_calling3 e) ∙ x)) }

abbrev sends3 : Reply → ℕ → ℕ
sends3 r k = within (answered r) (is_calling3 r.station.place) (is_calling3 r.station.place) k

module _ (s : Station) (b : Words) (o : Offer) (r : Reply) (k : ℕ) (l : Option Seven) (kept : Kept s.place k l) where
  kept_step : Does s b o r → Kept r.station.place (sends3 r k) (calls_to3 (answered r) o l)
  kept_step (elsewhere x y t) = rw y (outside r.station.place _ y)
  kept_step (rests x u n p t) =
      let f = ap (λ (s : Station). is_calling3 s.place) p in rw f (outside r.station.place _ f)
  kept_step (waits w e z q) = rw q (outside _ _ refl)
  kept_step (places w i e z y q) =
      let h : k ≡ 0 = sym kept.is ∙ ap sent_of e in
      rw (q, z) (record {
        is = omega arith;
        small = omega arith;
        to = λ c p. let u : i ≡ c.to = ap (at_calling3 (λ c. c.to) i) p in (ap some u, subst (λ (j : Seven). is_callable7 j ≡ true) u y);
      })
  kept_step (calls_on_lem c e m q) =
      let h : k ≡ c.sent = sym kept.is ∙ ap sent_of e in
      let v = leb-false 128 c.sent m in
      let g = kept.to c e in
      rw (q, untaken (sends s silence) o l (and-false (is_call3 o))) (record {
        is = omega arith;
        small = omega arith;
        to = λ d p. let u : c.to ≡ d.to = ap (at_calling3 (λ c. c.to) c.to) p in (g.0 ∙ ap some u, subst (λ (j : Seven). is_callable7 j ≡ true) u g.1);
      })

  in_turn_step : Does s b o r → is_calling3 r.station.place ≡ true → (i : Seven) × (calls_to3 (answered r) o l ≡ some i) × (r.sent ≡ block_no3 i (sends3 r k))
  in_turn_step (elsewhere x y t) f = absurd (true≢false (sym f ∙ y))
  in_turn_step (rests x u n p t) f = absurd (true≢false (sym f ∙ ap (λ (s : Station). is_calling3 s.place) p))
  in_turn_step (waits w e z q) f = absurd (true≢false (sym f ∙ ap (λ (r : Reply). is_calling3 r.station.place) q))
  in_turn_step (places w i e z y q) f =
      let h : 0 ≡ k = sym (ap sent_of e) ∙ kept.is in
      (i, rw (q, z), rw (f, ← h) (ap (λ (r : Reply). r.sent) q))
  in_turn_step (calls_on_lem c e m q) f =
      let h : c.sent ≡ k = sym (ap sent_of e) ∙ kept.is in
      (c.to, rw q (untaken (sends s silence) o l (and-false (is_call3 o)) ∙ (kept.to c e).0), rw (f, ← h) (ap (λ (r : Reply). r.sent) q ∙ next_block_lem c.to c.sent))

  begins_step : Does s b o r → (i : Seven) → o ≡ Offer.Call3 i → r.taken ≡ true → (k ≡ 0) × (r.sent ≡ call3_block1 i)
  begins_step (elsewhere x y t) i e f = absurd (false≢true (sym t ∙ rw (e, f)))
  begins_step (rests x u n p t) i e f = absurd (false≢true (sym t ∙ rw (e, f)))
  begins_step (waits w e z q) i d f = absurd (true≢false (sym f ∙ ap (λ (r : Reply). r.taken) q))
  begins_step (places w j e z y q) i d f =
      let u : j ≡ i = cc in
      (sym kept.is ∙ ap sent_of e, ap (λ (r : Reply). r.sent) q ∙ ap call3_block1 u)
  begins_step (calls_on_lem c e m q) i d f = absurd (true≢false (sym f ∙ ap (λ (r : Reply). r.taken) q))

module _ (from : Station) (not_calling : is_calling3 from.place ≡ false) where
  kept_run : (run : Run) → Kept (after from run).place (calls3_in_a_row from run) (last_called3 from run)
  unfolding calls3_in_a_row last_called3
  kept_run start = outside from.place none not_calling
  kept_run (run ▷ e) = go (kept_run run) (said (after from run) e) refl
    where
      go : Kept (after from run).place (calls3_in_a_row from run) (last_called3 from run) → (a : Answer Reply) → said (after from run) e ≡ a → Kept (station_after (after from run) a).place (within a (is_calling3 (station_after (after from run) a).place) (is_calling3 (station_after (after from run) a).place) (calls3_in_a_row from run)) (calls_to3 a e.offer (last_called3 from run))
      go k (answered r) p = kept_step (after from run) e.burst e.offer r _ _ k (does (after from run) e.burst e.offer r p)
      go k (refused n v) p = k

  pub in_turn_3 : (run : Run) → InTurn3 from run
  unfolding calls3_in_a_row last_called3
  in_turn_3 run =
      record {
        sents = λ c e. sym (ap sent_of e) ∙ (kept_run run).is;
        to = (kept_run run).to;
        at_most = (kept_run run).small;
        in_turn = λ e r p f. rw p (in_turn_step (after from run) e.burst e.offer r _ _ (kept_run run) (does (after from run) e.burst e.offer r p) f);
        begins = λ e r i p. begins_step (after from run) e.burst e.offer r _ _ (kept_run run) (does (after from run) e.burst e.offer r p) i;
      }

-- what a first word says, by its value
module _ (w : ℕ) where
  further_of_lem : (x : Further) → first_of w ≡ Else x → further_of w ≡ x
  further_of_lem x e =
      let says = subst (Says w) e (first_says w) in
      let same : Else (further_of w) ≡ Else x = sym (first_else w says.0 says.1 says.2 says.3) ∙ e in
      cc

  is_cs4 : first_of w ≡ Else Cs4 → w ≡ cs4
  is_cs4 e = subst (SaysFurther w) (further_of_lem Cs4 e) (further_says w)

  is_cs5 : first_of w ≡ Else Cs5 → w ≡ cs5
  is_cs5 e = subst (SaysFurther w) (further_of_lem Cs5 e) (further_says w)

  is_cs3_lem : first_of w ≡ Cs3 → w ≡ cs3
  is_cs3_lem e = subst (Says w) e (first_says w)

  says_cs4 : w ≡ cs4 → first_of w ≡ Else Cs4
  unfolding first_of further_of
  says_cs4 e = rw e

  says_cs5 : w ≡ cs5 → first_of w ≡ Else Cs5
  unfolding first_of further_of
  says_cs5 e = rw e

-- first words told apart
abbrev signal_no : First → ℕ
signal_no (Cs n) = 1
signal_no Cs3 = 3
signal_no Rq = 6
signal_no (Else Cs4) = 4
signal_no (Else Cs5) = 5
signal_no (Else (Letter w)) = 7
signal_no (Else Other) = 8

-- the four ways on from Calling with three blocks
pub data Way (s : Station) (r : Reply) (c : Called3) (f : First) : Type 0 where
  tells : f ≡ Else Cs4 → r ≡ sends (moved_to s (Identifying (record { to = c.to; stage = Stage.One; wrong = 0; last = 0 }))) (identity_block s.own.seven Stage.One) → Way s r c f
  breaks : f ≡ Else Cs5 → r ≡ ends (knowing s (Barred c.to)) → Way s r c f
  fails : (f ≡ Else Cs4 → ⊥) → (f ≡ Else Cs5 → ⊥) → (f ≡ Cs3) ⊎ (128 ≤ c.sent) → r ≡ sends (rested (knowing s (Barred c.to)) 0) silence → Way s r c f
  goes_on : (f ≡ Else Cs4 → ⊥) → (f ≡ Else Cs5 → ⊥) → (f ≡ Cs3 → ⊥) → c.sent < 128 → (d : Called3) → r.station.place ≡ Calling3 d → Way s r c f

way : (s : Station) (b : Words) (o : Offer) (r : Reply) (c : Called3) (f : First) → r ≡ done s b o (calling3 s.own.seven c f) → Way s r c f
unfolding done
way s b o r c f = go f
  where
    on : (g : First) → (g ≡ Else Cs4 → ⊥) → (g ≡ Else Cs5 → ⊥) → (g ≡ Cs3 → ⊥) → r ≡ done s b o (calls_on3 c) → Way s r c g
    on g x y z e = more (leb 128 c.sent) refl e
      where
        more : (t : Bool) → leb 128 c.sent ≡ t → r ≡ done s b o (if t then Bars c.to else Goes (Calling3 (record { to = c.to; sent = c.sent + 1 })) (next_block3 c.to c.sent)) → Way s r c g
        more true l q = fails x y (inr (leb-true 128 c.sent l)) q
        more false l q = goes_on x y z (leb-false 128 c.sent l) _ (ap (λ (r : Reply). r.station.place) q)

    -- none of CS3, CS4 and CS5
    other : (g : First) → (signal_no g ≡ 4 → ⊥) → (signal_no g ≡ 5 → ⊥) → (signal_no g ≡ 3 → ⊥) → r ≡ done s b o (calls_on3 c) → Way s r c g
    other g x y z = on g (λ e. x (ap signal_no e)) (λ e. y (ap signal_no e)) (λ e. z (ap signal_no e))

    go : (g : First) → r ≡ done s b o (calling3 s.own.seven c g) → Way s r c g
    go (Cs n) q = other (Cs n) (λ e. omega (arith, e)) (λ e. omega (arith, e)) (λ e. omega (arith, e)) q
    go Cs3 q = fails (λ e. let z = ap signal_no e in omega (arith, z)) (λ e. let z = ap signal_no e in omega (arith, z)) (inl refl) q
    go Rq q = other Rq (λ e. omega (arith, e)) (λ e. omega (arith, e)) (λ e. omega (arith, e)) q
    go (Else Cs4) q = tells refl q
    go (Else Cs5) q = breaks refl q
    go (Else (Letter w)) q = other (Else (Letter w)) (λ e. omega (arith, e)) (λ e. omega (arith, e)) (λ e. omega (arith, e)) q
    go (Else Other) q = other (Else Other) (λ e. omega (arith, e)) (λ e. omega (arith, e)) (λ e. omega (arith, e)) q

pub from_calling : (s : Station) (b : Words) (o : Offer) (r : Reply) → stepping s b o ≡ answered r → (c : Called3) → s.place ≡ Calling3 c → Way s r c (first_of b.0)
unfolding heard_of
from_calling s b o r answer c here =
    way s b o r c (first_of b.0) ((answers s b o r answer).is_done ∙ ap (λ (p : Place). done s b o (row_of s.own s.role p (heard_of s.own b))) here)

module _ (from : Station) (not_calling : is_calling3 from.place ≡ false) (run : Run) (c : Called3) (here : (after from run).place ≡ Calling3 c) (e : Event) (r : Reply) (answer : said (after from run) e ≡ answered r) where
  -- where a first word is heard, its place after it tells which
  abbrev at : Reply → Place
  at r = r.station.place

  four_not_five : e.burst.0 ≡ cs4 → e.burst.0 ≡ cs5 → ⊥
  four_not_five x y = let z : cs4 ≡ cs5 = sym x ∙ y in omega (arith, z)

  by_way : Way (after from run) r c (first_of e.burst.0) → CallEnds3 from run c e r
  by_way (tells f q) =
      let p = ap at q in
      let four = is_cs4 e.burst.0 f in
      record {
        identifies_exactly = (λ x. four, λ x. ap is_identifying p);
        identifies = λ x. q;
        ends_exactly = (λ x. absurd (false≢true (sym (ap is_ending p) ∙ x)), λ x. absurd (four_not_five four x));
        ends_so = λ x. absurd (four_not_five four x);
        fails_exactly = (λ x. absurd (false≢true (sym (ap is_stand_by p) ∙ x)), λ x. absurd (x.0 four));
        fails = λ x. absurd (false≢true (sym (ap is_stand_by p) ∙ x));
        else_calls = λ x. absurd (true≢false (sym (ap (λ (p : Place). is_identifying p || is_ending p || is_stand_by p) p) ∙ x));
      }
  by_way (breaks f q) =
      let p = ap at q in
      let five = is_cs5 e.burst.0 f in
      record {
        identifies_exactly = (λ x. absurd (false≢true (sym (ap is_identifying p) ∙ x)), λ x. absurd (four_not_five x five));
        identifies = λ x. absurd (four_not_five x five);
        ends_exactly = (λ x. five, λ x. ap is_ending p);
        ends_so = λ x. q;
        fails_exactly = (λ x. absurd (false≢true (sym (ap is_stand_by p) ∙ x)), λ x. absurd (x.1 five));
        fails = λ x. absurd (false≢true (sym (ap is_stand_by p) ∙ x));
        else_calls = λ x. absurd (true≢false (sym (ap (λ (p : Place). is_identifying p || is_ending p || is_stand_by p) p) ∙ x));
      }
  by_way (fails x y z q) =
      let p = ap at q in
      record {
        identifies_exactly = (λ u. absurd (false≢true (sym (ap is_identifying p) ∙ u)), λ u. absurd (x (says_cs4 e.burst.0 u)));
        identifies = λ u. absurd (x (says_cs4 e.burst.0 u));
        ends_exactly = (λ u. absurd (false≢true (sym (ap is_ending p) ∙ u)), λ u. absurd (y (says_cs5 e.burst.0 u)));
        ends_so = λ u. absurd (y (says_cs5 e.burst.0 u));
        fails_exactly = (λ u. (λ v. x (says_cs4 e.burst.0 v), λ v. y (says_cs5 e.burst.0 v), why z), λ u. ap is_stand_by p);
        fails = λ u. q;
        else_calls = λ u. absurd (true≢false (sym (ap (λ (p : Place). is_identifying p || is_ending p || is_stand_by p) p) ∙ u));
      }
    where
      why : (first_of e.burst.0 ≡ Cs3) ⊎ (128 ≤ c.sent) → (e.burst.0 ≡ cs3) ⊎ (calls3_in_a_row from run ≡ 128)
      why (inl f) = inl (is_cs3_lem e.burst.0 f)
      why (inr l) =
          let i = in_turn_3 from not_calling run in
          let j = i.sents c here in
          let m = i.at_most in
          inr (omega arith)
  by_way (goes_on x y z l d p) =
      record {
        identifies_exactly = (λ u. absurd (false≢true (sym (ap is_identifying p) ∙ u)), λ u. absurd (x (says_cs4 e.burst.0 u)));
        identifies = λ u. absurd (x (says_cs4 e.burst.0 u));
        ends_exactly = (λ u. absurd (false≢true (sym (ap is_ending p) ∙ u)), λ u. absurd (y (says_cs5 e.burst.0 u)));
        ends_so = λ u. absurd (y (says_cs5 e.burst.0 u));
        fails_exactly = (λ u. absurd (false≢true (sym (ap is_stand_by p) ∙ u)), λ u. absurd (neither u.2));
        fails = λ u. absurd (false≢true (sym (ap is_stand_by p) ∙ u));
        else_calls = λ u. ap is_calling3 p;
      }
    where
      neither : (e.burst.0 ≡ cs3) ⊎ (calls3_in_a_row from run ≡ 128) → ⊥
      neither (inl w) = z (first_cs3 e.burst.0 w)
      neither (inr k) = let j = (in_turn_3 from not_calling run).sents c here in omega arith

  pub call_3_ends : CallEnds3 from run c e r
  call_3_ends = by_way (from_calling (after from run) e.burst e.offer r answer c here)
