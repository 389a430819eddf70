-- 02, T-05: Stand-by hears and places three-block calls (001, 3.5.4, 3.5.5).
--     hears_call_3     one is answered exactly after the three own call blocks in three successive steps at Stand-by, 1-2-3 or 2-3-1
--     places_3         one is placed exactly where it is offered, none is answered, and its identity is not barred with steps left to wait
--     waits_128_3      an identity that is barred as Stand-by is entered is not called in 128 steps, another is at once
-- Assumes nothing.
use mathlib.Core.Path.{◌≡◌, refl, ap, sym, subst, ◌∙◌}
use mathlib.Core.Bool.{Bool, true, false, not, ◌&&◌, and-false, true≢false, false≢true}
use mathlib.Core.Logic.{◌⊎◌, inl, inr}
use mathlib.Core.Option.{Option, none, some}
use Prim.Native.Nat.{ℕ, suc, ◌-◌, ◌<◌, ◌≤◌}
use native.Mathlib.Omega.{arith}
use lib.Dec.{eqb, leb}
use borrow.Author.Tests.{le-leb, lt-leb, ne_eqb}
use Rattle.std.specs.Prelude.{if◌then◌else◌}
use Rattle.signals.specs.Meaning.{rq}
use Rattle.signals.specs.Numbers.{Answer, answered, refused}
use Rattle.identity.specs.declared.Seven.{Seven}
use Rattle.identity.specs.Table3.{is_identity}
use Rattle.identity.specs.Sums.{is_callable7, same_seven}
use Rattle.identity.proofs.SumLaws.{same_seven_lem, same_itself}
use Rattle.mode_a.specs.declared.Role.TheVariants.{Slave}
use Rattle.mode_a.specs.declared.Number.TheVariants.{One}
use Rattle.mode_a.specs.declared.Words.{Words}
use Rattle.mode_a.specs.declared.Mark.{Mark}
use Rattle.mode_a.specs.declared.Part.{Part}
use Rattle.mode_a.specs.declared.Succession.{Succession}
use Rattle.mode_a.specs.declared.Identity.{Identity}
use Rattle.mode_a.specs.declared.Own.{Own}
use Rattle.mode_a.specs.declared.Peer.{Peer}
use Rattle.mode_a.specs.declared.Peer.TheVariants.{Nobody, Four, Known, Barred}
use Rattle.mode_a.specs.declared.Waiting.{Waiting}
use Rattle.mode_a.specs.declared.Place.{Place}
use Rattle.mode_a.specs.declared.Place.TheVariants.{Receiving, StandBy}
use Rattle.mode_a.specs.declared.Offer.{Offer}
use Rattle.mode_a.specs.declared.Station.{Station}
use Rattle.mode_a.specs.declared.Reply.{Reply}
use Rattle.mode_a.specs.Calls.{is_callable, call3_block1, call3_block2, call3_block3}
use Rattle.mode_a.specs.Station.{asks_for}
use Rattle.mode_a.specs.Heard.{is_words, call_of, call3_of}
use Rattle.mode_a.specs.Rows.{both_heard, all_heard, heard_then}
use Rattle.mode_a.specs.Step.{begun, called, called3, sends, waits_on, bars, listens, stepping, station_after, left_at, wait_at}
use Rattle.runs.specs.Places.{is_stand_by, is_calling3, is_answering, at_stand_by, none_answered}
use Rattle.runs.specs.Runs.{Event, Run, start, ◌▷◌, said, next, after, one_step, steps_in, StaysAtStandBy, Step, step_or, last_step, last_but_one, WasHeard}
use Rattle.runs.proofs.PlaceLaws.{is_standby}
use Rattle.runs.proofs.StepLaws.{answers, standby_answers, standby_answers3, standby_listens, own_lasts}
use Rattle.runs.proofs.LetterLaws.{letters_of}
use Rattle.runs.proofs.WordLaws.{same_words, words_same}
use Rattle.identification.specs.ThreeBlocks.{AnswersCall3, Successive3, AllBlocks, NoneHeard3, HearsCall3, PlacesCall3, Places3, Waits3}
use Rattle.identification.proofs.CallStepLaws.{is_call3, Does, elsewhere, rests, waits, places, calls_on_lem, does}

-- RQ is no letter
letter_no_rq : (w : ℕ) → is_identity w ≡ true → eqb w rq ≡ false
unfolding is_identity
letter_no_rq w e = ne_eqb w rq (λ z. true≢false (sym e ∙ ap is_identity z))

rq_no_letter : (w : ℕ) → is_identity w ≡ true → eqb rq w ≡ false
unfolding is_identity
rq_no_letter w e = ne_eqb rq w (λ z. true≢false (sym e ∙ ap is_identity (sym z)))

-- which of the own call blocks a burst is
abbrev Says : Seven → Words → Part → Type 0
Says i b Part.None = Unit {0}
Says i b Part.One = (is_callable7 i ≡ true) × (b ≡ call3_block1 i)
Says i b Part.Two = (is_callable7 i ≡ true) × (b ≡ call3_block2 i)
Says i b Part.Three = (is_callable7 i ≡ true) × (b ≡ call3_block3 i)

call_says : (i : Seven) (b : Words) → Says i b (call3_of i b)
unfolding call3_of
call_says i b = go (is_callable7 i) (is_words b (call3_block1 i)) (is_words b (call3_block2 i)) (is_words b (call3_block3 i)) refl refl refl refl
  where
    go : (t x y z : Bool) → is_callable7 i ≡ t → is_words b (call3_block1 i) ≡ x → is_words b (call3_block2 i) ≡ y → is_words b (call3_block3 i) ≡ z → Says i b (if t then (if x then Part.One else if y then Part.Two else if z then Part.Three else Part.None) else Part.None)
    go true true y z p q r s = (p, same_words b (call3_block1 i) q)
    go true false true z p q r s = (p, same_words b (call3_block2 i) r)
    go true false false true p q r s = (p, same_words b (call3_block3 i) s)
    go true false false false p q r s = tt
    go false x y z p q r s = tt

module _ (i : Seven) (c : is_callable7 i ≡ true) where
  hears_1 : call3_of i (call3_block1 i) ≡ Part.One
  unfolding call3_of
  hears_1 = rw (c, words_same (call3_block1 i))

  two_not_one : is_words (call3_block2 i) (call3_block1 i) ≡ false
  unfolding is_words
  two_not_one = rw (rq_no_letter i.0 (letters_of i c).first)

  hears_2 : call3_of i (call3_block2 i) ≡ Part.Two
  unfolding call3_of
  hears_2 = rw (c, two_not_one, words_same (call3_block2 i))

  three_not_one : is_words (call3_block3 i) (call3_block1 i) ≡ false
  unfolding is_words
  three_not_one = rw (letter_no_rq i.5 (letters_of i c).sixth) (and-false (eqb i.4 i.0))

  three_not_two : is_words (call3_block3 i) (call3_block2 i) ≡ false
  unfolding is_words
  three_not_two = rw (letter_no_rq i.4 (letters_of i c).fifth)

  hears_3 : call3_of i (call3_block3 i) ≡ Part.Three
  unfolding call3_of
  hears_3 = rw (c, three_not_one, three_not_two, words_same (call3_block3 i))

  -- and block 3 is none of a two-block call: it has no RQ
  three_no_call : (j : Identity) → call_of j (call3_block3 i) ≡ Mark.None
  unfolding call_of is_words
  three_no_call j = go (is_callable j)
    where
      go : (t : Bool) → (if t then (if eqb i.4 j.0 && (eqb i.5 rq && eqb i.6 j.1) then Mark.One else if eqb i.4 j.2 && (eqb i.5 j.3 && eqb i.6 rq) then Mark.Two else Mark.None) else Mark.None) ≡ Mark.None
      go true =
          rw (letter_no_rq i.5 (letters_of i c).sixth, letter_no_rq i.6 (letters_of i c).seventh, and-false (eqb i.4 j.0), and-false (eqb i.5 j.3), and-false (eqb i.4 j.2))
      go false = refl

-- the blocks heard in succession, by the last two
abbrev in_succession : Part → Part → Succession
in_succession p Part.None = Succession.None
in_succession p Part.One = Succession.One
in_succession Part.None Part.Two = Succession.Two
in_succession Part.One Part.Two = Succession.OneTwo
in_succession Part.Two Part.Two = Succession.Two
in_succession Part.Three Part.Two = Succession.Two
in_succession Part.None Part.Three = Succession.None
in_succession Part.One Part.Three = Succession.None
in_succession Part.Two Part.Three = Succession.TwoThree
in_succession Part.Three Part.Three = Succession.None

-- one block more, where it does not complete the three
next_two : (p q t : Part) → all_heard (in_succession p q) t ≡ false → heard_then (in_succession p q) t ≡ in_succession q t
next_two p q Part.None e = refl
next_two p q Part.One e = refl
next_two p Part.None Part.Two e = refl
next_two p Part.One Part.Two e = refl
next_two Part.None Part.Two Part.Two e = refl
next_two Part.One Part.Two Part.Two e = refl
next_two Part.Two Part.Two Part.Two e = refl
next_two Part.Three Part.Two Part.Two e = refl
next_two Part.None Part.Three Part.Two e = refl
next_two Part.One Part.Three Part.Two e = refl
next_two Part.Two Part.Three Part.Two e = refl
next_two Part.Three Part.Three Part.Two e = refl
next_two p Part.None Part.Three e = refl
next_two p Part.One Part.Three e = refl
next_two Part.None Part.Two Part.Three e = refl
next_two Part.One Part.Two Part.Three e = absurd (true≢false e)
next_two Part.Two Part.Two Part.Three e = refl
next_two Part.Three Part.Two Part.Three e = refl
next_two Part.None Part.Three Part.Three e = refl
next_two Part.One Part.Three Part.Three e = refl
next_two Part.Two Part.Three Part.Three e = refl
next_two Part.Three Part.Three Part.Three e = refl

-- and where it does
abbrev Three : Part → Part → Part → Type 0
Three p q t = ((p ≡ Part.One) × (q ≡ Part.Two) × (t ≡ Part.Three)) ⊎ ((p ≡ Part.Two) × (q ≡ Part.Three) × (t ≡ Part.One))

completes : (p q t : Part) → all_heard (in_succession p q) t ≡ true → Three p q t
completes p q Part.None e = absurd (false≢true e)
completes p q Part.Two e = absurd (false≢true e)
completes p Part.None Part.One e = absurd (false≢true e)
completes p Part.One Part.One e = absurd (false≢true e)
completes Part.None Part.Two Part.One e = absurd (false≢true e)
completes Part.One Part.Two Part.One e = absurd (false≢true e)
completes Part.Two Part.Two Part.One e = absurd (false≢true e)
completes Part.Three Part.Two Part.One e = absurd (false≢true e)
completes Part.None Part.Three Part.One e = absurd (false≢true e)
completes Part.One Part.Three Part.One e = absurd (false≢true e)
completes Part.Two Part.Three Part.One e = inr (refl, refl, refl)
completes Part.Three Part.Three Part.One e = absurd (false≢true e)
completes p Part.None Part.Three e = absurd (false≢true e)
completes p Part.One Part.Three e = absurd (false≢true e)
completes Part.None Part.Two Part.Three e = absurd (false≢true e)
completes Part.One Part.Two Part.Three e = inl (refl, refl, refl)
completes Part.Two Part.Two Part.Three e = absurd (false≢true e)
completes Part.Three Part.Two Part.Three e = absurd (false≢true e)
completes Part.None Part.Three Part.Three e = absurd (false≢true e)
completes Part.One Part.Three Part.Three e = absurd (false≢true e)
completes Part.Two Part.Three Part.Three e = absurd (false≢true e)
completes Part.Three Part.Three Part.Three e = absurd (false≢true e)

-- what a step of the run heard, where it was at Stand-by
abbrev part_of : Seven → Option Step → Part
part_of i none = Part.None
part_of i (some x) = if is_stand_by x.place then call3_of i x.burst else Part.None

abbrev mark_of : Identity → Option Step → Mark
mark_of i none = Mark.None
mark_of i (some x) = if is_stand_by x.place then call_of i x.burst else Mark.None

part_says : (i : Seven) (l : Option Step) (p : Part) (x : Words) → part_of i l ≡ p → ((b : Words) → Says i b p → (is_callable7 i ≡ true) × (b ≡ x)) → (p ≡ Part.None → ⊥) → (is_callable7 i ≡ true) × WasHeard is_stand_by (λ b. b ≡ x) l
part_says i none p x e says some_part = absurd (some_part (sym e))
part_says i (some y) p x e says some_part = go (is_stand_by y.place) refl e
  where
    go : (t : Bool) → is_stand_by y.place ≡ t → (if t then call3_of i y.burst else Part.None) ≡ p → (is_callable7 i ≡ true) × ((is_stand_by y.place ≡ true) × (y.burst ≡ x))
    go true h e = let s = says y.burst (subst (Says i y.burst) e (call_says i y.burst)) in (s.0, (h, s.1))
    go false h e = absurd (some_part (sym e))

said_part : (i : Seven) (l : Option Step) (x : Words) → WasHeard is_stand_by (λ b. b ≡ x) l → part_of i l ≡ call3_of i x
said_part i none x h = absurd h
said_part i (some y) x h = rw (h.0, h.1)

said_mark : (i : Identity) (l : Option Step) (x : Words) → WasHeard is_stand_by (λ b. b ≡ x) l → mark_of i l ≡ call_of i x
said_mark i none x h = absurd h
said_mark i (some y) x h = rw (h.0, h.1)

-- blocks are none of none
one_some : Part.One ≡ Part.None → ⊥
one_some e = let z : ◌≡◌ {A = ℕ} 0 1 = cc in omega arith

two_some : Part.Two ≡ Part.None → ⊥
two_some e = let z : ◌≡◌ {A = ℕ} 0 1 = cc in omega arith

three_some : Part.Three ≡ Part.None → ⊥
three_some e = let z : ◌≡◌ {A = ℕ} 0 1 = cc in omega arith

-- what Stand-by keeps of what it heard, and the steps left to wait
abbrev heard_in : Place → Mark
heard_in p = at_stand_by (λ w. w.heard) Mark.None p

abbrev heard3_in : Place → Succession
heard3_in p = at_stand_by (λ w. w.heard3) Succession.None p

abbrev wait_in : Place → ℕ
wait_in p = at_stand_by (λ w. w.wait) 0 p

-- at Stand-by it is what the last two steps heard there
record Heard (own : Own) (p : Place) (before last : Option Step) : Type 0 where
  mark : is_stand_by p ≡ true → heard_in p ≡ mark_of own.four last
  parts : is_stand_by p ≡ true → heard3_in p ≡ in_succession (part_of own.seven before) (part_of own.seven last)

away : (own : Own) (p : Place) (k l : Option Step) → is_stand_by p ≡ false → Heard own p k l
away own p k l e = record { mark = λ t. absurd (true≢false (sym t ∙ e)); parts = λ t. absurd (true≢false (sym t ∙ e)) }

heard_step : (s : Station) (b : Words) (o : Offer) (r : Reply) (k l : Option Step) → Heard s.own s.place k l → Does s b o r → Heard s.own r.station.place l (some (record { place = s.place; burst = b }))
heard_step s b o r k l h (elsewhere x y t) = away s.own r.station.place _ _ x
heard_step s b o r k l h (rests x t n p u) =
    record {
      mark = λ v. ap (λ (s : Station). heard_in s.place) p ∙ rw x;
      parts = λ v. ap (λ (s : Station). heard3_in s.place) p ∙ rw x;
    }
heard_step s b o r k l h (waits w e z q) =
    record {
      mark = λ u. ap (λ (r : Reply). heard_in r.station.place) q ∙ rw (ap is_stand_by e);
      parts = λ u. ap (λ (r : Reply). heard3_in r.station.place) q ∙ more;
    }
  where
    kept : w.heard3 ≡ in_succession (part_of s.own.seven k) (part_of s.own.seven l)
    kept = sym (ap heard3_in e) ∙ h.parts (ap is_stand_by e)

    more : heard_then w.heard3 (call3_of s.own.seven b) ≡ in_succession (part_of s.own.seven l) (part_of s.own.seven (some (record { place = s.place; burst = b })))
    more =
        rw (kept, ap is_stand_by e) (next_two (part_of s.own.seven k) (part_of s.own.seven l) (call3_of s.own.seven b) (subst (λ (x : Succession). all_heard x (call3_of s.own.seven b) ≡ false) kept z))
heard_step s b o r k l h (places w i e z y q) = away s.own r.station.place _ _ (ap (λ (r : Reply). is_stand_by r.station.place) q)
heard_step s b o r k l h (calls_on_lem c e m q) = away s.own r.station.place _ _ (ap (λ (r : Reply). is_stand_by r.station.place) q)

module _ (from : Station) (none_heard : NoneHeard3 from) where
  heard_run : (run : Run) → Heard (after from run).own (after from run).place (last_but_one from run) (last_step from run)
  unfolding last_step last_but_one
  heard_run start =
      record {
        mark = λ t. let w = is_standby from.place t in ap heard_in w.1 ∙ (none_heard w.0 w.1).0;
        parts = λ t. let w = is_standby from.place t in ap heard3_in w.1 ∙ (none_heard w.0 w.1).1;
      }
  heard_run (run ▷ e) = go (heard_run run) (said (after from run) e) refl
    where
      go : Heard (after from run).own (after from run).place (last_but_one from run) (last_step from run) → (a : Answer Reply) → said (after from run) e ≡ a → Heard (station_after (after from run) a).own (station_after (after from run) a).place (step_or a (last_step from run) (last_but_one from run)) (step_or a (some (record { place = (after from run).place; burst = e.burst })) (last_step from run))
      go k (answered r) p =
          let own : (after from run).own ≡ r.station.own = own_lasts from run ∙ sym (own_lasts from (run ▷ e)) ∙ ap (λ (a : Answer Reply). (station_after (after from run) a).own) p in
          subst (λ (o : Own). Heard o r.station.place (last_step from run) (some (record { place = (after from run).place; burst = e.burst }))) own (heard_step (after from run) e.burst e.offer r _ _ k (does (after from run) e.burst e.offer r p))
      go k (refused n v) p = k

-- an answer that is none to a three-block call
record Listened (s : Station) (w : Waiting) (o : Offer) (p : Reply) : Type 0 where
  not_answering : is_answering p.station.place ≡ false
  places_so : Places3 s w o p

-- a step from Stand-by
module _ (s : Station) (b : Words) (o : Offer) (r : Reply) (answer : stepping s b o ≡ answered r) (w : Waiting) (here : s.place ≡ StandBy w) where
  abbrev both : Bool
  both = both_heard w.heard (call_of s.own.four b)

  abbrev all : Bool
  all = all_heard w.heard3 (call3_of s.own.seven b)

  abbrev kept : Waiting
  kept = record { wait = w.wait; heard = call_of s.own.four b; heard3 = heard_then w.heard3 (call3_of s.own.seven b) }

  answered_call : both ≡ false → all ≡ true → AnswersCall3 r
  answered_call t u =
      rw (standby_answers3 s b o r (answers s b o r answer) w here t u) (record { slave = refl; awaits_block_1 = refl; sends_cs4 = refl; prints_nothing_lem = refl; takes_nothing = refl; nobody = refl; letters = (refl, refl, refl) })

  abbrev barred : Seven → Bool
  barred i = leb 1 w.wait && bars s.other i

  stayed : (p : Reply) → is_answering p.station.place ≡ false → is_calling3 p.station.place ≡ false → ((i : Seven) → o ≡ Offer.Call3 i → barred i ≡ false → ⊥) → Listened s w o p
  stayed p a c n = record {
    not_answering = a;
    places_so = record {
      places_exactly = (λ x. absurd (true≢false (sym x ∙ c)), λ x. absurd (n x.0 x.1 x.3));
      places_so = λ i e x. absurd (true≢false (sym x ∙ c));
    };
  }

  placed : (i : Seven) → o ≡ Offer.Call3 i → barred i ≡ false → Listened s w o (called3 s i)
  placed i e n = record {
    not_answering = refl;
    places_so = record {
      places_exactly = (λ x. (i, e, refl, n), λ x. refl);
      places_so = λ j f x. let u : i ≡ j = cc in subst (λ (k : Seven). PlacesCall3 k (called3 s i)) u (record { master = refl; calls = refl; sends_block_1 = refl; prints_nothing_lem = refl; takes_it = refl; nobody = refl; letters = (refl, refl, refl) });
    };
  }

  by_offer : (p : Offer) → o ≡ p → Listened s w o (listens s kept p)
  by_offer p e = go p e
    where
      other : (q : Offer) → o ≡ q → is_call3 q ≡ false → (i : Seven) → o ≡ Offer.Call3 i → barred i ≡ false → ⊥
      other q e x i z n = false≢true (sym x ∙ ap is_call3 (sym e ∙ z))

      go : (q : Offer) → o ≡ q → Listened s w o (listens s kept q)
      go (Offer.Text x) e = stayed _ refl refl (other _ e refl)
      go Offer.Over e = stayed _ refl refl (other _ e refl)
      go Offer.End e = stayed _ refl refl (other _ e refl)
      go Offer.Nothing e = stayed _ refl refl (other _ e refl)
      go (Offer.Call i) e = tests (eqb w.wait 0)
        where
          tests : (t : Bool) → Listened s w o (if t then called s i else waits_on s kept)
          tests true = stayed _ refl refl (other _ e refl)
          tests false = stayed _ refl refl (other _ e refl)
      go (Offer.Call3 i) e = tests (barred i) refl
        where
          tests : (t : Bool) → barred i ≡ t → Listened s w o (if t then waits_on s kept else called3 s i)
          tests true n = stayed _ refl refl (λ j z m. let u : i ≡ j = cc in true≢false (sym n ∙ ap barred u ∙ m))
          tests false n = placed i e n

  listened : both ≡ false → all ≡ false → Listened s w o r
  listened t u = rw (standby_listens s b o r (answers s b o r answer) w here t u) (by_offer o refl)

  two_blocks : both ≡ true → r ≡ sends (begun s Slave (Receiving One)) (asks_for One)
  two_blocks t = standby_answers s b o r (answers s b o r answer) w here t

  -- answered exactly where all three are heard, and not both of the two
  answering_is : is_answering r.station.place ≡ (not both && all)
  answering_is = go both all refl refl
    where
      go : (t u : Bool) → both ≡ t → all ≡ u → is_answering r.station.place ≡ (not t && u)
      go true u p q = ap (λ (r : Reply). is_answering r.station.place) (two_blocks p)
      go false true p q = ap is_answering (answered_call p q).awaits_block_1
      go false false p q = (listened p q).not_answering

  pub places_3 : Places3 s w o r
  places_3 = go both all refl refl
    where
      answered_one : is_calling3 r.station.place ≡ false → none_answered r.station.place ≡ false → Places3 s w o r
      answered_one c n = record {
        places_exactly = (λ x. absurd (true≢false (sym x ∙ c)), λ x. absurd (true≢false (sym x.2 ∙ n)));
        places_so = λ i e x. absurd (true≢false (sym x ∙ c));
      }

      go : (t u : Bool) → both ≡ t → all ≡ u → Places3 s w o r
      go true u p q = answered_one (ap (λ (r : Reply). is_calling3 r.station.place) (two_blocks p)) (ap (λ (r : Reply). none_answered r.station.place) (two_blocks p))
      go false true p q = answered_one (ap is_calling3 (answered_call p q).awaits_block_1) (ap none_answered (answered_call p q).awaits_block_1)
      go false false p q = (listened p q).places_so

-- "following the reception of the three call blocks in succession"
module _ (from : Station) (none_heard : NoneHeard3 from) (run : Run) (w : Waiting) (here : (after from run).place ≡ StandBy w) (e : Event) (r : Reply) (answer : said (after from run) e ≡ answered r) where
  abbrev seven : Seven
  seven = from.own.seven

  same_own : (after from run).own ≡ from.own
  same_own = own_lasts from run

  mark_now : w.heard ≡ mark_of from.own.four (last_step from run)
  mark_now =
      sym (ap heard_in here) ∙ (heard_run from none_heard run).mark (ap is_stand_by here) ∙ ap (λ (o : Own). mark_of o.four (last_step from run)) same_own

  parts_now : w.heard3 ≡ in_succession (part_of seven (last_but_one from run)) (part_of seven (last_step from run))
  parts_now =
      sym (ap heard3_in here) ∙ (heard_run from none_heard run).parts (ap is_stand_by here) ∙ ap (λ (o : Own). in_succession (part_of o.seven (last_but_one from run)) (part_of o.seven (last_step from run))) same_own

  all_now : all_heard w.heard3 (call3_of (after from run).own.seven e.burst) ≡ all_heard (in_succession (part_of seven (last_but_one from run)) (part_of seven (last_step from run))) (call3_of seven e.burst)
  all_now = rw (parts_now, same_own)

  both_now : both_heard w.heard (call_of (after from run).own.four e.burst) ≡ both_heard (mark_of from.own.four (last_step from run)) (call_of from.own.four e.burst)
  both_now = rw (mark_now, same_own)

  -- told from the run
  told : Three (part_of seven (last_but_one from run)) (part_of seven (last_step from run)) (call3_of seven e.burst) → AllBlocks from run e
  told (inl (p, q, t)) =
      let x = part_says seven (last_but_one from run) Part.One (call3_block1 seven) p (λ b s. s) one_some in
      let y = part_says seven (last_step from run) Part.Two (call3_block2 seven) q (λ b s. s) two_some in
      let z = subst (Says seven e.burst) t (call_says seven e.burst) in
      record { is_callable_lem = x.0; in_succession_lem = inl (x.1, y.1, z.1) }
  told (inr (p, q, t)) =
      let x = part_says seven (last_but_one from run) Part.Two (call3_block2 seven) p (λ b s. s) two_some in
      let y = part_says seven (last_step from run) Part.Three (call3_block3 seven) q (λ b s. s) three_some in
      let z = subst (Says seven e.burst) t (call_says seven e.burst) in
      record { is_callable_lem = x.0; in_succession_lem = inr (x.1, y.1, z.1) }

  abbrev Is : Bool → Bool → Type 0
  Is t u = (both_heard w.heard (call_of (after from run).own.four e.burst) ≡ t) × (all_heard w.heard3 (call3_of (after from run).own.seven e.burst) ≡ u)

  -- the two-block call is not completed with it: block 3 has no RQ
  no_both : (m : Mark) → both_heard m Mark.None ≡ false
  no_both Mark.None = refl
  no_both Mark.One = refl
  no_both Mark.Two = refl

  tells_so : AllBlocks from run e → Is false true
  tells_so a = go a.in_succession_lem
    where
      c : is_callable7 seven ≡ true
      c = a.is_callable_lem

      go : (Successive3 from run e (call3_block1 seven) (call3_block2 seven) (call3_block3 seven)) ⊎ (Successive3 from run e (call3_block2 seven) (call3_block3 seven) (call3_block1 seven)) → Is false true
      go (inl (x, y, z)) = (
        both_now ∙ rw (z, three_no_call seven c from.own.four) (no_both (mark_of from.own.four (last_step from run))),
        all_now ∙ rw (said_part seven (last_but_one from run) _ x, said_part seven (last_step from run) _ y, z, hears_1 seven c, hears_2 seven c, hears_3 seven c),
      )
      go (inr (x, y, z)) = (
        both_now ∙ rw (said_mark from.own.four (last_step from run) _ y, three_no_call seven c from.own.four),
        all_now ∙ rw (said_part seven (last_but_one from run) _ x, said_part seven (last_step from run) _ y, z, hears_1 seven c, hears_2 seven c, hears_3 seven c),
      )

  pub hears_call_3 : HearsCall3 from run e r
  hears_call_3 =
      record {
        answers_exactly = (
          λ t. told (completes (part_of seven (last_but_one from run)) (part_of seven (last_step from run)) (call3_of seven e.burst) (sym all_now ∙ right (both_heard w.heard (call_of (after from run).own.four e.burst)) _ (sym is ∙ t))),
          λ a. is ∙ rw ((tells_so a).0, (tells_so a).1),
        );
        answers_so = λ a. answered_call (after from run) e.burst e.offer r answer w here (tells_so a).0 (tells_so a).1;
      }
    where
      is : is_answering r.station.place ≡ (not (both_heard w.heard (call_of (after from run).own.four e.burst)) && all_heard w.heard3 (call3_of (after from run).own.seven e.burst))
      is = answering_is (after from run) e.burst e.offer r answer w here

      right : (t u : Bool) → not t && u ≡ true → u ≡ true
      right true u h = absurd (false≢true h)
      right false u h = h

-- an identity that is barred as Stand-by is entered has 128 steps to wait
barred_128 : (o : Peer) (n : ℕ) (i : Seven) → left_at o ≡ Barred i → wait_at o n ≡ 128
barred_128 Nobody n i e = absurd (let z : ◌≡◌ {A = ℕ} 0 1 = cc in omega arith)
barred_128 (Four j) n i e = absurd (let z : ◌≡◌ {A = ℕ} 0 1 = cc in omega arith)
barred_128 (Known j) n i e = absurd (let z : ◌≡◌ {A = ℕ} 0 1 = cc in omega arith)
barred_128 (Barred j) n i e = refl

-- "waits .. 128 cycles before sending the same 'call signal' again": from the step that enters Stand-by with the identity barred
module _ (i : Seven) (s : Station) (away : is_stand_by s.place ≡ false) (e : Event) (standby : is_stand_by (next s e).place ≡ true) (bar : (next s e).other ≡ Barred i) where
  record Left (t : Station) (n : ℕ) : Type 0 where
    there : is_stand_by t.place ≡ true
    left : wait_in t.place ≡ 128 - n
    barred : t.other ≡ Barred i

  begins : Left (next s e) 0
  begins = go (said s e) refl standby bar
    where
      by_way : (r : Reply) → is_stand_by r.station.place ≡ true → r.station.other ≡ Barred i → Does s e.burst e.offer r → Left r.station 0
      by_way r h z (elsewhere x y u) = absurd (true≢false (sym h ∙ x))
      by_way r h z (rests x t n p u) = record {
        there = h;
        left = ap (λ (s : Station). wait_in s.place) p ∙ barred_128 t.other n i (sym (ap (λ (s : Station). s.other) p) ∙ z);
        barred = z;
      }
      by_way r h z (waits w q y d) = absurd (true≢false (sym (ap is_stand_by q) ∙ away))
      by_way r h z (places w j q y x d) = absurd (true≢false (sym (ap is_stand_by q) ∙ away))
      by_way r h z (calls_on_lem d q m f) = absurd (true≢false (sym h ∙ ap (λ (r : Reply). is_stand_by r.station.place) f))

      go : (a : Answer Reply) → said s e ≡ a → is_stand_by (station_after s a).place ≡ true → (station_after s a).other ≡ Barred i → Left (station_after s a) 0
      go (answered r) p h z = by_way r h z (does s e.burst e.offer r p)
      go (refused n v) p h z = absurd (true≢false (sym h ∙ away))

  left_step : (t : Station) (n : ℕ) (b : Words) (o : Offer) (r : Reply) → Left t n → is_stand_by r.station.place ≡ true → Does t b o r → Left r.station (suc n)
  left_step t n b o r k h (elsewhere x y u) = absurd (true≢false (sym h ∙ x))
  left_step t n b o r k h (rests x v m p u) = absurd (true≢false (sym k.there ∙ x))
  left_step t n b o r k h (waits w q z d) =
      let l = ap (λ (r : Reply). wait_in r.station.place) d in
      let m = k.left in
      let v = ap wait_in q in
      record { there = h; left = omega arith; barred = ap (λ (r : Reply). r.station.other) d ∙ k.barred }
  left_step t n b o r k h (places w i q z y d) = absurd (true≢false (sym h ∙ ap (λ (r : Reply). is_stand_by r.station.place) d))
  left_step t n b o r k h (calls_on_lem d q m f) = absurd (true≢false (sym h ∙ ap (λ (r : Reply). is_stand_by r.station.place) f))

  left_run : (run : Run) → StaysAtStandBy (next s e) run → Left (after (next s e) run) (steps_in (next s e) run)
  unfolding steps_in StaysAtStandBy
  left_run start y = begins
  left_run (run ▷ a) y = go (left_run run y.0) (said (after (next s e) run) a) refl y.1
    where
      go : Left (after (next s e) run) (steps_in (next s e) run) → (x : Answer Reply) → said (after (next s e) run) a ≡ x → is_stand_by (station_after (after (next s e) run) x).place ≡ true → Left (station_after (after (next s e) run) x) (one_step x (steps_in (next s e) run))
      go k (answered r) p h = left_step (after (next s e) run) _ a.burst a.offer r k h (does (after (next s e) run) a.burst a.offer r p)
      go k (refused n v) p h = k

  pub waits_128_3 : (run : Run) → StaysAtStandBy (next s e) run → Waits3 i s e run
  waits_128_3 run y =
      record { waits = λ l a f. not_yet l a f (said (now) a) refl; calls_again = λ l a r f p n. calls a r i f p n (free l); calls_another = λ a j r f d p n. calls a r j f p n (unlike j d) }
    where
      now : Station
      now = after (next s e) run

      k : Left (after (next s e) run) (steps_in (next s e) run)
      k = left_run run y

      at : (w : Waiting) × ((after (next s e) run).place ≡ StandBy w)
      at = is_standby (after (next s e) run).place k.there

      wait : at.0.wait ≡ 128 - steps_in (next s e) run
      wait = sym (ap wait_in at.1) ∙ k.left

      calls : (a : Event) (r : Reply) (j : Seven) → a.offer ≡ Offer.Call3 j → said (after (next s e) run) a ≡ answered r → none_answered r.station.place ≡ true → leb 1 at.0.wait && bars (after (next s e) run).other j ≡ false → PlacesCall3 j r
      calls a r j f p n m =
          let x = places_3 (after (next s e) run) a.burst a.offer r p at.0 at.1 in
          x.places_so j f (x.places_exactly.1 (j, f, n, m))

      free : 128 ≤ steps_in (next s e) run → leb 1 at.0.wait && bars (after (next s e) run).other i ≡ false
      free l = let v = wait in rw (lt-leb 1 at.0.wait (omega arith))

      unlike : (j : Seven) → (i ≡ j → ⊥) → leb 1 at.0.wait && bars (after (next s e) run).other j ≡ false
      unlike j d = rw k.barred (go (same_seven i j) refl)
        where
          go : (t : Bool) → same_seven i j ≡ t → leb 1 at.0.wait && t ≡ false
          go true t = absurd (d (same_seven_lem i j t))
          go false t = and-false (leb 1 at.0.wait)

      held : steps_in (next s e) run < 128 → leb 1 at.0.wait && bars (after (next s e) run).other i ≡ true
      held l = let v = wait in rw (le-leb 1 at.0.wait (omega arith), k.barred) (same_itself i)

      seven_of_lem : {i j : Seven} → Offer.Call3 i ≡ Offer.Call3 j → i ≡ j
      seven_of_lem q = cc

      not_yet : steps_in (next s e) run < 128 → (a : Event) → a.offer ≡ Offer.Call3 i → (x : Answer Reply) → said (after (next s e) run) a ≡ x → is_calling3 (station_after (after (next s e) run) x).place ≡ false
      not_yet l a f (answered r) p = go (is_calling3 r.station.place) refl
        where
          go : (t : Bool) → is_calling3 r.station.place ≡ t → t ≡ false
          go true t =
              let x = (places_3 (after (next s e) run) a.burst a.offer r p at.0 at.1).places_exactly.0 t in
              let same : x.0 ≡ i = seven_of_lem (sym x.1 ∙ f) in
              absurd (true≢false (sym (held l) ∙ ap (λ (i : Seven). leb 1 at.0.wait && bars (after (next s e) run).other i) (sym same) ∙ x.3))
          go false t = refl
      not_yet l a f (refused n v) p = ap is_calling3 at.1
