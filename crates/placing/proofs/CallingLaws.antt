-- 02, T-02: the calling station, of every run that does not start in the middle of a call (001, 3.5.4, 3.5.6, 3.5.7).
--     at_most_128_in_turn   call bursts in a row are told by the station's own number, never more than 128, the two blocks in turn
--     calling_is_uncounted  a step from Calling never leads to Lost, prints nothing and accepts nothing; its count is 0
--     call_ends_exactly     traffic follows exactly where the same CS1 or CS2 is heard twice, and Stand-by where CS3 or the 128 end it
-- Assumes nothing.
use mathlib.Core.Path.{◌≡◌, refl, ap, sym, subst, ◌∙◌}
use mathlib.Core.Bool.{Bool, true, false, not, ◌&&◌, and-false, true≢false, false≢true}
use mathlib.Core.Logic.{◌⊎◌, inl, inr}
use mathlib.Core.Option.{Option, none, some}
use Prim.Native.Nat.{ℕ, ◌+◌, ◌<◌, ◌≤◌}
use native.Mathlib.Omega.{arith}
use lib.Dec.{leb}
use borrow.Author.Tests.{leb-true, leb-false}
use Rattle.std.specs.Prelude.{if◌then◌else◌}
use Rattle.signals.specs.Meaning.{cs3}
use Rattle.signals.specs.Numbers.{Answer, answered, refused}
use Rattle.mode_a.specs.declared.Number.{Number}
use Rattle.mode_a.specs.declared.Number.TheVariants.{One, Two}
use Rattle.mode_a.specs.declared.Words.{Words}
use Rattle.mode_a.specs.declared.Mark.{Mark}
use Rattle.mode_a.specs.declared.Identity.{Identity}
use Rattle.mode_a.specs.declared.Called.{Called}
use Rattle.mode_a.specs.declared.Own.{Own}
use Rattle.mode_a.specs.declared.Peer.TheVariants.{Four}
use Rattle.mode_a.specs.declared.Place.{Place}
use Rattle.mode_a.specs.declared.Place.TheVariants.{Sending, Turning, Opening, Ending, Receiving, Asking, StandBy, Lost, Calling, Calling3, Identifying, Answering}
use Rattle.mode_a.specs.declared.Offer.{Offer}
use Rattle.mode_a.specs.declared.Station.{Station}
use Rattle.mode_a.specs.declared.Doing.TheVariants.{Goes, Rests, Reaches}
use Rattle.mode_a.specs.declared.Reply.{Reply}
use Rattle.identity.specs.Table3.{is_identity}
use Rattle.mode_a.specs.Calls.{is_callable, call_block1, next_block}
use Rattle.mode_a.specs.Station.{silence, asks_for, mark_of, marks}
use Rattle.mode_a.specs.Heard.{First, Cs, Cs3, Rq, Else, first_of, heard_of}
use Rattle.mode_a.specs.Rows.{calls_on as calls_on_or, calling, row_of}
use Rattle.mode_a.specs.Step.{sends, takes, rested, knowing, done, stepping, station_after}
use Rattle.mode_a.proofs.HeardLaws.{Says, first_says, first_cs1, first_cs2, first_cs3}
use Rattle.runs.specs.Places.{is_stand_by, is_calling, is_calling3, at_calling}
use Rattle.runs.specs.Runs.{Event, Run, start, ◌▷◌, said, after, Step, step_or, last_step, WasHeard}
use Rattle.runs.proofs.RowLaws.{mark_in, by_calling}
use Rattle.runs.proofs.LetterLaws.{lettered_at, Lettered, lettered_run}
use Rattle.runs.proofs.StepLaws.{answers, by_take, keeps}
use Rattle.placing.specs.Runs.{is_call_burst, sends_call, calls_on, calls_in_a_row, block_no, calls_to, last_called}
use Rattle.placing.specs.Calling.{not_in_a_call, InTurn, Uncounted, Twice, in_traffic, CallEnds}
use Rattle.placing.proofs.BurstLaws.{call_1, call_next, next_block_lem}
use Rattle.placing.proofs.StepLaws.{is_call2, Silent, Does, elsewhere, rests, waits, places, calls_on_lem, does}

-- the number of call bursts that a place keeps
abbrev sent_of : Place → ℕ
sent_of p = at_calling (λ c. c.sent) 0 p

sent_none : (p : Place) → is_calling p ≡ false → sent_of p ≡ 0
sent_none (Sending h) e = refl
sent_none (Turning n) e = refl
sent_none Opening e = refl
sent_none (Ending x) e = refl
sent_none (Receiving n) e = refl
sent_none Asking e = refl
sent_none (StandBy w) e = refl
sent_none Lost e = refl
sent_none (Calling c) e = absurd (true≢false e)
sent_none (Calling3 c) e = refl
sent_none (Identifying i) e = refl
sent_none (Answering g) e = refl

-- a station that is not in the middle of a call is not calling, and has no letters to send
outside_a_call : (own : Own) (p : Place) → not_in_a_call p ≡ true → (is_calling p ≡ false) × lettered_at own p
outside_a_call own (Sending h) e = (refl, tt)
outside_a_call own (Turning n) e = (refl, tt)
outside_a_call own Opening e = (refl, tt)
outside_a_call own (Ending x) e = (refl, tt)
outside_a_call own (Receiving n) e = (refl, tt)
outside_a_call own Asking e = (refl, tt)
outside_a_call own (StandBy w) e = (refl, tt)
outside_a_call own Lost e = (refl, tt)
outside_a_call own (Calling c) e = absurd (false≢true e)
outside_a_call own (Calling3 c) e = absurd (false≢true e)
outside_a_call own (Identifying i) e = absurd (false≢true e)
outside_a_call own (Answering g) e = (refl, tt)

-- a call that is not taken is not the last one
untaken : (r : Reply) (o : Offer) (l : Option Identity) → is_call2 o && r.taken ≡ false → calls_to (answered r) o l ≡ l
untaken r (Offer.Text w) l e = refl
untaken r Offer.Over l e = refl
untaken r Offer.End l e = refl
untaken r Offer.Nothing l e = refl
untaken r (Offer.Call i) l e = rw e
untaken r (Offer.Call3 i) l e = refl

-- what is kept from step to step, where k call bursts were sent in a row and l was called last
record Kept (p : Place) (k : ℕ) (l : Option Identity) : Type 0 where
  is : sent_of p ≡ k
  small : k ≤ 128
  to : (c : Called) → p ≡ Calling c → (l ≡ some c.to) × (is_callable c.to ≡ true)

outside : (p : Place) (l : Option Identity) → is_calling p ≡ false → Kept p 0 l
outside p l x = record { is = sent_none p x; small = omega arith; to = λ c e. absurd (true≢false (sym (ap is_calling e) ∙ x)) }

-- a step that sends no call burst but where it leads to the three-block call
none_counted : (s : Station) (r : Reply) → Lettered s → Silent s r → sends_call r ≡ false
none_counted s r l n = go (is_calling3 r.station.place) refl
  where
    go : (t : Bool) → is_calling3 r.station.place ≡ t → is_call_burst r.sent && not t ≡ false
    go true e = and-false (is_call_burst r.sent)
    go false e = rw (n.burst l e)

module _ (s : Station) (b : Words) (o : Offer) (r : Reply) (k : ℕ) (l : Option Identity) (letters : Lettered s) (kept : Kept s.place k l) where
  kept_step : Does s b o r → Kept r.station.place (calls_on (answered r) k) (calls_to (answered r) o l)
  unfolding is_call_burst is_identity
  kept_step (elsewhere x y c t) = rw (none_counted s r letters c) (outside r.station.place _ y)
  kept_step (rests x (p, q) c t) = rw c (outside r.station.place _ (ap is_calling p))
  kept_step (waits w e q) = rw q (outside _ _ refl)
  kept_step (places w i e z y q) =
      let h : k ≡ 0 = sym kept.is ∙ ap sent_of e in
      rw (q, z, call_1 i y) (record {
        is = omega arith;
        small = omega arith;
        to = λ c p. let u : i ≡ c.to = ap (at_calling (λ c. c.to) i) p in (ap some u, subst (λ (j : Identity). is_callable j ≡ true) u y);
      })
  kept_step (calls_on_lem c e m q) =
      let h : k ≡ c.sent = sym kept.is ∙ ap sent_of e in
      let v = leb-false 128 c.sent m in
      let g = kept.to c e in
      rw (q, call_next c.to c.sent g.1, untaken (sends s silence) o l (and-false (is_call2 o))) (record {
        is = omega arith;
        small = omega arith;
        to = λ d p. let u : c.to ≡ d.to = ap (at_calling (λ c. c.to) c.to) p in (g.0 ∙ ap some u, subst (λ (j : Identity). is_callable j ≡ true) u g.1);
      })

  in_turn_step : Does s b o r → sends_call r ≡ true → (i : Identity) × (calls_to (answered r) o l ≡ some i) × (r.sent ≡ block_no i (calls_on (answered r) k))
  unfolding is_call_burst is_identity
  in_turn_step (elsewhere x y c t) f = absurd (true≢false (sym f ∙ none_counted s r letters c))
  in_turn_step (rests x (p, q) c t) f = absurd (true≢false (sym f ∙ rw c))
  in_turn_step (waits w e q) f = absurd (true≢false (sym f ∙ ap sends_call q))
  in_turn_step (places w i e z y q) f =
      let h : 0 ≡ k = sym (ap sent_of e) ∙ kept.is in
      (i, rw (q, z), rw (f, ← h) (ap (λ (r : Reply). r.sent) q))
  in_turn_step (calls_on_lem c e m q) f =
      let h : c.sent ≡ k = sym (ap sent_of e) ∙ kept.is in
      (c.to, rw q (untaken (sends s silence) o l (and-false (is_call2 o)) ∙ (kept.to c e).0), rw (f, ← h) (ap (λ (r : Reply). r.sent) q ∙ next_block_lem c.to c.sent))

  begins_step : Does s b o r → (i : Identity) → o ≡ Offer.Call i → r.taken ≡ true → (k ≡ 0) × (r.sent ≡ call_block1 i)
  begins_step (elsewhere x y c t) i e f = absurd (false≢true (sym t ∙ rw (e, f)))
  begins_step (rests x (p, q) c t) i e f = absurd (false≢true (sym t ∙ rw (e, f)))
  begins_step (waits w e q) i d f = absurd (true≢false (sym f ∙ ap (λ (r : Reply). r.taken) q))
  begins_step (places w j e z y q) i d f =
      let u : j ≡ i = cc in
      (sym kept.is ∙ ap sent_of e, ap (λ (r : Reply). r.sent) q ∙ ap call_block1 u)
  begins_step (calls_on_lem c e m q) i d f = absurd (true≢false (sym f ∙ ap (λ (r : Reply). r.taken) q))

  -- after 128 it is at Calling, so the next step leads to no three-block call either
  no_more : Does s b o r → k ≡ 128 → is_call_burst r.sent ≡ false
  unfolding is_call_burst is_identity
  no_more (elsewhere x y c t) h = go (is_calling3 r.station.place) refl
    where
      there : is_calling s.place ≡ false → ⊥
      there z = let n = sent_none s.place z in let i = kept.is in omega arith

      go : (t : Bool) → is_calling3 r.station.place ≡ t → is_call_burst r.sent ≡ false
      go true e = absurd (there (c.not_from e))
      go false e = c.burst letters e
  no_more (rests x p c t) h = c
  no_more (waits w e q) h = ap (λ (r : Reply). is_call_burst r.sent) q
  no_more (places w i e z y q) h = let n : k ≡ 0 = sym kept.is ∙ ap sent_of e in absurd (omega arith)
  no_more (calls_on_lem c e m q) h =
      let n : k ≡ c.sent = sym kept.is ∙ ap sent_of e in let v = leb-false 128 c.sent m in absurd (omega arith)

-- the count is 0 at Calling
count_step : (s : Station) (b : Words) (o : Offer) (r : Reply) → Does s b o r → is_calling r.station.place ≡ true → r.station.count ≡ 0
count_step s b o r (elsewhere x y c t) k = absurd (true≢false (sym k ∙ y))
count_step s b o r (rests x (p, q) c t) k = absurd (true≢false (sym k ∙ ap is_calling p))
count_step s b o r (waits w e q) k = ap (λ (r : Reply). r.station.count) q
count_step s b o r (places w i e z y q) k = ap (λ (r : Reply). r.station.count) q
count_step s b o r (calls_on_lem c e m q) k = ap (λ (r : Reply). r.station.count) q

module _ (from : Station) (not_in_a_call_lem : not_in_a_call from.place ≡ true) where
  not_calling : is_calling from.place ≡ false
  not_calling = (outside_a_call from.own from.place not_in_a_call_lem).0

  count_run : (run : Run) → is_calling (after from run).place ≡ true → (after from run).count ≡ 0
  count_run start k = absurd (true≢false (sym k ∙ not_calling))
  count_run (run ▷ e) k =
      keeps (λ (s : Station). is_calling s.place ≡ true → s.count ≡ 0) (after from run) e (λ r p h. count_step (after from run) e.burst e.offer r (does (after from run) e.burst e.offer r p)) (count_run run) k

  letters_run : (run : Run) → Lettered (after from run)
  letters_run = lettered_run from (outside_a_call from.own from.place not_in_a_call_lem).1

  kept_run : (run : Run) → Kept (after from run).place (calls_in_a_row from run) (last_called from run)
  unfolding calls_in_a_row last_called
  kept_run start = outside from.place none not_calling
  kept_run (run ▷ e) = go (kept_run run) (said (after from run) e) refl
    where
      go : Kept (after from run).place (calls_in_a_row from run) (last_called from run) → (a : Answer Reply) → said (after from run) e ≡ a → Kept (station_after (after from run) a).place (calls_on a (calls_in_a_row from run)) (calls_to a e.offer (last_called from run))
      go k (answered r) p = kept_step (after from run) e.burst e.offer r _ _ (letters_run run) k (does (after from run) e.burst e.offer r p)
      go k (refused n v) p = k

  pub at_most_128_in_turn : (run : Run) → InTurn from run
  unfolding calls_in_a_row last_called
  at_most_128_in_turn run =
      record {
        sents = λ c e. sym (ap sent_of e) ∙ (kept_run run).is;
        no_others = λ x. sym (kept_run run).is ∙ sent_none (after from run).place x;
        to = (kept_run run).to;
        count_0 = count_run run;
        at_most = (kept_run run).small;
        no_129th = λ e r p. no_more (after from run) e.burst e.offer r _ _ (letters_run run) (kept_run run) (does (after from run) e.burst e.offer r p);
        in_turn = λ e r p f. rw p (in_turn_step (after from run) e.burst e.offer r _ _ (letters_run run) (kept_run run) (does (after from run) e.burst e.offer r p) f);
        begins = λ e r i p. begins_step (after from run) e.burst e.offer r _ _ (letters_run run) (kept_run run) (does (after from run) e.burst e.offer r p) i;
      }

-- what Calling does with a first word
module _ (s : Station) (b : Words) (o : Offer) (r : Reply) (answer : stepping s b o ≡ answered r) (c : Called) (here : s.place ≡ Calling c) where
  from_calling : r ≡ done s b o (calling c (first_of b.0))
  unfolding heard_of
  from_calling = (answers s b o r answer).is_done ∙ ap (λ (p : Place). done s b o (row_of s.own s.role p (heard_of s.own b))) here

  -- it has its 128 in place of the count
  pub calling_is_uncounted : Uncounted s r
  unfolding done
  calling_is_uncounted =
      rw from_calling
      (by_calling (λ d. Uncounted s (done s b o d)) c (first_of b.0)
      (λ n x y. by_take (Uncounted s) (knowing s (Four c.to)) n o
      (λ v w t. record { never_lost = refl; count_0 = refl; prints_nothing_lem = refl; accepts_nothing = (refl, refl) })
      (record { never_lost = refl; count_0 = refl; prints_nothing_lem = refl; accepts_nothing = (refl, refl) }))
      (record { never_lost = refl; count_0 = refl; prints_nothing_lem = refl; accepts_nothing = (refl, refl) })
      (λ l. record { never_lost = refl; count_0 = refl; prints_nothing_lem = refl; accepts_nothing = (refl, refl) }))

-- the same control signal as in the step before
abbrev Again : Called → First → Type 0
Again c f = (n : Number) × (f ≡ Cs n) × (marks c.last n ≡ true)

-- the three ways on from Calling, each with what leads there
data Way (s : Station) (o : Offer) (r : Reply) (c : Called) (f : First) : Type 0 where
  reaches : (a : Again c f) → r ≡ takes (knowing s (Four c.to)) a.0 o → Way s o r c f
  fails : (Again c f → ⊥) → (f ≡ Cs3) ⊎ (128 ≤ c.sent) → r ≡ sends (rested s 128) silence → Way s o r c f
  goes_on : (Again c f → ⊥) → (f ≡ Cs3 → ⊥) → c.sent < 128 → (d : Called) → r.station.place ≡ Calling d → Way s o r c f

-- first words told apart
abbrev signal_no : First → ℕ
signal_no (Cs One) = 1
signal_no (Cs Two) = 2
signal_no Cs3 = 3
signal_no Rq = 4
signal_no (Else x) = 5

cs_no : (n m : Number) → Cs n ≡ Cs m → n ≡ m
cs_no n m e = cc

way : (s : Station) (b : Words) (o : Offer) (r : Reply) (c : Called) (f : First) → r ≡ done s b o (calling c f) → Way s o r c f
unfolding done
way s b o r c f = go f
  where
    on : (g : First) (m : Mark) → (Again c g → ⊥) → (g ≡ Cs3 → ⊥) → r ≡ done s b o (calls_on_or c m) → Way s o r c g
    on g m x y e = more (leb 128 c.sent) refl e
      where
        more : (t : Bool) → leb 128 c.sent ≡ t → r ≡ done s b o (if t then Rests 128 silence else Goes (Calling (record { to = c.to; sent = c.sent + 1; last = m })) (next_block c.to c.sent)) → Way s o r c g
        more true l q = fails x (inr (leb-true 128 c.sent l)) q
        more false l q = goes_on x y (leb-false 128 c.sent l) _ (ap (λ (r : Reply). r.station.place) q)

    twice : (n : Number) (t : Bool) → marks c.last n ≡ t → r ≡ done s b o (if t then Reaches (Four c.to) n else calls_on_or c (mark_of n)) → Way s o r c (Cs n)
    twice n true m q = reaches (n, refl, m) q
    twice n false m q = on (Cs n) (mark_of n) (λ a. true≢false (sym a.2 ∙ ap (marks c.last) (sym (cs_no n a.0 a.1)) ∙ m)) (λ z. apart n z) q
      where
        apart : (n : Number) → Cs n ≡ Cs3 → ⊥
        apart One z = let y = ap signal_no z in omega (arith, y)
        apart Two z = let y = ap signal_no z in omega (arith, y)

    unlike : (g : First) → 3 ≤ signal_no g → Again c g → ⊥
    unlike g l (n, p, m) = low n (ap signal_no p)
      where
        low : (n : Number) → signal_no g ≡ signal_no (Cs n) → ⊥
        low One z = omega arith
        low Two z = omega arith

    go : (g : First) → r ≡ done s b o (calling c g) → Way s o r c g
    go (Cs n) q = twice n (marks c.last n) refl q
    go Cs3 q = fails (unlike Cs3 (omega arith)) (inl refl) q
    go Rq q = on Rq Mark.None (unlike Rq (omega arith)) (λ z. let y = ap signal_no z in omega (arith, y)) q
    go (Else x) q = on (Else x) Mark.None (unlike (Else x) (omega arith)) (λ z. let y = ap signal_no z in omega (arith, y)) q

-- what Calling keeps is what the step before heard, where that was heard at Calling
abbrev last_mark : Option Step → Mark
last_mark none = Mark.None
last_mark (some x) = if is_calling x.place then mark_in (first_of x.burst.0) else Mark.None

mark_step : (s : Station) (b : Words) (o : Offer) (r : Reply) → Does s b o r → (c : Called) → r.station.place ≡ Calling c → c.last ≡ (if is_calling s.place then mark_in (first_of b.0) else Mark.None)
mark_step s b o r (elsewhere x y t u) c e = absurd (true≢false (sym (ap is_calling e) ∙ y))
mark_step s b o r (rests x (p, q) t u) c e = absurd (false≢true (sym (ap is_calling p) ∙ ap is_calling e))
mark_step s b o r (waits w p q) c e = absurd (false≢true (ap (λ (r : Reply). is_calling r.station.place) (sym q) ∙ ap is_calling e))
mark_step s b o r (places w i p z y q) c e =
    ap (at_calling (λ c. c.last) Mark.None) (sym e ∙ ap (λ (r : Reply). r.station.place) q) ∙ rw (ap is_calling p)
mark_step s b o r (calls_on_lem d p m q) c e =
    ap (at_calling (λ c. c.last) Mark.None) (sym e ∙ ap (λ (r : Reply). r.station.place) q) ∙ rw (ap is_calling p)

module _ (from : Station) (not_calling : is_calling from.place ≡ false) where
  mark_run : (run : Run) (c : Called) → (after from run).place ≡ Calling c → c.last ≡ last_mark (last_step from run)
  unfolding last_step
  mark_run start c e = absurd (true≢false (sym (ap is_calling e) ∙ not_calling))
  mark_run (run ▷ e) c q = go (mark_run run) (said (after from run) e) refl c q
    where
      go : ((c : Called) → (after from run).place ≡ Calling c → c.last ≡ last_mark (last_step from run)) → (a : Answer Reply) → said (after from run) e ≡ a → (c : Called) → (station_after (after from run) a).place ≡ Calling c → c.last ≡ last_mark (step_or a (some (record { place = (after from run).place; burst = e.burst })) (last_step from run))
      go k (answered r) p = mark_step (after from run) e.burst e.offer r (does (after from run) e.burst e.offer r p)
      go k (refused n v) p = k

-- the word of a number, and what is kept of it
heard_cs : (w : ℕ) (n : Number) → w ≡ (asks_for n).0 → first_of w ≡ Cs n
heard_cs w One e = first_cs1 w e
heard_cs w Two e = first_cs2 w e

cs_word : (w : ℕ) (n : Number) → first_of w ≡ Cs n → w ≡ (asks_for n).0
cs_word w One e = subst (Says w) e (first_says w)
cs_word w Two e = subst (Says w) e (first_says w)

cs3_word : (w : ℕ) → first_of w ≡ Cs3 → w ≡ cs3
cs3_word w e = subst (Says w) e (first_says w)

marks_own : (n : Number) → marks (mark_of n) n ≡ true
marks_own One = refl
marks_own Two = refl

marked : (f : First) (n : Number) → marks (mark_in f) n ≡ true → f ≡ Cs n
marked (Cs One) One e = refl
marked (Cs One) Two e = absurd (false≢true e)
marked (Cs Two) One e = absurd (false≢true e)
marked (Cs Two) Two e = refl
marked Cs3 n e = absurd (false≢true e)
marked Rq n e = absurd (false≢true e)
marked (Else x) n e = absurd (false≢true e)

-- so the same twice is told from the run
was_heard : (l : Option Step) (n : Number) → marks (last_mark l) n ≡ true → WasHeard is_calling (λ b. b.0 ≡ (asks_for n).0) l
was_heard none n e = absurd (false≢true e)
was_heard (some x) n e = go (is_calling x.place) refl e
  where
    go : (t : Bool) → is_calling x.place ≡ t → marks (if t then mark_in (first_of x.burst.0) else Mark.None) n ≡ true → (is_calling x.place ≡ true) × (x.burst.0 ≡ (asks_for n).0)
    go true p e = (p, cs_word x.burst.0 n (marked (first_of x.burst.0) n e))
    go false p e = absurd (false≢true e)

heard_marks : (l : Option Step) (n : Number) → WasHeard is_calling (λ b. b.0 ≡ (asks_for n).0) l → marks (last_mark l) n ≡ true
heard_marks none n h = absurd h
heard_marks (some x) n h = rw (h.0, heard_cs x.burst.0 n h.1) (marks_own n)

-- traffic, Stand-by, or Calling
took : (s : Station) (n : Number) (o : Offer) (r : Reply) → r ≡ takes s n o → (in_traffic r.station.place ≡ true) × (is_stand_by r.station.place ≡ false)
took s n o r q = rw q (by_take (λ (r : Reply). (in_traffic r.station.place ≡ true) × (is_stand_by r.station.place ≡ false)) s n o (λ v w t. (refl, refl)) (refl, refl))

module _ (from : Station) (not_in_a_call_lem : not_in_a_call from.place ≡ true) (run : Run) (c : Called) (here : (after from run).place ≡ Calling c) (e : Event) (r : Reply) (answer : said (after from run) e ≡ answered r) where
  again : Twice from run e → Again c (first_of e.burst.0)
  again t = (t.number, heard_cs e.burst.0 t.number t.now, rw (mark_run from (not_calling from not_in_a_call_lem) run c here) (heard_marks (last_step from run) t.number t.before))

  twice : Again c (first_of e.burst.0) → Twice from run e
  twice a =
      record {
        number = a.0;
        before = was_heard (last_step from run) a.0 (rw (mark_run from (not_calling from not_in_a_call_lem) run c here) at a.2);
        now = cs_word e.burst.0 a.0 a.1;
      }

  by_way : Way (after from run) e.offer r c (first_of e.burst.0) → CallEnds from run c e r
  by_way (reaches a q) =
      let w = took (knowing (after from run) (Four c.to)) a.0 e.offer r q in
      record {
        goes_on_exactly = (λ x. twice a, λ x. w.0);
        goes_on = λ t. q ∙ ap (λ (n : Number). takes (knowing (after from run) (Four c.to)) n e.offer) (cs_no a.0 t.number (sym a.1 ∙ heard_cs e.burst.0 t.number t.now));
        fails_exactly = (λ x. absurd (true≢false (sym x ∙ w.1)), λ x. absurd (x.0 (twice a)));
        fails = λ x. absurd (true≢false (sym x ∙ w.1));
        else_calls = λ x. absurd (true≢false (sym w.0 ∙ x));
      }
  by_way (fails x y q) =
      let p = ap (λ (r : Reply). r.station.place) q in
      record {
        goes_on_exactly = (λ z. absurd (false≢true (sym (ap in_traffic p) ∙ z)), λ t. absurd (x (again t)));
        goes_on = λ t. absurd (x (again t));
        fails_exactly = (λ z. (λ t. x (again t), why y), λ z. ap is_stand_by p);
        fails = λ z. q;
        else_calls = λ z u. absurd (true≢false (sym (ap is_stand_by p) ∙ u));
      }
    where
      why : (first_of e.burst.0 ≡ Cs3) ⊎ (128 ≤ c.sent) → (e.burst.0 ≡ cs3) ⊎ (calls_in_a_row from run ≡ 128)
      why (inl f) = inl (cs3_word e.burst.0 f)
      why (inr l) =
          let i = at_most_128_in_turn from not_in_a_call_lem run in
          let j = i.sents c here in
          let m = i.at_most in
          inr (omega arith)
  by_way (goes_on x y l d p) =
      record {
        goes_on_exactly = (λ z. absurd (false≢true (sym (ap in_traffic p) ∙ z)), λ t. absurd (x (again t)));
        goes_on = λ t. absurd (x (again t));
        fails_exactly = (λ z. absurd (false≢true (sym (ap is_stand_by p) ∙ z)), λ z. absurd (neither z.1));
        fails = λ z. absurd (false≢true (sym (ap is_stand_by p) ∙ z));
        else_calls = λ z u. ap is_calling p;
      }
    where
      neither : (e.burst.0 ≡ cs3) ⊎ (calls_in_a_row from run ≡ 128) → ⊥
      neither (inl w) = y (first_cs3 e.burst.0 w)
      neither (inr k) = let j = (at_most_128_in_turn from not_in_a_call_lem run).sents c here in omega arith

  pub call_ends_exactly : CallEnds from run c e r
  call_ends_exactly =
      by_way (way (after from run) e.burst e.offer r c (first_of e.burst.0) (from_calling (after from run) e.burst e.offer r answer c here))
