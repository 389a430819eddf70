-- Codes that pass ask nothing (02, T-06): why a code is judged by its whole list and heard block by block with the same outcome. Over and D
-- are only ever added to what was heard, so neither is there before any signal of a list that ends without them; and β, with which the last
-- block is filled, is not heard.
--     asks_nothing             the blocks of a passing code and the two βββ complete no over and have no D in figures, from either case
--     no_answer_to_answers     so a station that accepts an answer of such a code, or a beginning of it, owes nothing: whether D is heard does
--                              not depend on a + that is kept, and the over behind the answer has no D
-- Assumes nothing.
use mathlib.Core.Path.{◌≡◌, refl, sym, subst, ◌∙◌}
use mathlib.Core.Bool.{Bool, true, false, ◌&&◌, ◌||◌, true≢false, and-eq-true_iff}
use mathlib.Core.List.{List, [], ◌∷◌, ◌++◌, append_assoc}
use Prim.Native.Nat.{ℕ}
use lib.Dec.{eqb, leb}
use lib.ListN.{length}
use borrow.Author.Tests.{not-true}
use Rattle.std.specs.Prelude.{if◌then◌else◌}
use Rattle.signals.specs.declared.Case.{Case}
use Rattle.signals.specs.declared.Case.TheVariants.{Letters, Figures}
use Rattle.signals.specs.Meaning.{traffic_of, letters, figures, beta}
use Rattle.signals.specs.Numbers.{Answer, answered, refused, first_not}
use Rattle.mode_a.specs.declared.Number.{Number}
use Rattle.mode_a.specs.declared.Words.{Words}
use Rattle.mode_a.specs.declared.Code.{Code}
use Rattle.mode_a.specs.declared.Owed.{Owed}
use Rattle.mode_a.specs.declared.Place.TheVariants.{Receiving}
use Rattle.mode_a.specs.declared.Offer.{Offer}
use Rattle.mode_a.specs.declared.Station.{Station}
use Rattle.mode_a.specs.declared.Doing.{Doing}
use Rattle.mode_a.specs.declared.Doing.TheVariants.{Accepts}
use Rattle.mode_a.specs.declared.Reply.{Reply}
use Rattle.mode_a.specs.declared.Listening.{Listening}
use Rattle.mode_a.specs.Station.{words, asks_for}
use Rattle.mode_a.specs.Heard.{Heard, heard_of}
use Rattle.mode_a.specs.Over.{cross, query, who, signal_in, listened, keeping, listened_all}
use Rattle.mode_a.specs.Answerback.{code_signals, listened_in, holds_neither, passes, in_threes, βββ, figures+?, answer_keeping, answer_of}
use Rattle.mode_a.specs.Rows.{receiving}
use Rattle.mode_a.specs.Step.{is_over, accepts_by, done, station_after}
use Rattle.runs.specs.Places.{is_receiving}
use Rattle.runs.specs.Runs.{Event, Run, start, ◌▷◌, said, next, after}
use Rattle.runs.proofs.RowLaws.{by_receiving}
use Rattle.runs.proofs.StepLaws.{answers, placed, by_repeat, by_heard}
use Rattle.who_are_you.specs.Quiet.{Quiet, AsksNothing, accepted_of, accepted_blocks, StaysReceiving, NoAnswerToAnswers}
use Rattle.who_are_you.proofs.OwingLaws.{is_receiving_lem}

-- neither the over nor D in figures is heard so far
abbrev Neither : Listening → Type 0
Neither l = (l.over ≡ false) × (l.asked ≡ false)

-- the first of two that are both false
first_false : (a b : Bool) → a || b ≡ false → a ≡ false
first_false true b e = absurd (true≢false e)
first_false false b e = refl

-- what is there stays: where it is not there after a signal, it was not before
module _ (l : Listening) (w : ℕ) where
  in_case : (c : Case) → Neither (signal_in c l.plus l.over l.asked w) → Neither l
  in_case Letters n = n
  in_case Figures n = go (eqb w cross) (eqb w query) n
    where
      go : (x q : Bool) → Neither (if x then record { case = Figures; plus = true; over = l.over; asked = l.asked } else if q then record { case = Figures; plus = false; over = l.over || l.plus; asked = l.asked } else record { case = Figures; plus = false; over = l.over; asked = l.asked || eqb w who }) → Neither l
      go true q n = n
      go false true n = (first_false l.over l.plus n.0, n.1)
      go false false n = (n.0, first_false l.asked (eqb w who) n.1)

  before : Neither (listened l w) → Neither l
  unfolding listened
  before n = go (eqb w beta) (eqb w letters) (eqb w figures) n
    where
      go : (b x f : Bool) → Neither (if b then l else if x then record { case = Letters; plus = false; over = l.over; asked = l.asked } else if f then record { case = Figures; plus = false; over = l.over; asked = l.asked } else signal_in l.case l.plus l.over l.asked w) → Neither l
      go true x f n = n
      go false true f n = n
      go false false true n = n
      go false false false n = in_case l.case n

before_all : (ws : List ℕ) (l : Listening) → Neither (listened_in l ws) → Neither l
before_all [] l n = n
before_all (w ∷ ws) l n = before l w (before_all ws (listened l w) n)

-- what is kept where neither is heard is all that was heard
keeps : (l : Listening) → Neither l → keeping l.case l.plus ≡ l
keeps l n = λ k. record { case = l.case; plus = l.plus; over = sym n.0 k; asked = sym n.1 k }

-- β is not heard
βββ-quiet : (c : Case) (p : Bool) → Quiet c p (βββ ∷ βββ ∷ [])
unfolding Quiet listened
βββ-quiet c p = (refl, refl, (refl, refl, tt))

last_quiet : (c : Case) (p : Bool) (b : Words) → Neither (listened_all c p b) → Quiet c p (b ∷ βββ ∷ βββ ∷ [])
unfolding Quiet
last_quiet c p b n = (n.0, n.1, βββ-quiet (listened_all c p b).case (listened_all c p b).plus)

-- the blocks of a list, and the two βββ
blocks_quiet : (ws : List ℕ) (c : Case) (p : Bool) → Neither (listened_in (keeping c p) ws) → Quiet c p (in_threes ws ++ βββ ∷ βββ ∷ [])
unfolding Quiet listened
blocks_quiet [] c p n = βββ-quiet c p
blocks_quiet (x ∷ []) c p n = last_quiet c p (words x beta beta) n
blocks_quiet (x ∷ y ∷ []) c p n = last_quiet c p (words x y beta) n
blocks_quiet (x ∷ y ∷ z ∷ ws) c p n =
    let l = listened_all c p (words x y z) in
    let m = before_all ws l n in
    (m.0, m.1, blocks_quiet ws l.case l.plus (rw (keeps l m) n))

-- "holding D in figures or an over from either case"
holds_neither_lem : (c : Case) (ws : List ℕ) → holds_neither c ws ≡ true → Neither (listened_in (keeping c false) ws)
unfolding holds_neither
holds_neither_lem c ws e =
    let b = (and-eq-true_iff _ _).0 e in
    (not-true _ b.0, not-true _ b.1)

-- the two judgements of a code that passes
from_either : (a b x y : Bool) → a && (b && (x && y)) ≡ true → (x ≡ true) × (y ≡ true)
from_either a b x y e = (and-eq-true_iff x y).0 ((and-eq-true_iff b _).0 ((and-eq-true_iff a _).0 e).1).1

pub asks_nothing : AsksNothing
unfolding passes answer_keeping
asks_nothing k e c = blocks_quiet (code_signals k) c false (holds_neither_lem c (code_signals k) (from c))
  where
    either : (holds_neither Letters (code_signals k) ≡ true) × (holds_neither Figures (code_signals k) ≡ true)
    either = from_either (leb k.length 20) (leb (length (code_signals k)) (first_not traffic_of (code_signals k))) _ _ e

    from : (c : Case) → holds_neither c (code_signals k) ≡ true
    from Letters = either.0
    from Figures = either.1

-- each of the blocks, heard in order from this case and this +, asks nothing
unfoldable Unasked : Case → Bool → List Words → Type 0
Unasked c p [] = Unit {0}
Unasked c p (b ∷ bs) = ((listened_all c p b).asked ≡ false) × Unasked (listened_all c p b).case (listened_all c p b).plus bs

-- the case and D of two that may differ in the + and the over: a signal moves both alike
abbrev Alike : Listening → Listening → Type 0
Alike l m = (l.case ≡ m.case) × (l.asked ≡ m.asked)

abbrev heard_so : Case → Bool → Bool → Bool → Listening
heard_so c p o a = record { case = c; plus = p; over = o; asked = a }

alike_in : (c : Case) (a p o q u : Bool) (w : ℕ) → Alike (signal_in c p o a w) (signal_in c q u a w)
alike_in Letters a p o q u w = (refl, refl)
alike_in Figures a p o q u w = go (eqb w cross) (eqb w query)
  where
    heard : Bool → Bool → Bool → Bool → Listening
    heard x y p o = if x then heard_so Figures true o a else if y then heard_so Figures false (o || p) a else heard_so Figures false o (a || eqb w who)

    go : (x y : Bool) → Alike (heard x y p o) (heard x y q u)
    go true y = (refl, refl)
    go false true = (refl, refl)
    go false false = (refl, refl)

alike_so : (c : Case) (a p o q u : Bool) (w : ℕ) → Alike (listened (heard_so c p o a) w) (listened (heard_so c q u a) w)
unfolding listened
alike_so c a p o q u w = go (eqb w beta) (eqb w letters) (eqb w figures)
  where
    heard : Bool → Bool → Bool → Bool → Bool → Listening
    heard x y z p o = if x then heard_so c p o a else if y then heard_so Letters false o a else if z then heard_so Figures false o a else signal_in c p o a w

    go : (x y z : Bool) → Alike (heard x y z p o) (heard x y z q u)
    go true y z = (refl, refl)
    go false true z = (refl, refl)
    go false false true = (refl, refl)
    go false false false = alike_in c a p o q u w

alike : (l m : Listening) (w : ℕ) → Alike l m → Alike (listened l w) (listened m w)
alike l m w e =
    subst (λ (c : Case). Alike (listened (heard_so l.case l.plus l.over l.asked) w) (listened (heard_so c m.plus m.over m.asked) w)) e.0 (subst (λ (a : Bool). Alike (listened (heard_so l.case l.plus l.over l.asked) w) (listened (heard_so l.case m.plus m.over a) w)) e.1 (alike_so l.case l.asked l.plus l.over m.plus m.over w))

alike_all : (c : Case) (p q : Bool) (b : Words) → Alike (listened_all c p b) (listened_all c q b)
alike_all c p q b = alike _ _ b.2 (alike _ _ b.1 (alike (keeping c p) (keeping c q) b.0 (refl, refl)))

-- blocks that are quiet from one + ask nothing from either, and nor does the over behind them
quiet_unasked : (bs : List Words) (c : Case) (p q : Bool) → Quiet c p bs → Unasked c q bs
unfolding Quiet Unasked
quiet_unasked [] c p q n = tt
quiet_unasked (b ∷ bs) c p q n =
    let e = alike_all c p q b in
    (sym e.1 ∙ n.1, subst (λ (d : Case). Unasked d (listened_all c q b).plus bs) e.0 (quiet_unasked bs (listened_all c p b).case (listened_all c p b).plus (listened_all c q b).plus n.2))

over_unasked : (bs : List Words) (c : Case) (p : Bool) → Unasked c p bs → Unasked c p (bs ++ figures+? ∷ [])
unfolding Unasked listened
over_unasked [] c p n = (refl, tt)
over_unasked (b ∷ bs) c p n = (n.0, over_unasked bs (listened_all c p b).case (listened_all c p b).plus n.1)

answer_unasked : (k : Code) → passes k ≡ true → (o : Owed) (c : Case) (p : Bool) → Unasked c p (answer_of k o)
unfolding answer_of
answer_unasked k e Owed.Nothing c p = unfold Unasked in tt
answer_unasked k e (Owed.Back i) c p = over_unasked (answer_keeping k) c p (quiet_unasked (answer_keeping k) c false p (asks_nothing k e c))
answer_unasked k e (Owed.Keep i) c p = quiet_unasked (answer_keeping k) c false p (asks_nothing k e c)

-- a station that hears such blocks: what it keeps is what the blocks leave, whatever is offered
module _ (s : Station) (left : List Words) where
  -- after a step that accepts these blocks
  Hears : List Words → Reply → Type 0
  Hears bs r =
      Unasked s.case s.plus (bs ++ left) → (r.station.owed ≡ Owed.Nothing) × Unasked r.station.case r.station.plus left

  module _ (b : Words) (o : Offer) (none : s.owed ≡ Owed.Nothing) where
    hears_block : (n : Number) → Hears (b ∷ []) (done s b o (Accepts n))
    unfolding Hears Unasked done
    hears_block n q =
        by_heard (λ (r : Reply). (r.station.owed ≡ Owed.Nothing) × Unasked r.station.case r.station.plus left) s n b o l (λ a. absurd (true≢false (sym a ∙ q.0))) (λ a. go (is_over o) l.over)
      where
        l : Listening
        l = listened_all s.case s.plus b

        go : (t u : Bool) → let r = accepts_by s n b t (record { case = l.case; plus = l.plus; over = u; asked = l.asked }) in (r.station.owed ≡ Owed.Nothing) × Unasked r.station.case r.station.plus left
        go true u = (none, q.1)
        go false true = (none, q.1)
        go false false = (none, q.1)

    hears_other : (n : Number) (h : Heard) → Hears (if h.block then b ∷ [] else []) (done s b o (receiving n h))
    unfolding Hears done
    hears_other n h =
        by_receiving (λ (d : Doing). Hears (if h.block then b ∷ [] else []) (done s b o d)) n h (λ y. rw y (hears_block n)) (λ y. rw y (λ q. (refl, q))) (λ y. rw y (by_repeat (Hears []) s (asks_for n) (λ t q. (none, q)) (λ t q. (none, q))))

hears_step : (s : Station) (e : Event) (left : List Words) → is_receiving s.place ≡ true → s.owed ≡ Owed.Nothing → Unasked s.case s.plus (accepted_of s e (said s e) ++ left) → ((next s e).owed ≡ Owed.Nothing) × Unasked (next s e).case (next s e).plus left
unfolding Hears
hears_step s e left at none = go (said s e) refl
  where
    by_row : (n : Number) → s.place ≡ Receiving n → (r : Reply) → said s e ≡ answered r → Hears s left (accepted_of s e (answered r)) r
    by_row n p r i =
        rw ((answers s e.burst e.offer r i).is_done, p) (hears_other (placed s (Receiving n)) left e.burst e.offer none n (heard_of s.own e.burst))

    go : (x : Answer Reply) → said s e ≡ x → Unasked s.case s.plus (accepted_of s e x ++ left) → ((station_after s x).owed ≡ Owed.Nothing) × Unasked (station_after s x).case (station_after s x).plus left
    go (answered r) i = let n = is_receiving_lem s.place at in by_row n.0 n.1 r i
    go (refused m v) i = λ q. (none, q)

hears_run : (s : Station) → s.owed ≡ Owed.Nothing → (run : Run) → StaysReceiving s run → (left : List Words) → Unasked s.case s.plus (accepted_blocks s run ++ left) → ((after s run).owed ≡ Owed.Nothing) × Unasked (after s run).case (after s run).plus left
unfolding StaysReceiving accepted_blocks
hears_run s none start at left q = (none, q)
hears_run s none (run ▷ e) at left q =
    let more = accepted_of (after s run) e (said (after s run) e) in
    let h = hears_run s none run at.0 (more ++ left) (rw (append_assoc (accepted_blocks s run) more left) at q) in
    hears_step (after s run) e left at.1 h.0 h.1

pub no_answer_to_answers : NoAnswerToAnswers
no_answer_to_answers k p o s none run at left a =
    (hears_run s none run at left (rw (← a) (answer_unasked k p o s.case s.plus))).0
