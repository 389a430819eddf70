-- The question and the whole answer (02, T-06). A station that owes has, of its answer, as many blocks left as those from the index owed on;
-- each block that it takes is the first of these, and the last one leaves nothing owed.
--     question_turns   a block with D in figures is printed, CS3 turns the direction, and the answer is owed
--     only_asked       nothing else makes an answer owed
--     held_is_taken    the blocks that are taken here are those that demand 3 counts as taken from the offers
--     whole_answer     then the answer's blocks are taken in order, to the last, unless CS3 cuts it
--     offers_wait      and while something is owed no offer is taken
--     cs3_drops        CS3 at Sending drops what is owed
-- Assumes nothing.
use mathlib.Core.Path.{◌≡◌, refl, ap, sym, subst, ◌∙◌}
use mathlib.Core.Bool.{Bool, true, false, ◌||◌, true≢false}
use mathlib.Core.List.{List, [], ◌∷◌, ◌++◌, append_assoc, append-nil}
use mathlib.Core.Logic.{◌⊎◌, inl, inr}
use Prim.Native.Nat.{ℕ, zero, suc, ◌<◌, ◌≤◌}
use native.Mathlib.Omega.{arith}
use lib.Dec.{ltb}
use lib.ListN.{length, get_or, drop, length-drop, drop_of_length-le}
use borrow.Author.Tests.{ltb-true, ltb-false}
use Rattle.std.specs.Prelude.{if◌then◌else◌}
use Rattle.signals.specs.Numbers.{Answer, answered, refused}
use Rattle.mode_a.specs.declared.Words.{Words}
use Rattle.mode_a.specs.declared.Code.{Code}
use Rattle.mode_a.specs.declared.Own.{Own}
use Rattle.mode_a.specs.declared.Number.{Number}
use Rattle.mode_a.specs.declared.Owed.{Owed}
use Rattle.mode_a.specs.declared.Offer.{Offer}
use Rattle.mode_a.specs.declared.Station.{Station}
use Rattle.mode_a.specs.declared.Listening.{Listening}
use Rattle.mode_a.specs.declared.Doing.{Doing}
use Rattle.mode_a.specs.declared.Doing.TheVariants.{Repeats, Goes, Takes, Receives, Opens, Accepts, Rests, Answers, Listens, Reaches, Answers3, Bars, Ends, Turns, Meets, Again, Yields}
use Rattle.mode_a.specs.declared.Reply.{Reply}
use Rattle.mode_a.specs.Heard.{First, Cs, Cs3, Rq, Else, first_of, heard_of}
use Rattle.mode_a.specs.Over.{listened_all}
use Rattle.mode_a.specs.Answerback.{βββ, answer_of, owed_from, block_owed, owed_behind, owed_then, owed_exists}
use Rattle.mode_a.specs.Rows.{row_of, sending}
use Rattle.mode_a.specs.Step.{takes_offer, takes, knowing, owed_for, done, station_after}
use Rattle.runs.specs.Places.{is_sending, is_opening, is_asking, is_lost}
use Rattle.runs.specs.Runs.{Event, Run, start, ◌▷◌, said, next, after, is_taken, is_taking, taking}
use Rattle.runs.specs.Taken.{block_from, taken_if}
use Rattle.runs.proofs.CodeLaws.{is_owed, owed_for_exists}
use Rattle.runs.proofs.OwedLaws.{only_asked as unasked, owing_at, OwesThere, owes_there_run}
use Rattle.runs.proofs.StepLaws.{answers, by_owed, own_stays, own_lasts}
use Rattle.runs.proofs.TakenLaws.{takes_by_row}
use Rattle.who_are_you.specs.Answers.{asks, QuestionTurns, OnlyAsked, held_at, taken_at, taken_in, HeldIsTaken, is_cs3, cuts, Uncut, Progress, under_way, whole, WholeAnswer, OffersWait, Cut, Cs3Drops}
use Rattle.who_are_you.proofs.OwingLaws.{asked_turns, Moves, owes_on, takes_one, is_cut, owing_moves}

pub question_turns : QuestionTurns
question_turns s e r a t =
    let i = asked_turns s e r a t in
    record {
      goes_to_asking = ap (λ (r : Reply). r.station.place) i;
      sends_cs3 = ap (λ (r : Reply). r.sent) i;
      prints_the_block = ap (λ (r : Reply). r.printed) i;
      takes_no_offer = ap (λ (r : Reply). r.taken) i;
      owes = ap (λ (r : Reply). r.station.owed) i;
    }

pub only_asked : OnlyAsked
only_asked s e r a n t = unasked s e.burst e.offer r a n t

-- What is held after a row that takes: the block owed, where an answer is owed, else that of the offer.
abbrev HeldAsTaken : Station → Offer → Bool → Reply → Type 0
HeldAsTaken s o t r = (if t then held_at r.station.place else []) ≡ taken_if t s o r

block_owed_lem : (c : Code) (w : Owed) (o : Offer) → is_owed w ≡ true → block_from c w o ≡ block_owed c w ∷ []
block_owed_lem c Owed.Nothing o u = absurd (true≢false (sym u))
block_owed_lem c (Owed.Back i) o u = refl
block_owed_lem c (Owed.Keep i) o u = refl

held_of_takes : (s : Station) (n : Number) (o : Offer) → HeldAsTaken s o true (takes s n o)
held_of_takes s n o = by_owed (HeldAsTaken s o true) s n o (of_offer o) (λ t. sym (block_owed_lem s.own.code s.owed o t))
  where
    of_offer : (o : Offer) → s.owed ≡ Owed.Nothing → HeldAsTaken s o true (takes_offer s n o)
    of_offer (Offer.Text w) e = rw e
    of_offer Offer.Over e = rw e
    of_offer Offer.End e = refl
    of_offer Offer.Nothing e = rw e
    of_offer (Offer.Call i) e = rw e
    of_offer (Offer.Call3 i) e = rw e

held_of_row : (s : Station) (b : Words) (o : Offer) (d : Doing) → HeldAsTaken s o (is_taking d) (done s b o d)
unfolding done
held_of_row s b o (Repeats w) = refl
held_of_row s b o (Goes p w) = refl
held_of_row s b o (Takes n) = held_of_takes s n o
held_of_row s b o (Receives n) = refl
held_of_row s b o Opens = refl
held_of_row s b o (Accepts n) = refl
held_of_row s b o (Rests n w) = refl
held_of_row s b o Answers = refl
held_of_row s b o (Listens w) = refl
held_of_row s b o (Reaches p n) = held_of_takes (knowing s p) n o
held_of_row s b o Answers3 = refl
held_of_row s b o (Bars i) = refl
held_of_row s b o (Ends i) = refl
held_of_row s b o (Turns i) = refl
held_of_row s b o (Meets i) = refl
held_of_row s b o (Again p w) = refl
held_of_row s b o (Yields n) = refl

pub held_is_taken : HeldIsTaken
unfolding heard_of
held_is_taken s e r a =
    let d = row_of s.own s.role s.place (heard_of s.own e.burst) in
    rw ((answers s e.burst e.offer r a).is_done, takes_by_row s.own s.role s.place (heard_of s.own e.burst)) (held_of_row s e.burst e.offer d)

pub cs3_drops : Cs3Drops
unfolding done heard_of
cs3_drops s h e r a p c = go (first_of e.burst.0) refl c
  where
    go : (f : First) → first_of e.burst.0 ≡ f → is_cs3 f ≡ true → Cut h (first_of e.burst.0) r
    go (Cs n) i t = absurd (true≢false (sym t))
    go Cs3 i t =
        let d : r ≡ done s e.burst e.offer (sending h Cs3) = (answers s e.burst e.offer r a).is_done ∙ rw (p, i) in
        record {
          confirms_the_block = rw i;
          goes_to_turning = ap (λ (r : Reply). r.station.place) d;
          sends_βαβ = ap (λ (r : Reply). r.sent) d;
          takes_no_offer = ap (λ (r : Reply). r.taken) d;
          owes_nothing = ap (λ (r : Reply). r.station.owed) d;
        }
    go Rq i t = absurd (true≢false (sym t))
    go (Else x) i t = absurd (true≢false (sym t))

-- What is left of a list from one of its places on: its block there, and what is left behind that.
drop_next : (l : List Words) (i : ℕ) → i < length l → drop i l ≡ get_or l i βββ ∷ drop (suc i) l
drop_next [] i h = absurd (omega (arith, h))
drop_next (x ∷ l) zero h = refl
drop_next (x ∷ l) (suc i) h = drop_next l i (omega (arith, h))

-- what is owed behind a block: the block after it, of the same answer, or nothing where that was the last
data Then (c : Code) (w : Owed) : Type 0 where
  goes_on : suc (owed_from w) < length (answer_of c w) → is_owed (owed_then c w) ≡ true → answer_of c (owed_then c w) ≡ answer_of c w → owed_from (owed_then c w) ≡ suc (owed_from w) → Then c w
  was_last : length (answer_of c w) ≤ suc (owed_from w) → Then c w

owed_behind_lem : (c : Code) (w : Owed) → is_owed w ≡ true → Then c w
owed_behind_lem c w u = go (ltb (suc (owed_from w)) (length (answer_of c w))) refl
  where
    behind : (w : Owed) → is_owed w ≡ true → (is_owed (owed_behind w) ≡ true) × (answer_of c (owed_behind w) ≡ answer_of c w) × (owed_from (owed_behind w) ≡ suc (owed_from w))
    behind Owed.Nothing u = absurd (true≢false (sym u))
    behind (Owed.Back i) u = (refl, (unfold answer_of in refl), refl)
    behind (Owed.Keep i) u = (refl, (unfold answer_of in refl), refl)

    go : (t : Bool) → ltb (suc (owed_from w)) (length (answer_of c w)) ≡ t → Then c w
    go true e =
        let i : owed_then c w ≡ owed_behind w = unfold owed_then in rw e in
        let p = behind w u in
        goes_on (ltb-true _ _ e) (rw i p.0) (rw i p.1) (rw i p.2)
    go false e = was_last (ltb-false _ _ e)

-- under way: a block of this answer is owed, and it and those behind it are left
record Owing (c : Code) (answer taken : List Words) (s : Station) : Type 0 where
  is_owed_lem : is_owed s.owed ≡ true
  of_this : answer_of c s.owed ≡ answer
  is_there : owed_from s.owed < length answer
  makes_up : answer ≡ taken ++ drop (owed_from s.owed) answer
  at_its_place : owing_at s.place ≡ true

abbrev State : Code → List Words → List Words → Station → Type 0
State c answer taken s = Owing c answer taken s ⊎ ((behind : List Words) × (taken ≡ answer ++ behind))

module _ (c : Code) (answer taken : List Words) (s : Station) where
  -- nothing is taken
  none_taken : (t : Station) → t.owed ≡ s.owed → owing_at t.place ≡ true → Owing c answer taken s → Owing c answer (taken ++ []) t
  none_taken t e w o = record {
    is_owed_lem = rw e o.is_owed_lem;
    of_this = rw e o.of_this;
    is_there = rw e o.is_there;
    makes_up = rw (append-nil taken, e) o.makes_up;
    at_its_place = w;
  }

  -- the block owed is taken
  one_taken : (t : Station) → t.owed ≡ owed_then c s.owed → owing_at t.place ≡ true → Owing c answer taken s → State c answer (taken ++ block_owed c s.owed ∷ []) t
  unfolding block_owed
  one_taken t e w o = go (owed_behind_lem c s.owed o.is_owed_lem)
    where
      block : get_or answer (owed_from s.owed) βββ ≡ block_owed c s.owed
      block = rw o.of_this

      more : answer ≡ (taken ++ block_owed c s.owed ∷ []) ++ drop (suc (owed_from s.owed)) answer
      more =
          o.makes_up
          ∙ ap (λ (l : List Words). taken ++ l) (drop_next answer (owed_from s.owed) o.is_there ∙ ap (λ (b : Words). b ∷ drop (suc (owed_from s.owed)) answer) block)
          ∙ sym (append_assoc taken (block_owed c s.owed ∷ []) (drop (suc (owed_from s.owed)) answer))

      go : Then c s.owed → State c answer (taken ++ block_owed c s.owed ∷ []) t
      go (goes_on l u v n) = inl (record {
        is_owed_lem = rw e u;
        of_this = rw e v ∙ o.of_this;
        is_there = rw (e, n) (rw o.of_this at l);
        makes_up = rw (e, n) more;
        at_its_place = w;
      })
      go (was_last l) =
          inr ([], sym (append-nil answer ∙ more ∙ ap (λ (l : List Words). (taken ++ block_owed c s.owed ∷ []) ++ l) (drop_of_length-le answer (rw o.of_this at l)) ∙ append-nil (taken ++ block_owed c s.owed ∷ [])))

state_step : (answer taken : List Words) (s : Station) (e : Event) → cuts s e ≡ false → State s.own.code answer taken s → State s.own.code answer (taken ++ taken_at s e (said s e)) (next s e)
state_step answer taken s e n (inr b) =
    inr (b.0 ++ taken_at s e (said s e), ap (λ (l : List Words). l ++ taken_at s e (said s e)) b.1 ∙ append_assoc answer b.0 (taken_at s e (said s e)))
state_step answer taken s e n (inl o) = go (said s e) refl
  where
    by_move : (r : Reply) → Moves s (taking s.place (first_of e.burst.0)) (cuts s e) r → State s.own.code answer (taken ++ taken_at s e (answered r)) r.station
    by_move r (owes_on w p t u) = rw t (inl (none_taken s.own.code answer taken s r.station w p o))
    by_move r (takes_one w q p t u) =
        rw (t, q) (one_taken s.own.code answer taken s r.station w p o)
    by_move r (is_cut t w u) = absurd (true≢false (sym t ∙ n))

    go : (x : Answer Reply) → said s e ≡ x → State s.own.code answer (taken ++ taken_at s e x) (station_after s x)
    go (answered r) i = by_move r (owing_moves s e r i o.is_owed_lem o.at_its_place)
    go (refused m v) i = inl (none_taken s.own.code answer taken s s refl o.at_its_place o)

-- from the block with D on, its first block is owed
there : (c : Code) (w : Owed) → is_owed w ≡ true → owed_exists c w ≡ true → owed_from w < length (answer_of c w)
unfolding owed_exists
there c Owed.Nothing u x = absurd (true≢false (sym u))
there c (Owed.Back i) u x = ltb-true _ _ x
there c (Owed.Keep i) u x = ltb-true _ _ x

at_first : (l : Listening) → (is_owed (owed_for l) ≡ true) × (owed_from (owed_for l) ≡ 0)
at_first l = go l.over
  where
    go : (t : Bool) → (is_owed (if t then Owed.Keep 0 else Owed.Back 0) ≡ true) × (owed_from (if t then Owed.Keep 0 else Owed.Back 0) ≡ 0)
    go true = (refl, refl)
    go false = (refl, refl)

asked_owes : (s : Station) (e : Event) (r : Reply) → said s e ≡ answered r → asks s e ≡ true → Owing s.own.code (answer_of s.own.code (owed_for (listened_all s.case s.plus e.burst))) [] r.station
asked_owes s e r a t =
    let q = question_turns s e r a t in
    let l = listened_all s.case s.plus e.burst in
    let f = at_first l in
    record {
      is_owed_lem = rw q.owes f.0;
      of_this = rw q.owes;
      is_there = rw q.owes (there s.own.code (owed_for l) f.0 (owed_for_exists s.own.code l));
      makes_up = rw (q.owes, f.1);
      at_its_place = rw q.goes_to_asking;
    }

state_run : (c : Code) (answer : List Words) (s : Station) → s.own.code ≡ c → Owing c answer [] s → (run : Run) → Uncut s run → State c answer (taken_in s run) (after s run)
unfolding taken_in Uncut
state_run c answer s k o start u = inl o
state_run c answer s k o (run ▷ e) u =
    subst (λ (x : Code). State x answer (taken_in s run ++ taken_at (after s run) e (said (after s run) e)) (next (after s run) e)) codes (state_step answer (taken_in s run) (after s run) e u.1 (subst (λ (x : Code). State x answer (taken_in s run) (after s run)) (sym codes) (state_run c answer s k o run u.0)))
  where
    codes : (after s run).own.code ≡ c
    codes = ap (λ (w : Own). w.code) (own_lasts s run) ∙ k

-- the same four places
one_of_four : (a b c d : Bool) → a || b || c || d ≡ true → c || b || a || d ≡ true
one_of_four a b true d e = refl
one_of_four a true false d e = refl
one_of_four true false false d e = refl
one_of_four false false false d e = e

progress : (c : Code) (answer taken : List Words) (s : Station) → State c answer taken s → Progress answer taken s
progress c answer taken s (inl o) =
    under_way (drop (owed_from s.owed) answer) o.makes_up (λ e. omega (arith, ap length e, length-drop (owed_from s.owed) answer, o.is_there)) (one_of_four (is_sending s.place) (is_opening s.place) (is_asking s.place) (is_lost s.place) o.at_its_place)
progress c answer taken s (inr b) = whole b.0 b.1

pub whole_answer : WholeAnswer
whole_answer s e r a t run u =
    progress s.own.code _ _ _ (state_run s.own.code _ r.station (ap (λ (w : Own). w.code) (own_stays s e.burst e.offer r a)) (asked_owes s e r a t) run u)

nothing_owed : (w : Owed) → is_owed w ≡ false → w ≡ Owed.Nothing
nothing_owed Owed.Nothing u = refl
nothing_owed (Owed.Back i) u = absurd (true≢false u)
nothing_owed (Owed.Keep i) u = absurd (true≢false u)

-- a station that owes is where it may, also where an answer was cut and another question came
waits_on_lem : (s : Station) (e : Event) → OwesThere s → ¬ (s.owed ≡ Owed.Nothing) → is_taken (said s e) ≡ false
waits_on_lem s e w n = owed (is_owed s.owed) (owing_at s.place) refl refl
  where
    by_move : (r : Reply) → Moves s (taking s.place (first_of e.burst.0)) (cuts s e) r → r.taken ≡ false
    by_move r (owes_on i q t v) = v
    by_move r (takes_one i p q t v) = v
    by_move r (is_cut t i v) = v

    go : is_owed s.owed ≡ true → owing_at s.place ≡ true → (x : Answer Reply) → said s e ≡ x → is_taken x ≡ false
    go u v (answered r) i = by_move r (owing_moves s e r i u v)
    go u v (refused m k) i = refl

    owed : (t p : Bool) → is_owed s.owed ≡ t → owing_at s.place ≡ p → is_taken (said s e) ≡ false
    owed true true u v = go u v (said s e) refl
    owed true false u v = absurd (n (w v))
    owed false p u v = absurd (n (nothing_owed s.owed u))

pub offers_wait : OffersWait
offers_wait s e r a t run f n = waits_on_lem (after r.station run) f (owes_there_run r.station from_asking run) n
  where
    from_asking : OwesThere r.station
    from_asking i = absurd (true≢false (ap owing_at (sym (question_turns s e r a t).goes_to_asking) ∙ i))
