-- 02, T-06: how what is owed of an answer-back moves, in one step.
--     owed_next, owed_moves   what is owed after a step, told by the burst and by the places before and after it: a row that takes goes on;
--                            a block with D makes the answer owed; CS3 at Sending drops it, and so does a step to Stand-by or away from it;
--                            at every other step it stays
--     owed_goes_on, owed_asked, owed_yielded, owed_dropped, owed_stays   each of these
--     by_owed_then           what is so of each of these is so of what is owed then
--     only_asked             where nothing is owed, nothing but a block with D makes an answer owed
--     exists_kept            what is owed after a step is a block that the answer has
--     OwesThere              an answer is owed at Sending, Opening, Asking or Lost alone
--     owes_there_step, owes_there_run   kept by every step, and in every run
-- Assumes nothing.
use mathlib.Core.Path.{◌≡◌, refl, sym, subst, ◌∙◌}
use mathlib.Core.Bool.{Bool, true, false, not, ◌&&◌, ◌||◌, true≢false}
use Prim.Native.Nat.{◌+◌}
use Rattle.std.specs.Prelude.{if◌then◌else◌}
use Rattle.signals.specs.Numbers.{answered}
use Rattle.mode_a.specs.declared.Number.{Number}
use Rattle.mode_a.specs.declared.Number.TheVariants.{One}
use Rattle.mode_a.specs.declared.Words.{Words}
use Rattle.mode_a.specs.declared.Code.{Code}
use Rattle.mode_a.specs.declared.Owed.{Owed}
use Rattle.mode_a.specs.declared.Held.{Held}
use Rattle.mode_a.specs.declared.Peer.{Peer}
use Rattle.mode_a.specs.declared.Peer.TheVariants.{Four, Known}
use Rattle.mode_a.specs.declared.Place.{Place}
use Rattle.mode_a.specs.declared.Place.TheVariants.{Sending, Turning, Opening, Ending, Receiving, Asking, StandBy, Lost, Calling, Calling3, Identifying, Answering}
use Rattle.mode_a.specs.declared.Offer.{Offer}
use Rattle.mode_a.specs.declared.Station.{Station}
use Rattle.mode_a.specs.declared.Listening.{Listening}
use Rattle.mode_a.specs.declared.Doing.{Doing}
use Rattle.mode_a.specs.declared.Doing.TheVariants.{Repeats, Takes}
use Rattle.mode_a.specs.declared.Reply.{Reply}
use Rattle.mode_a.specs.Station.{single, same, other}
use Rattle.mode_a.specs.Heard.{First, Cs, Cs3, Rq, Else, Heard, first_of, heard_of}
use Rattle.mode_a.specs.Over.{listened_all}
use Rattle.mode_a.specs.Answerback.{answer_of, owed_then, owed_exists}
use Rattle.mode_a.specs.Rows.{row_of}
use Rattle.mode_a.specs.Step.{takes_offer, takes, knowing, is_over, repeats, again, accepts_by, owed_for, accepts_heard, done, stepping}
use Rattle.runs.specs.Places.{is_sending, is_opening, is_asking, is_stand_by, is_lost, at_sending}
use Rattle.runs.specs.Runs.{Run, start, ◌▷◌, after, accepting, is_taking, of_cs, taking}
use Rattle.runs.proofs.CodeLaws.{owed_for_exists, owed_then_exists}
use Rattle.runs.proofs.RowLaws.{by_sending, by_turning, by_opening, by_ending, by_receiving, by_asking, by_standing, by_calling, by_calling3, by_identifying, by_answering}
use Rattle.runs.proofs.StepLaws.{answers, placed, by_repeat, by_again, by_meet, by_owed, by_heard, by_accept, by_listen, keeps, own_stays}
use Rattle.runs.proofs.TakenLaws.{takes_by_row}

-- Sending that hears CS3
abbrev pub of_cs3 : First → Bool
of_cs3 (Cs n) = false
of_cs3 Cs3 = true
of_cs3 Rq = false
of_cs3 (Else x) = false

abbrev pub yielding : Place → First → Bool
yielding p f = at_sending (λ h. of_cs3 f) false p

-- the step enters Stand-by, or leaves it
abbrev pub crossed : Bool → Bool → Bool
crossed true q = not q
crossed false q = q

-- by whether the row takes, what was owed, the code, what is heard in the block, and the places before and after the step
abbrev pub owed_at : Bool → Owed → Code → Listening → Place → Heard → Place → Owed
owed_at t w c l p h q =
    if t then owed_then c w
    else if accepting p h && l.asked then owed_for l
    else if yielding p h.first || crossed (is_stand_by p) (is_stand_by q) then Owed.Nothing
    else w

abbrev pub owed_next : Station → Words → Place → Owed
owed_next s b q =
    owed_at (taking s.place (first_of b.0)) s.owed s.own.code (listened_all s.case s.plus b) s.place (heard_of s.own b) q

-- the same, with this for its first word
abbrev first_is : Heard → First → Heard
first_is h f = record { first = f; block = h.block; RQs = h.RQs; alphas = h.alphas; turned = h.turned; call = h.call; call3 = h.call3; told = h.told }

module _ (s : Station) (b : Words) (o : Offer) where
  Moved : Bool → Listening → Place → Heard → Reply → Type 0
  Moved t l p h r =
      (r.station.owed ≡ owed_at t s.owed s.own.code l p h r.station.place)
      × (crossed (is_stand_by p) (is_stand_by r.station.place) && (t || accepting p h && l.asked) ≡ false)
      × (t && (accepting p h && l.asked) ≡ false)

  -- a row that takes goes on with the answer; where nothing is owed, nothing is owed then
  GoesOn : Reply → Type 0
  GoesOn r = (r.station.owed ≡ owed_then s.own.code s.owed) × (is_stand_by r.station.place ≡ false)

  goes_on : (t : Station) → t.owed ≡ s.owed → t.own ≡ s.own → (n : Number) → GoesOn (takes t n o)
  unfolding GoesOn owed_then answer_of
  goes_on t i j n = by_owed GoesOn t n o (λ e. offer o (sym i ∙ e) e) (λ u. (rw (i, j), refl))
    where
      offer : (o : Offer) → s.owed ≡ Owed.Nothing → t.owed ≡ Owed.Nothing → GoesOn (takes_offer t n o)
      offer (Offer.Text w) e f = (rw (e, f), refl)
      offer Offer.Over e f = (rw (e, f), refl)
      offer Offer.End e f = (rw (e, f), refl)
      offer Offer.Nothing e f = (rw (e, f), refl)
      offer (Offer.Call x) e f = (rw (e, f), refl)
      offer (Offer.Call3 x) e f = (rw (e, f), refl)

  module _ (l : Listening) (is_heard : l ≡ listened_all s.case s.plus b) where
    abbrev Row : Place → Heard → Doing → Type 0
    Row p h d = Moved (is_taking d) l p h (done (placed s p) b o d)

    takes_on : (p : Place) (h : Heard) (q : Peer) (n : Number) → is_stand_by p ≡ false → accepting p h ≡ false → Moved true l p h (takes (knowing (placed s p) q) n o)
    unfolding Moved GoesOn
    takes_on p h q n i j = let g = goes_on (knowing (placed s p) q) refl refl n in (g.0, rw (i, g.1), rw j)

    repeats_on : (p : Place) (h : Heard) (w : Words) → is_stand_by p ≡ false → accepting p h ≡ false → yielding p h.first ≡ false → Moved false l p h (repeats (placed s p) w)
    unfolding Moved
    repeats_on p h w i j k = by_repeat (Moved false l p h) (placed s p) w (λ u. (rw (i, j, k), rw i, refl)) (λ u. (rw (i, j, k), rw i, refl))

    accept : (n : Number) (h : Heard) → h.block ≡ true → Moved false l (Receiving n) h (accepts_heard (placed s (Receiving n)) n b o l)
    unfolding Moved
    accept n h y = by_heard (Moved false l (Receiving n) h) (placed s (Receiving n)) n b o l (λ a. (rw (y, a), refl, refl)) (λ a. go (is_over o) l.over a)
      where
        go : (t u : Bool) → l.asked ≡ false → Moved false l (Receiving n) h (accepts_by (placed s (Receiving n)) n b t (record { case = l.case; plus = l.plus; over = u; asked = l.asked }))
        go true u a = (rw (y, a), refl, refl)
        go false true a = (rw (y, a), refl, refl)
        go false false a = (rw (y, a), refl, refl)

    by_place : (p : Place) (h : Heard) → Row p h (row_of s.own s.role p h)
    unfolding done Moved
    by_place (Sending x) h = go h.first
      where
        by_number : (n : Number) (t : Bool) → Row (Sending x) (first_is h (Cs n)) (if t then Repeats x.block else Takes (other x.number))
        by_number n true = repeats_on (Sending x) (first_is h (Cs n)) _ refl refl refl
        by_number n false = takes_on (Sending x) (first_is h (Cs n)) s.other _ refl refl

        go : (f : First) → Row (Sending x) (first_is h f) (row_of s.own s.role (Sending x) (first_is h f))
        go (Cs n) = by_number n (same n x.number)
        go Cs3 = (refl, refl, refl)
        go Rq = repeats_on (Sending x) (first_is h Rq) _ refl refl refl
        go (Else y) = repeats_on (Sending x) (first_is h (Else y)) _ refl refl refl
    by_place (Turning n) h =
        by_turning (Row (Turning n) h) s.role n h (refl, refl, refl) (repeats_on (Turning n) h _ refl refl refl) (repeats_on (Turning n) h _ refl refl refl)
    by_place Opening h =
        by_opening (Row Opening h) s.role h.first (λ n. takes_on Opening h s.other n refl refl) (refl, refl, refl) (repeats_on Opening h _ refl refl refl)
    by_place (Ending x) h = by_ending (Row (Ending x) h) x h.first (refl, refl, refl) (λ m. (refl, refl, refl))
    by_place (Receiving n) h =
        by_receiving (Row (Receiving n) h) n h (λ y. subst (λ (k : Listening). Moved false l (Receiving n) h (accepts_heard (placed s (Receiving n)) n b o k)) is_heard (accept n h y)) (λ y. (rw y, rw y, refl)) (λ y. repeats_on (Receiving n) h _ refl y refl)
    by_place Asking h = by_asking (Row Asking h) h (refl, refl, refl) (repeats_on Asking h _ refl refl refl)
    by_place (StandBy w) h =
        by_standing (Row (StandBy w) h) w h.call h.call3 (λ y. (refl, refl, refl)) (λ y z. (refl, refl, refl)) (λ y z. by_listen (Moved false l (StandBy w) h) (placed s (StandBy w)) _ o (λ x c z. (refl, refl, refl)) (λ x c z. (refl, refl, refl)) (refl, refl, refl))
    by_place Lost h = (refl, refl, refl)
    by_place (Calling c) h =
        by_calling (Row (Calling c) h) c h.first (λ n f m. takes_on (Calling c) h (Four c.to) n refl refl) (refl, refl, refl) (λ m. (refl, refl, refl))
    by_place (Calling3 c) h =
        by_calling3 (Row (Calling3 c) h) s.own.seven c h.first (λ e. (refl, refl, refl)) (λ e. (refl, refl, refl)) (refl, refl, refl) (λ m. (refl, refl, refl))
    by_place (Identifying i) h =
        by_identifying (Row (Identifying i) h) s.own.seven i h.first (λ e. by_again (Moved false l (Identifying i) h) (placed s (Identifying i)) (Identifying i) _ (λ u. (refl, refl, refl)) (λ u. (refl, refl, refl))) (λ e m. (refl, refl, refl)) (λ w e m n k. by_again (Moved false l (Identifying i) h) (placed s (Identifying i)) (Identifying (record { to = i.to; stage = i.stage; wrong = i.wrong + 1; last = w })) _ (λ u. (refl, refl, refl)) (λ u. (refl, refl, refl))) (λ w e m n. (refl, refl, refl)) (λ e m. (refl, refl, refl)) (λ e m. takes_on (Identifying i) h (Known i.to) One refl refl) (λ e m. (refl, refl, refl))
    by_place (Answering g) h =
        by_answering (Row (Answering g) h) s.own.seven g h (refl, refl, refl) (λ m. by_meet (Moved false l (Answering g) h) (knowing (placed s (Answering g)) (Known g.got)) (is_over o) (refl, refl, refl) (refl, refl, refl)) (λ m x w. (refl, refl, refl)) (λ x w. by_again (Moved false l (Answering g) h) (placed s (Answering g)) (Answering (record { stage = g.stage; got = x })) (single w) (λ u. (refl, refl, refl)) (λ u. (refl, refl, refl)))

module _ (s : Station) (b : Words) (o : Offer) (r : Reply) (e : stepping s b o ≡ answered r) where
  moves : Moved s b o (taking s.place (first_of b.0)) (listened_all s.case s.plus b) s.place (heard_of s.own b) r
  unfolding heard_of
  moves =
      rw ((answers s b o r e).is_done, takes_by_row s.own s.role s.place (heard_of s.own b)) (by_place s b o (listened_all s.case s.plus b) refl s.place (heard_of s.own b))

  pub owed_moves : r.station.owed ≡ owed_next s b r.station.place
  unfolding Moved
  owed_moves = moves.0

  -- a row that takes: the block behind the one taken, or nothing after the last
  pub owed_goes_on : taking s.place (first_of b.0) ≡ true → r.station.owed ≡ owed_then s.own.code s.owed
  owed_goes_on t = owed_moves ∙ rw t

  -- a block with D that is accepted
  pub owed_asked : accepting s.place (heard_of s.own b) && (listened_all s.case s.plus b).asked ≡ true → r.station.owed ≡ owed_for (listened_all s.case s.plus b)
  unfolding Moved
  owed_asked a = owed_moves ∙ rw (go (taking s.place (first_of b.0)) _ moves.2 a, a)
    where
      go : (t u : Bool) → t && u ≡ false → u ≡ true → t ≡ false
      go true u n a = absurd (true≢false (sym a ∙ n))
      go false u n a = refl

  -- CS3 at Sending
  pub owed_yielded : (h : Held) → s.place ≡ Sending h → of_cs3 (first_of b.0) ≡ true → r.station.owed ≡ Owed.Nothing
  unfolding heard_of
  owed_yielded h p t = owed_moves ∙ rw p (go (first_of b.0) (is_stand_by r.station.place) t)
    where
      go : (f : First) (c : Bool) → of_cs3 f ≡ true → (if of_cs (λ n. not (same n h.number)) f then owed_then s.own.code s.owed else if of_cs3 f || c then Owed.Nothing else s.owed) ≡ Owed.Nothing
      go (Cs n) c t = absurd (true≢false (sym t))
      go Cs3 c t = refl
      go Rq c t = absurd (true≢false (sym t))
      go (Else x) c t = absurd (true≢false (sym t))

  -- Stand-by entered, or left for a call
  pub owed_dropped : crossed (is_stand_by s.place) (is_stand_by r.station.place) ≡ true → r.station.owed ≡ Owed.Nothing
  unfolding Moved
  owed_dropped x = owed_moves ∙ go (taking s.place (first_of b.0)) (accepting s.place (heard_of s.own b) && (listened_all s.case s.plus b).asked) (yielding s.place (heard_of s.own b).first) _ moves.1 x
    where
      go : (t u y c : Bool) → c && (t || u) ≡ false → c ≡ true → (if t then owed_then s.own.code s.owed else if u then owed_for (listened_all s.case s.plus b) else if y || c then Owed.Nothing else s.owed) ≡ Owed.Nothing
      go t u y false n x = absurd (true≢false (sym x))
      go true u y true n x = absurd (true≢false n)
      go false true y true n x = absurd (true≢false n)
      go false false true true n x = refl
      go false false false true n x = refl

  -- every other step
  pub owed_stays : taking s.place (first_of b.0) ≡ false → accepting s.place (heard_of s.own b) && (listened_all s.case s.plus b).asked ≡ false → yielding s.place (first_of b.0) ≡ false → crossed (is_stand_by s.place) (is_stand_by r.station.place) ≡ false → r.station.owed ≡ s.owed
  unfolding heard_of
  owed_stays t a y c = owed_moves ∙ rw (t, a, y, c)

  -- what is so of nothing, of what was owed, of what is behind it and of what D makes owed is so of what is owed then
  pub by_owed_then : (P : Owed → Type 0) → P Owed.Nothing → P s.owed → P (owed_then s.own.code s.owed) → (accepting s.place (heard_of s.own b) && (listened_all s.case s.plus b).asked ≡ true → P (owed_for (listened_all s.case s.plus b))) → P r.station.owed
  by_owed_then P none same behind asked = rw owed_moves (go (taking s.place (first_of b.0)) (accepting s.place (heard_of s.own b) && (listened_all s.case s.plus b).asked) (yielding s.place (heard_of s.own b).first || crossed (is_stand_by s.place) (is_stand_by r.station.place)) asked)
    where
      go : (t u y : Bool) → (u ≡ true → P (owed_for (listened_all s.case s.plus b))) → P (if t then owed_then s.own.code s.owed else if u then owed_for (listened_all s.case s.plus b) else if y then Owed.Nothing else s.owed)
      go true u y a = behind
      go false true y a = a refl
      go false false true a = none
      go false false false a = same

  pub only_asked : s.owed ≡ Owed.Nothing → accepting s.place (heard_of s.own b) && (listened_all s.case s.plus b).asked ≡ false → r.station.owed ≡ Owed.Nothing
  unfolding owed_then answer_of
  only_asked n a = by_owed_then (λ w. w ≡ Owed.Nothing) refl n (rw n) (λ t. absurd (true≢false (sym t ∙ a)))

  pub exists_kept : owed_exists r.station.own.code r.station.owed ≡ true
  unfolding owed_exists
  exists_kept =
      rw (own_stays s b o r e) (by_owed_then (λ w. owed_exists s.own.code w ≡ true) refl (answers s b o r e).is_owed_lem (owed_then_exists s.own.code s.owed) (λ t. owed_for_exists s.own.code (listened_all s.case s.plus b)))

-- where a part of an answer may be owed: a station that owes nothing elsewhere never does
abbrev pub owing_at : Place → Bool
owing_at p = is_sending p || is_opening p || is_asking p || is_lost p

abbrev pub OwesThere : Station → Type 0
OwesThere s = owing_at s.place ≡ false → s.owed ≡ Owed.Nothing

module _ (s : Station) (b : Words) (o : Offer) (h : Heard) where
  There : Reply → Type 0
  There r = OwesThere r.station

  take : (t : Station) (n : Number) → There (takes t n o)
  unfolding There
  take t n = by_owed There t n o (λ e. offer o e) (λ u i. absurd (true≢false i))
    where
      offer : (o : Offer) → t.owed ≡ Owed.Nothing → There (takes_offer t n o)
      offer (Offer.Text w) e i = e
      offer Offer.Over e i = e
      offer Offer.End e i = e
      offer Offer.Nothing e i = e
      offer (Offer.Call x) e i = e
      offer (Offer.Call3 x) e i = e

  module _ (p : Place) (w : owing_at p ≡ false → s.owed ≡ Owed.Nothing) where
    repeat : (x : Words) → There (repeats (placed s p) x)
    unfolding There
    repeat x = by_repeat There (placed s p) x (λ u i. absurd (true≢false i)) (λ u i. w i)

    repeat_told : (q : Place) (x : Words) → owing_at p ≡ false → There (again (placed s p) q x)
    unfolding There
    repeat_told q x k = by_again There (placed s p) q x (λ u i. refl) (λ u i. w k)

  abbrev RowThere : Place → Doing → Type 0
  RowThere p d = There (done (placed s p) b o d)

  there_by_place : (p : Place) → (owing_at p ≡ false → s.owed ≡ Owed.Nothing) → RowThere p (row_of s.own s.role p h)
  unfolding done There
  there_by_place (Sending x) w =
      by_sending (RowThere (Sending x)) x h.first (λ c. repeat (Sending x) w _) (λ c. take (placed s (Sending x)) _) (λ c i. refl) (λ c. repeat (Sending x) w _)
  there_by_place (Turning n) w =
      by_turning (RowThere (Turning n)) s.role n h w (repeat (Turning n) w _) (repeat (Turning n) w _)
  there_by_place Opening w =
      by_opening (RowThere Opening) s.role h.first (λ n. take (placed s Opening) n) (λ i. refl) (repeat Opening w _)
  there_by_place (Ending x) w = by_ending (RowThere (Ending x)) x h.first (λ i. refl) (λ m. w)
  there_by_place (Receiving n) w =
      by_receiving (RowThere (Receiving n)) n h (λ y. by_accept There (placed s (Receiving n)) n b o (listened_all s.case s.plus b) (λ x u i. absurd (true≢false i)) w) (λ y i. refl) (λ y. repeat (Receiving n) w _)
  there_by_place Asking w = by_asking (RowThere Asking) h w (repeat Asking w _)
  there_by_place (StandBy x) w =
      by_standing (RowThere (StandBy x)) x h.call h.call3 (λ y i. refl) (λ y z i. refl) (λ y z. by_listen There (placed s (StandBy x)) _ o (λ x c z i. refl) (λ x c z i. refl) w)
  there_by_place Lost w = w
  there_by_place (Calling c) w =
      by_calling (RowThere (Calling c)) c h.first (λ n f m. take (knowing (placed s (Calling c)) (Four c.to)) n) (λ i. refl) (λ m. w)
  there_by_place (Calling3 c) w =
      by_calling3 (RowThere (Calling3 c)) s.own.seven c h.first (λ e. w) (λ e. w) (λ i. refl) (λ m. w)
  there_by_place (Identifying i) w =
      by_identifying (RowThere (Identifying i)) s.own.seven i h.first (λ e. repeat_told (Identifying i) w _ _ refl) (λ e m. w) (λ x e m n k. repeat_told (Identifying i) w _ _ refl) (λ x e m n. w) (λ e m i. refl) (λ e m. take (knowing (placed s (Identifying i)) (Known i.to)) One) (λ e m. w)
  there_by_place (Answering g) w =
      by_answering (RowThere (Answering g)) s.own.seven g h (λ i. refl) (λ m. by_meet There (knowing (placed s (Answering g)) (Known g.got)) (is_over o) (λ i. w refl) w) (λ m x y. w) (λ x y. repeat_told (Answering g) w _ _ refl)

pub owes_there_step : (s : Station) (b : Words) (o : Offer) (r : Reply) → stepping s b o ≡ answered r → OwesThere s → OwesThere r.station
unfolding There
owes_there_step s b o r e w = rw (answers s b o r e).is_done (there_by_place s b o (heard_of s.own b) s.place w)

pub owes_there_run : (s : Station) → OwesThere s → (run : Run) → OwesThere (after s run)
owes_there_run s w start = w
owes_there_run s w (run ▷ e) =
    keeps OwesThere (after s run) e (λ r p. owes_there_step (after s run) e.burst e.offer r p) (owes_there_run s w run)
