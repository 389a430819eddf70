-- What each row may do: what is so of each of these is so of the row, whatever is heard. With it comes what the row then has heard, as far
-- as a law asks for it: whether it confirms, whether it accepts, whether a check-sum is wrong, whether ααα has been sent four times.
-- Assumes nothing.
use mathlib.Core.Path.{◌≡◌, refl}
use mathlib.Core.Bool.{Bool, true, false, not, ◌&&◌}
use Prim.Native.Nat.{ℕ, ◌+◌}
use lib.Dec.{eqb, leb}
use Rattle.std.specs.Prelude.{if◌then◌else◌}
use Rattle.signals.specs.Meaning.{cs1, cs3}
use Rattle.identity.specs.declared.Seven.{Seven}
use Rattle.identity.specs.Sums.{check_sum1, check_sum2, check_sum3}
use Rattle.mode_a.specs.declared.Role.{Role}
use Rattle.mode_a.specs.declared.Number.{Number}
use Rattle.mode_a.specs.declared.Held.{Held}
use Rattle.mode_a.specs.declared.Ended.{Ended}
use Rattle.mode_a.specs.declared.Mark.{Mark}
use Rattle.mode_a.specs.declared.Part.{Part}
use Rattle.mode_a.specs.declared.Stage.{Stage}
use Rattle.mode_a.specs.declared.Waiting.{Waiting}
use Rattle.mode_a.specs.declared.Called.{Called}
use Rattle.mode_a.specs.declared.Called3.{Called3}
use Rattle.mode_a.specs.declared.Identified.{Identified}
use Rattle.mode_a.specs.declared.Gathered.{Gathered}
use Rattle.mode_a.specs.declared.Peer.TheVariants.{Four, Known}
use Rattle.mode_a.specs.declared.Number.TheVariants.{One, Two}
use Rattle.mode_a.specs.declared.Place.TheVariants.{Ending, Calling, Calling3, Identifying, Answering}
use Rattle.mode_a.specs.declared.Doing.{Doing}
use Rattle.mode_a.specs.declared.Doing.TheVariants.{Repeats, Goes, Takes, Receives, Opens, Accepts, Rests, Answers, Listens, Reaches, Answers3, Bars, Ends, Turns, Meets, Again, Yields}
use Rattle.mode_a.specs.Calls.{next_block, next_block3}
use Rattle.mode_a.specs.Identification.{Told, nothing_told, block_1, block_2, block_3, identity_block}
use Rattle.mode_a.specs.Station.{single, silence, βαβ, ααα, RQ×3, other, same, asks_for, mark_of, marks}
use Rattle.mode_a.specs.Heard.{First, Cs, Cs3, Rq, Else, Cs4, Cs5, Letter, Other, Heard}
use Rattle.mode_a.specs.Rows.{sending, requests, turn_completed, turning_else, turning, opening, ending, receiving, asking, both_heard, all_heard, heard_then, stand_by, calls_on, calling, calls_on3, calling3, same_block, right_sum, comparing, finishing, at_stage, identifying, hearing, is_last, answering}
use Rattle.runs.specs.Runs.{confirming, next_stage, another_letter, wrong_at}

-- what Calling keeps of a first word
abbrev pub mark_in : First → Mark
mark_in (Cs n) = mark_of n
mark_in Cs3 = Mark.None
mark_in Rq = Mark.None
mark_in (Else x) = Mark.None

module _ (P : Doing → Type 0) where
  by_test : (t : Bool) {d d' : Doing} → P d → P d' → P (if t then d else d')
  by_test true p q = p
  by_test false p q = q

  pub by_sending : (x : Held) (f : First) → (confirming x f ≡ false → P (Repeats x.block)) → (confirming x f ≡ true → P (Takes (other x.number))) → (confirming x f ≡ true → P (Yields x.number)) → (confirming x f ≡ false → P (Repeats RQ×3)) → P (sending x f)
  by_sending x (Cs n) own next turn ask = go (same n x.number) own next
    where
      go : (t : Bool) → (not t ≡ false → P (Repeats x.block)) → (not t ≡ true → P (Takes (other x.number))) → P (if t then Repeats x.block else Takes (other x.number))
      go true own next = own refl
      go false own next = next refl
  by_sending x Cs3 own next turn ask = turn refl
  by_sending x Rq own next turn ask = ask refl
  by_sending x (Else y) own next turn ask = ask refl

  pub by_turning : (r : Role) (n : Number) (h : Heard) → P (Receives (other n)) → P (Repeats βαβ) → P (Repeats RQ×3) → P (turning r n h)
  by_turning r n h completed again ask = by_test (turn_completed r h) completed (go h.first)
    where
      go : (f : First) → P (turning_else f)
      go (Cs m) = ask
      go Cs3 = again
      go Rq = ask
      go (Else x) = ask

  pub by_opening : (r : Role) (f : First) → ((n : Number) → P (Takes n)) → P (Rests 0 silence) → P (Repeats (requests r)) → P (opening r f)
  by_opening r (Cs n) take give ask = take n
  by_opening r Cs3 take give ask = give
  by_opening r Rq take give ask = ask
  by_opening r (Else x) take give ask = ask

  pub by_ending : (x : Ended) (f : First) → P (Rests 0 silence) → (leb 4 x.total ≡ false → P (Goes (Ending (record { number = x.number; total = x.total + 1 })) ααα)) → P (ending x f)
  by_ending x f give more = go f
    where
      again : (t : Bool) → leb 4 x.total ≡ t → P (if t then Rests 0 silence else Goes (Ending (record { number = x.number; total = x.total + 1 })) ααα)
      again true e = give
      again false e = more e

      go : (f : First) → P (ending x f)
      go (Cs n) = by_test (same n x.number) (again (leb 4 x.total) refl) give
      go Cs3 = again (leb 4 x.total) refl
      go Rq = again (leb 4 x.total) refl
      go (Else y) = again (leb 4 x.total) refl

  pub by_receiving : (n : Number) (h : Heard) → (h.block ≡ true → P (Accepts n)) → (h.block ≡ false → P (Rests 0 (asks_for (other n)))) → (h.block ≡ false → P (Repeats (asks_for n))) → P (receiving n h)
  by_receiving n h = go h.block
    where
      go : (t : Bool) → (t ≡ true → P (Accepts n)) → (t ≡ false → P (Rests 0 (asks_for (other n)))) → (t ≡ false → P (Repeats (asks_for n))) → P (if t then Accepts n else if h.alphas then Rests 0 (asks_for (other n)) else Repeats (asks_for n))
      go true accept end ask = accept refl
      go false accept end ask = by_test h.alphas (end refl) (ask refl)

  pub by_asking : (h : Heard) → P Opens → P (Repeats (single cs3)) → P (asking h)
  by_asking h turned ask = by_test h.turned turned ask

  pub by_standing : (w : Waiting) (m : Mark) (p : Part) → (both_heard w.heard m ≡ true → P Answers) → (both_heard w.heard m ≡ false → all_heard w.heard3 p ≡ true → P Answers3) → (both_heard w.heard m ≡ false → all_heard w.heard3 p ≡ false → P (Listens (record { wait = w.wait; heard = m; heard3 = heard_then w.heard3 p }))) → P (stand_by w m p)
  by_standing w m p = go (both_heard w.heard m) (all_heard w.heard3 p)
    where
      on : Doing
      on = Listens (record { wait = w.wait; heard = m; heard3 = heard_then w.heard3 p })

      go : (t u : Bool) → (t ≡ true → P Answers) → (t ≡ false → u ≡ true → P Answers3) → (t ≡ false → u ≡ false → P on) → P (if t then Answers else if u then Answers3 else on)
      go true u answer answer3 listen = answer refl
      go false true answer answer3 listen = answer3 refl refl
      go false false answer answer3 listen = listen refl refl

  pub by_calling : (c : Called) (f : First) → ((n : Number) → f ≡ Cs n → marks c.last n ≡ true → P (Reaches (Four c.to) n)) → P (Rests 128 silence) → (leb 128 c.sent ≡ false → P (Goes (Calling (record { to = c.to; sent = c.sent + 1; last = mark_in f })) (next_block c.to c.sent))) → P (calling c f)
  by_calling c f reach stop on = go f reach on
    where
      more : (m : Mark) (t : Bool) → leb 128 c.sent ≡ t → (leb 128 c.sent ≡ false → P (Goes (Calling (record { to = c.to; sent = c.sent + 1; last = m })) (next_block c.to c.sent))) → P (if t then Rests 128 silence else Goes (Calling (record { to = c.to; sent = c.sent + 1; last = m })) (next_block c.to c.sent))
      more m true e on = stop
      more m false e on = on e

      go : (g : First) → ((n : Number) → g ≡ Cs n → marks c.last n ≡ true → P (Reaches (Four c.to) n)) → (leb 128 c.sent ≡ false → P (Goes (Calling (record { to = c.to; sent = c.sent + 1; last = mark_in g })) (next_block c.to c.sent))) → P (calling c g)
      go (Cs n) reach on = same_twice (marks c.last n) refl
        where
          same_twice : (t : Bool) → marks c.last n ≡ t → P (if t then Reaches (Four c.to) n else calls_on c (mark_of n))
          same_twice true e = reach n refl e
          same_twice false e = more (mark_of n) (leb 128 c.sent) refl on
      go Cs3 reach on = stop
      go Rq reach on = more Mark.None (leb 128 c.sent) refl on
      go (Else x) reach on = more Mark.None (leb 128 c.sent) refl on

  pub by_calling3 : (y : Seven) (c : Called3) (f : First) → (f ≡ Else Cs4 → P (Goes (Identifying (record { to = c.to; stage = Stage.One; wrong = 0; last = 0 })) (identity_block y Stage.One))) → (f ≡ Else Cs5 → P (Ends c.to)) → P (Bars c.to) → (leb 128 c.sent ≡ false → P (Goes (Calling3 (record { to = c.to; sent = c.sent + 1 })) (next_block3 c.to c.sent))) → P (calling3 y c f)
  by_calling3 y c f four five stop on = go f four five
    where
      more : (t : Bool) → leb 128 c.sent ≡ t → P (if t then Bars c.to else Goes (Calling3 (record { to = c.to; sent = c.sent + 1 })) (next_block3 c.to c.sent))
      more true e = stop
      more false e = on e

      calls : P (calls_on3 c)
      calls = more (leb 128 c.sent) refl

      go : (g : First) → (g ≡ Else Cs4 → P (Goes (Identifying (record { to = c.to; stage = Stage.One; wrong = 0; last = 0 })) (identity_block y Stage.One))) → (g ≡ Else Cs5 → P (Ends c.to)) → P (calling3 y c g)
      go (Cs n) four five = calls
      go Cs3 four five = stop
      go Rq four five = calls
      go (Else Cs4) four five = four refl
      go (Else Cs5) four five = five refl
      go (Else (Letter w)) four five = calls
      go (Else Other) four five = calls

  -- a check-sum is compared: the block again, the next one, the block again for a wrong check-sum, the end procedure, Stand-by
  pub by_comparing : (y : Seven) (i : Identified) (e : ℕ) (s : Stage) (f : First) → (another_letter e f ≡ false → P (same_block y i)) → (another_letter e f ≡ false → P (right_sum y i s)) → ((w : ℕ) → f ≡ Else (Letter w) → another_letter e f ≡ true → leb 1 i.wrong && eqb w i.last ≡ false → leb 4 i.wrong ≡ false → P (Again (Identifying (record { to = i.to; stage = i.stage; wrong = i.wrong + 1; last = w })) (identity_block y i.stage))) → ((w : ℕ) → f ≡ Else (Letter w) → another_letter e f ≡ true → leb 1 i.wrong && eqb w i.last ≡ true → P (Goes (Ending (record { number = Two; total = 1 })) ααα)) → (another_letter e f ≡ true → leb 4 i.wrong ≡ true → P (Rests 0 silence)) → P (comparing y i e s f)
  by_comparing y i e s (Cs n) again right wrong end stop = again refl
  by_comparing y i e s Cs3 again right wrong end stop = again refl
  by_comparing y i e s Rq again right wrong end stop = again refl
  by_comparing y i e s (Else Cs4) again right wrong end stop = again refl
  by_comparing y i e s (Else Cs5) again right wrong end stop = again refl
  by_comparing y i e s (Else Other) again right wrong end stop = again refl
  by_comparing y i e s (Else (Letter w)) again right wrong end stop =
      go (eqb w e) (leb 1 i.wrong && eqb w i.last) (leb 4 i.wrong) right (wrong w refl) (end w refl) stop
    where
      go : (t u v : Bool) → (not t ≡ false → P (right_sum y i s)) → (not t ≡ true → u ≡ false → v ≡ false → P (Again (Identifying (record { to = i.to; stage = i.stage; wrong = i.wrong + 1; last = w })) (identity_block y i.stage))) → (not t ≡ true → u ≡ true → P (Goes (Ending (record { number = Two; total = 1 })) ααα)) → (not t ≡ true → v ≡ true → P (Rests 0 silence)) → P (if t then right_sum y i s else if u then Goes (Ending (record { number = Two; total = 1 })) ααα else if v then Rests 0 silence else Again (Identifying (record { to = i.to; stage = i.stage; wrong = i.wrong + 1; last = w })) (identity_block y i.stage))
      go true u v right wrong end stop = right refl
      go false true v right wrong end stop = end refl refl
      go false false true right wrong end stop = stop refl refl
      go false false false right wrong end stop = wrong refl refl refl

  -- and the fourth block: again, traffic by the offer, the turn
  by_finishing : (y : Seven) (i : Identified) (f : First) → P (same_block y i) → (f ≡ Cs One → P (Reaches (Known i.to) One)) → (f ≡ Cs3 → P (Turns i.to)) → P (finishing y i f)
  by_finishing y i (Cs One) again reach turn = reach refl
  by_finishing y i (Cs Two) again reach turn = again
  by_finishing y i Cs3 again reach turn = turn refl
  by_finishing y i Rq again reach turn = again
  by_finishing y i (Else x) again reach turn = again

  pub by_identifying : (y : Seven) (i : Identified) (f : First) → (wrong_at i.stage i.to f ≡ false → P (same_block y i)) → (wrong_at i.stage i.to f ≡ false → is_last i.stage ≡ false → P (right_sum y i (next_stage i.stage))) → ((w : ℕ) → f ≡ Else (Letter w) → wrong_at i.stage i.to f ≡ true → leb 1 i.wrong && eqb w i.last ≡ false → leb 4 i.wrong ≡ false → P (Again (Identifying (record { to = i.to; stage = i.stage; wrong = i.wrong + 1; last = w })) (identity_block y i.stage))) → ((w : ℕ) → f ≡ Else (Letter w) → wrong_at i.stage i.to f ≡ true → leb 1 i.wrong && eqb w i.last ≡ true → P (Goes (Ending (record { number = Two; total = 1 })) ααα)) → (wrong_at i.stage i.to f ≡ true → leb 4 i.wrong ≡ true → P (Rests 0 silence)) → (f ≡ Cs One → is_last i.stage ≡ true → P (Reaches (Known i.to) One)) → (f ≡ Cs3 → is_last i.stage ≡ true → P (Turns i.to)) → P (identifying y i f)
  by_identifying y i f = go i.stage
    where
      go : (s : Stage) → (wrong_at s i.to f ≡ false → P (same_block y i)) → (wrong_at s i.to f ≡ false → is_last s ≡ false → P (right_sum y i (next_stage s))) → ((w : ℕ) → f ≡ Else (Letter w) → wrong_at s i.to f ≡ true → leb 1 i.wrong && eqb w i.last ≡ false → leb 4 i.wrong ≡ false → P (Again (Identifying (record { to = i.to; stage = i.stage; wrong = i.wrong + 1; last = w })) (identity_block y i.stage))) → ((w : ℕ) → f ≡ Else (Letter w) → wrong_at s i.to f ≡ true → leb 1 i.wrong && eqb w i.last ≡ true → P (Goes (Ending (record { number = Two; total = 1 })) ααα)) → (wrong_at s i.to f ≡ true → leb 4 i.wrong ≡ true → P (Rests 0 silence)) → (f ≡ Cs One → is_last s ≡ true → P (Reaches (Known i.to) One)) → (f ≡ Cs3 → is_last s ≡ true → P (Turns i.to)) → P (at_stage y i f s)
      go Stage.One again right wrong end stop reach turn = by_comparing y i (check_sum1 i.to) Stage.Two f again (λ e. right e refl) wrong end stop
      go Stage.Two again right wrong end stop reach turn = by_comparing y i (check_sum2 i.to) Stage.Three f again (λ e. right e refl) wrong end stop
      go Stage.Three again right wrong end stop reach turn = by_comparing y i (check_sum3 i.to) Stage.Four f again (λ e. right e refl) wrong end stop
      go Stage.Four again right wrong end stop reach turn = by_finishing y i f (again refl) (λ e. reach e refl) (λ e. turn e refl)

  -- what is gathered and what is sent are left open: the next stage, or the same again
  by_hearing : (y g : Seven) (s : Stage) (t : Told) → (is_last s ≡ false → (g' : Seven) (w : ℕ) → P (Goes (Answering (record { stage = next_stage s; got = g' })) (single w))) → ((g' : Seven) (w : ℕ) → P (Again (Answering (record { stage = s; got = g' })) (single w))) → P (hearing y g s t)
  by_hearing y g Stage.One nothing_told on again = again _ _
  by_hearing y g Stage.One (block_1 a b) on again = on refl _ _
  by_hearing y g Stage.One (block_2 a b) on again = again _ _
  by_hearing y g Stage.One (block_3 a b c) on again = again _ _
  by_hearing y g Stage.Two nothing_told on again = again _ _
  by_hearing y g Stage.Two (block_1 a b) on again = again _ _
  by_hearing y g Stage.Two (block_2 a b) on again = on refl _ _
  by_hearing y g Stage.Two (block_3 a b c) on again = again _ _
  by_hearing y g Stage.Three nothing_told on again = again _ _
  by_hearing y g Stage.Three (block_1 a b) on again = again _ _
  by_hearing y g Stage.Three (block_2 a b) on again = again _ _
  by_hearing y g Stage.Three (block_3 a b c) on again = on refl _ _
  by_hearing y g Stage.Four nothing_told on again = again _ _
  by_hearing y g Stage.Four (block_1 a b) on again = again _ _
  by_hearing y g Stage.Four (block_2 a b) on again = again _ _
  by_hearing y g Stage.Four (block_3 a b c) on again = again _ _

  pub by_answering : (y : Seven) (g : Gathered) (h : Heard) → P (Rests 0 (single cs1)) → (is_last g.stage ≡ true → P (Meets g.got)) → (is_last g.stage ≡ false → (g' : Seven) (w : ℕ) → P (Goes (Answering (record { stage = next_stage g.stage; got = g' })) (single w))) → ((g' : Seven) (w : ℕ) → P (Again (Answering (record { stage = g.stage; got = g' })) (single w))) → P (answering y g h)
  by_answering y g h end meet on again =
      by_test h.alphas end (go h.RQs (is_last g.stage) refl)
    where
      rest : P (hearing y g.got g.stage h.told)
      rest = by_hearing y g.got g.stage h.told on again

      go : (q l : Bool) → is_last g.stage ≡ l → P (if q && l then Meets g.got else hearing y g.got g.stage h.told)
      go true true e = meet e
      go true false e = rest
      go false l e = rest
