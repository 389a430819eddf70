-- No two of the eighteen kinds may be merged: some place tells them apart, by the rows of `mode_a`. With `heard_kind` the kinds, and beside
-- them what Stand-by, Identifying and Answering ask (02, T-02 and T-05), are the coarsest partition of all bursts that every row allows.
--     kinds_apart       every place does the same at two kinds, whatever stands beside them, exactly where they are one kind and what is
--                       asked beside it is the same
--     same_kind         the same of two bursts
--     told_kept         of a burst, all is asked of which identification block it is
--     each_kind_heard   there is a burst of each kind
-- Assumes nothing.
use mathlib.Core.Path.{◌≡◌, refl, ap, ap₂, sym, ◌∙◌}
use mathlib.Core.Bool.{Bool, true, false, ◌&&◌}
use mathlib.Core.Logic.{◌↔◌}
use Prim.Native.Nat.{ℕ}
use lib.Dec.{eqb, leb}
use borrow.Author.Tests.{eqb-true}
use Rattle.std.specs.Prelude.{if◌then◌else◌}
use Rattle.signals.specs.Meaning.{meaning_of, traffic_of, word_no, beta, rq, cs1, cs2, cs3, cs4, cs5}
use Rattle.identity.specs.declared.Seven.{Seven}
use Rattle.identity.specs.Table3.{is_identity}
use Rattle.identity.specs.Sums.{check_sum1}
use Rattle.mode_a.specs.declared.Role.{Role}
use Rattle.mode_a.specs.declared.Role.TheVariants.{Master, Slave}
use Rattle.mode_a.specs.declared.Number.{Number}
use Rattle.mode_a.specs.declared.Number.TheVariants.{One, Two}
use Rattle.mode_a.specs.declared.Words.{Words}
use Rattle.mode_a.specs.declared.Mark.{Mark}
use Rattle.mode_a.specs.declared.Part.{Part}
use Rattle.mode_a.specs.declared.Succession.{Succession}
use Rattle.mode_a.specs.declared.Stage.{Stage}
use Rattle.mode_a.specs.declared.Waiting.{Waiting}
use Rattle.mode_a.specs.declared.Called3.{Called3}
use Rattle.mode_a.specs.declared.Identified.{Identified}
use Rattle.mode_a.specs.declared.Gathered.{Gathered}
use Rattle.mode_a.specs.declared.Own.{Own}
use Rattle.mode_a.specs.declared.Place.{Place}
use Rattle.mode_a.specs.declared.Place.TheVariants.{Sending, Turning, Opening, Ending, Receiving, Asking, StandBy, Lost, Calling, Calling3, Identifying, Answering}
use Rattle.mode_a.specs.declared.Doing.{Doing}
use Rattle.mode_a.specs.declared.Doing.TheVariants.{Repeats, Goes, Takes, Receives, Opens, Accepts, Rests, Answers, Listens, Reaches, Answers3, Bars, Ends, Turns, Meets, Again, Yields}
use Rattle.mode_a.specs.Identification.{Told, nothing_told, block_1, block_2, block_3, told_in}
use Rattle.mode_a.specs.Station.{words, single, silence, βαβ, ααα, RQ×3, no_seven, other, asks_for}
use Rattle.mode_a.specs.Heard.{First, Cs, Further, Cs4, Cs5, Letter, Other, Heard, further_of, first_of, may_hold, is_block, is_words, heard_of}
use Rattle.mode_a.specs.Rows.{is_rq, turning_else, opening, stand_by, calling3, right_sum, wrong_sum, identifying, hearing, is_last, row_of}
use Rattle.table.specs.declared.Kind.{Kind}
use Rattle.table.specs.Kinds.{Beside, kind_of, beside_of, heard_k, asked, letter_in, block_kind, rest_kind}
use Rattle.table.specs.Actions.{row_no}
use Rattle.table.proofs.KindLaws.{by_kind, words_are, heard_kind}

-- What every place does, and what is heard, read back from it: Opening tells CS1, CS2 and CS3 first from the rest, Turning RQ (the slave's)
-- and three RQ (the master's), Calling with three blocks CS4 and CS5, Identifying a letter, and which; Receiving a block; Asking βαβ;
-- Stand-by the own call block; Answering ααα, and which identification block it is, the first at stage 1, and so on.
abbrev sign : Doing → ℕ
sign (Repeats w) = 0
sign (Goes p w) = 1
sign (Takes One) = 2
sign (Takes Two) = 3
sign (Receives n) = 4
sign Opens = 5
sign (Accepts n) = 6
sign (Rests n w) = 7
sign Answers = 8
sign (Listens w) = 9
sign (Reaches p n) = 10
sign Answers3 = 11
sign (Bars i) = 12
sign (Ends i) = 13
sign (Turns i) = 14
sign (Meets i) = 15
sign (Again p w) = 16
sign (Yields n) = 17

abbrev place_in : Doing → Place
place_in (Repeats w) = Lost
place_in (Goes p w) = p
place_in (Takes n) = Lost
place_in (Receives n) = Lost
place_in Opens = Lost
place_in (Accepts n) = Lost
place_in (Rests n w) = Lost
place_in Answers = Lost
place_in (Listens w) = StandBy w
place_in (Reaches p n) = Lost
place_in Answers3 = Lost
place_in (Bars i) = Lost
place_in (Ends i) = Lost
place_in (Turns i) = Lost
place_in (Meets i) = Lost
place_in (Again p w) = p
place_in (Yields n) = Lost

record Carried : Type 0 where
  waiting : Waiting
  identified : Identified
  gathered : Gathered

abbrev nothing : Carried
nothing =
    record {
      waiting = record { wait = 0; heard = Mark.None; heard3 = Succession.None };
      identified = record { to = no_seven; stage = Stage.One; wrong = 0; last = 0 };
      gathered = record { stage = Stage.One; got = no_seven };
    }

abbrev carried : Place → Carried
carried (Sending h) = nothing
carried (Turning n) = nothing
carried Opening = nothing
carried (Ending e) = nothing
carried (Receiving n) = nothing
carried Asking = nothing
carried (StandBy w) = record { waiting = w; identified = nothing.identified; gathered = nothing.gathered }
carried Lost = nothing
carried (Calling c) = nothing
carried (Calling3 c) = nothing
carried (Identifying i) = record { waiting = nothing.waiting; identified = i; gathered = nothing.gathered }
carried (Answering g) = record { waiting = nothing.waiting; identified = nothing.identified; gathered = g }

-- the first word
abbrev calls : Called3
calls = record { to = no_seven; sent = 0 }

abbrev letter_from : Doing → Further
letter_from d =
    if eqb (sign d) 1 then Letter (check_sum1 no_seven)
    else if leb 1 (carried (place_in d)).identified.wrong then Letter (carried (place_in d)).identified.last
    else Other

abbrev further_from : Doing → Doing → Further
further_from c i =
    if eqb (sign c) 13 then Cs5 else if eqb (row_no (place_in c)) 10 then Cs4 else letter_from i

abbrev first_from : Doing → Doing → Doing → Doing → First
first_from o t c i =
    if eqb (sign o) 2 then Cs One else if eqb (sign o) 3 then Cs Two else if eqb (sign o) 7 then First.Cs3
    else if eqb (sign t) 4 then First.Rq
    else First.Else (further_from c i)

module _ (y : Seven) where
  -- a letter is the check-sum expected, and then the next stage follows, or a wrong one, and then it is the last
  letter_back : (w : ℕ) (t : Bool) → eqb w (check_sum1 no_seven) ≡ t →
      letter_from (if t then right_sum y nothing.identified Stage.Two else wrong_sum y nothing.identified w) ≡ Letter w
  letter_back w true e = ap Letter (sym (eqb-true w (check_sum1 no_seven) e))
  letter_back w false e = refl

  first_back : (f : First) →
      first_from (opening Master f) (if is_rq f then Receives Two else turning_else f) (calling3 y calls f) (identifying y nothing.identified f) ≡ f
  first_back (Cs One) = refl
  first_back (Cs Two) = refl
  first_back First.Cs3 = refl
  first_back First.Rq = refl
  first_back (First.Else Cs4) = refl
  first_back (First.Else Cs5) = refl
  first_back (First.Else (Letter w)) = ap First.Else (letter_back w (eqb w (check_sum1 no_seven)) refl)
  first_back (First.Else Other) = refl

-- the three words together
block_back : (n : Number) (b a : Bool) → eqb (sign (if b then Accepts n else if a then Rests 0 (asks_for (other n)) else Repeats (asks_for n))) 6 ≡ b
block_back n true a = refl
block_back n false true = refl
block_back n false false = refl

rqs_back : (q : Bool) (f : First) → eqb (sign (if q then Receives Two else turning_else f)) 4 ≡ q
rqs_back true f = refl
rqs_back false (Cs n) = refl
rqs_back false First.Cs3 = refl
rqs_back false First.Rq = refl
rqs_back false (First.Else x) = refl

turned_back : (t : Bool) → eqb (sign (if t then Opens else Repeats (single cs3))) 5 ≡ t
turned_back true = refl
turned_back false = refl

-- the own call blocks: behind block 2 of the seven signals, each of the three leaves another succession
abbrev waits : Waiting
waits = record { wait = 0; heard = Mark.None; heard3 = Succession.Two }

abbrev part_from : Succession → Part
part_from Succession.None = Part.None
part_from Succession.One = Part.One
part_from Succession.OneTwo = Part.None
part_from Succession.Two = Part.Two
part_from Succession.TwoThree = Part.Three

abbrev waiting_from : Doing → Waiting
waiting_from d = (carried (place_in d)).waiting

calls_back : (m : Mark) (p : Part) → ((waiting_from (stand_by waits m p)).heard ≡ m) × (part_from (waiting_from (stand_by waits m p)).heard3 ≡ p)
calls_back m Part.None = (refl, refl)
calls_back m Part.One = (refl, refl)
calls_back m Part.Two = (refl, refl)
calls_back m Part.Three = (refl, refl)

-- ααα, and the identification blocks, each at its stage
abbrev awaits : Stage → Gathered
awaits s = record { stage = s; got = no_seven }

abbrev got_from : Doing → Seven
got_from d = (carried (place_in d)).gathered.got

abbrev told_from : Doing → Doing → Doing → Told
told_from a b c =
    if eqb (sign a) 1 then block_1 (got_from a).0 (got_from a).1
    else if eqb (sign b) 1 then block_2 (got_from b).2 (got_from b).3
    else if eqb (sign c) 1 then block_3 (got_from c).4 (got_from c).5 (got_from c).6
    else nothing_told

module _ (y : Seven) where
  abbrev answers : Bool → Bool → Told → Stage → Doing
  answers a q t s =
      if a then Rests 0 (single cs1) else if q && is_last s then Meets no_seven else hearing y no_seven s t

  answers_back : (a q : Bool) (t : Told) →
      (eqb (sign (answers a q t Stage.One)) 7 ≡ a) × (told_from (answers a q t Stage.One) (answers a q t Stage.Two) (answers a q t Stage.Three) ≡ (if a then nothing_told else t))
  answers_back true q t = (refl, refl)
  answers_back false true nothing_told = (refl, refl)
  answers_back false true (block_1 v w) = (refl, refl)
  answers_back false true (block_2 v w) = (refl, refl)
  answers_back false true (block_3 v w x) = (refl, refl)
  answers_back false false nothing_told = (refl, refl)
  answers_back false false (block_1 v w) = (refl, refl)
  answers_back false false (block_2 v w) = (refl, refl)
  answers_back false false (block_3 v w x) = (refl, refl)

-- what is heard, but the identification block at ααα
abbrev seen : Heard → Heard
seen h =
    record {
      first = h.first;
      block = h.block;
      RQs = h.RQs;
      alphas = h.alphas;
      turned = h.turned;
      call = h.call;
      call3 = h.call3;
      told = if h.alphas then nothing_told else h.told;
    }

abbrev heard_from : (Role → Place → Doing) → Heard
heard_from row =
    record {
      first = first_from (row Master Opening) (row Slave (Turning One)) (row Master (Calling3 calls)) (row Master (Identifying nothing.identified));
      block = eqb (sign (row Master (Receiving One))) 6;
      RQs = eqb (sign (row Master (Turning One))) 4;
      alphas = eqb (sign (row Master (Answering (awaits Stage.One)))) 7;
      turned = eqb (sign (row Master Asking)) 5;
      call = (waiting_from (row Master (StandBy waits))).heard;
      call3 = part_from (waiting_from (row Master (StandBy waits))).heard3;
      told = told_from (row Master (Answering (awaits Stage.One))) (row Master (Answering (awaits Stage.Two))) (row Master (Answering (awaits Stage.Three)));
    }

heard_back : (own : Own) (h : Heard) → heard_from (λ r p. row_of own r p h) ≡ seen h
heard_back own h =
    let f = first_back own.seven h.first in
    let b = block_back One h.block h.alphas in
    let q = rqs_back h.RQs h.first in
    let t = turned_back h.turned in
    let c = calls_back h.call h.call3 in
    let a = answers_back own.seven h.alphas h.RQs h.told in
    λ i. record { first = f i; block = b i; RQs = q i; alphas = a.0 i; turned = t i; call = c.0 i; call3 = c.1 i; told = a.1 i }

-- so the kind is read back, and what is asked beside it
abbrev kind_in : Heard → Kind
kind_in h =
    if h.block then block_kind h.first
    else if h.RQs then Kind.Rqs
    else if h.alphas then Kind.Alphas
    else if h.turned then Kind.Turn
    else rest_kind h.first

abbrev asked_in : Heard → Beside
asked_in h = record { call = h.call; call3 = h.call3; letter = letter_in h.first; told = h.told }

kind_back : (s : Beside) (k : Kind) → kind_in (seen (heard_k s k)) ≡ k
kind_back s =
    by_kind (λ k. kind_in (seen (heard_k s k)) ≡ k)
    refl refl refl refl refl refl refl refl refl refl refl refl refl refl refl refl refl refl

asked_back : (s : Beside) (k : Kind) → asked_in (seen (heard_k s k)) ≡ asked k s
asked_back s =
    by_kind (λ k. asked_in (seen (heard_k s k)) ≡ asked k s)
    refl refl refl refl refl refl refl refl refl refl refl refl refl refl refl refl refl refl

-- and no place asks more
module _ (own : Own) (s : Beside) where
  at_alphas : (r : Role) (p : Place) → row_of own r p (heard_k s Kind.Alphas) ≡ row_of own r p (heard_k (asked Kind.Alphas s) Kind.Alphas)
  at_alphas r (Sending h) = refl
  at_alphas Master (Turning n) = refl
  at_alphas Slave (Turning n) = refl
  at_alphas r Opening = refl
  at_alphas r (Ending e) = refl
  at_alphas r (Receiving n) = refl
  at_alphas r Asking = refl
  at_alphas r (StandBy w) = refl
  at_alphas r Lost = refl
  at_alphas r (Calling c) = refl
  at_alphas r (Calling3 c) = refl
  at_alphas r (Identifying i) = refl
  at_alphas r (Answering g) = refl

  no_more : (r : Role) (p : Place) (k : Kind) → row_of own r p (heard_k s k) ≡ row_of own r p (heard_k (asked k s) k)
  no_more r p =
      by_kind (λ k. row_of own r p (heard_k s k) ≡ row_of own r p (heard_k (asked k s) k))
      refl refl refl refl refl refl refl refl refl refl refl refl refl refl refl refl (at_alphas r p) refl

pub kinds_apart : (own : Own) (s s' : Beside) (k k' : Kind) →
    ((r : Role) (p : Place) → row_of own r p (heard_k s k) ≡ row_of own r p (heard_k s' k')) ↔ ((k ≡ k') × (asked k s ≡ asked k' s'))
kinds_apart own s s' k k' = (
  (λ e.
      let h : seen (heard_k s k) ≡ seen (heard_k s' k') = sym (heard_back own (heard_k s k)) ∙ ap heard_from (λ i r p. e r p i) ∙ heard_back own (heard_k s' k') in
      (sym (kind_back s k) ∙ ap kind_in h ∙ kind_back s' k', sym (asked_back s k) ∙ ap asked_in h ∙ asked_back s' k')),
  (λ e r p. no_more own s r p k ∙ ap (row_of own r p) (ap₂ heard_k e.1 e.0) ∙ sym (no_more own s' r p k')),
)

pub same_kind : (own : Own) (b b' : Words) →
    ((r : Role) (p : Place) → row_of own r p (heard_of own b) ≡ row_of own r p (heard_of own b'))
    ↔ ((kind_of b ≡ kind_of b') × (asked (kind_of b) (beside_of own b) ≡ asked (kind_of b') (beside_of own b')))
same_kind own b b' = rw (heard_kind own b, heard_kind own b') (kinds_apart own (beside_of own b) (beside_of own b') (kind_of b) (kind_of b'))

-- ααα is no identification block, so nothing of it is lost there
pub told_kept : (own : Own) (b : Words) → (asked (kind_of b) (beside_of own b)).told ≡ told_in b
unfolding beside_of heard_of told_in is_identity
told_kept own b = rw (← ap (λ (h : Heard). h.alphas) (heard_kind own b)) (go (is_words b ααα) refl)
  where
    go : (t : Bool) → is_words b ααα ≡ t → (if t then nothing_told else told_in b) ≡ told_in b
    go true e = rw (words_are b ααα e)
    go false e = refl

-- a burst of each kind; A is a letter of table 3a
abbrev pub burst_of : Kind → Words
burst_of Kind.Cs1Block = words cs1 beta beta
burst_of Kind.Cs1 = single cs1
burst_of Kind.Cs2Block = words cs2 beta beta
burst_of Kind.Cs2 = single cs2
burst_of Kind.Cs3Block = words cs3 beta beta
burst_of Kind.Cs3 = single cs3
burst_of Kind.Cs4Block = words cs4 beta beta
burst_of Kind.Cs4 = single cs4
burst_of Kind.Cs5Block = words cs5 beta beta
burst_of Kind.Cs5 = single cs5
burst_of Kind.LetterBlock = words (word_no 1) beta beta
burst_of Kind.Letter = single (word_no 1)
burst_of Kind.Rqs = RQ×3
burst_of Kind.Rq = single rq
burst_of Kind.Block = words beta beta beta
burst_of Kind.Turn = βαβ
burst_of Kind.Alphas = ααα
burst_of Kind.Else = silence

pub each_kind_heard : (k : Kind) → kind_of (burst_of k) ≡ k
unfolding kind_of is_block may_hold traffic_of meaning_of is_words first_of further_of is_identity
each_kind_heard =
    by_kind (λ k. kind_of (burst_of k) ≡ k)
    refl refl refl refl refl refl refl refl refl refl refl refl refl refl refl refl refl refl
