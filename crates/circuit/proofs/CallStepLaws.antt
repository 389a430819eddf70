-- A step in a call, or in identification, leads from link to link: a row at a time.
--     call_idle      a station that is Lost leaves the link as it was
--     call_acts      every link of a call
--     call_places    neither is at Sending, nor the one that hears at Opening
-- Assumes nothing.
use mathlib.Core.Path.{◌≡◌, refl, ap, sym, subst, ◌∙◌}
use mathlib.Core.Bool.{Bool, true, false, ◌&&◌, and-false, true≢false}
use mathlib.Core.Logic.{◌⊎◌, inl, inr}
use mathlib.Core.List.{[]}
use Prim.Native.Nat.{ℕ, ◌+◌, ◌%◌}
use lib.Dec.{eqb, leb}
use borrow.Author.Tests.{ne_eqb}
use Rattle.std.specs.Prelude.{if◌then◌else◌}
use Rattle.signals.specs.Meaning.{meaning_of, traffic_of, word_no, alpha, rq, cs3, cs4}
use Rattle.identity.specs.declared.Seven.{Seven}
use Rattle.identity.specs.Table3.{is_identity}
use Rattle.identity.specs.Sums.{is_callable7, same_seven, check_sum}
use Rattle.identity.proofs.SumLaws.{check_sum_letter}
use Rattle.mode_a.specs.declared.Number.{Number}
use Rattle.mode_a.specs.declared.Number.TheVariants.{One, Two}
use Rattle.mode_a.specs.declared.Own.{Own}
use Rattle.mode_a.specs.declared.Words.{Words}
use Rattle.mode_a.specs.declared.Ended.{Ended}
use Rattle.mode_a.specs.declared.Mark.{Mark}
use Rattle.mode_a.specs.declared.Part.{Part}
use Rattle.mode_a.specs.declared.Succession.{Succession}
use Rattle.mode_a.specs.declared.Stage.{Stage}
use Rattle.mode_a.specs.declared.Identity.{Identity}
use Rattle.mode_a.specs.declared.Called.{Called}
use Rattle.mode_a.specs.declared.Called3.{Called3}
use Rattle.mode_a.specs.declared.Identified.{Identified}
use Rattle.mode_a.specs.declared.Gathered.{Gathered}
use Rattle.mode_a.specs.declared.Peer.TheVariants.{Four, Known}
use Rattle.mode_a.specs.declared.Place.{Place}
use Rattle.mode_a.specs.declared.Place.TheVariants.{Ending, Receiving, Asking, Calling, Calling3, Identifying, Answering}
use Rattle.mode_a.specs.declared.Offer.{Offer}
use Rattle.mode_a.specs.declared.Station.{Station}
use Rattle.mode_a.specs.declared.Doing.{Doing}
use Rattle.mode_a.specs.declared.Doing.TheVariants.{Goes, Rests, Reaches, Bars, Meets, Again}
use Rattle.mode_a.specs.declared.Reply.{Reply}
use Rattle.mode_a.specs.Calls.{is_callable, call_block1, call_block2, call3_block1, call3_block2, call3_block3, next_block, next_block3}
use Rattle.mode_a.specs.Identification.{Told, nothing_told, block_1, block_2, block_3, told_in, identity_block, with_1, with_2, with_3}
use Rattle.mode_a.specs.Station.{words, single, silence, βαβ, ααα, RQ×3, same, mark_of, marks, resting}
use Rattle.mode_a.specs.Heard.{First, Cs, Cs3, Rq, Else, Other, first_of, may_hold, is_block, is_words, call_of, call3_of, heard_of}
use Rattle.mode_a.specs.Rows.{both_heard, all_heard, heard_then, calls_on, calling, calling3, at_stage, identifying, same_block, hearing, is_last, answering, row_of}
use Rattle.mode_a.specs.Step.{knowing, is_over, done}
use Rattle.runs.specs.Places.{is_sending, is_opening, is_stand_by}
use Rattle.runs.specs.Runs.{of_cs}
use Rattle.runs.proofs.LetterLaws.{lettered_at, letters_of}
use Rattle.runs.proofs.RowLaws.{by_calling3, by_identifying}
use Rattle.runs.proofs.StepLaws.{placed, by_meet}
use Rattle.mode_a.proofs.HeardLaws.{Says, first_says}
use Rattle.circuit.proofs.DamageLaws.{words_are, Mangled, whole_words, no_block, no_words, FirstIs, said, unsaid, four_letters, whole_call, whole_call3, whole_told}
use Rattle.circuit.proofs.Link.{none, says_on, Calls, c1_any, c1_silence, c2_call, c2_asks, c3_call, c3_answer, i1_call, i1_silence, i2_call, i2_any, i3_block, i3_answer, i4_rqs, i4_asks, i5_rqs, i5_cs3, i6_block, i6_silence, i7_any, i7_silence, i8_any, i8_silence, i9_alphas, i9_any, Link, s3_any, e2_any, e2_any', e3_silence, e4_any, calls, aloud, stays, nothing_new, After}
use Rattle.circuit.proofs.ReplyLaws.{ααα-signals, βαβ-signals, RQ×3_signals, asks_first, call_no_block, goes, again, or_rests, owed_nothing, to_take, Fine, taken, silence_no_call, alphas_no_call, single_no_call, silence_first, other_third, first_of_lem, Row, Quiet, not_accepted, ended, standing, not_called}

-- What a station that is Lost would say: any call block, any identification block of seven letters of table 3a.
abbrev anybody : Seven
anybody = let v = word_no 22 in record { 0 = v; 1 = v; 2 = v; 3 = v; 4 = v; 5 = v; 6 = v }

anybody_letters : is_callable7 anybody ≡ true
unfolding is_callable7 is_identity
anybody_letters = refl

pub cs4_says_on : says_on (first_of cs4) ≡ true
unfolding first_of
cs4_says_on = refl

pub call_idle : {x p : Place} {w : Words} → Calls x p w → (v : Words) × Calls p x v
unfolding is_block is_words may_hold traffic_of meaning_of
call_idle c1_any = (_, c1_silence)
call_idle c1_silence = (silence, c1_any)
call_idle (c2_call i j) = (_, c2_asks)
call_idle c2_asks = (RQ×3, c2_call refl refl)
call_idle (c3_call n l) = (single cs4, c3_answer l cs4_says_on)
call_idle (c3_answer l a) = (_, c3_call 0 l)
call_idle (i1_call n l m) = (_, i1_silence l m)
call_idle (i1_silence l m) = (_, i1_call 0 l m)
call_idle (i2_call n l) = (silence, i2_any l)
call_idle (i2_any l) = (_, i2_call 0 l)
call_idle (i3_block y l) = (single cs4, i3_answer cs4_says_on)
call_idle (i3_answer a) = (_, i3_block anybody anybody_letters)
call_idle (i4_rqs f) = (_, i4_asks f)
call_idle (i4_asks f) = (_, i4_rqs f)
call_idle (i5_rqs f) = (_, i5_cs3 f)
call_idle (i5_cs3 f) = (_, i5_rqs f)
call_idle (i6_block y l h k) = (_, i6_silence h k)
call_idle (i6_silence h k) = (_, i6_block anybody anybody_letters h k)
call_idle (i7_any q) = (_, i7_silence)
call_idle i7_silence = (silence, i7_any silence_no_call)
call_idle (i8_any q) = (_, i8_silence)
call_idle i8_silence = (silence, i8_any silence_no_call)
call_idle i9_alphas = (silence, i9_any)
call_idle i9_any = (_, i9_alphas)

pub call_places : {x p : Place} {w : Words} → Calls x p w → (is_sending x ≡ false) × (is_sending p ≡ false) × (is_opening x ≡ false)
call_places c1_any = (refl, refl, refl)
call_places c1_silence = (refl, refl, refl)
call_places (c2_call i j) = (refl, refl, refl)
call_places c2_asks = (refl, refl, refl)
call_places (c3_call n l) = (refl, refl, refl)
call_places (c3_answer l a) = (refl, refl, refl)
call_places (i1_call n l m) = (refl, refl, refl)
call_places (i1_silence l m) = (refl, refl, refl)
call_places (i2_call n l) = (refl, refl, refl)
call_places (i2_any l) = (refl, refl, refl)
call_places (i3_block y l) = (refl, refl, refl)
call_places (i3_answer a) = (refl, refl, refl)
call_places (i4_rqs f) = (refl, refl, refl)
call_places (i4_asks f) = (refl, refl, refl)
call_places (i5_rqs f) = (refl, refl, refl)
call_places (i5_cs3 f) = (refl, refl, refl)
call_places (i6_block y l h k) = (refl, refl, refl)
call_places (i6_silence h k) = (refl, refl, refl)
call_places (i7_any q) = (refl, refl, refl)
call_places i7_silence = (refl, refl, refl)
call_places (i8_any q) = (refl, refl, refl)
call_places i8_silence = (refl, refl, refl)
call_places i9_alphas = (refl, refl, refl)
call_places i9_any = (refl, refl, refl)

-- RQ and α are no letters
pub no_letter_rq : is_identity rq ≡ false
unfolding is_identity
no_letter_rq = refl

pub no_letter_alpha : is_identity alpha ≡ false
unfolding is_identity
no_letter_alpha = refl

pub letter_no : (x v : ℕ) → is_identity x ≡ true → is_identity v ≡ false → eqb x v ≡ false
letter_no x v l n = ne_eqb x v (λ e. true≢false (sym l ∙ ap is_identity e ∙ n))

-- a call block of four signals is no identification block, for the RQ in it
call_tells_nothing : (i : Identity) (n : ℕ) → told_in (next_block i n) ≡ nothing_told
unfolding told_in next_block
call_tells_nothing i n = go (eqb (n % 2) 0)
  where
    first_no : (x y : ℕ) → told_in (words x rq y) ≡ nothing_told
    first_no x y = rw (no_letter_rq, and-false (is_identity x), and-false (eqb x alpha))

    second_no : (x y : ℕ) → told_in (words x y rq) ≡ nothing_told
    second_no x y = rw (no_letter_rq, and-false (eqb y alpha), and-false (is_identity y), and-false (is_identity x), and-false (eqb x alpha))

    go : (t : Bool) → told_in (if t then call_block1 i else call_block2 i) ≡ nothing_told
    go true = first_no i.0 i.1
    go false = second_no i.2 i.3

pub call_told : (i : Identity) (n : ℕ) (b : Words) → Mangled (next_block i n) b → told_in b ≡ nothing_told
call_told i n b m = go (whole_told (next_block i n) b m)
  where
    go : (told_in b ≡ nothing_told) ⊎ (b ≡ next_block i n) → told_in b ≡ nothing_told
    go (inl e) = e
    go (inr e) = ap told_in e ∙ call_tells_nothing i n

-- a call block of seven ends in a letter: it is no block 2 of a call of four, nor ααα, nor RQ RQ RQ
call3_ends : (i : Seven) (n : ℕ) → is_callable7 i ≡ true → is_identity (next_block3 i n).2 ≡ true
unfolding next_block3
call3_ends i n e = go (eqb (n % 3) 0) (eqb (n % 3) 1)
  where
    go : (t u : Bool) → is_identity (if t then call3_block1 i else if u then call3_block2 i else call3_block3 i).2 ≡ true
    go true u = (letters_of i e).second
    go false true = (letters_of i e).fourth
    go false false = (letters_of i e).seventh

module _ (w : Words) (l : is_identity w.2 ≡ true) where
  pub no_alphas : is_words w ααα ≡ false
  no_alphas = other_third w ααα (letter_no w.2 alpha l no_letter_alpha)

  no_rqs : is_words w RQ×3 ≡ false
  no_rqs = other_third w RQ×3 (letter_no w.2 rq l no_letter_rq)

  pub not_two : (b : Words) → Mangled w b → (i : Identity) → marks (call_of i b) Two ≡ false
  unfolding call_of
  not_two b m i = go (whole_call w b m i)
    where
      sent : (t u : Bool) → marks (if t then (if u then Mark.One else if is_words w (call_block2 i) then Mark.Two else Mark.None) else Mark.None) Two ≡ false
      sent true true = refl
      sent true false = rw (other_third w (call_block2 i) (letter_no w.2 rq l no_letter_rq))
      sent false u = refl

      go : (call_of i b ≡ Mark.None) ⊎ (b ≡ w) → marks (call_of i b) Two ≡ false
      go (inl e) = ap (λ (m : Mark). marks m Two) e
      go (inr e) = ap (λ (v : Words). marks (call_of i v) Two) e ∙ sent (is_callable i) (is_words w (call_block1 i))

pub neither_two : (h m : Mark) → marks h Two ≡ false → marks m Two ≡ false → both_heard h m ≡ false
neither_two Mark.None m p q = refl
neither_two Mark.One Mark.None p q = refl
neither_two Mark.One Mark.One p q = refl
neither_two Mark.One Mark.Two p q = absurd (true≢false q)
neither_two Mark.Two m p q = absurd (true≢false p)

-- An identification block: RQ stands in all of its places at the fourth stage, and in none before. So it is RQ RQ RQ there alone, and
-- begins no call: of the own call blocks it is at most the third of seven.
pub record AllOrNone (t : Bool) (w : Words) : Type 0 where
  pub at0 : eqb w.0 rq ≡ t
  pub at1 : eqb w.1 rq ≡ t
  pub at2 : eqb w.2 rq ≡ t

-- the own call blocks but that one: RQ in one of two places
data Mixed (v : Words) : Type 0 where
  rq_first : eqb v.0 rq ≡ true → eqb v.1 rq ≡ false → Mixed v
  rq_second : eqb v.0 rq ≡ false → eqb v.1 rq ≡ true → Mixed v
  rq_third : eqb v.1 rq ≡ false → eqb v.2 rq ≡ true → Mixed v

pub identity_rqs : (y : Seven) → is_callable7 y ≡ true → (s : Stage) → AllOrNone (is_last s) (identity_block y s)
identity_rqs y e Stage.One =
    let l = letters_of y e in
    record { at0 = letter_no y.0 rq l.first no_letter_rq; at1 = refl; at2 = letter_no y.1 rq l.second no_letter_rq }
identity_rqs y e Stage.Two =
    let l = letters_of y e in
    record { at0 = refl; at1 = letter_no y.2 rq l.third no_letter_rq; at2 = letter_no y.3 rq l.fourth no_letter_rq }
identity_rqs y e Stage.Three =
    let l = letters_of y e in
    record { at0 = letter_no y.4 rq l.fifth no_letter_rq; at1 = letter_no y.5 rq l.sixth no_letter_rq; at2 = letter_no y.6 rq l.seventh no_letter_rq }
identity_rqs y e Stage.Four = record { at0 = refl; at1 = refl; at2 = refl }

pub identity_no_alphas : (y : Seven) → is_callable7 y ≡ true → (s : Stage) → is_words (identity_block y s) ααα ≡ false
unfolding is_words
identity_no_alphas y e Stage.One = no_alphas (identity_block y Stage.One) (letters_of y e).second
identity_no_alphas y e Stage.Two = no_alphas (identity_block y Stage.Two) (letters_of y e).fourth
identity_no_alphas y e Stage.Three = no_alphas (identity_block y Stage.Three) (letters_of y e).seventh
identity_no_alphas y e Stage.Four = refl

module _ (t : Bool) (w : Words) (a : AllOrNone t w) where
  pub rqs_are : is_words w RQ×3 ≡ t
  unfolding is_words
  rqs_are = go t a.at0 a.at1 a.at2
    where
      go : (t : Bool) → eqb w.0 rq ≡ t → eqb w.1 rq ≡ t → eqb w.2 rq ≡ t → eqb w.0 rq && (eqb w.1 rq && eqb w.2 rq) ≡ t
      go true p q r = rw (p, q, r)
      go false p q r = rw p

  as_all : (v : Words) → is_words w v ≡ true → (eqb v.0 rq ≡ t) × (eqb v.1 rq ≡ t) × (eqb v.2 rq ≡ t)
  as_all v e =
      let x = words_are w v e in
      (sym (ap (λ (n : ℕ). eqb n rq) x.0) ∙ a.at0, sym (ap (λ (n : ℕ). eqb n rq) x.1) ∙ a.at1, sym (ap (λ (n : ℕ). eqb n rq) x.2) ∙ a.at2)

  unlike : (v : Words) → Mixed v → is_words w v ≡ false
  unlike v k = go (is_words w v) refl k
    where
      go : (u : Bool) → is_words w v ≡ u → Mixed v → u ≡ false
      go false e k = refl
      go true e (rq_second p q) = absurd (true≢false (sym q ∙ (as_all v e).1 ∙ sym (as_all v e).0 ∙ p))
      go true e (rq_first q p) = absurd (true≢false (sym q ∙ (as_all v e).0 ∙ sym (as_all v e).1 ∙ p))
      go true e (rq_third p q) = absurd (true≢false (sym q ∙ (as_all v e).2 ∙ sym (as_all v e).1 ∙ p))

  none_begun : (i : Identity) → call_of i w ≡ Mark.None
  unfolding call_of
  none_begun i = go (is_callable i) refl
    where
      go : (u : Bool) → is_callable i ≡ u → (if u then (if is_words w (call_block1 i) then Mark.One else if is_words w (call_block2 i) then Mark.Two else Mark.None) else Mark.None) ≡ Mark.None
      go true e =
          let l = four_letters i e in
          rw (unlike (call_block1 i) (rq_second (letter_no i.0 rq l.0 no_letter_rq) refl), unlike (call_block2 i) (rq_third (letter_no i.3 rq l.3 no_letter_rq) refl))
      go false e = refl

  none_begun3 : (i : Seven) → heard_then Succession.None (call3_of i w) ≡ Succession.None
  unfolding call3_of
  none_begun3 i = go (is_callable7 i) refl (is_words w (call3_block3 i))
    where
      go : (u : Bool) → is_callable7 i ≡ u → (v : Bool) → heard_then Succession.None (if u then (if is_words w (call3_block1 i) then Part.One else if is_words w (call3_block2 i) then Part.Two else if v then Part.Three else Part.None) else Part.None) ≡ Succession.None
      go false e v = refl
      go true e v =
          let l = letters_of i e in
          rw (unlike (call3_block1 i) (rq_second (letter_no i.0 rq l.first no_letter_rq) refl), unlike (call3_block2 i) (rq_first refl (letter_no i.2 rq l.third no_letter_rq))) (third v)
        where
          third : (v : Bool) → heard_then Succession.None (if v then Part.Three else Part.None) ≡ Succession.None
          third true = refl
          third false = refl

  pub begins_none : (b : Words) → Mangled w b → (i : Identity) → call_of i b ≡ Mark.None
  begins_none b m i = go (whole_call w b m i)
    where
      go : (call_of i b ≡ Mark.None) ⊎ (b ≡ w) → call_of i b ≡ Mark.None
      go (inl e) = e
      go (inr e) = ap (call_of i) e ∙ none_begun i

  pub begins_none3 : (b : Words) → Mangled w b → (i : Seven) → heard_then Succession.None (call3_of i b) ≡ Succession.None
  begins_none3 b m i = go (whole_call3 w b m i)
    where
      go : (call3_of i b ≡ Part.None) ⊎ (b ≡ w) → heard_then Succession.None (call3_of i b) ≡ Succession.None
      go (inl e) = ap (heard_then Succession.None) e
      go (inr e) = ap (λ (v : Words). heard_then Succession.None (call3_of i v)) e ∙ none_begun3 i

pub all_none : (p : Part) → all_heard Succession.None p ≡ false
all_none Part.None = refl
all_none Part.One = refl
all_none Part.Two = refl
all_none Part.Three = refl

is_last_lem : (s : Stage) → is_last s ≡ true → s ≡ Stage.Four
is_last_lem Stage.One e = absurd (true≢false (sym e))
is_last_lem Stage.Two e = absurd (true≢false (sym e))
is_last_lem Stage.Three e = absurd (true≢false (sym e))
is_last_lem Stage.Four e = refl

-- what Answering says: a letter is no control signal
letter_says_on : (v : ℕ) → is_identity v ≡ true → says_on (first_of v) ≡ true
unfolding is_identity
letter_says_on v l = go (first_of v) (first_says v)
  where
    go : (f : First) → Says v f → says_on f ≡ true
    go (Cs One) e = absurd (true≢false (sym l ∙ ap is_identity e))
    go (Cs Two) e = absurd (true≢false (sym l ∙ ap is_identity e))
    go Cs3 e = absurd (true≢false (sym l ∙ ap is_identity e))
    go Rq e = refl
    go (Else x) e = refl

sum_says_on : (x y z : ℕ) → says_on (first_of (check_sum x y z)) ≡ true
sum_says_on x y z = letter_says_on (check_sum x y z) (check_sum_letter x y z)

rq_says_on : says_on (first_of rq) ≡ true
unfolding first_of
rq_says_on = refl

pub heard_says_on : {f g : First} → FirstIs f g → says_on f ≡ true → says_on g ≡ true
heard_says_on said e = e
heard_says_on unsaid e = refl

-- where no identification block is heard, and the fourth stage is not reached, Answering asks on
abbrev pub asked : Stage → ℕ
asked Stage.One = cs4
asked Stage.Two = rq
asked Stage.Three = rq
asked Stage.Four = rq

pub asked_says_on : (t : Stage) → says_on (first_of (asked t)) ≡ true
asked_says_on Stage.One = cs4_says_on
asked_says_on Stage.Two = rq_says_on
asked_says_on Stage.Three = rq_says_on
asked_says_on Stage.Four = rq_says_on

pub asks_again : (own : Own) (g : Gathered) (b : Words) → is_last g.stage ≡ false → is_words b ααα ≡ false → told_in b ≡ nothing_told →
    answering own.seven g (heard_of own b) ≡ Again (Answering (record { stage = g.stage; got = g.got })) (single (asked g.stage))
unfolding heard_of
asks_again own g b l i k = rw (i, l, and-false (is_words b RQ×3), k) (go g.stage)
  where
    go : (t : Stage) → hearing own.seven g.got t nothing_told ≡ Again (Answering (record { stage = t; got = g.got })) (single (asked t))
    go Stage.One = refl
    go Stage.Two = refl
    go Stage.Three = refl
    go Stage.Four = refl

module _ (s : Station) (b : Words) (o : Offer) where
  -- Calling: the next call block, or the call has failed; and where it hears the number of a station at Receiving, the second time
  call_on : (c : Called) (m : Mark) {p : Place} → ((n : ℕ) → Link p (resting n) silence none none) →
      Link p (Calling (record { to = c.to; sent = c.sent + 1; last = m })) (next_block c.to c.sent) none none → (t : Bool) →
      After false (to_take s o) none none p (done (placed s (Calling c)) b o (if t then Rests 128 silence else Goes (Calling (record { to = c.to; sent = c.sent + 1; last = m })) (next_block c.to c.sent))) [] []
  unfolding done
  call_on c m l k true = goes _ _ refl (l _)
  call_on c m l k false = goes _ _ refl k

  -- it hears no control signal
  unanswered : (c : Called) {p : Place} (f : First) → says_on f ≡ true → ((n : ℕ) → Link p (resting n) silence none none) →
      Link p (Calling (record { to = c.to; sent = c.sent + 1; last = Mark.None })) (next_block c.to c.sent) none none →
      Row s b o (Calling c) p none none (calling c f) f (is_block b)
  unanswered c (Cs n) e l k = absurd (true≢false (sym e))
  unanswered c Cs3 e l k = absurd (true≢false (sym e))
  unanswered c Rq e l k = call_on c Mark.None l k (leb 128 c.sent)
  unanswered c (Else x) e l k = call_on c Mark.None l k (leb 128 c.sent)

  answered_by_lem : (c : Called) (n : Number) (f : First) → Fine s o → FirstIs (Cs n) f →
      Row s b o (Calling c) (Receiving n) none none (calling c f) f (is_block b)
  unfolding done
  answered_by_lem c n f i said = go (marks c.last n) refl
    where
      go : (t : Bool) → marks c.last n ≡ t →
          After t (to_take s o) none none (Receiving n) (done (placed s (Calling c)) b o (if t then Reaches (Four c.to) n else calls_on c (mark_of n))) [] []
      go true e = taken (knowing (placed s (Calling c)) (Four c.to)) n o i owed_nothing
      go false e = let k = call_no_block c.to c.sent in call_on c (mark_of n) (λ n. e3_silence) (calls (c2_call k.0 k.1)) (leb 128 c.sent)
  answered_by_lem c n f i unsaid = let k = call_no_block c.to c.sent in call_on c Mark.None (λ n. e3_silence) (calls (c2_call k.0 k.1)) (leb 128 c.sent)

  -- Calling with three blocks: the same, where it hears nothing
  call_on3 : (c : Called3) {p : Place} → ((n : ℕ) → Link p (resting n) silence none none) →
      Link p (Calling3 (record { to = c.to; sent = c.sent + 1 })) (next_block3 c.to c.sent) none none → (t : Bool) →
      After false (to_take s o) none none p (done (placed s (Calling3 c)) b o (if t then Bars c.to else Goes (Calling3 (record { to = c.to; sent = c.sent + 1 })) (next_block3 c.to c.sent))) [] []
  unfolding done
  call_on3 c l k true = goes _ _ refl (l _)
  call_on3 c l k false = goes _ _ refl k

  unanswered3 : (c : Called3) {p : Place} (f : First) → FirstIs (Else Other) f → ((n : ℕ) → Link p (resting n) silence none none) →
      Link p (Calling3 (record { to = c.to; sent = c.sent + 1 })) (next_block3 c.to c.sent) none none →
      Row s b o (Calling3 c) p none none (calling3 s.own.seven c f) f (is_block b)
  unanswered3 c f said l k = call_on3 c l k (leb 128 c.sent)
  unanswered3 c f unsaid l k = call_on3 c l k (leb 128 c.sent)

  -- and whatever it hears
  calls_three : (c : Called3) {p : Place} (f : First) →
      Link p (Identifying (record { to = c.to; stage = Stage.One; wrong = 0; last = 0 })) (identity_block s.own.seven Stage.One) none none →
      ((e : Ended) → Link p (Ending e) ααα none none) → ((n : ℕ) → Link p (resting n) silence none none) →
      Link p (Calling3 (record { to = c.to; sent = c.sent + 1 })) (next_block3 c.to c.sent) none none →
      Row s b o (Calling3 c) p none none (calling3 s.own.seven c f) f (is_block b)
  unfolding done
  calls_three c {p} f four five rest on =
      by_calling3 (λ (d : Doing). After false (to_take s o) none none p (done (placed s (Calling3 c)) b o d) [] []) s.own.seven c f (λ e. goes _ _ refl four) (λ e. goes _ _ refl (five _)) (goes _ _ refl (rest _)) (λ e. goes _ _ refl on)

  -- Identifying that hears neither CS1 nor CS3: its block again or the next, the end procedure, or Stand-by
  identifies_on : (i : Identified) {p : Place} (f : First) → says_on f ≡ true →
      ((j : Identified) → Link p (Identifying j) (identity_block s.own.seven j.stage) none none) →
      ((e : Ended) → Link p (Ending e) ααα none none) → ((n : ℕ) → Link p (resting n) silence none none) →
      Row s b o (Identifying i) p none none (identifying s.own.seven i f) f (is_block b)
  unfolding done
  identifies_on i {p} f e block end rest =
      rw (no_cs f e) (by_identifying (λ (d : Doing). After false (to_take s o) none none p (done (placed s (Identifying i)) b o d) [] []) s.own.seven i f (λ w. or_rests (placed s (Identifying i)) b o _ _ (block i) rest) (λ w l. goes _ _ refl (block _)) (λ v g w l k. or_rests (placed s (Identifying i)) b o _ _ (block _) rest) (λ v g w l. goes _ _ refl (end _)) (λ w l. goes _ _ refl (rest _)) (λ g l. absurd (true≢false (sym e ∙ ap says_on g))) (λ g l. absurd (true≢false (sym e ∙ ap says_on g))))
    where
      no_cs : (f : First) → says_on f ≡ true → of_cs (λ (n : Number). same n One && is_last i.stage) f ≡ false
      no_cs (Cs n) e = absurd (true≢false (sym e))
      no_cs Cs3 e = refl
      no_cs Rq e = refl
      no_cs (Else x) e = refl

  -- Answering: whatever identification block it hears, it says CS4, RQ or a check-sum, or it has said the 32nd and goes to Stand-by
  module _ {p : Place} (g : Gathered) (rest : (n : ℕ) → Link p (resting n) silence none none) where
    abbrev Heeds : Doing → Type 0
    Heeds d = After false (to_take s o) none none p (done (placed s (Answering g)) b o d) [] []

    module _ (stay : (j : Gathered) (v : ℕ) → says_on (first_of v) ≡ true → Link p (Answering j) (single v) none none) where
      asks_on_lem : (h : Seven) (t : Stage) (v : ℕ) → says_on (first_of v) ≡ true → Heeds (Again (Answering (record { stage = t; got = h })) (single v))
      asks_on_lem h t v e = or_rests (placed s (Answering g)) b o _ _ (stay _ v e) rest

      gathers_on : (h : Seven) (t : Stage) (x y z : ℕ) → Heeds (Goes (Answering (record { stage = t; got = h })) (single (check_sum x y z)))
      unfolding done
      gathers_on h t x y z = goes _ _ refl (stay _ _ (sum_says_on x y z))

      gathers_again_lem : (k : Seven) (t : Stage) (x y z : ℕ) (u : Bool) → Heeds (Again (Answering (record { stage = t; got = k })) (single (if u then check_sum x y z else rq)))
      gathers_again_lem k t x y z true = asks_on_lem k t (check_sum x y z) (sum_says_on x y z)
      gathers_again_lem k t x y z false = asks_on_lem k t rq rq_says_on

      heeds : (y h : Seven) (t : Stage) (k : Told) → Heeds (hearing y h t k)
      heeds y h Stage.One nothing_told = asks_on_lem h Stage.One cs4 cs4_says_on
      heeds y h Stage.One (block_1 a c) = gathers_on _ Stage.Two y.0 y.1 y.2
      heeds y h Stage.One (block_2 a c) = asks_on_lem h Stage.One cs4 cs4_says_on
      heeds y h Stage.One (block_3 a c d) = asks_on_lem h Stage.One cs4 cs4_says_on
      heeds y h Stage.Two nothing_told = asks_on_lem h Stage.Two rq rq_says_on
      heeds y h Stage.Two (block_1 a c) = gathers_again_lem _ Stage.Two y.0 y.1 y.2 (same_seven h (with_1 h a c))
      heeds y h Stage.Two (block_2 a c) = gathers_on _ Stage.Three y.2 y.3 y.4
      heeds y h Stage.Two (block_3 a c d) = asks_on_lem h Stage.Two rq rq_says_on
      heeds y h Stage.Three nothing_told = asks_on_lem h Stage.Three rq rq_says_on
      heeds y h Stage.Three (block_1 a c) = asks_on_lem h Stage.Three rq rq_says_on
      heeds y h Stage.Three (block_2 a c) = gathers_again_lem _ Stage.Three y.2 y.3 y.4 (same_seven h (with_2 h a c))
      heeds y h Stage.Three (block_3 a c d) = gathers_on _ Stage.Four y.4 y.5 y.6
      heeds y h Stage.Four nothing_told = asks_on_lem h Stage.Four rq rq_says_on
      heeds y h Stage.Four (block_1 a c) = asks_on_lem h Stage.Four rq rq_says_on
      heeds y h Stage.Four (block_2 a c) = asks_on_lem h Stage.Four rq rq_says_on
      heeds y h Stage.Four (block_3 a c d) = gathers_again_lem _ Stage.Four y.4 y.5 y.6 (same_seven h (with_3 h a c d))

      -- it hears neither ααα nor RQ RQ RQ
      answers_on : is_words b ααα ≡ false → is_words b RQ×3 ≡ false → Heeds (answering s.own.seven g (heard_of s.own b))
      unfolding heard_of
      answers_on i j = rw (i, j) (heeds s.own.seven g.got g.stage (told_in b))

    -- and where that is none, it stays at its stage
    tells_nothing : is_last g.stage ≡ false → is_words b ααα ≡ false → told_in b ≡ nothing_told →
        ((v : ℕ) → says_on (first_of v) ≡ true → Link p (Answering (record { stage = g.stage; got = g.got })) (single v) none none) →
        Heeds (answering s.own.seven g (heard_of s.own b))
    tells_nothing l i k stay =
        subst Heeds (sym (asks_again s.own g b l i k)) (or_rests (placed s (Answering g)) b o _ _ (stay (asked g.stage) (asked_says_on g.stage)) rest)

  -- I3: RQ RQ RQ is heard where the other is at its fourth stage: identification is over, and the slave sends CS1, or CS3
  told_all : (g : Gathered) (i : Identified) (y : Seven) → is_callable7 y ≡ true → Mangled (identity_block y i.stage) b →
      Row s b o (Answering g) (Identifying i) none none (answering s.own.seven g (heard_of s.own b)) (first_of b.0) (is_block b)
  unfolding heard_of done
  told_all g i y e m =
      rw (no_words w b ααα m ααα-signals (identity_no_alphas y e i.stage)) (go (is_words b RQ×3) refl (is_last g.stage) refl)
    where
      w : Words
      w = identity_block y i.stage

      fourth : is_words b RQ×3 ≡ true → i.stage ≡ Stage.Four
      fourth q =
          is_last_lem i.stage (sym (rqs_are (is_last i.stage) (identity_block y i.stage) (identity_rqs y e i.stage)) ∙ ap (λ (v : Words). is_words v RQ×3) (sym (whole_words (identity_block y i.stage) b RQ×3 m RQ×3_signals q)) ∙ q)

      on : After false (to_take s o) none none (Identifying i) (done (placed s (Answering g)) b o (hearing s.own.seven g.got g.stage (told_in b))) [] []
      on = heeds g (λ n. calls (i6_silence refl refl)) (λ j v a. calls (i3_answer a)) s.own.seven g.got g.stage (told_in b)

      go : (t : Bool) → is_words b RQ×3 ≡ t → (u : Bool) → is_last g.stage ≡ u →
          After false (to_take s o) none none (Identifying i) (done (placed s (Answering g)) b o (if t && u then Meets g.got else hearing s.own.seven g.got g.stage (told_in b))) [] []
      go false q u l = on
      go true q false l = on
      go true q true l =
          by_meet (λ (r : Reply). After false (to_take s o) none none (Identifying i) r [] []) (knowing (placed s (Answering g)) (Known g.got)) (is_over o) (record { place = _; word = _; ox' = _; op' = _; link = calls (i5_cs3 (fourth q)); says = aloud refl refl; sends = stays; hears = nothing_new }) (goes _ _ refl (calls (i4_asks (fourth q))))

  -- I4, I5: CS1 or CS3 is heard at the fourth stage
  module _ (i : Identified) (four : i.stage ≡ Stage.Four) where
    last_again : {p : Place} → Link p (Identifying i) RQ×3 none none → ((n : ℕ) → Link p (resting n) silence none none) →
        After false (to_take s o) none none p (done (placed s (Identifying i)) b o (same_block s.own.seven i)) [] []
    last_again {p} l rest =
        or_rests (placed s (Identifying i)) b o (Identifying i) (identity_block s.own.seven i.stage) (subst (λ (t : Stage). Link p (Identifying i) (identity_block s.own.seven t) none none) (sym four) l) rest

    -- the row is that of the fourth stage
    abbrev At : Place → First → Stage → Type 0
    At p f t = After (of_cs (λ n. same n One && is_last t) f) (to_take s o) none none p (done (placed s (Identifying i)) b o (at_stage s.own.seven i f t)) [] []

    asked_first : (f : First) → Fine s o → FirstIs (Cs One) f →
        Row s b o (Identifying i) (Receiving One) none none (identifying s.own.seven i f) f (is_block b)
    unfolding done
    asked_first f y said = subst (At (Receiving One) (Cs One)) (sym four) (taken (knowing (placed s (Identifying i)) (Known i.to)) One o y owed_nothing)
    asked_first f y unsaid = subst (At (Receiving One) (Else Other)) (sym four) (last_again (calls (i4_rqs four)) (λ n. e3_silence))

    asked_to_turn : (f : First) → FirstIs Cs3 f → Row s b o (Identifying i) Asking none none (identifying s.own.seven i f) f (is_block b)
    unfolding done
    asked_to_turn f said = subst (At Asking Cs3) (sym four) (goes _ _ refl s3_any)
    asked_to_turn f unsaid = subst (At Asking (Else Other)) (sym four) (last_again (calls (i5_rqs four)) (λ n. calls i8_silence))

  -- every link of a call
  pub call_acts : {x p : Place} {w : Words} → Calls x p w → Mangled w b → Fine s o → lettered_at s.own x →
      (is_stand_by x ≡ true → Quiet (done (placed s x) b o (row_of s.own s.role x (heard_of s.own b)))) →
      Row s b o x p none none (row_of s.own s.role x (heard_of s.own b)) (first_of b.0) (is_block b)
  unfolding heard_of first_of is_block may_hold traffic_of meaning_of is_words done
  call_acts (c1_any {x = x} {c = c}) m y n z = standing s b o x (λ t. calls c2_asks) (λ t. calls (c3_answer refl cs4_says_on)) (λ k. calls c1_silence) (z refl)
  call_acts (c1_silence {c = c}) m y n z = unanswered c (first_of b.0) (heard_says_on (first_of_lem (Else Other) m silence_first) refl) (λ k. e4_any silence_no_call) (calls c1_any)
  call_acts (c2_call {k = k} {w = w} i j) m y n z = not_accepted s b o k (no_block w b m i) (no_words w b ααα m ααα-signals j) (calls c2_asks)
  call_acts (c2_asks {k = k} {c = c}) m y n z = answered_by_lem c k _ y (first_of_lem (Cs k) m (asks_first k))
  call_acts (c3_call {g = g} {c = c} k l) m y n z =
      tells_nothing g (λ k. calls c1_silence) l (no_words (next_block c.to k) b ααα m ααα-signals (call_no_block c.to k).1) (call_told c.to k b m) (λ v a. calls (c3_answer l a))
  call_acts (c3_answer {c = c} l a) m y n z = unanswered c (first_of b.0) (heard_says_on (first_of_lem _ m refl) a) (λ k. calls i7_silence) (calls (c3_call _ l))
  call_acts (i1_call {x = x} {c = c} k l h) m y n z =
      let t = not_two (next_block3 c.to k) (call3_ends c.to k l) b m s.own.four in
      standing s b o x (λ e. absurd (true≢false (sym e ∙ neither_two x.heard _ h t))) (λ e. calls (i2_any l)) (λ k. calls (i1_silence l t)) (z refl)
  call_acts (i1_silence {c = c} l h) m y n z = unanswered3 c _ (first_of_lem (Else Other) m silence_first) (λ k. e4_any silence_no_call) (calls (i1_call _ l h))
  call_acts (i2_call {g = g} {c = c} k l) m y n z =
      let e = call3_ends c.to k l in
      answers_on g (λ k. calls (i1_silence l refl)) (λ j v a. calls (i2_any l)) (no_words (next_block3 c.to k) b ααα m ααα-signals (no_alphas (next_block3 c.to k) e)) (no_words (next_block3 c.to k) b RQ×3 m RQ×3_signals (no_rqs (next_block3 c.to k) e))
  call_acts (i2_any {c = c} l) m y n z = calls_three c (first_of b.0) (calls (i3_block s.own.seven n.1)) (λ e. calls i9_alphas) (λ k. calls i7_silence) (calls (i2_call _ l))
  call_acts (i3_block {g = g} {i = i} w l) m y n z = told_all g i w l m
  call_acts (i3_answer {i = i} a) m y n z = identifies_on i (first_of b.0) (heard_says_on (first_of_lem _ m refl) a) (λ j. calls (i3_block s.own.seven n)) (λ e. calls i9_alphas) (λ k. calls i7_silence)
  call_acts (i4_rqs f) m y n z = not_accepted s b o One (no_block RQ×3 b m refl) (no_words RQ×3 b ααα m ααα-signals refl) (calls (i4_asks f))
  call_acts (i4_asks {i = i} f) m y n z = asked_first i f _ y (first_of_lem (Cs One) m (asks_first One))
  call_acts (i5_rqs f) m y n z = rw (no_words RQ×3 b βαβ m βαβ-signals refl) (again (placed s Asking) (single cs3) refl (calls (i5_cs3 f)))
  call_acts (i5_cs3 {i = i} f) m y n z = asked_to_turn i f _ (first_of_lem Cs3 m refl)
  call_acts (i6_block {x = x} {i = i} w l h k) m y n z =
      let a = identity_rqs w l i.stage in
      let c = begins_none (is_last i.stage) (identity_block w i.stage) a b m s.own.four in
      let d = begins_none3 (is_last i.stage) (identity_block w i.stage) a b m s.own.seven in
      standing s b o x (λ e. absurd (true≢false (sym e ∙ ap (λ (m : Mark). both_heard m (call_of s.own.four b)) h))) (λ e. absurd (true≢false (sym e ∙ ap (λ (u : Succession). all_heard u (call3_of s.own.seven b)) k ∙ all_none (call3_of s.own.seven b)))) (λ j. calls (i6_silence c (ap (λ (u : Succession). heard_then u (call3_of s.own.seven b)) k ∙ d))) (z refl)
  call_acts (i6_silence {i = i} h k) m y n z = identifies_on i (first_of b.0) (heard_says_on (first_of_lem (Else Other) m silence_first) refl) (λ j. calls (i6_block s.own.seven n h k)) (λ e. e2_any' alphas_no_call) (λ k. e4_any silence_no_call)
  call_acts (i7_any {x = x} {w = w} q) m y n z = not_called s b o x w q m (λ k. calls i7_silence) (z refl)
  call_acts (i7_silence {g = g}) m y n z = answers_on g (λ k. e4_any silence_no_call) (λ j v a. calls (i7_any (single_no_call v))) (no_words silence b ααα m ααα-signals refl) (no_words silence b RQ×3 m RQ×3_signals refl)
  call_acts (i8_any {x = x} {w = w} q) m y n z = not_called s b o x w q m (λ k. calls i8_silence) (z refl)
  call_acts i8_silence m y n z = rw (no_words silence b βαβ m βαβ-signals refl) (again (placed s Asking) (single cs3) refl (calls (i8_any (single_no_call cs3))))
  call_acts (i9_alphas {g = g} {e = e}) m y n z = go (is_words b ααα) refl
    where
      go : (t : Bool) → is_words b ααα ≡ t → Row s b o (Answering g) (Ending e) none none (answering s.own.seven g (heard_of s.own b)) (first_of b.0) (is_block b)
      go true q = rw q (goes _ _ refl e2_any)
      go false q = answers_on g (λ k. e2_any) (λ j v a. calls i9_any) q (no_words ααα b RQ×3 m RQ×3_signals refl)
  call_acts (i9_any {e = e}) m y n z = ended s b o e (first_of b.0) (calls i9_alphas) (λ k. calls i7_silence)
