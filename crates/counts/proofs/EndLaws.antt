-- One step, at the end of a circuit: how often ααα has been sent.
--     total_next       the total of Ending is the number of bursts ααα sent in a row, and there are no others
--     after_four       after four of them comes Stand-by
-- Assumes nothing.
use mathlib.Core.Path.{◌≡◌, refl, ap, sym, ◌∙◌}
use mathlib.Core.Bool.{Bool, true, false, and-false, true≢false}
use Prim.Native.Nat.{ℕ, suc, ◌+◌, ◌%◌, ◌<◌, ◌≤◌}
use native.Mathlib.Omega.{arith}
use native.Mathlib.Numerals.{add-one}
use lib.Dec.{eqb}
use borrow.Author.Tests.{leb-false, ne_eqb}
use Rattle.std.specs.Prelude.{if◌then◌else◌}
use Rattle.signals.specs.Meaning.{alpha, cs3}
use Rattle.signals.specs.Numbers.{answered}
use Rattle.identity.specs.declared.Seven.{Seven}
use Rattle.identity.specs.Table3.{is_identity}
use Rattle.identity.specs.Sums.{is_callable7}
use Rattle.mode_a.specs.declared.Stage.{Stage}
use Rattle.mode_a.specs.declared.Own.{Own}
use Rattle.mode_a.specs.declared.Peer.{Peer}
use Rattle.mode_a.specs.declared.Peer.TheVariants.{Four, Known}
use Rattle.mode_a.specs.declared.Number.{Number}
use Rattle.mode_a.specs.declared.Number.TheVariants.{One, Two}
use Rattle.mode_a.specs.declared.Words.{Words}
use Rattle.mode_a.specs.declared.Ended.{Ended}
use Rattle.mode_a.specs.declared.Identity.{Identity}
use Rattle.mode_a.specs.declared.Place.{Place}
use Rattle.mode_a.specs.declared.Place.TheVariants.{Sending, Turning, Opening, Ending, Receiving, Asking, StandBy, Lost, Calling, Calling3, Identifying, Answering}
use Rattle.mode_a.specs.declared.Offer.{Offer}
use Rattle.mode_a.specs.declared.Station.{Station}
use Rattle.mode_a.specs.declared.Doing.{Doing}
use Rattle.mode_a.specs.declared.Reply.{Reply}
use Rattle.mode_a.specs.Calls.{call_block1, call_block2, next_block, call3_block1, call3_block2, call3_block3, next_block3}
use Rattle.mode_a.specs.Identification.{identity_block}
use Rattle.mode_a.specs.Station.{single, silence, βαβ, ααα, RQ×3, other, asks_for, resting}
use Rattle.mode_a.specs.Heard.{Heard, heard_of, is_words}
use Rattle.mode_a.specs.Over.{listened_all}
use Rattle.mode_a.specs.Answerback.{passes}
use Rattle.mode_a.specs.Rows.{row_of, requests}
use Rattle.mode_a.specs.Step.{sends, done, repeats, takes, accepts, is_over, wait_at, rested, called3, again, knowing, sound_place, stepping}
use Rattle.runs.specs.Places.{at_ending}
use Rattle.runs.specs.Runs.{InOrder, next_stage}
use Rattle.runs.proofs.RowLaws.{by_sending, by_turning, by_opening, by_ending, by_receiving, by_asking, by_standing, by_calling, by_calling3, by_identifying, by_answering}
use Rattle.runs.proofs.LetterLaws.{lettered_at, Lettered, letters_of}
use Rattle.runs.proofs.StepLaws.{Answers, answers, placed, held_block, by_repeat, by_again, by_meet, by_take_block, by_accept, by_listen, requests_no_ααα, block_no_ααα}

-- the total of Ending; elsewhere none has been sent
abbrev pub total_of : Place → ℕ
total_of p = at_ending (λ e. e.total) 0 p

pub record Total (p : Place) (k : ℕ) : Type 0 where
  pub is : total_of p ≡ k
  pub four : total_of p ≤ 4

pub ending_total : (x : Ended) (p : Place) → p ≡ Ending x → x.total ≡ total_of p
ending_total x p e = ap total_of (sym e)

-- what holds of a reply, where ααα has been sent t times in a row before it, and this was at the other end
record Ends (q : Peer) (t : ℕ) (r : Reply) : Type 0 where
  is_next : total_of r.station.place ≡ (if is_words r.sent ααα then suc t else 0)
  four : total_of r.station.place ≤ 4
  after : t ≡ 4 → (r.station.place ≡ resting (wait_at q 0)) × (r.sent ≡ silence)

-- none before, no ααα now, and a place other than Ending
elsewhere : (q : Peer) (r : Reply) → total_of r.station.place ≡ 0 → is_words r.sent ααα ≡ false → Ends q 0 r
elsewhere q r p e = record { is_next = p ∙ rw e; four = omega (arith, p); after = λ z. absurd (omega (arith, z)) }

-- none before, and the first now
begins : (q : Peer) (r : Reply) → total_of r.station.place ≡ 1 → is_words r.sent ααα ≡ true → Ends q 0 r
begins q r p e = record { is_next = p ∙ rw e; four = omega (arith, p); after = λ z. absurd (omega (arith, z)) }

-- Stand-by, silent
stands_by : (t : ℕ) (s : Station) → Ends s.other t (sends (rested s 0) silence)
unfolding is_words
stands_by t s = record { is_next = refl; four = omega arith; after = λ z. (refl, refl) }

repeated : (q : Peer) (s : Station) (w : Words) → total_of s.place ≡ 0 → is_words w ααα ≡ false → Ends q 0 (repeats s w)
unfolding is_words
repeated q s w p e = by_repeat (Ends q 0) s w (λ u. elsewhere q _ refl refl) (λ u. elsewhere q _ p e)

told_again : (q : Peer) (s : Station) (p : Place) (w : Words) → total_of p ≡ 0 → is_words w ααα ≡ false → Ends q 0 (again s p w)
unfolding is_words
told_again q s p w t e = by_again (Ends q 0) s p w (λ u. elsewhere q _ refl refl) (λ u. elsewhere q _ t e)

asked : (n : Number) → is_words (asks_for n) ααα ≡ false
unfolding is_words
asked One = refl
asked Two = refl

-- a call block is not ααα: each has its RQ
called_1 : (i : Identity) → is_words (call_block1 i) ααα ≡ false
unfolding is_words
called_1 i = and-false (eqb i.0 alpha)

called_2 : (i : Identity) → is_words (call_block2 i) ααα ≡ false
unfolding is_words
called_2 i = rw (and-false (eqb i.3 alpha)) (and-false (eqb i.2 alpha))

called_next : (i : Identity) (k : ℕ) → is_words (next_block i k) ααα ≡ false
unfolding next_block
called_next i k = go (eqb (k % 2) 0)
  where
    go : (t : Bool) → is_words (if t then call_block1 i else call_block2 i) ααα ≡ false
    go true = called_1 i
    go false = called_2 i

-- α is no letter of table 3a, so neither is a block with a letter in it
letter_no_α : (w : ℕ) → is_identity w ≡ true → eqb w alpha ≡ false
unfolding is_identity
letter_no_α w i = ne_eqb w alpha (λ e. true≢false (sym i ∙ ap is_identity e))

first_letter : (b : Words) → is_identity b.0 ≡ true → is_words b ααα ≡ false
unfolding is_words
first_letter b i = rw (letter_no_α b.0 i)

second_letter : (b : Words) → is_identity b.1 ≡ true → is_words b ααα ≡ false
unfolding is_words
second_letter b i = rw (letter_no_α b.1 i) (and-false (eqb b.0 alpha))

called3_next : (i : Seven) (k : ℕ) → is_callable7 i ≡ true → is_words (next_block3 i k) ααα ≡ false
unfolding next_block3 is_words
called3_next i k t = go (eqb (k % 3) 0) (eqb (k % 3) 1)
  where
    go : (u v : Bool) → is_words (if u then call3_block1 i else if v then call3_block2 i else call3_block3 i) ααα ≡ false
    go true v = first_letter (call3_block1 i) (letters_of i t).first
    go false true = refl
    go false false = first_letter (call3_block3 i) (letters_of i t).fifth

told_block : (y : Seven) (g : Stage) → is_callable7 y ≡ true → is_words (identity_block y g) ααα ≡ false
unfolding is_words
told_block y Stage.One t = first_letter (identity_block y Stage.One) (letters_of y t).first
told_block y Stage.Two t = second_letter (identity_block y Stage.Two) (letters_of y t).third
told_block y Stage.Three t = first_letter (identity_block y Stage.Three) (letters_of y t).fifth
told_block y Stage.Four t = refl

single_no_ααα : (w : ℕ) → is_words (single w) ααα ≡ false
unfolding is_words
single_no_ααα w = and-false (eqb w alpha)

-- an offer taken: end begins with the first
taken : (q : Peer) (own : Own) (s : Station) (n : Number) (o : Offer) → passes s.own.code ≡ true → InOrder own o → Ends q 0 (takes s n o)
unfolding is_words
taken q own s n o k i =
    by_take_block (Ends q 0) s n own o k i (λ v w u y. elsewhere q _ refl (block_no_ααα w y)) (begins q _ refl refl)

accepted : (q : Peer) (s : Station) (n : Number) (b : Words) (o : Offer) → Ends q 0 (accepts s n b o)
unfolding is_words
accepted q s n b o =
    by_accept (Ends q 0) s n b o (listened_all s.case s.plus b) (λ v u. elsewhere q _ refl refl) (elsewhere q _ refl (asked (other n)))

module _ (s : Station) (b : Words) (o : Offer) (passed : passes s.own.code ≡ true) (fine : InOrder s.own o) (h : Heard) where
  abbrev Row : Place → Doing → Type 0
  Row p d = Ends s.other (total_of p) (done (placed s p) b o d)

  more : (x : Ended) → x.total < 4 → Row (Ending x) (Doing.Goes (Ending (record { number = x.number; total = x.total + 1 })) ααα)
  unfolding done is_words
  more x l = record { is_next = add-one x.total; four = omega (arith, l); after = λ z. absurd (omega (arith, l, z)) }

  by_place : (p : Place) → sound_place p ≡ true → lettered_at s.own p → Row p (row_of s.own s.role p h)
  unfolding done is_words
  by_place (Sending x) i l =
      by_sending (Row (Sending x)) x h.first (λ c. repeated _ (placed s (Sending x)) x.block refl (block_no_ααα x.block (sym (held_block x.block) ∙ i))) (λ c. taken _ s.own (placed s (Sending x)) _ o passed fine) (λ c. elsewhere _ _ refl refl) (λ c. repeated _ (placed s (Sending x)) RQ×3 refl refl)
  by_place (Turning n) i l =
      by_turning (Row (Turning n)) s.role n h (elsewhere _ _ refl (asked (other n))) (repeated _ (placed s (Turning n)) βαβ refl refl) (repeated _ (placed s (Turning n)) RQ×3 refl refl)
  by_place Opening i l =
      by_opening (Row Opening) s.role h.first (λ n. taken _ s.own (placed s Opening) n o passed fine) (elsewhere _ _ refl refl) (repeated _ (placed s Opening) (requests s.role) refl (requests_no_ααα s.role))
  by_place (Ending x) i l =
      by_ending (Row (Ending x)) x h.first (stands_by x.total (placed s (Ending x))) (λ l. more x (leb-false 4 x.total l))
  by_place (Receiving n) i l =
      by_receiving (Row (Receiving n)) n h (λ y. accepted _ (placed s (Receiving n)) n b o) (λ y. elsewhere _ _ refl (asked (other n))) (λ y. repeated _ (placed s (Receiving n)) (asks_for n) refl (asked n))
  by_place Asking i l =
      by_asking (Row Asking) h (elsewhere _ _ refl (requests_no_ααα s.role)) (repeated _ (placed s Asking) (single cs3) refl refl)
  by_place (StandBy w) i l =
      by_standing (Row (StandBy w)) w h.call h.call3 (λ y. elsewhere _ _ refl refl) (λ y z. elsewhere _ _ refl refl) (λ y z. by_listen (Ends s.other 0) (placed s (StandBy w)) _ o (λ x c z. elsewhere _ _ refl (called_1 x)) (λ x c z. called3_1 x c) (elsewhere _ _ refl refl))
    where
      called3_1 : (x : Seven) → o ≡ Offer.Call3 x → Ends s.other 0 (called3 (placed s (StandBy w)) x)
      called3_1 x c =
          let fit : InOrder s.own (Offer.Call3 x) = rw c at fine in
          elsewhere _ _ refl (first_letter (call3_block1 x) (letters_of x fit.0).first)
  by_place Lost i l = elsewhere _ _ refl refl
  by_place (Calling c) i l =
      by_calling (Row (Calling c)) c h.first (λ n f m. taken _ s.own (knowing (placed s (Calling c)) (Four c.to)) n o passed fine) (elsewhere _ _ refl refl) (λ m. elsewhere _ _ refl (called_next c.to c.sent))
  by_place (Calling3 c) i l =
      by_calling3 (Row (Calling3 c)) s.own.seven c h.first (λ e. elsewhere _ _ refl (told_block s.own.seven Stage.One l.1)) (λ e. begins _ _ refl refl) (elsewhere _ _ refl refl) (λ m. elsewhere _ _ refl (called3_next c.to c.sent l.0))
  by_place (Identifying x) i l =
      by_identifying (Row (Identifying x)) s.own.seven x h.first (λ e. told_again _ (placed s (Identifying x)) (Identifying x) (identity_block s.own.seven x.stage) refl (told_block s.own.seven x.stage l)) (λ e m. elsewhere _ _ refl (told_block s.own.seven (next_stage x.stage) l)) (λ w e m n k. told_again _ (placed s (Identifying x)) (Identifying (record { to = x.to; stage = x.stage; wrong = x.wrong + 1; last = w })) (identity_block s.own.seven x.stage) refl (told_block s.own.seven x.stage l)) (λ w e m n. begins _ _ refl refl) (λ e m. elsewhere _ _ refl refl) (λ e m. taken _ s.own (knowing (placed s (Identifying x)) (Known x.to)) One o passed fine) (λ e m. elsewhere _ _ refl refl)
  by_place (Answering g) i l =
      by_answering (Row (Answering g)) s.own.seven g h (elsewhere _ _ refl refl) (λ m. by_meet (Ends s.other 0) (knowing (placed s (Answering g)) (Known g.got)) (is_over o) (elsewhere _ _ refl refl) (elsewhere _ _ refl refl)) (λ m x w. elsewhere _ _ refl (single_no_ααα w)) (λ x w. told_again _ (placed s (Answering g)) (Answering (record { stage = g.stage; got = x })) (single w) refl (single_no_ααα w))

ends : (s : Station) (b : Words) (o : Offer) (r : Reply) → stepping s b o ≡ answered r → Lettered s → Ends s.other (total_of s.place) r
ends s b o r e l = go (answers s b o r e)
  where
    go : Answers s b o r → Ends s.other (total_of s.place) r
    go a = rw a.is_done (by_place s b o a.is_passed a.is_fine (heard_of s.own b) s.place a.is_sound l)

pub total_next : (s : Station) (b : Words) (o : Offer) (r : Reply) (k : ℕ) → stepping s b o ≡ answered r → Lettered s → Total s.place k →
    Total r.station.place (if is_words r.sent ααα then suc k else 0)
total_next s b o r k e l t =
    let x = ends s b o r e l in
    record { is = x.is_next ∙ ap (λ (k : ℕ). if is_words r.sent ααα then suc k else 0) t.is; four = x.four }

-- four have been sent
pub after_four : (s : Station) (b : Words) (o : Offer) (r : Reply) → stepping s b o ≡ answered r → Lettered s → total_of s.place ≡ 4 →
    (r.station.place ≡ resting (wait_at s.other 0)) × (r.sent ≡ silence)
after_four s b o r e l = (ends s b o r e l).after
