-- What a damaged burst can still be. Two facts carry every case:
--     whole_block, whole_words   a burst heard as a block, or as ααα, βαβ, RQ RQ RQ, is the burst that was sent
--     whole_call, whole_call3, whole_told   so is one heard as an own call block, of four signals or of seven, or as an identification block
--     first_heard_lem            a first word that says something is the first word that was sent
-- Assumes nothing.
use mathlib.Core.Path.{◌≡◌, refl, ap, sym, subst, ◌∙◌}
use mathlib.Core.Bool.{Bool, true, false, ◌&&◌, ◌||◌, true≢false, and-eq-true_iff}
use mathlib.Core.Logic.{◌⊎◌, inl, inr}
use Prim.Native.Nat.{ℕ, suc, ◌<◌}
use native.Mathlib.Omega.{arith}
use lib.Dec.{eqb, leb}
use borrow.Author.Tests.{eqb-true}
use Rattle.std.specs.Prelude.{if◌then◌else◌}
use Rattle.laws.proofs.Table.{same_table}
use Rattle.signals.specs.Meaning.{meaning_of, traffic_of, alpha, beta, rq, cs1, cs2, cs3, cs4, cs5}
use Rattle.identity.specs.declared.Seven.{Seven}
use Rattle.identity.specs.Table3.{is_identity, number_of, signal_of}
use Rattle.identity.specs.Sums.{is_callable7}
use Rattle.identity.proofs.TableLaws.{letter_read_back}
use Rattle.mode_a.specs.declared.Mark.{Mark}
use Rattle.mode_a.specs.declared.Part.{Part}
use Rattle.mode_a.specs.declared.Words.{Words}
use Rattle.mode_a.specs.declared.Identity.{Identity}
use Rattle.mode_a.specs.Calls.{is_callable, call_block1, call_block2, call3_block1, call3_block2, call3_block3}
use Rattle.mode_a.specs.Identification.{nothing_told, block_1, block_2, block_3, told_in}
use Rattle.mode_a.specs.Station.{silence}
use Rattle.mode_a.specs.Heard.{First, Else, Cs4, Cs5, Letter, Other, first_of, may_hold, is_block, is_words, call_of, call3_of}
use Rattle.mode_a.proofs.HeardLaws.{first_else, further_other}
use Rattle.runs.proofs.LetterLaws.{Letters, letters_of}
use Rattle.signals.specs.Damage.{Damage, kept, hurt, arrives, NoSignal}
use Rattle.runs.specs.Circuit.{Event, heard, Harmless}

pub all_three : (a b c : Bool) → a && (b && c) ≡ true → (a ≡ true) × (b ≡ true) × (c ≡ true)
all_three a b c e =
    let x = (and-eq-true_iff a (b && c)).0 e in
    let y = (and-eq-true_iff b c).0 x.1 in
    (x.0, y.0, y.1)

pub words_are : (b w : Words) → is_words b w ≡ true → (b.0 ≡ w.0) × (b.1 ≡ w.1) × (b.2 ≡ w.2)
unfolding is_words
words_are b w e =
    let x = all_three (eqb b.0 w.0) (eqb b.1 w.1) (eqb b.2 w.2) e in
    (eqb-true b.0 w.0 x.0, eqb-true b.1 w.1 x.1, eqb-true b.2 w.2 x.2)

-- a word heard: as it was sent, or none of the 35
pub data Word (w b : ℕ) : Type 0 where
  as_sent : b ≡ w → Word w b
  no_signal_lem : meaning_of b ≡ 0 → Word w b

pub record Mangled (w b : Words) : Type 0 where
  pub word0 : Word w.0 b.0
  pub word1 : Word w.1 b.1
  pub word2 : Word w.2 b.2

-- the words of a harmless event; of silence they are none of the 35, whatever else might have been sent
arrived : (d : Damage) (w : ℕ) → NoSignal d → Word w (arrives d w)
arrived kept w h = as_sent refl
arrived (hurt b) w h = no_signal_lem h

pub mangled : (e : Event) (w : Words) → Harmless e → Mangled w (heard e w)
mangled e w h = record { word0 = arrived e.first w.0 h.0; word1 = arrived e.second w.1 h.1; word2 = arrived e.third w.2 h.2 }

from_silence : (d : Damage) (w : ℕ) → NoSignal d → Word w (arrives d 0)
unfolding meaning_of
from_silence kept w h = no_signal_lem refl
from_silence (hurt b) w h = no_signal_lem h

pub mangled_silence : (e : Event) (w : Words) → Harmless e → Mangled w (heard e silence)
mangled_silence e w h = record { word0 = from_silence e.first w.0 h.0; word1 = from_silence e.second w.1 h.1; word2 = from_silence e.third w.2 h.2 }

-- what may stand in a block is one of the 35
may_hold_signal : (b : ℕ) → may_hold b ≡ true → meaning_of b ≡ 0 → ⊥
unfolding may_hold traffic_of
may_hold_signal b e z = go (eqb b beta) refl (subst (λ (n : ℕ). ((leb 1 n && leb n 32) || eqb b beta) ≡ true) z e)
  where
    go : (t : Bool) → eqb b beta ≡ t → eqb b beta ≡ true → ⊥
    go true p q = unfold meaning_of in let x : ◌≡◌ {A = ℕ} 34 0 = sym (ap meaning_of (eqb-true b beta q)) ∙ z in omega arith
    go false p q = absurd (true≢false (sym q ∙ p))

held_as_sent : (w b : ℕ) → Word w b → may_hold b ≡ true → b ≡ w
held_as_sent w b (as_sent e) h = e
held_as_sent w b (no_signal_lem z) h = absurd (may_hold_signal b h z)

signal_as_sent : (w b v : ℕ) → Word w b → b ≡ v → (meaning_of v ≡ 0 → ⊥) → b ≡ w
signal_as_sent w b v (as_sent e) h n = e
signal_as_sent w b v (no_signal_lem z) h n = absurd (n (sym (ap meaning_of h) ∙ z))

-- RQ is heard only where it was sent
rq_is : meaning_of rq ≡ 0 → ⊥
unfolding meaning_of
rq_is e = omega arith

pub not_rq_lem : (w b : ℕ) → Word w b → eqb w rq ≡ false → eqb b rq ≡ false
not_rq_lem w b m f = go (eqb b rq) refl
  where
    go : (t : Bool) → eqb b rq ≡ t → t ≡ false
    go true e = absurd (true≢false (sym e ∙ ap (λ (x : ℕ). eqb x rq) (signal_as_sent w b rq m (eqb-true b rq e) rq_is) ∙ f))
    go false e = refl

pub whole_block : (w b : Words) → Mangled w b → is_block b ≡ true → b ≡ w
unfolding is_block
whole_block w b m e =
    let r = all_three (may_hold b.0) (may_hold b.1) (may_hold b.2) e in
    let x = held_as_sent w.0 b.0 m.word0 r.0 in
    let y = held_as_sent w.1 b.1 m.word1 r.1 in
    let z = held_as_sent w.2 b.2 m.word2 r.2 in
    λ i. record { 0 = x i; 1 = y i; 2 = z i }

-- three signals
abbrev pub Signals : Words → Type 0
Signals v = (meaning_of v.0 ≡ 0 → ⊥) × (meaning_of v.1 ≡ 0 → ⊥) × (meaning_of v.2 ≡ 0 → ⊥)

pub whole_words : (w b v : Words) → Mangled w b → Signals v → is_words b v ≡ true → b ≡ w
whole_words w b v m s e =
    let a = words_are b v e in
    let x = signal_as_sent w.0 b.0 v.0 m.word0 a.0 s.0 in
    let y = signal_as_sent w.1 b.1 v.1 m.word1 a.1 s.1 in
    let z = signal_as_sent w.2 b.2 v.2 m.word2 a.2 s.2 in
    λ i. record { 0 = x i; 1 = y i; 2 = z i }

-- so what was not sent is not heard
pub no_block : (w b : Words) → Mangled w b → is_block w ≡ false → is_block b ≡ false
no_block w b m f = go (is_block b) refl
  where
    go : (t : Bool) → is_block b ≡ t → t ≡ false
    go true e = absurd (true≢false (sym e ∙ ap is_block (whole_block w b m e) ∙ f))
    go false e = refl

pub no_words : (w b v : Words) → Mangled w b → Signals v → is_words w v ≡ false → is_words b v ≡ false
no_words w b v m s f = go (is_words b v) refl
  where
    go : (t : Bool) → is_words b v ≡ t → t ≡ false
    go true e = absurd (true≢false (sym e ∙ ap (λ (x : Words). is_words x v) (whole_words w b v m s e) ∙ f))
    go false e = refl

-- a letter of table 3a is one of the 35, and so not heard where it was not sent
letters_are : (n : ℕ) → n < 20 → eqb (meaning_of (signal_of n)) 0 ≡ false
unfolding meaning_of signal_of
letters_are = same_table (λ n. eqb (meaning_of (signal_of n)) 0) (λ n. false) 20 false refl

pub letter_is : (b : ℕ) → is_identity b ≡ true → meaning_of b ≡ 0 → ⊥
letter_is b i z =
    let y = letter_read_back b i in
    true≢false (ap (λ (n : ℕ). eqb n 0) (sym z ∙ sym (ap meaning_of y.0)) ∙ letters_are (number_of b) y.1)

pub no_letter_heard : (b : ℕ) → meaning_of b ≡ 0 → is_identity b ≡ false
no_letter_heard b z = go (is_identity b) refl
  where
    go : (t : Bool) → is_identity b ≡ t → t ≡ false
    go true i = absurd (letter_is b i z)
    go false i = refl

pub four_letters : (i : Identity) → is_callable i ≡ true → (is_identity i.0 ≡ true) × (is_identity i.1 ≡ true) × (is_identity i.2 ≡ true) × (is_identity i.3 ≡ true)
unfolding is_callable
four_letters i e =
    let x = (and-eq-true_iff (is_identity i.0) _).0 e in
    let y = all_three (is_identity i.1) (is_identity i.2) (is_identity i.3) x.1 in
    (x.0, y.0, y.1, y.2)

alpha_is : meaning_of alpha ≡ 0 → ⊥
unfolding meaning_of
alpha_is e = omega arith

-- the own call blocks are signals
module _ (i : Identity) (e : is_callable i ≡ true) where
  block1_signals : Signals (call_block1 i)
  block1_signals = let l = four_letters i e in (letter_is i.0 l.0, rq_is, letter_is i.1 l.1)

  block2_signals : Signals (call_block2 i)
  block2_signals = let l = four_letters i e in (letter_is i.2 l.2, letter_is i.3 l.3, rq_is)

module _ (i : Seven) (e : is_callable7 i ≡ true) where
  abbrev l : Letters i
  l = letters_of i e

  block1_signals3 : Signals (call3_block1 i)
  block1_signals3 = (letter_is i.0 l.first, rq_is, letter_is i.1 l.second)

  block2_signals3 : Signals (call3_block2 i)
  block2_signals3 = (rq_is, letter_is i.2 l.third, letter_is i.3 l.fourth)

  block3_signals3 : Signals (call3_block3 i)
  block3_signals3 = (letter_is i.4 l.fifth, letter_is i.5 l.sixth, letter_is i.6 l.seventh)

-- so what is heard as an own call block was sent, and whole; and so was what is heard as an identification block, of each of the three
-- kinds
module _ (w b : Words) (m : Mangled w b) where
  pub whole_call : (i : Identity) → (call_of i b ≡ Mark.None) ⊎ (b ≡ w)
  unfolding call_of
  whole_call i = go (is_callable i) refl (is_words b (call_block1 i)) refl (is_words b (call_block2 i)) refl
    where
      go : (t : Bool) → is_callable i ≡ t → (u : Bool) → is_words b (call_block1 i) ≡ u → (v : Bool) → is_words b (call_block2 i) ≡ v → ((if t then (if u then Mark.One else if v then Mark.Two else Mark.None) else Mark.None) ≡ Mark.None) ⊎ (b ≡ w)
      go false p u q v r = inl refl
      go true p true q v r = inr (whole_words w b (call_block1 i) m (block1_signals i p) q)
      go true p false q true r = inr (whole_words w b (call_block2 i) m (block2_signals i p) r)
      go true p false q false r = inl refl

  pub whole_call3 : (i : Seven) → (call3_of i b ≡ Part.None) ⊎ (b ≡ w)
  unfolding call3_of
  whole_call3 i = go (is_callable7 i) refl (is_words b (call3_block1 i)) refl (is_words b (call3_block2 i)) refl (is_words b (call3_block3 i)) refl
    where
      go : (t : Bool) → is_callable7 i ≡ t → (u : Bool) → is_words b (call3_block1 i) ≡ u → (v : Bool) → is_words b (call3_block2 i) ≡ v → (x : Bool) → is_words b (call3_block3 i) ≡ x → ((if t then (if u then Part.One else if v then Part.Two else if x then Part.Three else Part.None) else Part.None) ≡ Part.None) ⊎ (b ≡ w)
      go false p u q v r x k = inl refl
      go true p true q v r x k = inr (whole_words w b (call3_block1 i) m (block1_signals3 i p) q)
      go true p false q true r x k = inr (whole_words w b (call3_block2 i) m (block2_signals3 i p) r)
      go true p false q false r true k = inr (whole_words w b (call3_block3 i) m (block3_signals3 i p) k)
      go true p false q false r false k = inl refl

  letter_as_sent : (w b : ℕ) → Word w b → is_identity b ≡ true → b ≡ w
  letter_as_sent w b (as_sent e) h = e
  letter_as_sent w b (no_signal_lem z) h = absurd (letter_is b h z)

  alpha_as_sent : (w b : ℕ) → Word w b → eqb b alpha ≡ true → b ≡ w
  alpha_as_sent w b n e = signal_as_sent w b alpha n (eqb-true b alpha e) alpha_is

  pub whole_told : (told_in b ≡ nothing_told) ⊎ (b ≡ w)
  unfolding told_in
  whole_told = go _ refl _ refl _ refl
    where
      words_as_sent : b.0 ≡ w.0 → b.1 ≡ w.1 → b.2 ≡ w.2 → b ≡ w
      words_as_sent x y z = λ i. record { 0 = x i; 1 = y i; 2 = z i }

      go : (t : Bool) → is_identity b.0 && (eqb b.1 alpha && is_identity b.2) ≡ t → (u : Bool) → eqb b.0 alpha && (is_identity b.1 && is_identity b.2) ≡ u → (v : Bool) → is_identity b.0 && (is_identity b.1 && is_identity b.2) ≡ v → ((if t then block_1 b.0 b.2 else if u then block_2 b.1 b.2 else if v then block_3 b.0 b.1 b.2 else nothing_told) ≡ nothing_told) ⊎ (b ≡ w)
      go true p u q v r =
          let l = all_three (is_identity b.0) (eqb b.1 alpha) (is_identity b.2) p in
          inr (words_as_sent (letter_as_sent w.0 b.0 m.word0 l.0) (alpha_as_sent w.1 b.1 m.word1 l.1) (letter_as_sent w.2 b.2 m.word2 l.2))
      go false p true q v r =
          let l = all_three (eqb b.0 alpha) (is_identity b.1) (is_identity b.2) q in
          inr (words_as_sent (alpha_as_sent w.0 b.0 m.word0 l.0) (letter_as_sent w.1 b.1 m.word1 l.1) (letter_as_sent w.2 b.2 m.word2 l.2))
      go false p false q true r =
          let l = all_three (is_identity b.0) (is_identity b.1) (is_identity b.2) r in
          inr (words_as_sent (letter_as_sent w.0 b.0 m.word0 l.0) (letter_as_sent w.1 b.1 m.word1 l.1) (letter_as_sent w.2 b.2 m.word2 l.2))
      go false p false q false r = inl refl

-- the first word, as it was sent or none that says something: none of the 35 is CS4, CS5 or a letter of table 3b either
pub data FirstIs (f : First) : First → Type 0 where
  said : FirstIs f f
  unsaid : FirstIs f (Else Other)

says_nothing : (b : ℕ) → meaning_of b ≡ 0 → first_of b ≡ Else Other
unfolding meaning_of
says_nothing b z =
    first_else b (not 11 cs1 refl) (not 31 cs2 refl) (not 13 cs3 refl) (not 34 rq refl) ∙ ap Else (further_other b (not 6 cs4 refl) (not 7 cs5 refl) (no_letter_heard b z))
  where
    not : (n v : ℕ) → meaning_of v ≡ suc n → b ≡ v → ⊥
    not n v p e = let x : suc n ≡ 0 = sym p ∙ sym (ap meaning_of e) ∙ z in omega arith

pub first_heard_lem : (w b : ℕ) → Word w b → FirstIs (first_of w) (first_of b)
first_heard_lem w b (as_sent e) = subst (λ (x : ℕ). FirstIs (first_of x) (first_of b)) e said
first_heard_lem w b (no_signal_lem z) = subst (λ (f : First). FirstIs (first_of w) f) (sym (says_nothing b z)) unsaid

-- so a control signal, RQ or a letter that is heard first was sent first
abbrev pub is_other : First → Bool
is_other (First.Cs n) = false
is_other First.Cs3 = false
is_other First.Rq = false
is_other (Else Cs4) = false
is_other (Else Cs5) = false
is_other (Else (Letter v)) = false
is_other (Else Other) = true

pub first_as_sent : (w b : ℕ) → Word w b → is_other (first_of b) ≡ false → first_of b ≡ first_of w
first_as_sent w b m n = go (first_of b) (first_heard_lem w b m) n
  where
    go : (f : First) → FirstIs (first_of w) f → is_other f ≡ false → f ≡ first_of w
    go f said n = refl
    go f unsaid n = absurd (true≢false n)
