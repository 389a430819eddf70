-- The blocks of a call of three and of identification, and what a station hears of them.
--     same_heard_part, same_then, same_heard   the call blocks heard are those of the identity called; so where all three are heard, it is
--                                              the own one
--     Late, late_heard                         a burst that begins no call
--     told_at_lem                              what each identification block tells
-- Assumes nothing.
use mathlib.Core.Path.{◌≡◌, refl, ap, sym, subst, ◌∙◌}
use mathlib.Core.Bool.{Bool, true, false, and-false, true≢false}
use mathlib.Core.Logic.{◌⊎◌, inl, inr}
use Prim.Native.Nat.{ℕ, ◌%◌}
use lib.Dec.{eqb}
use borrow.Author.Tests.{eqb-false}
use Rattle.std.specs.Prelude.{if◌then◌else◌}
use Rattle.signals.specs.Meaning.{alpha, rq, cs1, cs2, cs3, cs4, cs5}
use Rattle.identity.specs.declared.Seven.{Seven}
use Rattle.identity.specs.Table3.{is_identity}
use Rattle.identity.specs.Sums.{is_callable7}
use Rattle.identity.specs.Strength.{IS1, IS2, IS3, IS4, IS5, IS6, IS7}
use Rattle.identity.proofs.StrengthLaws.{letter_at}
use Rattle.mode_a.specs.declared.Words.{Words}
use Rattle.mode_a.specs.declared.Part.{Part}
use Rattle.mode_a.specs.declared.Succession.{Succession}
use Rattle.mode_a.specs.declared.Stage.{Stage}
use Rattle.mode_a.specs.Calls.{call3_block1, call3_block2, call3_block3, next_block3}
use Rattle.mode_a.specs.Identification.{Told, nothing_told, block_1, block_2, block_3, identity_block, told_in}
use Rattle.mode_a.specs.Station.{silence}
use Rattle.mode_a.specs.Heard.{Else, Letter, first_of, is_words, call3_of}
use Rattle.mode_a.specs.Rows.{all_heard, heard_then}
use Rattle.mode_a.proofs.HeardLaws.{first_else, further_letter}
use Rattle.circuit.proofs.DamageLaws.{words_are, Mangled, whole_call3}
use Rattle.circuit.proofs.Link.{no_call}
use Rattle.circuit.proofs.ReplyLaws.{no_call3}
use Rattle.circuit.proofs.CallStepLaws.{no_letter_rq, no_letter_alpha, letter_no, AllOrNone, begins_none3}

-- a letter of table 3a is none of the other signals that are asked for
letter_is_not : (x v : ℕ) → is_identity x ≡ true → is_identity v ≡ false → x ≡ v → ⊥
letter_is_not x v l n = eqb-false x v (letter_no x v l n)

pub letter_first : (x : ℕ) → is_identity x ≡ true → first_of x ≡ Else (Letter x)
unfolding is_identity
letter_first x l =
    first_else x (letter_is_not x cs1 l refl) (letter_is_not x cs2 l refl) (letter_is_not x cs3 l refl) (letter_is_not x rq l refl) ∙ ap Else (further_letter x (letter_is_not x cs4 l refl) (letter_is_not x cs5 l refl) l)

-- The blocks of a call to i.
pub data CallBlock (i : Seven) : Words → Type 0 where
  first : CallBlock i (call3_block1 i)
  second : CallBlock i (call3_block2 i)
  third : CallBlock i (call3_block3 i)

pub next_block_lem : (i : Seven) (n : ℕ) → CallBlock i (next_block3 i n)
unfolding next_block3
next_block_lem i n = go (eqb (n % 3) 0) (eqb (n % 3) 1)
  where
    go : (s t : Bool) → CallBlock i (if s then call3_block1 i else if t then call3_block2 i else call3_block3 i)
    go true t = first
    go false true = second
    go false false = third

-- The call blocks that a station with the identity x has heard are those of i.
module _ (i x : Seven) where
  abbrev pub Same : Part → Type 0
  Same Part.None = Unit {0}
  Same Part.One = (x.0 ≡ i.0) × (x.1 ≡ i.1)
  Same Part.Two = (x.2 ≡ i.2) × (x.3 ≡ i.3)
  Same Part.Three = (x.4 ≡ i.4) × (x.5 ≡ i.5) × (x.6 ≡ i.6)

  abbrev pub SameSo : Succession → Type 0
  SameSo Succession.None = Unit {0}
  SameSo Succession.One = Same Part.One
  SameSo Succession.OneTwo = Same Part.One × Same Part.Two
  SameSo Succession.Two = Same Part.Two
  SameSo Succession.TwoThree = Same Part.Two × Same Part.Three

  pub same_then : (h : Succession) (p : Part) → SameSo h → Same p → SameSo (heard_then h p)
  same_then h Part.None s t = tt
  same_then h Part.One s t = t
  same_then Succession.None Part.Two s t = t
  same_then Succession.One Part.Two s t = (s, t)
  same_then Succession.OneTwo Part.Two s t = t
  same_then Succession.Two Part.Two s t = t
  same_then Succession.TwoThree Part.Two s t = t
  same_then Succession.None Part.Three s t = tt
  same_then Succession.One Part.Three s t = tt
  same_then Succession.OneTwo Part.Three s t = tt
  same_then Succession.Two Part.Three s t = (s, t)
  same_then Succession.TwoThree Part.Three s t = tt

  same_all : Same Part.One → Same Part.Two → Same Part.Three → x ≡ i
  same_all a b c = λ k. record { 0 = a.0 k; 1 = a.1 k; 2 = b.0 k; 3 = b.1 k; 4 = c.0 k; 5 = c.1 k; 6 = c.2 k }

  -- so where the three are heard, it is i
  pub same_heard : (h : Succession) (p : Part) → all_heard h p ≡ true → SameSo h → Same p → x ≡ i
  same_heard h Part.None e s t = absurd (true≢false (sym e))
  same_heard h Part.Two e s t = absurd (true≢false (sym e))
  same_heard Succession.None Part.One e s t = absurd (true≢false (sym e))
  same_heard Succession.One Part.One e s t = absurd (true≢false (sym e))
  same_heard Succession.OneTwo Part.One e s t = absurd (true≢false (sym e))
  same_heard Succession.Two Part.One e s t = absurd (true≢false (sym e))
  same_heard Succession.TwoThree Part.One e s t = same_all t s.0 s.1
  same_heard Succession.None Part.Three e s t = absurd (true≢false (sym e))
  same_heard Succession.One Part.Three e s t = absurd (true≢false (sym e))
  same_heard Succession.OneTwo Part.Three e s t = same_all s.0 s.1 t
  same_heard Succession.Two Part.Three e s t = absurd (true≢false (sym e))
  same_heard Succession.TwoThree Part.Three e s t = absurd (true≢false (sym e))

-- which of its call blocks a station hears in a burst: that one, and its identity is of letters
abbrev block_of : Seven → Part → Words
block_of x Part.None = silence
block_of x Part.One = call3_block1 x
block_of x Part.Two = call3_block2 x
block_of x Part.Three = call3_block3 x

by_call3 : (P : Part → Type 0) (x : Seven) (w : Words) → P Part.None → ((p : Part) → is_callable7 x ≡ true → is_words w (block_of x p) ≡ true → P p) → P (call3_of x w)
unfolding call3_of
by_call3 P x w none is = go (is_callable7 x) (is_words w (call3_block1 x)) (is_words w (call3_block2 x)) (is_words w (call3_block3 x)) refl refl refl refl
  where
    go : (t a b c : Bool) → is_callable7 x ≡ t → is_words w (call3_block1 x) ≡ a → is_words w (call3_block2 x) ≡ b → is_words w (call3_block3 x) ≡ c → P (if t then (if a then Part.One else if b then Part.Two else if c then Part.Three else Part.None) else Part.None)
    go false a b c h e f g = none
    go true true b c h e f g = is Part.One h e
    go true false true c h e f g = is Part.Two h f
    go true false false true h e f g = is Part.Three h g
    go true false false false h e f g = none

same_part : (i x : Seven) (w : Words) → is_callable7 i ≡ true → CallBlock i w → Same i x (call3_of x w)
same_part i x w ci k = by_call3 (Same i x) x w tt (λ p cx e. go p k cx (words_are w (block_of x p) e))
  where
    -- RQ stands where the other block has a letter
    not_rq_lem : {A : Type 0} (v : ℕ) → is_identity v ≡ true → v ≡ rq → A
    not_rq_lem v l e = absurd (letter_is_not v rq l no_letter_rq e)

    go : (p : Part) {v : Words} → CallBlock i v → is_callable7 x ≡ true → (v.0 ≡ (block_of x p).0) × (v.1 ≡ (block_of x p).1) × (v.2 ≡ (block_of x p).2) → Same i x p
    go Part.None k cx a = tt
    go Part.One first cx a = (sym a.0, sym a.2)
    go Part.One second cx a = not_rq_lem x.0 (letter_at x cx IS1) (sym a.0)
    go Part.One third cx a = not_rq_lem i.5 (letter_at i ci IS6) a.1
    go Part.Two first cx a = not_rq_lem i.0 (letter_at i ci IS1) a.0
    go Part.Two second cx a = (sym a.1, sym a.2)
    go Part.Two third cx a = not_rq_lem i.4 (letter_at i ci IS5) a.0
    go Part.Three first cx a = not_rq_lem x.5 (letter_at x cx IS6) (sym a.1)
    go Part.Three second cx a = not_rq_lem x.4 (letter_at x cx IS5) (sym a.0)
    go Part.Three third cx a = (sym a.0, sym a.1, sym a.2)

pub same_heard_part : (i x : Seven) (w b : Words) → is_callable7 i ≡ true → CallBlock i w → Mangled w b → Same i x (call3_of x b)
same_heard_part i x w b ci k m = go (whole_call3 w b m x)
  where
    go : (call3_of x b ≡ Part.None) ⊎ (b ≡ w) → Same i x (call3_of x b)
    go (inl e) = subst (Same i x) (sym e) tt
    go (inr e) = subst (λ (v : Words). Same i x (call3_of x v)) (sym e) (same_part i x w ci k)

-- A burst that begins no call of three blocks, for its end, or for RQ that is everywhere in it or nowhere. Heard at Stand-by it is block 3 at
-- most, which begins nothing.
pub data Late (w : Words) : Type 0 where
  ends_otherwise : no_call w ≡ true → Late w
  all_or_none : (t : Bool) → AllOrNone t w → Late w

pub late_heard : (x : Seven) (w b : Words) → Late w → Mangled w b → heard_then Succession.None (call3_of x b) ≡ Succession.None
late_heard x w b (ends_otherwise q) m = ap (heard_then Succession.None) (no_call3 w q b m x)
late_heard x w b (all_or_none t a) m = begins_none3 t w a b m x

-- The identification blocks of y, and what each tells.
abbrev pub told_at : Seven → Stage → Told
told_at y Stage.One = block_1 y.0 y.1
told_at y Stage.Two = block_2 y.2 y.3
told_at y Stage.Three = block_3 y.4 y.5 y.6
told_at y Stage.Four = nothing_told

module _ (y : Seven) (c : is_callable7 y ≡ true) where
  abbrev no_α : (v : ℕ) → is_identity v ≡ true → eqb v alpha ≡ false
  no_α v l = letter_no v alpha l no_letter_alpha

  pub told_at_lem : (s : Stage) → told_in (identity_block y s) ≡ told_at y s
  unfolding told_in
  told_at_lem Stage.One = rw (letter_at y c IS1, letter_at y c IS2)
  told_at_lem Stage.Two = rw (no_letter_alpha, letter_at y c IS3, letter_at y c IS4)
  told_at_lem Stage.Three =
      rw (no_α y.4 (letter_at y c IS5), no_α y.5 (letter_at y c IS6), letter_at y c IS5, letter_at y c IS6, letter_at y c IS7)
  told_at_lem Stage.Four = rw no_letter_rq

  -- a call block of y ends in a letter, and tells nothing that begins identification
  pub call_ends : {w : Words} → CallBlock y w → is_identity w.2 ≡ true
  call_ends first = letter_at y c IS2
  call_ends second = letter_at y c IS4
  call_ends third = letter_at y c IS7

  pub call_no_first : {A : Type 0} {w : Words} → CallBlock y w → (P : Told → A) (a : A) → P nothing_told ≡ a → ((p q r : ℕ) → P (block_3 p q r) ≡ a) → P (told_in w) ≡ a
  unfolding told_in
  call_no_first first P a n t = ap P (rw (no_letter_rq, no_α y.0 (letter_at y c IS1), and-false (is_identity y.0))) ∙ n
  call_no_first second P a n t = ap P (rw no_letter_rq) ∙ n
  call_no_first third P a n t = ap P (told_at_lem Stage.Three) ∙ t y.4 y.5 y.6
