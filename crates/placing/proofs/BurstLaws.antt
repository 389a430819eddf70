-- Bursts and calls.
--     call_1, call_2, call_next     the call blocks of an identity that can be called are call bursts
--     block_no_call, asked_no_call, requests_no_call, single_no_call, told_no_call   what else a station sends is none, but for block 1 of a
--                                   three-block call
--     next_block_lem                the block that follows n of them is due as number n + 1
--     call_says, hears_1, hears_2   which of the own call blocks a burst is
-- Assumes nothing.
use mathlib.Core.Path.{◌≡◌, refl, ap, sym, ◌∙◌}
use mathlib.Core.Bool.{Bool, true, false, ◌&&◌, ◌||◌, true≢false, and-false, and-eq-true_iff}
use Prim.Native.Nat.{ℕ, suc, ◌%◌}
use native.Mathlib.Omega.{arith}
use lib.Dec.{eqb}
use borrow.Author.Tests.{eqb-true, eqb-false, eq-eqb, ne_eqb}
use Rattle.std.specs.Prelude.{if◌then◌else◌}
use Rattle.signals.specs.Meaning.{meaning_of, traffic_of, rq}
use Rattle.mode_a.specs.declared.Role.{Role}
use Rattle.mode_a.specs.declared.Role.TheVariants.{Master, Slave}
use Rattle.mode_a.specs.declared.Number.{Number}
use Rattle.mode_a.specs.declared.Number.TheVariants.{One, Two}
use Rattle.mode_a.specs.declared.Words.{Words}
use Rattle.mode_a.specs.declared.Mark.{Mark}
use Rattle.mode_a.specs.declared.Identity.{Identity}
use Rattle.identity.specs.declared.Seven.{Seven}
use Rattle.identity.specs.Table3.{is_identity}
use Rattle.identity.specs.Sums.{is_callable7}
use Rattle.mode_a.specs.declared.Stage.{Stage}
use Rattle.mode_a.specs.Identification.{identity_block}
use Rattle.mode_a.specs.Calls.{is_callable, call_block1, call_block2, next_block}
use Rattle.mode_a.specs.Station.{single, asks_for}
use Rattle.mode_a.specs.Heard.{may_hold, is_block, is_words, call_of}
use Rattle.mode_a.specs.Rows.{requests}
use Rattle.runs.proofs.LetterLaws.{letters_of}
use Rattle.runs.proofs.WordLaws.{same_words, words_same}
use Rattle.placing.specs.Runs.{is_call_burst, block_no}

-- all four signals of table 3a
pub record Callable (i : Identity) : Type 0 where
  pub first : is_identity i.0 ≡ true
  pub second : is_identity i.1 ≡ true
  pub third : is_identity i.2 ≡ true
  pub fourth : is_identity i.3 ≡ true

pub callable : (i : Identity) → is_callable i ≡ true → Callable i
unfolding is_callable
callable i e = go (is_identity i.0) (is_identity i.1) (is_identity i.2) (is_identity i.3) refl refl refl refl e
  where
    go : (a b c d : Bool) → is_identity i.0 ≡ a → is_identity i.1 ≡ b → is_identity i.2 ≡ c → is_identity i.3 ≡ d → a && (b && (c && d)) ≡ true → Callable i
    go true true true true p q r s e = record { first = p; second = q; third = r; fourth = s }
    go true true true false p q r s e = absurd (true≢false (sym e))
    go true true false d p q r s e = absurd (true≢false (sym e))
    go true false c d p q r s e = absurd (true≢false (sym e))
    go false b c d p q r s e = absurd (true≢false (sym e))

-- RQ is no identity signal
identity_no_rq : (w : ℕ) → is_identity w ≡ true → eqb w rq ≡ false
unfolding is_identity
identity_no_rq w e = ne_eqb w rq (λ z. true≢false (sym e ∙ ap is_identity z))

pub call_1 : (i : Identity) → is_callable i ≡ true → is_call_burst (call_block1 i) ≡ true
unfolding is_call_burst
call_1 i e = rw ((callable i e).first, (callable i e).second)

pub call_2 : (i : Identity) → is_callable i ≡ true → is_call_burst (call_block2 i) ≡ true
unfolding is_call_burst
call_2 i e = rw ((callable i e).third, identity_no_rq i.3 (callable i e).fourth, (callable i e).fourth)

pub call_next : (i : Identity) (n : ℕ) → is_callable i ≡ true → is_call_burst (next_block i n) ≡ true
unfolding next_block
call_next i n e = go (eqb (n % 2) 0)
  where
    go : (t : Bool) → is_call_burst (if t then call_block1 i else call_block2 i) ≡ true
    go true = call_1 i e
    go false = call_2 i e

-- "in turn"
pub next_block_lem : (i : Identity) (n : ℕ) → next_block i n ≡ block_no i (suc n)
unfolding next_block
next_block_lem i n = ap (λ (t : Bool). if t then call_block1 i else call_block2 i) (go (eqb (n % 2) 0) refl)
  where
    go : (t : Bool) → eqb (n % 2) 0 ≡ t → t ≡ eqb (suc n % 2) 1
    go true e = let h = eqb-true (n % 2) 0 e in sym (eq-eqb (suc n % 2) 1 (omega arith))
    go false e = let h = eqb-false (n % 2) 0 e in sym (ne_eqb (suc n % 2) 1 (λ z. h (omega arith)))

-- a block has no RQ
pub block_no_call : (w : Words) → is_block w ≡ true → is_call_burst w ≡ false
unfolding is_call_burst is_block may_hold traffic_of meaning_of
block_no_call w i = go (is_identity w.0) (eqb w.1 rq) (eqb w.2 rq) refl refl
  where
    two : (may_hold w.1 ≡ true) × (may_hold w.2 ≡ true)
    two = (and-eq-true_iff (may_hold w.1) (may_hold w.2)).0 ((and-eq-true_iff (may_hold w.0) (may_hold w.1 && may_hold w.2)).0 i).1

    go : (a x y : Bool) → eqb w.1 rq ≡ x → eqb w.2 rq ≡ y → a && (x && is_identity w.2 || is_identity w.1 && y) ≡ false
    go false x y p q = refl
    go true true y p q = absurd (true≢false (sym two.0 ∙ ap may_hold (eqb-true w.1 rq p)))
    go true false true p q = absurd (true≢false (sym two.1 ∙ ap may_hold (eqb-true w.2 rq q)))
    go true false false p q = and-false (is_identity w.1)

pub asked_no_call : (n : Number) → is_call_burst (asks_for n) ≡ false
unfolding is_call_burst is_identity
asked_no_call One = refl
asked_no_call Two = refl

pub requests_no_call : (r : Role) → is_call_burst (requests r) ≡ false
unfolding is_call_burst is_identity
requests_no_call Master = refl
requests_no_call Slave = refl

-- nor is a control signal, a check-sum or RQ alone, nor what identification sends
pub single_no_call : (w : ℕ) → is_call_burst (single w) ≡ false
unfolding is_call_burst is_identity
single_no_call w = and-false (is_identity w)

pub told_no_call : (y : Seven) (g : Stage) → is_callable7 y ≡ true → is_call_burst (identity_block y g) ≡ false
unfolding is_call_burst
told_no_call y Stage.One t = (unfold is_identity in and-false (is_identity y.0))
told_no_call y Stage.Two t = (unfold is_identity in refl)
told_no_call y Stage.Three t =
    rw (identity_no_rq y.5 (letters_of y t).sixth, identity_no_rq y.6 (letters_of y t).seventh, and-false (is_identity y.5)) (and-false (is_identity y.4))
told_no_call y Stage.Four t = (unfold is_identity in refl)

-- which of the own call blocks
abbrev pub Says : Identity → Words → Mark → Type 0
Says i b Mark.None = Unit {0}
Says i b Mark.One = (is_callable i ≡ true) × (b ≡ call_block1 i)
Says i b Mark.Two = (is_callable i ≡ true) × (b ≡ call_block2 i)

pub call_says : (i : Identity) (b : Words) → Says i b (call_of i b)
unfolding call_of
call_says i b = go (is_callable i) (is_words b (call_block1 i)) (is_words b (call_block2 i)) refl refl refl
  where
    go : (t x y : Bool) → is_callable i ≡ t → is_words b (call_block1 i) ≡ x → is_words b (call_block2 i) ≡ y → Says i b (if t then (if x then Mark.One else if y then Mark.Two else Mark.None) else Mark.None)
    go true true y p q r = (p, same_words b (call_block1 i) q)
    go true false true p q r = (p, same_words b (call_block2 i) r)
    go true false false p q r = tt
    go false x y p q r = tt

pub hears_1 : (i : Identity) → is_callable i ≡ true → call_of i (call_block1 i) ≡ Mark.One
unfolding call_of
hears_1 i e = rw (e, words_same (call_block1 i))

pub hears_2 : (i : Identity) → is_callable i ≡ true → call_of i (call_block2 i) ≡ Mark.Two
unfolding call_of is_words
hears_2 i e = go (eqb i.2 i.0) (identity_no_rq i.3 (callable i e).fourth)
  where
    go : (t : Bool) → eqb i.3 rq ≡ false → (if is_callable i then (if t && (eqb i.3 rq && eqb rq i.1) then Mark.One else if is_words (call_block2 i) (call_block2 i) then Mark.Two else Mark.None) else Mark.None) ≡ Mark.Two
    go true z = rw (e, z, words_same (call_block2 i))
    go false z = rw (e, words_same (call_block2 i))
