-- The earliest bad word, and the earliest RQ, of the first so many of three words. Assumes nothing.
use mathlib.Core.Path.{◌≡◌, refl, ap, sym, ◌∙◌}
use mathlib.Core.Bool.{Bool, true, false, not, ◌&&◌}
use mathlib.Core.List.{List, [], ◌∷◌}
use Prim.Native.Nat.{ℕ, zero, suc, ◌<◌, ◌≤◌}
use native.Mathlib.Omega.{arith}
use lib.Dec.{eqb, ltb}
use lib.ListN.{length, take, get_or}
use lib.Seq.{length-take-le, get_or-take}
use borrow.Author.Tests.{lt-ltb, le-ltb, ltb-true, ltb-false, ne_eqb}
use Rattle.std.specs.Prelude.{if◌then◌else◌}
use Rattle.signals.specs.Units.{intact_of}
use Rattle.signals.specs.Signals.{Signal, signals, word_of}
use Rattle.signals.specs.Meaning.{number_in, meaning_of, traffic_of, beta}
use Rattle.signals.specs.Numbers.{first_not}
use Rattle.mode_a.specs.declared.Words.{Words}
use Rattle.mode_a.specs.Station.{list_of}
use Rattle.mode_a.specs.Heard.{may_hold, is_block}
use Rattle.mode_a.proofs.HeardLaws.{may_hold_is}
use Rattle.reasons.specs.declared.Reason.{Reason}
use Rattle.reasons.specs.Reasons.{not_rq, judged}

and_left : (a b : Bool) → a && b ≡ true → a ≡ true
and_left true b e = refl
and_left false b e = e

and_right : (a b : Bool) → a && b ≡ true → b ≡ true
and_right true b e = e
and_right false b e = cc

-- the first of three that fails, as it is told by the three tests
pub first_of_three : (may : ℕ → Bool) (x y z : ℕ) → (if may x then if may y then if may z then 3 else 2 else 1 else 0) ≡ first_not may (x ∷ y ∷ z ∷ [])
unfolding first_not
first_of_three may x y z = go (may x) (may y) (may z)
  where
    go : (a b c : Bool) → (if a then if b then if c then 3 else 2 else 1 else 0) ≡ (if a then suc (if b then suc (if c then 1 else 0) else 0) else 0)
    go true true true = refl
    go true true false = refl
    go true false c = refl
    go false b c = refl

-- of the first n entries: the first that fails, where it is among them, and none, where it is not
module _ (may : ℕ → Bool) where
  within : (l : List ℕ) (n : ℕ) → first_not may l < n → first_not may (take n l) ≡ first_not may l
  unfolding first_not
  within l zero h = absurd (omega arith)
  within [] (suc n) h = refl
  within (x ∷ xs) (suc n) h = go (may x) (within xs n) h
    where
      go : (t : Bool) → (first_not may xs < n → first_not may (take n xs) ≡ first_not may xs) → (if t then suc (first_not may xs) else 0) < suc n → (if t then suc (first_not may (take n xs)) else 0) ≡ (if t then suc (first_not may xs) else 0)
      go true rest k = ap suc (rest (omega arith))
      go false rest k = refl

  beyond : (l : List ℕ) (n : ℕ) → n ≤ first_not may l → n ≤ first_not may (take n l)
  unfolding first_not
  beyond l zero h = omega arith
  beyond [] (suc n) h = absurd (omega arith)
  beyond (x ∷ xs) (suc n) h = go (may x) (beyond xs n) h
    where
      go : (t : Bool) → (n ≤ first_not may xs → n ≤ first_not may (take n xs)) → suc n ≤ (if t then suc (first_not may xs) else 0) → suc n ≤ (if t then suc (first_not may (take n xs)) else 0)
      go true rest k = omega (arith, rest (omega arith))
      go false rest k = absurd (omega arith)

-- i is the index of the first bad word and j that of the first RQ, of all the words; n of them are read
module _ (l : List ℕ) (n : ℕ) (fits : n ≤ length l) where
  fails : (may : ℕ → Bool) → first_not may l < n → ltb (first_not may (take n l)) (length (take n l)) ≡ true
  fails may h = lt-ltb (first_not may (take n l)) (length (take n l)) (omega (arith, within may l n h, length-take-le n l fits))

  passes : (may : ℕ → Bool) → n ≤ first_not may l → ltb (first_not may (take n l)) (length (take n l)) ≡ false
  passes may h = le-ltb (first_not may (take n l)) (length (take n l)) (omega (arith, beyond may l n h, length-take-le n l fits))

  module _ (i : ℕ) (ei : i ≡ first_not intact_of l) where
    pub is_bad : i < n → (w : ℕ) → w ≡ get_or l i 0 → Reason.Bad i w ≡ judged (take n l) Reason.Unexpected
    is_bad h w ew =
        let k : first_not intact_of l < n = omega arith in
        rw (fails intact_of k, within intact_of l n k, ← ei, get_or-take n l i 0 h, ← ew)

    module _ (h : n ≤ i) (j : ℕ) (ej : j ≡ first_not not_rq l) where
      pub is_rq_lem : j < n → Reason.Repeat j ≡ judged (take n l) Reason.Unexpected
      is_rq_lem m =
          let k : first_not not_rq l < n = omega arith in
          rw (passes intact_of (omega arith), fails not_rq k, within not_rq l n k, ← ej)

      pub is_neither : n ≤ j → Reason.Unexpected ≡ judged (take n l) Reason.Unexpected
      is_neither m = rw (passes intact_of (omega arith), passes not_rq (omega arith))

-- What may stand in a block is intact, and is not RQ: of a byte as listed, and no greater number is a word
abbrev bytes : List Signal → Bool
bytes [] = true
bytes (s ∷ ss) = ltb (word_of s) 256 && bytes ss

no_word : (ss : List Signal) (n w : ℕ) → bytes ss ≡ true → 256 ≤ w → number_in ss n w ≡ 0
no_word [] n w t h = refl
no_word (s ∷ ss) n w t h =
    let k = ltb-true (word_of s) 256 (and_left (ltb (word_of s) 256) (bytes ss) t) in
    rw (ne_eqb w (word_of s) (λ e. omega (arith, k))) (no_word ss (suc n) w (and_right (ltb (word_of s) 256) (bytes ss) t) h)

no_more : (w : ℕ) → 256 ≤ w → may_hold w ≡ false
unfolding may_hold traffic_of meaning_of
no_more w h = rw (no_word signals 1 w refl h, ne_eqb w beta (λ e. omega arith))

held : (w : ℕ) → may_hold w ≡ true → (intact_of w ≡ true) × (not_rq w ≡ true)
held w e = go (ltb w 256) refl
  where
    listed : (a p q : Bool) → ((a && not p) && not q) ≡ true → (a ≡ true) × (not q ≡ true)
    listed true true q k = (cc, cc)
    listed true false true k = (cc, cc)
    listed true false false k = (refl, refl)
    listed false p q k = (cc, cc)

    go : (t : Bool) → ltb w 256 ≡ t → (intact_of w ≡ true) × (not_rq w ≡ true)
    go true k = listed (intact_of w) (eqb w 15) (eqb w 102) (sym (may_hold_is w (ltb-true w 256 k)) ∙ e)
    go false k = let z = sym (no_more w (ltb-false w 256 k)) ∙ e in (cc, cc)

pub block_judged : (b : Words) (r : Reason) → is_block b ≡ true → judged (list_of b) r ≡ r
unfolding first_not is_block
block_judged b r e =
    let x = held b.0 (and_left (may_hold b.0) (may_hold b.1 && may_hold b.2) e) in
    let f = and_right (may_hold b.0) (may_hold b.1 && may_hold b.2) e in
    let y = held b.1 (and_left (may_hold b.1) (may_hold b.2) f) in
    let z = held b.2 (and_right (may_hold b.1) (may_hold b.2) f) in
    rw (x.0, y.0, z.0, x.1, y.1, z.1)
