-- What the check-sums tell of a wrong identity, and what they do not; `Strength` has the statements.
--     tables_agree      tables 3a and 3b, each read back by the other
--     letter_at         of an identity whose seven signals are letters, the one at a place
--     one_letter        one wrong letter is told
--     exchange_unseen   of two letters exchanged, which pairs are not
-- The seven numbers of an identity are taken as a function of the place. A check-sum is the sum of those that it counts, modulo 20, and
-- another letter at one place changes that sum by what the place adds.
-- Assumes nothing.
use mathlib.Core.Path.{◌≡◌, refl, ap, sym, ◌∙◌}
use mathlib.Core.Bool.{Bool, true, false, ◌&&◌, ◌||◌, true≢false, and-eq-true_iff}
use mathlib.Core.Logic.{◌↔◌, ◌≢◌}
use Prim.Native.Nat.{ℕ, ◌+◌, ◌%◌, ◌<◌}
use native.Mathlib.Omega.{arith}
use lib.Dec.{eqb, leb}
use borrow.Author.Tests.{eqb-true, eqb-false, eq-eqb, ne_eqb}
use Rattle.std.specs.Prelude.{if◌then◌else◌}
use Rattle.identity.specs.declared.Seven.{Seven}
use Rattle.identity.specs.Table3.{is_identity, number_of, signal_of}
use Rattle.identity.specs.Sums.{is_callable7, check_sum1, check_sum2, check_sum3}
use Rattle.identity.specs.Strength.{Place7, IS1, IS2, IS3, IS4, IS5, IS6, IS7, signal_at, twin}
use Rattle.identity.specs.Strength.{TablesAgree, SameSums, DifferAt, OneLetter, ExchangedAt, ExchangeUnseen}
use Rattle.identity.proofs.TableLaws.{number_of_signal, signal_is_letter, letter_read_back, number_lt}
use Rattle.identity.proofs.SumLaws.{check_sum_number, check_sum_letter}

pub tables_agree : TablesAgree
tables_agree = record {
  number_back = number_of_signal;
  signal_letter = signal_is_letter;
  signal_back = λ w e. (letter_read_back w e).0;
  number_below = λ w e. (letter_read_back w e).1;
}

-- what is so at each of the seven places is so at every place
abbrev Seven_times : (Place7 → Type 0) → Type 0
Seven_times P = P IS1 × P IS2 × P IS3 × P IS4 × P IS5 × P IS6 × P IS7

at_place : (P : Place7 → Type 0) → Seven_times P → (p : Place7) → P p
at_place P h IS1 = h.0
at_place P h IS2 = h.1
at_place P h IS3 = h.2
at_place P h IS4 = h.3
at_place P h IS5 = h.4
at_place P h IS6 = h.5
at_place P h IS7 = h.6

pub letter_at : (i : Seven) → is_callable7 i ≡ true → (p : Place7) → is_identity (signal_at p i) ≡ true
unfolding is_callable7
letter_at i all =
    let a = (and-eq-true_iff (is_identity i.0) _).0 all in
    let b = (and-eq-true_iff (is_identity i.1) _).0 a.1 in
    let c = (and-eq-true_iff (is_identity i.2) _).0 b.1 in
    let d = (and-eq-true_iff (is_identity i.3) _).0 c.1 in
    let e = (and-eq-true_iff (is_identity i.4) _).0 d.1 in
    let f = (and-eq-true_iff (is_identity i.5) _).0 e.1 in
    at_place (λ p. is_identity (signal_at p i) ≡ true) (a.0, b.0, c.0, d.0, e.0, f.0, f.1)

-- letters with the same number are the same
like_letters : (x y : ℕ) → is_identity x ≡ true → is_identity y ≡ true → number_of x ≡ number_of y → x ≡ y
like_letters x y a b e = sym (letter_read_back x a).0 ∙ ap signal_of e ∙ (letter_read_back y b).0

data Sum : Type 0 where
  CN1 CN2 CN3 : Sum

abbrev sum_of : Sum → Seven → ℕ
sum_of CN1 i = check_sum1 i
sum_of CN2 i = check_sum2 i
sum_of CN3 i = check_sum3 i

abbrev nth : Place7 → ℕ
nth IS1 = 1
nth IS2 = 2
nth IS3 = 3
nth IS4 = 4
nth IS5 = 5
nth IS6 = 6
nth IS7 = 7

-- the places that a sum counts
abbrev counts : Sum → Place7 → Bool
counts CN1 p = leb (nth p) 3
counts CN2 p = leb 3 (nth p) && leb (nth p) 5
counts CN3 p = leb 5 (nth p)

-- what a place adds to a sum
abbrev adds : Bool → ℕ → ℕ
adds t n = if t then n else 0

abbrev part : Sum → Seven → Place7 → ℕ
part k i p = adds (counts k p) (number_of (signal_at p i))

abbrev total : (Place7 → ℕ) → ℕ
total f = f IS1 + f IS2 + f IS3 + f IS4 + f IS5 + f IS6 + f IS7

sum_is : (k : Sum) (i : Seven) → number_of (sum_of k i) ≡ total (part k i) % 20
sum_is CN1 i = omega (arith, check_sum_number i.0 i.1 i.2)
sum_is CN2 i = omega (arith, check_sum_number i.2 i.3 i.4)
sum_is CN3 i = omega (arith, check_sum_number i.4 i.5 i.6)

abbrev same : Place7 → Place7 → Bool
same p q = eqb (nth p) (nth q)

place : ℕ → Place7
place n =
    if eqb n 1 then IS1
    else if eqb n 2 then IS2
    else if eqb n 3 then IS3
    else if eqb n 4 then IS4
    else if eqb n 5 then IS5
    else if eqb n 6 then IS6
    else IS7

place_nth : (p : Place7) → place (nth p) ≡ p
unfolding place
place_nth = at_place (λ p. place (nth p) ≡ p) (refl, refl, refl, refl, refl, refl, refl)

same_true : (p q : Place7) → same p q ≡ true → p ≡ q
same_true p q t = sym (place_nth p) ∙ ap place (eqb-true (nth p) (nth q) t) ∙ place_nth q

same_false : (p q : Place7) → same p q ≡ false → p ≢ q
same_false p q f e = eqb-false (nth p) (nth q) f (ap nth e)

differ_false : (p q : Place7) → p ≢ q → same p q ≡ false
differ_false p q n = ne_eqb (nth p) (nth q) (λ e. n (same_true p q (eq-eqb (nth p) (nth q) e)))

-- two rows of seven that are the same but at one place
moved : (p : Place7) (a b : Place7 → ℕ) → ((r : Place7) → same r p ≡ false → a r ≡ b r) → total b + a p ≡ total a + b p
moved IS1 a b h = omega (arith, h IS2 refl, h IS3 refl, h IS4 refl, h IS5 refl, h IS6 refl, h IS7 refl)
moved IS2 a b h = omega (arith, h IS1 refl, h IS3 refl, h IS4 refl, h IS5 refl, h IS6 refl, h IS7 refl)
moved IS3 a b h = omega (arith, h IS1 refl, h IS2 refl, h IS4 refl, h IS5 refl, h IS6 refl, h IS7 refl)
moved IS4 a b h = omega (arith, h IS1 refl, h IS2 refl, h IS3 refl, h IS5 refl, h IS6 refl, h IS7 refl)
moved IS5 a b h = omega (arith, h IS1 refl, h IS2 refl, h IS3 refl, h IS4 refl, h IS6 refl, h IS7 refl)
moved IS6 a b h = omega (arith, h IS1 refl, h IS2 refl, h IS3 refl, h IS4 refl, h IS5 refl, h IS7 refl)
moved IS7 a b h = omega (arith, h IS1 refl, h IS2 refl, h IS3 refl, h IS4 refl, h IS5 refl, h IS6 refl)

-- a check-sum is a letter, so two are the same exactly where their sums are, modulo 20
sum_letter : (k : Sum) (i : Seven) → is_identity (sum_of k i) ≡ true
sum_letter CN1 i = check_sum_letter i.0 i.1 i.2
sum_letter CN2 i = check_sum_letter i.2 i.3 i.4
sum_letter CN3 i = check_sum_letter i.4 i.5 i.6

module _ (k : Sum) (i j : Seven) where
  sums_there : sum_of k i ≡ sum_of k j → total (part k i) % 20 ≡ total (part k j) % 20
  sums_there e = sym (sum_is k i) ∙ ap number_of e ∙ sum_is k j

  sums_back : total (part k i) % 20 ≡ total (part k j) % 20 → sum_of k i ≡ sum_of k j
  sums_back e = like_letters (sum_of k i) (sum_of k j) (sum_letter k i) (sum_letter k j) (sum_is k i ∙ e ∙ sym (sum_is k j))

part_same : (k : Sum) (i j : Seven) (r : Place7) → signal_at r i ≡ signal_at r j → part k i r ≡ part k j r
part_same k i j r e = ap (λ (w : ℕ). adds (counts k r) (number_of w)) e

-- a sum that counts a place tells the letters there apart
told : (s t x y : ℕ) → x < 20 → y < 20 → t + x ≡ s + y → s % 20 ≡ t % 20 → x ≡ y
told s t x y f g e h = omega arith

sees : (k : Sum) (p : Place7) → counts k p ≡ true → (i j : Seven) → DifferAt p i j → sum_of k i ≡ sum_of k j → ⊥
sees k p c i j d e =
    let m = moved p (part k i) (part k j) (λ r n. part_same k i j r (d.elsewhere r (same_false r p n))) in
    d.unlike
    (like_letters _ _ d.letters.0 d.letters.1
    (told _ _ _ _ (number_lt (signal_at p i)) (number_lt (signal_at p j)) (rw c at m) (sums_there k i j e)))

pub one_letter : OneLetter
one_letter IS1 i j d s = sees CN1 IS1 refl i j d s.sums_1
one_letter IS2 i j d s = sees CN1 IS2 refl i j d s.sums_1
one_letter IS3 i j d s = sees CN1 IS3 refl i j d s.sums_1
one_letter IS4 i j d s = sees CN2 IS4 refl i j d s.sums_2
one_letter IS5 i j d s = sees CN2 IS5 refl i j d s.sums_2
one_letter IS6 i j d s = sees CN3 IS6 refl i j d s.sums_3
one_letter IS7 i j d s = sees CN3 IS7 refl i j d s.sums_3

-- a sum tells that two unlike letters were exchanged exactly where it counts one of the places and not the other
weighs : (a b : Bool) (s t x y : ℕ) → x < 20 → y < 20 → x ≢ y → t + (adds a x + adds b y) ≡ s + (adds a y + adds b x) →
    (s % 20 ≡ t % 20) ↔ (a ≡ b)
weighs true true s t x y f g n e = (λ h. refl, λ h. omega arith)
weighs true false s t x y f g n e = (λ h. absurd (omega arith), λ h. absurd (true≢false h))
weighs false true s t x y f g n e = (λ h. absurd (omega arith), λ h. absurd (true≢false (sym h)))
weighs false false s t x y f g n e = (λ h. refl, λ h. omega arith)

module _ (p q : Place7) (i j : Seven) (e : ExchangedAt p q i j) where
  two_places : p ≢ q
  two_places h = e.unlike (ap (λ (r : Place7). signal_at r i) h)

  module _ (k : Sum) where
    -- the first letter is put in its new place, and then the second
    between : Place7 → ℕ
    between r = if same r p then part k j p else part k i r

    first : (r : Place7) → same r p ≡ false → part k i r ≡ between r
    unfolding between
    first r n = rw n

    second : (r : Place7) → same r q ≡ false → between r ≡ part k j r
    unfolding between
    second r n = go (same r p) refl
      where
        go : (b : Bool) → same r p ≡ b → (if b then part k j p else part k i r) ≡ part k j r
        go true t = ap (λ (r : Place7). part k j r) (sym (same_true r p t))
        go false f = part_same k i j r (e.elsewhere r (same_false r p f) (same_false r q n))

    between_p : between p ≡ part k j p
    unfolding between
    between_p = rw (eq-eqb (nth p) (nth p) refl)

    between_q : between q ≡ part k i q
    unfolding between
    between_q = rw (differ_false q p (λ h. two_places (sym h)))

    totals : total (part k j) + (part k i p + part k i q) ≡ total (part k i) + (part k j p + part k j q)
    totals =
        let one = moved p (part k i) between first in
        let two = moved q between (part k j) second in
        omega (arith, between_p, between_q)

    exchange_seen : (sum_of k i ≡ sum_of k j) ↔ (counts k p ≡ counts k q)
    exchange_seen =
        let x = number_of (signal_at p i) in
        let y = number_of (signal_at q i) in
        let there : part k j p ≡ adds (counts k p) y = ap (λ (w : ℕ). adds (counts k p) (number_of w)) e.there in
        let back : part k j q ≡ adds (counts k q) x = ap (λ (w : ℕ). adds (counts k q) (number_of w)) e.back in
        let unlike : x ≢ y = λ h. e.unlike (like_letters _ _ e.letters.0 e.letters.1 h) in
        let told = rw (there, back) at totals in
        let w = weighs (counts k p) (counts k q) _ _ x y (number_lt (signal_at p i)) (number_lt (signal_at q i)) unlike told in
        (λ h. w.0 (sums_there k i j h), λ h. sums_back k i j (w.1 h))

-- the sums that count a place, as a number; of all 49 pairs, two places have the same exactly where they are one, or twins
abbrev key : Place7 → ℕ
key p = adds (counts CN1 p) 4 + adds (counts CN2 p) 2 + adds (counts CN3 p) 1

abbrev Alike : Place7 → Place7 → Type 0
Alike p q = eqb (key p) (key q) ≡ (same p q || same q (twin p))

alike : (p q : Place7) → Alike p q
alike p =
    at_place (Alike p)
    (at_place
    (λ p. Seven_times (Alike p)) (
      (refl, refl, refl, refl, refl, refl, refl),
      (refl, refl, refl, refl, refl, refl, refl),
      (refl, refl, refl, refl, refl, refl, refl),
      (refl, refl, refl, refl, refl, refl, refl),
      (refl, refl, refl, refl, refl, refl, refl),
      (refl, refl, refl, refl, refl, refl, refl),
      (refl, refl, refl, refl, refl, refl, refl),
    )
    p)

pub exchange_unseen : ExchangeUnseen
exchange_unseen p q i j e = (forth, back)
  where
    seen : (k : Sum) → (sum_of k i ≡ sum_of k j) ↔ (counts k p ≡ counts k q)
    seen k = exchange_seen p q i j e k

    forth : SameSums i j → q ≡ twin p
    forth s =
        let k : key p ≡ key q = rw ((seen CN1).0 s.sums_1, (seen CN2).0 s.sums_2, (seen CN3).0 s.sums_3) in
        same_true q (twin p) (rw (eq-eqb (key p) (key q) k, differ_false p q (two_places p q i j e)) at (sym (alike p q)))

    back : q ≡ twin p → SameSums i j
    back t = record {
      sums_1 = (seen CN1).1 (rw t (at_place (λ p. counts CN1 p ≡ counts CN1 (twin p)) (refl, refl, refl, refl, refl, refl, refl) p));
      sums_2 = (seen CN2).1 (rw t (at_place (λ p. counts CN2 p ≡ counts CN2 (twin p)) (refl, refl, refl, refl, refl, refl, refl) p));
      sums_3 = (seen CN3).1 (rw t (at_place (λ p. counts CN3 p ≡ counts CN3 (twin p)) (refl, refl, refl, refl, refl, refl, refl) p));
    }
