-- Nothing, one signal, and some signals behind others. Assumes nothing.
use mathlib.Core.Path.{◌≡◌, refl, ap, sym, ◌∙◌}
use mathlib.Core.Bool.{Bool, true, false, ◌&&◌}
use mathlib.Core.List.{List, [], ◌∷◌, ◌++◌, append-nil}
use Prim.Native.Nat.{ℕ, ◌+◌, ◌≤◌}
use native.Mathlib.Nat.{add-zero, add_assoc}
use native.Mathlib.Omega.{arith}
use lib.Dec.{eqb}
use lib.ListN.{length, set, length-append}
use lib.Seq.{sets}
use borrow.Author.Tests.{ne_eqb}
use Rattle.std.specs.Prelude.{if◌then◌else◌}
use Rattle.laws.proofs.Writes.{sets_append}
use Rattle.text.specs.Printing.{bytes_of, case_at, printed, ends_printed}
use Rattle.text.proofs.WalkLaws.{all_append, ends_append}
use Rattle.text.proofs.PrintingLaws.{printed_walk}
use Rattle.judging.proofs.SizeLaws.{at_most}
use Rattle.mode_a.specs.declared.Words.{Words}
use Rattle.runs.specs.Circuit.{without_zeros}
use Rattle.signals.specs.declared.Case.{Case}
use Rattle.typing.specs.declared.Typed.{Typed}
use Rattle.typing.specs.Typing.{signal_in, signals_in, typed_on, Types}

-- the words of a step's print, one by one
without_more : (w : ℕ) (ws : List ℕ) → without_zeros (w ∷ ws) ≡ signal_in w ++ without_zeros ws
without_more w ws = by (eqb w 0)
  where
    by : (t : Bool) → (if t then without_zeros ws else w ∷ without_zeros ws) ≡ (if t then [] else w ∷ []) ++ without_zeros ws
    by true = refl
    by false = refl

pub one_by_one : (w : Words) → signals_in w ≡ signal_in w.0 ++ (signal_in w.1 ++ signal_in w.2)
one_by_one w =
    without_more w.0 (w.1 ∷ w.2 ∷ []) ∙ ap (λ (l : List ℕ). signal_in w.0 ++ l) (without_more w.1 (w.2 ∷ []))

one_at_most : (w : ℕ) → length (signal_in w) ≤ 1
one_at_most w = by (eqb w 0)
  where
    by : (t : Bool) → length (if t then [] else w ∷ []) ≤ 1
    by true = omega arith
    by false = omega arith

-- a signal prints one byte at most
pub one_more : (w : ℕ) (t r : Typed) → r ≡ typed_on t (signal_in w) → r.to ≤ t.to + 1
one_more w t r e = omega (arith, ap (λ (u : Typed). u.to) e, at_most t.case (signal_in w), one_at_most w)

pub none_in : (w : ℕ) → w ≡ 0 → signal_in w ≡ []
none_in w e = rw e

pub one_in : (w : ℕ) → (w ≡ 0 → ⊥) → signal_in w ≡ w ∷ []
one_in w f = rw (ne_eqb w 0 f)

-- nothing is put
pub types_none : (t : Typed) (write : Bool) (room : List ℕ) → Types [] t write room t room
types_none t write room =
    (sym (rw (printed_walk.nil t.case, printed_walk.ends_nil t.case, add-zero t.to)), rw (printed_walk.nil t.case) (by write))
  where
    by : (b : Bool) → room ≡ (if b then sets room t.to [] else room)
    by true = refl
    by false = refl

-- one signal
one_prints : (c : Case) (w : ℕ) → printed c (w ∷ []) ≡ bytes_of c w
one_prints c w = printed_walk.cons c w [] ∙ rw (printed_walk.nil (case_at c w)) (append-nil (bytes_of c w))

one_ends : (c : Case) (w : ℕ) → ends_printed c (w ∷ []) ≡ case_at c w
one_ends c w = printed_walk.ends_cons c w [] ∙ printed_walk.ends_nil (case_at c w)

module _ (t : Typed) (w : ℕ) (write : Bool) (room : List ℕ) where
  -- without a byte
  pub types_silent : bytes_of t.case w ≡ [] → Types (w ∷ []) t write room (record { to = t.to; case = case_at t.case w }) room
  types_silent e =
      (rw (one_prints t.case w, one_ends t.case w, e, add-zero t.to), rw (one_prints t.case w, e) (by write))
    where
      by : (b : Bool) → room ≡ (if b then sets room t.to [] else room)
      by true = refl
      by false = refl

  -- with one, which is stored or, where the room has no place for it, dropped
  pub types_byte : {g : ℕ} {after : List ℕ} → bytes_of t.case w ≡ g ∷ [] → after ≡ (if write then set room t.to g else room) →
      Types (w ∷ []) t write room (record { to = t.to + 1; case = case_at t.case w }) after
  types_byte {g} e a =
      (rw (one_prints t.case w, one_ends t.case w, e), rw (one_prints t.case w, e) (a ∙ by write))
    where
      by : (b : Bool) → (if b then set room t.to g else room) ≡ (if b then sets room t.to (g ∷ []) else room)
      by true = refl
      by false = refl

-- a byte is stored where it is to be written and the room reaches so far, and else dropped
pub stored : (write fits : Bool) (room : List ℕ) (at g : ℕ) → (write && fits) ≡ true → set room at g ≡ (if write then set room at g else room)
stored true fits room at g e = refl
stored false fits room at g e = cc

pub dropped : (write fits : Bool) (room : List ℕ) (at g : ℕ) → (write && fits) ≡ false → (fits ≡ false → set room at g ≡ room) → room ≡ (if write then set room at g else room)
dropped true fits room at g e f = sym (f e)
dropped false fits room at g e f = refl

-- some signals behind others
module _ (ss us : List ℕ) (t : Typed) where
  both_print : length (printed t.case (ss ++ us)) ≡ length (printed t.case ss) + length (printed (ends_printed t.case ss) us)
  both_print =
      ap (λ (l : List ℕ). length l) (all_append printed ends_printed bytes_of case_at printed_walk t.case ss us)
      ∙ length-append (printed t.case ss) (printed (ends_printed t.case ss) us)

  both_typed : typed_on (typed_on t ss) us ≡ typed_on t (ss ++ us)
  both_typed =
      rw (both_print, ends_append printed ends_printed bytes_of case_at printed_walk t.case ss us, add_assoc t.to (length (printed t.case ss)) (length (printed (ends_printed t.case ss) us)))

  pub types_then : (write : Bool) (room mid after : List ℕ) (r s : Typed) → Types ss t write room r mid → Types us r write mid s after →
      Types (ss ++ us) t write room s after
  types_then write room mid after r s a b = (
    b.0 ∙ ap (λ (u : Typed). typed_on u us) a.0 ∙ both_typed,
    rw (a.0, a.1) at b.1 ∙ by write,
  )
    where
      by : (v : Bool) →
          (if v then sets (if v then sets room t.to (printed t.case ss) else room) (t.to + length (printed t.case ss)) (printed (ends_printed t.case ss) us) else (if v then sets room t.to (printed t.case ss) else room))
          ≡ (if v then sets room t.to (printed t.case (ss ++ us)) else room)
      by true =
          sets_append room t.to (printed t.case ss) (printed (ends_printed t.case ss) us)
          ∙ ap (λ (l : List ℕ). sets room t.to l) (sym (all_append printed ends_printed bytes_of case_at printed_walk t.case ss us))
      by false = refl
