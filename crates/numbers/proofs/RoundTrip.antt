-- What is written reads back (docs/FORMATS.md, "Numbers in, numbers out").
--     decimal_reads        the digits of a number below 256 are that number
--     written_reads_back   what is written lists the words, every one below 256, and no fault
-- Assumes nothing.
use mathlib.Core.Path.{◌≡◌, refl, ap, ◌∙◌}
use mathlib.Core.Bool.{Bool, true, false, not, ◌&&◌, ◌||◌}
use mathlib.Core.List.{List, [], ◌∷◌, ◌++◌}
use mathlib.Core.Option.{none}
use Prim.Native.Nat.{ℕ, suc, ◌+◌, ◌%◌, ◌<◌}
use native.Mathlib.Omega.{arith}
use lib.Dec.{T, eqb, eqb→eq}
use lib.ListN.{length, get_or}
use Rattle.std.specs.Prelude.{if◌then◌else◌}
use Rattle.laws.proofs.Below.{at_below, both_left, both_right}
use Rattle.numbers.specs.Reading.{is_white, is_digit, up_to_white, Run, runs_from, leading_digits, value_of, Judged, number, over, no_digit, judged, listed, listing}
use Rattle.numbers.specs.Writing.{decimal, behind, is_last, written_from, written}

-- The digits of a word are a run, which is that number: a test computed at each of the 256.
all_black : List ℕ → Bool
all_black [] = true
all_black (b ∷ bs) = not (is_white b) && all_black bs

is_begun : List ℕ → Bool
is_begun [] = false
is_begun (b ∷ bs) = true

is_number : ℕ → Judged → Bool
is_number n (number m) = eqb m n
is_number n over = false
is_number n no_digit = false

is_number→ : (n : ℕ) (j : Judged) → T (is_number n j) → j ≡ number n
unfolding is_number
is_number→ n (number m) t = ap number (eqb→eq m n t)
is_number→ n over t = absurd t
is_number→ n no_digit t = absurd t

is_decimal : ℕ → Bool
is_decimal n = is_begun (decimal n) && (all_black (decimal n) && is_number n (judged (decimal n)))

decimal_is : (n : ℕ) → n < 256 → T (is_decimal n)
unfolding is_decimal is_begun all_black is_number decimal judged leading_digits value_of is_digit is_white
decimal_is n h = at_below is_decimal 256 tt n h

module _ (n : ℕ) (h : n < 256) where
  begun : T (is_begun (decimal n))
  unfolding is_decimal
  begun = both_left (is_begun (decimal n)) (all_black (decimal n) && is_number n (judged (decimal n))) (decimal_is n h)

  black_and_number : T (all_black (decimal n) && is_number n (judged (decimal n)))
  unfolding is_decimal
  black_and_number = both_right (is_begun (decimal n)) (all_black (decimal n) && is_number n (judged (decimal n))) (decimal_is n h)

  black : T (all_black (decimal n))
  black = both_left (all_black (decimal n)) (is_number n (judged (decimal n))) black_and_number

  pub decimal_reads : judged (decimal n) ≡ number n
  decimal_reads = is_number→ n (judged (decimal n)) (both_right (all_black (decimal n)) (is_number n (judged (decimal n))) black_and_number)

-- a run, and the white space behind it
not→ : (t : Bool) → T (not t) → t ≡ false
not→ true h = absurd h
not→ false h = refl

module _ (s : ℕ) (w : is_white s ≡ true) (rest : List ℕ) where
  run_is : (run : List ℕ) → T (all_black run) → up_to_white (run ++ s ∷ rest) ≡ run
  unfolding up_to_white all_black
  run_is [] t = rw w
  run_is (b ∷ bs) t =
      rw (not→ (is_white b) (both_left (not (is_white b)) (all_black bs) t))
      (ap (λ (l : List ℕ). b ∷ l) (run_is bs (both_right (not (is_white b)) (all_black bs) t)))

  run_past : (run : List ℕ) (p : ℕ) → T (all_black run) → runs_from p false (run ++ s ∷ rest) ≡ runs_from (p + suc (length run)) true rest
  unfolding runs_from all_black
  run_past [] p t = rw w
  run_past (b ∷ bs) p t =
      let e : p + 1 + suc (length bs) ≡ p + suc (suc (length bs)) = omega arith in
      rw (not→ (is_white b) (both_left (not (is_white b)) (all_black bs) t))
      (run_past bs (p + 1) (both_right (not (is_white b)) (all_black bs) t) ∙ ap (λ (k : ℕ). runs_from k true rest) e)

  run_first : (run : List ℕ) (p : ℕ) → T (is_begun run) → T (all_black run) → runs_from p true (run ++ s ∷ rest) ≡ record { place = p; bytes = run } ∷ runs_from (p + suc (length run)) true rest
  unfolding runs_from is_begun all_black
  run_first [] p i t = absurd i
  run_first (b ∷ bs) p i t =
      let e : p + 1 + suc (length bs) ≡ p + suc (suc (length bs)) = omega arith in
      rw (run_is (b ∷ bs) t, not→ (is_white b) (both_left (not (is_white b)) (all_black bs) t))
      (ap (λ (l : List Run). record { place = p; bytes = b ∷ bs } ∷ l)
      (run_past bs (p + 1) (both_right (not (is_white b)) (all_black bs) t) ∙ ap (λ (k : ℕ). runs_from k true rest) e))

behind_white : (t : Bool) → is_white (if t then 10 else 32) ≡ true
unfolding is_white
behind_white true = refl
behind_white false = refl

lists_back : (ws : List ℕ) (i p : ℕ) → ((k : ℕ) → k < length ws → get_or ws k 0 < 256) → listed (runs_from p true (written_from i ws)) ≡ record { values = ws; fault = none }
unfolding listed written_from runs_from
lists_back [] i p h = refl
lists_back (w ∷ ws) i p h =
    let small = h 0 (omega arith) in
    let rest = written_from (i + 1) ws in
    rw (run_first (behind i ws) (behind_white (eqb (i % 16) 15 || is_last ws)) rest (decimal w) p (begun w small) (black w small), decimal_reads w small, lists_back ws (i + 1) (p + suc (length (decimal w))) (λ k b. h (suc k) (omega arith)))

pub written_reads_back : (ws : List ℕ) → ((k : ℕ) → k < length ws → get_or ws k 0 < 256) → listing (written ws) ≡ record { values = ws; fault = none }
written_reads_back ws h = lists_back ws 0 0 h
