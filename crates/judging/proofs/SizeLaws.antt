-- How many bytes a word prints, and a list: as many in either case, and one a word at most. Assumes nothing.
use mathlib.Core.Path.{◌≡◌, refl, sym, ◌∙◌}
use mathlib.Core.Bool.{Bool, true, false, cond, ◌&&◌}
use mathlib.Core.List.{List, [], ◌∷◌, ◌++◌}
use Prim.Native.Nat.{ℕ, zero, suc, ◌+◌, ◌<◌, ◌≤◌}
use native.Mathlib.Omega.{arith}
use lib.Dec.{eqb}
use lib.ListN.{length, get_or, length-append}
use Rattle.std.specs.Prelude.{if◌then◌else◌}
use Rattle.laws.proofs.Table.{same_table}
use Rattle.signals.specs.declared.Case.{Case}
use Rattle.signals.specs.declared.Case.TheVariants.{Letters, Figures}
use Rattle.signals.specs.Signals.{Signal, pair, lone, free, mute, signals, word_of}
use Rattle.signals.specs.Meaning.{traffic_of, meaning_of}
use Rattle.signals.specs.Numbers.{first_not}
use Rattle.signals.proofs.NumberLaws.{all_head, all_cons, all_append}
use Rattle.text.specs.Printing.{may_print, prints, prints_in, bytes_of, case_at, printed}
use Rattle.std.specs.List.{count_by}
use Rattle.std.proofs.lemmas.List.Recursion.{is_count_by}
use Rattle.judging.specs.Size.{size_of, sizes_of}

signal_alike : (c : Case) (s : Signal) → length (prints c s) ≡ length (prints Letters s)
signal_alike Letters s = refl
signal_alike Figures (pair w l f) = refl
signal_alike Figures (lone w l) = refl
signal_alike Figures (free w l) = refl
signal_alike Figures (mute w) = refl

signal_one : (s : Signal) → length (prints Letters s) ≤ 1
signal_one (pair w l f) = omega arith
signal_one (lone w l) = omega arith
signal_one (free w l) = omega arith
signal_one (mute w) = omega arith

in_alike : (c : Case) (ss : List Signal) (w : ℕ) → length (prints_in ss c w) ≡ length (prints_in ss Letters w)
in_alike c [] w = refl
in_alike c (s ∷ ss) w = go (in_alike c ss w) (eqb w (word_of s))
  where
    go : length (prints_in ss c w) ≡ length (prints_in ss Letters w) → (t : Bool) → length (if t then prints c s else prints_in ss c w) ≡ length (if t then prints Letters s else prints_in ss Letters w)
    go rest true = signal_alike c s
    go rest false = rest

in_one : (ss : List Signal) (w : ℕ) → length (prints_in ss Letters w) ≤ 1
in_one [] w = omega arith
in_one (s ∷ ss) w = go (in_one ss w) (eqb w (word_of s))
  where
    go : length (prints_in ss Letters w) ≤ 1 → (t : Bool) → length (if t then prints Letters s else prints_in ss Letters w) ≤ 1
    go rest true = signal_one s
    go rest false = rest

bytes_alike : (c : Case) (w : ℕ) → length (bytes_of c w) ≡ length (bytes_of Letters w)
unfolding bytes_of
bytes_alike c w = go (eqb w 255)
  where
    go : (t : Bool) → length (if t then 42 ∷ [] else prints_in signals c w) ≡ length (if t then 42 ∷ [] else prints_in signals Letters w)
    go true = refl
    go false = in_alike c signals w

bytes_one : (w : ℕ) → length (bytes_of Letters w) ≤ 1
unfolding bytes_of
bytes_one w = go (eqb w 255)
  where
    go : (t : Bool) → length (if t then 42 ∷ [] else prints_in signals Letters w) ≤ 1
    go true = omega arith
    go false = in_one signals w

sum_of : (c : Case) (w : ℕ) (ws : List ℕ) → length (printed c (w ∷ ws)) ≡ length (bytes_of c w) + length (printed (case_at c w) ws)
unfolding printed
sum_of c w ws = length-append (bytes_of c w) (printed (case_at c w) ws)

none_of : (c : Case) → length (printed c []) ≡ 0
unfolding printed
none_of c = refl

-- the case in which a list starts changes what it prints, and not how many bytes
pub alike : (c d : Case) (ws : List ℕ) → length (printed c ws) ≡ length (printed d ws)
alike c d [] = none_of c ∙ sym (none_of d)
alike c d (w ∷ ws) = omega (arith, sum_of c w ws, sum_of d w ws, bytes_alike c w, bytes_alike d w, alike (case_at c w) (case_at d w) ws)

pub at_most : (c : Case) (ws : List ℕ) → length (printed c ws) ≤ length ws
at_most c [] = omega (arith, none_of c)
at_most c (w ∷ ws) = omega (arith, sum_of c w ws, bytes_alike c w, bytes_one w, at_most (case_at c w) ws)

-- a word that may be printed prints one byte, unless it is a shift or blank
size_table : (w : ℕ) → w < 256 → (if may_print w then length (bytes_of Letters w) else 0) ≡ (if may_print w then size_of w else 0)
unfolding may_print traffic_of meaning_of bytes_of
size_table w h = same_table (λ w. if may_print w then length (bytes_of Letters w) else 0) (λ w. if may_print w then size_of w else 0) 256 0 refl w h

pub size_is : (w : ℕ) → w < 256 → may_print w ≡ true → length (bytes_of Letters w) ≡ size_of w
size_is w h e = rw e at (size_table w h)

-- where every entry passes a test, each does
pub passes : (may : ℕ → Bool) (s : List ℕ) (i : ℕ) → i < length s → length s ≤ first_not may s → may (get_or s i 0) ≡ true
passes may [] i h l = absurd (omega arith)
passes may (x ∷ xs) zero h l = (all_head may x xs l).0
passes may (x ∷ xs) (suc i) h l = passes may xs i (omega arith) (all_head may x xs l).1

-- what is counted: the words that print a byte
pub sizes_counted : (ws : List ℕ) → sizes_of ws ≡ count_by (λ w. eqb (size_of w) 1) ws
unfolding sizes_of
sizes_counted ws = is_count_by sizes_of (λ w. eqb (size_of w) 1) refl (λ w ws. go (sizes_of ws) (eqb w 90) (eqb w 54) (eqb w 106)) ws
  where
    go : (n : ℕ) (a b c : Bool) → (if a then 0 else if b then 0 else if c then 0 else 1) + n ≡ cond (eqb (if a then 0 else if b then 0 else if c then 0 else 1) 1) (1 + n) n
    go n true b c = omega arith
    go n false true c = omega arith
    go n false false true = omega arith
    go n false false false = omega arith

-- where each word may stand, that is how many bytes are printed
pub sizes_print : (ws : List ℕ) → ((i : ℕ) → i < length ws → get_or ws i 0 < 256) → length ws ≤ first_not may_print ws → (c : Case) → sizes_of ws ≡ length (printed c ws)
unfolding sizes_of
sizes_print [] byte may c = omega (arith, none_of c)
sizes_print (w ∷ ws) byte may c =
    let h = all_head may_print w ws may in
    omega (arith, sum_of c w ws, bytes_alike c w, size_is w (byte zero (omega arith)) h.0, sizes_print ws (λ i k. byte (suc i) (omega arith)) h.1 (case_at c w))

-- one word more, judged with those before it
pub all_more : (may : ℕ → Bool) (s : List ℕ) (w : ℕ) (a b : Bool) → b ≡ (a && may w) → (a ≡ true → length s ≤ first_not may s) → b ≡ true → length (s ++ w ∷ []) ≤ first_not may (s ++ w ∷ [])
all_more may s w true b e held t =
    all_append may s (w ∷ []) (held refl) (all_cons may w [] (sym e ∙ t) (omega arith))
all_more may s w false b e held t = absurd (never (sym e ∙ t))
  where
    never : false ≡ true → ⊥
    never z = cc
