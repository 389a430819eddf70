-- The blocks of an answer, by number: how many there are, and the one at an index. What stands behind the code's end is β, which is also what
-- a list has at an index past its end, so that the filling and the two blocks of βββ need no case of their own. Assumes nothing.
use mathlib.Core.Path.{◌≡◌, refl, ap, ◌∙◌}
use mathlib.Core.List.{List, [], ◌∷◌, ◌++◌}
use Prim.Native.Nat.{ℕ, zero, suc, ◌+◌, ◌*◌}
use native.Mathlib.Numerals.{add-one, add-two, add-three}
use native.Mathlib.Omega.{arith}
use lib.Dec.{ltb, eqb, leb-zero, leb-suc-zero, leb-suc-suc, eqb-zero-suc, eqb-suc-zero, eqb-suc-suc}
use lib.ListN.{length, get_or, length-append}
use Rattle.std.specs.Prelude.{if◌then◌else◌}
use Rattle.signals.specs.Meaning.{beta}
use Rattle.mode_a.specs.declared.Words.{Words}
use Rattle.mode_a.specs.declared.Code.{Code}
use Rattle.mode_a.specs.declared.Owed.{Owed}
use Rattle.mode_a.specs.Station.{words}
use Rattle.mode_a.specs.Answerback.{firsts, words_of, code_signals, in_threes, βββ, figures+?, answer_keeping, answer_of, block_owed, owed_then, owed_exists}
use Rattle.owed.specs.Blocks.{filled_by, Filled, blocks_in, orβ, cut_at, block_at}

-- the first n of some words
firsts_length : (n : ℕ) (ws : List ℕ) → length (firsts n ws) ≡ n
firsts_length zero ws = refl
firsts_length (suc n) [] = ap suc (firsts_length n [])
firsts_length (suc n) (w ∷ ws) = ap suc (firsts_length n ws)

firsts_at : (n : ℕ) (ws : List ℕ) (j : ℕ) → get_or (firsts n ws) j beta ≡ orβ (get_or ws j beta) j n
firsts_at zero ws j = rw (leb-suc-zero j)
firsts_at (suc n) [] zero = rw (leb-suc-suc 0 n, leb-zero n)
firsts_at (suc n) [] (suc j) = rw (leb-suc-suc (suc j) n) (firsts_at n [] j)
firsts_at (suc n) (w ∷ ws) zero = rw (leb-suc-suc 0 n, leb-zero n)
firsts_at (suc n) (w ∷ ws) (suc j) = rw (leb-suc-suc (suc j) n) (firsts_at n ws j)

-- signals in threes
abbrev thrice : ℕ → ℕ
thrice zero = 0
thrice (suc i) = suc (suc (suc (thrice i)))

thrice_is : (i : ℕ) → thrice i ≡ i * 3
thrice_is zero = refl
thrice_is (suc i) = omega (arith, thrice_is i)

abbrev three_at : List ℕ → ℕ → Words
three_at l j = words (get_or l j beta) (get_or l (suc j) beta) (get_or l (suc (suc j)) beta)

threes_length : (l : List ℕ) → length (in_threes l) ≡ filled_by (length l)
unfolding filled_by
threes_length [] = refl
threes_length (a ∷ []) = refl
threes_length (a ∷ b ∷ []) = refl
threes_length (a ∷ b ∷ c ∷ l) = ap suc (threes_length l)

threes_at : (l : List ℕ) (i : ℕ) → get_or (in_threes l) i βββ ≡ three_at l (thrice i)
threes_at [] i = refl
threes_at (a ∷ []) zero = refl
threes_at (a ∷ []) (suc i) = refl
threes_at (a ∷ b ∷ []) zero = refl
threes_at (a ∷ b ∷ []) (suc i) = refl
threes_at (a ∷ b ∷ c ∷ l) zero = refl
threes_at (a ∷ b ∷ c ∷ l) (suc i) = threes_at l i

-- blocks laid end to end
abbrev flat : List Words → List ℕ
flat [] = []
flat (b ∷ bs) = b.0 ∷ b.1 ∷ b.2 ∷ flat bs

flat_at : (bs : List Words) (i : ℕ) → three_at (flat bs) (thrice i) ≡ get_or bs i βββ
flat_at [] i = refl
flat_at (b ∷ bs) zero = refl
flat_at (b ∷ bs) (suc i) = flat_at bs i

-- what is the default, put behind a list, changes nothing; anything else put there is at that one place
padded_at : (l : List Words) (d : Words) (i : ℕ) → get_or (l ++ d ∷ d ∷ []) i d ≡ get_or l i d
padded_at [] d zero = refl
padded_at [] d (suc zero) = refl
padded_at [] d (suc (suc i)) = refl
padded_at (b ∷ l) d zero = refl
padded_at (b ∷ l) d (suc i) = padded_at l d i

last_at : (l : List Words) (w d : Words) (i : ℕ) → get_or (l ++ w ∷ []) i d ≡ (if eqb i (length l) then w else get_or l i d)
last_at [] w d zero = refl
last_at [] w d (suc i) = rw (eqb-suc-zero i)
last_at (b ∷ l) w d zero = rw (eqb-zero-suc (length l))
last_at (b ∷ l) w d (suc i) = rw (eqb-suc-suc i (length l)) (last_at l w d i)

module _ (c : Code) where
  -- how many blocks the answer has
  keeping_length : length (answer_keeping c) ≡ filled_by c.length + 2
  unfolding answer_keeping code_signals
  keeping_length = length-append (in_threes (code_signals c)) (βββ ∷ βββ ∷ []) ∙ ap (λ (k : ℕ). k + 2) (threes_length (code_signals c) ∙ ap filled_by (firsts_length c.length (words_of c)))

  turned_length : length (answer_keeping c ++ figures+? ∷ []) ≡ filled_by c.length + 3
  turned_length = length-append (answer_keeping c) (figures+? ∷ []) ∙ omega (arith, keeping_length)

  -- the one at an index
  signal_at_lem : (j : ℕ) → get_or (code_signals c) j beta ≡ orβ (get_or (words_of c) j beta) j c.length
  unfolding code_signals
  signal_at_lem j = firsts_at c.length (words_of c) j

  three_at_lem : (j : ℕ) → three_at (code_signals c) j ≡ cut_at c.length (three_at (words_of c) j) j
  three_at_lem j = rw (add-one j, add-two j, signal_at_lem j, signal_at_lem (suc j), signal_at_lem (suc (suc j)))

  keeping_at : (i : ℕ) → get_or (answer_keeping c) i βββ ≡ block_at c i
  unfolding answer_keeping block_at
  keeping_at i =
      padded_at (in_threes (code_signals c)) βββ i
      ∙ threes_at (code_signals c) i
      ∙ three_at_lem (thrice i)
      ∙ ap (λ b. cut_at c.length b (thrice i)) (flat_at (blocks_in c) i)
      ∙ ap (cut_at c.length (get_or (blocks_in c) i βββ)) (thrice_is i)

-- What the three functions answer, by the number k of the blocks that the code fills.
module _ (c : Code) (k : ℕ) (f : Filled c.length k) (i : ℕ) where
  pub exists_back : owed_exists c (Owed.Back i) ≡ ltb i (k + 3)
  unfolding owed_exists answer_of
  exists_back = rw (f.is, turned_length c)

  pub exists_keep : owed_exists c (Owed.Keep i) ≡ ltb i (k + 2)
  unfolding owed_exists answer_of
  exists_keep = rw (f.is, keeping_length c)

  pub then_back : owed_then c (Owed.Back i) ≡ (if ltb i (k + 2) then Owed.Back (i + 1) else Owed.Nothing)
  unfolding owed_then answer_of
  then_back = rw (f.is, turned_length c, add-three, add-two, add-one, leb-suc-suc)

  pub then_keep : owed_then c (Owed.Keep i) ≡ (if ltb i (k + 1) then Owed.Keep (i + 1) else Owed.Nothing)
  unfolding owed_then answer_of
  then_keep = rw (f.is, keeping_length c, add-two, add-one (filled_by c.length), add-one i, leb-suc-suc)

  pub block_back : block_owed c (Owed.Back i) ≡ (if eqb i (k + 2) then figures+? else block_at c i)
  unfolding block_owed answer_of
  block_back = last_at (answer_keeping c) figures+? βββ i ∙ rw (f.is, keeping_length c, keeping_at c i)

pub block_keep : (c : Code) (i : ℕ) → block_owed c (Owed.Keep i) ≡ block_at c i
unfolding block_owed answer_of
block_keep c i = keeping_at c i

-- where nothing is owed
module _ (c : Code) where
  pub block_none : block_owed c Owed.Nothing ≡ βββ
  unfolding block_owed answer_of
  block_none = refl

  pub then_none : owed_then c Owed.Nothing ≡ Owed.Nothing
  unfolding owed_then answer_of
  then_none = refl
