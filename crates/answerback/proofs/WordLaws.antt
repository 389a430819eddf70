-- The words of a code, as the loop of `judged` goes over them, and what `passes` answers by the length. Assumes nothing.
use mathlib.Core.Path.{◌≡◌, refl, ap, ◌∙◌}
use mathlib.Core.Bool.{true, false}
use mathlib.Core.List.{List, [], ◌∷◌}
use Prim.Native.Nat.{ℕ, zero, suc, ◌+◌, ◌≤◌, ◌<◌}
use native.Mathlib.Nat.{le_of_suc-le-suc, not-suc-le-zero}
use native.Mathlib.Numerals.{add-one}
use native.Mathlib.Omega.{arith}
use lib.ListN.{length, get_or, take, drop, drop_of_length-le}
use lib.Seq.{drop-cons}
use borrow.Author.Tests.{le-leb, lt-leb}
use Rattle.signals.specs.declared.Case.{Case}
use Rattle.signals.specs.declared.Case.TheVariants.{Figures}
use Rattle.std.specs.Prelude.{Some, None}
use Rattle.mode_a.specs.declared.Code.{Code}
use Rattle.mode_a.specs.Answerback.{firsts, words_of, code_signals, passes}
use Rattle.answerback.specs.Judged.{is_plain, special, judged}
use Rattle.answerback.proofs.JudgedLaws.{passes_judged}

-- Judging the words has come to index i, in the case c and behind the word b.
abbrev pub At : List ℕ → Case → ℕ → ℕ → Type 0
At ws c b i = judged c b (drop i ws) ≡ judged Figures 0 ws

module _ (ws : List ℕ) (c : Case) (b i : ℕ) (a : At ws c b i) where
  pub at_end : length ws ≤ i → true ≡ judged Figures 0 ws
  unfolding judged
  at_end h = (rw (drop_of_length-le ws {i = i} h)) ∙ a

  module _ (h : i < length ws) where
    word_at : drop i ws ≡ get_or ws i 0 ∷ drop (i + 1) ws
    word_at = rw (add-one i) (drop-cons ws i 0 h)

    pub at_plain : is_plain (get_or ws i 0) ≡ true → At ws c (get_or ws i 0) (i + 1)
    unfolding judged
    at_plain t = rw (word_at, t) at a

    module _ (t : is_plain (get_or ws i 0) ≡ false) where
      pub at_bad : special c b (get_or ws i 0) ≡ None → false ≡ judged Figures 0 ws
      unfolding judged
      at_bad s = rw (word_at, t, s) at a

      pub at_special : (d : Case) → special c b (get_or ws i 0) ≡ Some d → At ws d (get_or ws i 0) (i + 1)
      unfolding judged
      at_special d s = rw (word_at, t, s) at a

-- the first n of as many words as there are
firsts_take : (n : ℕ) (ws : List ℕ) → n ≤ length ws → firsts n ws ≡ take n ws
firsts_take zero ws h = refl
firsts_take (suc n) [] h = absurd (not-suc-le-zero h)
firsts_take (suc n) (w ∷ ws) h = ap (λ l. w ∷ l) (firsts_take n ws (le_of_suc-le-suc h))

-- What `passes` answers, by the length.
module _ (c : Code) where
  pub passes_empty : c.length ≡ 0 → true ≡ passes c
  unfolding code_signals judged
  passes_empty e = rw (passes_judged c, e)

  pub passes_long : 20 < c.length → false ≡ passes c
  passes_long h = rw (passes_judged c, lt-leb c.length 20 h)

  pub passes_short : c.length ≤ 20 → judged Figures 0 (take c.length (words_of c)) ≡ passes c
  unfolding code_signals
  passes_short h = rw (passes_judged c, le-leb c.length 20 h, firsts_take c.length (words_of c) (omega arith))
