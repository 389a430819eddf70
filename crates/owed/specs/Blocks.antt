-- How many blocks a code fills, and its block at an index, by number alone (02, T-06; 001, 3.7.13.2). Assumes nothing.
use Rattle.std.specs.Prelude.{◌≡◌, List, [], ◌∷◌, ℕ, zero, suc, ◌+◌, ◌*◌, ◌≤◌, ltb, get_or, if◌then◌else◌}
use Rattle.signals.specs.Meaning.{beta}
use Rattle.mode_a.specs.declared.Words.{Words}
use Rattle.mode_a.specs.declared.Code.{Code}
use Rattle.mode_a.specs.Station.{words}
use Rattle.mode_a.specs.Answerback.{βββ}

-- so many signals, three to a block
unfoldable pub filled_by : ℕ → ℕ
filled_by zero = 0
filled_by (suc zero) = 1
filled_by (suc (suc zero)) = 1
filled_by (suc (suc (suc n))) = suc (filled_by n)

-- The promise of `filled`: r blocks, and no more than 85, since a length is a byte.
pub record Filled (n r : ℕ) : Type 0 where
  pub is : r ≡ filled_by n
  pub small : r ≤ 85

-- the words of a code, three to a block, whatever its length
abbrev pub blocks_in : Code → List Words
blocks_in c = c.first ∷ c.second ∷ c.third ∷ c.fourth ∷ c.fifth ∷ c.sixth ∷ c.seventh ∷ []

-- a word of a code at a place, or β behind the code's end
abbrev pub orβ : ℕ → ℕ → ℕ → ℕ
orβ w place n = if ltb place n then w else beta

-- three words that stand from a place on
abbrev pub cut_at : ℕ → Words → ℕ → Words
cut_at n b place = words (orβ b.0 place n) (orβ b.1 (place + 1) n) (orβ b.2 (place + 2) n)

-- the block of the answer at an index, where that is no over: all β behind the code's end
unfoldable pub block_at : Code → ℕ → Words
block_at c i = cut_at c.length (get_or (blocks_in c) i βββ) (i * 3)
