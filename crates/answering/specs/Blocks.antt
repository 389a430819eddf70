-- An identification block by its number, its signals being left in the burst; and what Answering does with a block by what it is to the
-- stage. Assumes nothing.
use Rattle.std.specs.Prelude.{◌≡◌, ℕ}
use Rattle.signals.specs.Meaning.{rq, cs4}
use Rattle.identity.specs.declared.Seven.{Seven}
use Rattle.identity.specs.Sums.{check_sum1, check_sum2, check_sum3}
use Rattle.mode_a.specs.declared.Words.{Words}
use Rattle.mode_a.specs.declared.Part.{Part}
use Rattle.mode_a.specs.declared.Stage.{Stage}
use Rattle.mode_a.specs.declared.Doing.{Doing}
use Rattle.mode_a.specs.Identification.{Told, nothing_told, block_1, block_2, block_3, with_1, with_2, with_3}
use Rattle.mode_a.specs.Rows.{gathers, gathers_again, asks_on, hearing}
use Rattle.answering.specs.declared.Due.{Due}

-- what a burst tells where it is that block
abbrev pub told_as : Part → Words → Told
told_as Part.None b = nothing_told
told_as Part.One b = block_1 b.0 b.2
told_as Part.Two b = block_2 b.1 b.2
told_as Part.Three b = block_3 b.0 b.1 b.2

-- the signals gathered with those of the block in their places; the check-sum that confirms it; the stage that it leads to. Of no block
-- the last two are never asked.
abbrev pub with_block : Part → Seven → Words → Seven
with_block Part.None g b = g
with_block Part.One g b = with_1 g b.0 b.2
with_block Part.Two g b = with_2 g b.1 b.2
with_block Part.Three g b = with_3 g b.0 b.1 b.2

abbrev pub sum_of : Part → Seven → ℕ
sum_of Part.None y = rq
sum_of Part.One y = check_sum1 y
sum_of Part.Two y = check_sum2 y
sum_of Part.Three y = check_sum3 y

abbrev pub behind : Part → Stage
behind Part.None = Stage.One
behind Part.One = Stage.Two
behind Part.Two = Stage.Three
behind Part.Three = Stage.Four

-- what is sent where the block awaited does not come
abbrev pub asks : Stage → ℕ
asks Stage.One = cs4
asks Stage.Two = rq
asks Stage.Three = rq
asks Stage.Four = rq

-- y is the own identity, g what is gathered
abbrev pub answer_to : Due → Seven → Seven → Stage → Part → Words → Doing
answer_to Due.Awaited y g s p b = gathers (behind p) (with_block p g b) (sum_of p y)
answer_to Due.Before y g s p b = gathers_again s g (with_block p g b) (sum_of p y)
answer_to Due.Neither y g s p b = asks_on s g (asks s)

-- d is what the block p is to the stage s
abbrev pub IsDue : Stage → Part → Due → Type 0
IsDue s p d = (y g : Seven) (b : Words) → hearing y g s (told_as p b) ≡ answer_to d y g s p b
