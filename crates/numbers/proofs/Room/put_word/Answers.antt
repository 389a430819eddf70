-- `numbers::Room::put_word` meets its contract: the space, the digits, the line feed. Assumes nothing.
use mathlib.Core.Path.{refl}
use mathlib.Core.List.{[], ◌∷◌, ◌++◌}
use borrow.Author.Tests.{le-leb, lt-leb}
use Rattle.numbers.specs.Writing.{word_at, space_before, decimal}
use Rattle.numbers.proofs.PutLaws.{puts_on_then, puts_on_none}
use Rattle.numbers.proofs.Room.put_word.Goals as goal

pub returns-then-column-ge-LAST_COLUMN-clause-puts : goal.returns-then-column-ge-LAST_COLUMN-clause-puts
unfolding word_at
returns-then-column-ge-LAST_COLUMN-clause-puts c =
    let a = c.args in
    rw (le-leb 15 _ c.if-column-ge-LAST_COLUMN.true)
    (puts_on_then {l = space_before a.column} {m = decimal a.word ++ 10 ∷ []} c.put_space.ensures (puts_on_then c.put_number.ensures c.put.ensures))

pub returns-then-column-ge-LAST_COLUMN-clause-word : goal.returns-then-column-ge-LAST_COLUMN-clause-word
returns-then-column-ge-LAST_COLUMN-clause-word c =
    let put = returns-then-column-ge-LAST_COLUMN-clause-puts c in
    (put.puts, rw (le-leb 15 _ c.if-column-ge-LAST_COLUMN.true) refl)

pub returns-clause-puts : goal.returns-clause-puts
unfolding word_at
returns-clause-puts c =
    let a = c.args in
    rw (lt-leb 15 _ c.if-column-ge-LAST_COLUMN.false)
    (puts_on_then {l = space_before a.column} {m = decimal a.word ++ []} c.put_space.ensures (puts_on_then c.put_number.ensures (puts_on_none _)))

pub returns-clause-word : goal.returns-clause-word
returns-clause-word c =
    let put = returns-clause-puts c in
    (put.puts, rw (lt-leb 15 _ c.if-column-ge-LAST_COLUMN.false) refl)
