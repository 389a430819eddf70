-- `printing::glyph` meets its contract: the search of the rows is for a traffic signal, whose row is never behind it. Assumes nothing.
use native.Mathlib.Omega.{arith}
use Rattle.signals.proofs.CodeLaws.{search_starts, search_in, search_row, search_on, search_word}
use Rattle.printing.proofs.GlyphLaws.{row_prints, star_prints, may_intact}
use Rattle.printing.proofs.glyph.Goals as goal

pub returns-then-word-eq-ERROR_MARK : goal.returns-then-word-eq-ERROR_MARK
returns-then-word-eq-ERROR_MARK c = star_prints c.args.case c.args.word c.if-word-eq-ERROR_MARK.true

pub loop-place-init : goal.loop-place-init
loop-place-init c =
    let byte = c.ranges.word.fits in
    search_starts c.args.word byte (may_intact c.args.word byte c.requires c.if-word-eq-ERROR_MARK.false)

pub loop-place-preserved : goal.loop-place-preserved
loop-place-preserved c =
    let rows = c.rows-rows in
    search_on c.loop-place.invariant rows.result rows.ensures c.loop-place-test.true

pub returns : goal.returns
returns c =
    let s = c.loop-place.invariant in
    let rows = c.rows-rows in
    rw (c.column_of.ensures, search_row s rows.result rows.ensures)
    (row_prints c.args.case c.args.word c.loop-place.place (search_in s) (search_word s rows.result rows.ensures c.loop-place-test.false))

pub offset_bounds-rows-place : goal.offset_bounds-rows-place
offset_bounds-rows-place c = omega (arith, search_in c.loop-place.invariant)

pub bounds-rows-place : goal.bounds-rows-place
bounds-rows-place c = omega (arith, search_in c.loop-place.invariant)

pub overflow_add-place : goal.overflow_add-place
overflow_add-place c = omega (arith, search_in c.loop-place.invariant)

pub loop-place-smaller : goal.loop-place-smaller
loop-place-smaller c = omega (arith, search_in c.loop-place.invariant)

pub offset_bounds-rows-place-2 : goal.offset_bounds-rows-place-2
offset_bounds-rows-place-2 c = omega (arith, search_in c.loop-place.invariant)

pub bounds-rows-place-2 : goal.bounds-rows-place-2
bounds-rows-place-2 c = omega (arith, search_in c.loop-place.invariant)
