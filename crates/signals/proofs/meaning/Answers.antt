-- `signals::meaning` meets its contract: the search of the rows is for an intact word, whose row is never behind it. Assumes nothing.
use mathlib.Core.Path.{sym, ◌∙◌}
use native.Mathlib.Omega.{arith}
use borrow.Author.Tests.{not-true, not-false}
use Rattle.signals.proofs.CodeLaws.{no_meaning, search_starts, search_in, search_on, search_hit}
use Rattle.signals.proofs.meaning.Goals as goal

pub returns-then-not-intact : goal.returns-then-not-intact
returns-then-not-intact c =
    sym (no_meaning c.args.word c.ranges.word.fits (sym c.intact.ensures ∙ not-true c.intact.result c.if-not-intact.true-raw))

pub loop-place-init : goal.loop-place-init
loop-place-init c =
    search_starts c.args.word c.ranges.word.fits (sym c.intact.ensures ∙ not-false c.intact.result c.if-not-intact.false-raw)

pub loop-place-preserved : goal.loop-place-preserved
loop-place-preserved c =
    let rows = c.rows-rows in
    search_on c.loop-place.invariant rows.result rows.ensures c.loop-place-test.true

pub returns : goal.returns
returns c =
    let rows = c.rows-rows in
    sym (search_hit c.loop-place.invariant rows.result rows.ensures c.loop-place-test.false)

pub offset_bounds-rows-place : goal.offset_bounds-rows-place
offset_bounds-rows-place c = omega (arith, search_in c.loop-place.invariant)

pub bounds-rows-place : goal.bounds-rows-place
bounds-rows-place c = omega (arith, search_in c.loop-place.invariant)

pub overflow_add-place : goal.overflow_add-place
overflow_add-place c = omega (arith, search_in c.loop-place.invariant)

pub loop-place-smaller : goal.loop-place-smaller
loop-place-smaller c = omega (arith, search_in c.loop-place.invariant)

pub overflow_cast-result : goal.overflow_cast-result
overflow_cast-result c = omega (arith, search_in c.loop-place.invariant)

pub overflow_add-result : goal.overflow_add-result
overflow_add-result c = omega (arith, search_in c.loop-place.invariant)
