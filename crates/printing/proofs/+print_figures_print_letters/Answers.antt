-- `printing::print_letters` and `printing::print_figures` meet their contracts: each answer is a law over the case. Assumes nothing.
use native.Mathlib.Omega.{arith}
use Rattle.printing.proofs.RunLaws.{going_room, ran_on, reaches_then}
use Rattle.printing.proofs.+print_figures_print_letters.Goals as goal

pub print_figures-returns-then-depth-eq0 : goal.print_figures-returns-then-depth-eq0
print_figures-returns-then-depth-eq0 t c = ran_on c.print_run-run.ensures c.if-judged-run.false

pub print_figures-print_letters-requires : goal.print_figures-print_letters-requires
print_figures-print_letters-requires t c =
    let on = ran_on c.print_run-run.ensures c.if-judged-run.false in
    (omega (arith, c.decreases, c.if-judged-run.false, c.print_run-run.ensures.run.from), (on.going.within, going_room on.going c.requires.1))

pub print_figures-returns : goal.print_figures-returns
print_figures-returns t c = reaches_then (ran_on c.print_run-run.ensures c.if-judged-run.false) c.print_letters.ensures

pub print_letters-returns-then-depth-eq0 : goal.print_letters-returns-then-depth-eq0
print_letters-returns-then-depth-eq0 t c = ran_on c.print_run-run.ensures c.if-judged-run.false

pub print_letters-print_figures-requires : goal.print_letters-print_figures-requires
print_letters-print_figures-requires t c =
    let on = ran_on c.print_run-run.ensures c.if-judged-run.false in
    (omega (arith, c.decreases, c.if-judged-run.false, c.print_run-run.ensures.run.from), (on.going.within, going_room on.going c.requires.1))

pub print_letters-returns : goal.print_letters-returns
print_letters-returns t c = reaches_then (ran_on c.print_run-run.ensures c.if-judged-run.false) c.print_figures.ensures
