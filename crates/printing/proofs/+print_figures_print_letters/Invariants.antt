-- What is left of the list falls at each call. Assumes nothing.
use Rattle.std.proofs.Common.{length, ◌-◌}
use Rattle.printing.proofs.+print_figures_print_letters.Given as goal

abbrev pub decreases-print_figures : goal.decreases-print_figures
decreases-print_figures l = length l.judged.words.now - l.at

abbrev pub decreases-print_letters : goal.decreases-print_letters
decreases-print_letters l = length l.judged.words.now - l.at
