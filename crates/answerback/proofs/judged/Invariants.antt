-- `answerback::judged` meets its contract: the loop's invariant is that the words from here on have the answer that all have from the start.
-- Assumes nothing.
use Rattle.answerback.proofs.WordLaws.{At}
use Rattle.answerback.proofs.judged.Given as goal

abbrev pub invariant-loop-word : goal.invariant-loop-word
invariant-loop-word l = At l.words l.case l.before l.word-index
