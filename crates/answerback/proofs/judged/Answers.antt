-- `answerback::judged` meets its contract: the loop's invariant is that the words from here on have the answer that all have from the start.
-- Assumes nothing.
use mathlib.Core.Path.{sym, ◌∙◌}
use Rattle.answerback.proofs.WordLaws.{at_end, at_plain, at_bad, at_special}
use Rattle.answerback.proofs.judged.Goals as goal
use Rattle.answerback.proofs.judged.Goals.{then-not-is_plain+in-Some, else-not-is_plain}

pub returns-in-None : goal.returns-in-None
returns-in-None c =
    at_bad _ _ _ _ c.loop-word.invariant c.loop-word-test.true (sym c.is_plain.ensures ∙ c.if-not-is_plain.true)
    (sym c.special.ensures ∙ c.in-None.is)

pub loop-word-preserved : goal.loop-word-preserved
loop-word-preserved c =
    let a = c.loop-word.invariant in
    elim c.if-not-is_plain.branch [
      | then-not-is_plain+in-Some w ↦
          rw (w.case-is, w.before-is)
          (at_special _ _ _ _ a c.loop-word-test.true (sym c.is_plain.ensures ∙ w.if-not-is_plain.true) _ (sym w.special.ensures ∙ w.in-Some.is))
      | else-not-is_plain w ↦
          rw (w.case-is, w.before-is) (at_plain _ _ _ _ a c.loop-word-test.true (sym c.is_plain.ensures ∙ w.if-not-is_plain.false))
    ]

pub returns : goal.returns
returns c = at_end _ _ _ _ c.loop-word.invariant c.loop-word-test.false
