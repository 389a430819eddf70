-- `replies::done` meets its contract. Assumes nothing.
use Rattle.mode_a.specs.Step.{done}
use Rattle.offers.proofs.NextLaws.{takes_next_lem}
use Rattle.replies.proofs.done.Goals as goal

pub returns-in-Repeats : goal.returns-in-Repeats
unfolding done
returns-in-Repeats c = simp (c.repeats.ensures, c.in-Repeats.is)

pub returns-in-Goes : goal.returns-in-Goes
unfolding done
returns-in-Goes c = simp (c.goes.ensures, c.in-Goes.is)

pub returns-in-Takes : goal.returns-in-Takes
unfolding done
returns-in-Takes c =
    let a = c.args in
    rw (c.takes.ensures, c.next.ensures, c.in-Takes.is) (takes_next_lem a.s _ a.offer)

pub returns-in-Receives : goal.returns-in-Receives
unfolding done
returns-in-Receives c = simp (c.receives.ensures, c.in-Receives.is)

pub returns-in-Opens : goal.returns-in-Opens
unfolding done
returns-in-Opens c = simp (c.opens.ensures, c.in-Opens.is)

pub returns-in-Accepts : goal.returns-in-Accepts
unfolding done
returns-in-Accepts c = simp (c.accepts.ensures, c.in-Accepts.is)

pub returns-in-Rests : goal.returns-in-Rests
unfolding done
returns-in-Rests c = simp (c.rests.ensures, c.in-Rests.is)

pub returns-in-Answers : goal.returns-in-Answers
unfolding done
returns-in-Answers c = simp (c.answers.ensures, c.in-Answers.is)

pub returns-in-Listens : goal.returns-in-Listens
unfolding done
returns-in-Listens c = simp (c.listens.ensures, c.in-Listens.is)

pub returns-in-Reaches : goal.returns-in-Reaches
unfolding done
returns-in-Reaches c = simp (c.reaches.ensures, c.in-Reaches.is)

pub returns-in-Answers3 : goal.returns-in-Answers3
unfolding done
returns-in-Answers3 c = simp (c.answers3.ensures, c.in-Answers3.is)

pub returns-in-Bars : goal.returns-in-Bars
unfolding done
returns-in-Bars c = simp (c.bars.ensures, c.in-Bars.is)

pub returns-in-Ends : goal.returns-in-Ends
unfolding done
returns-in-Ends c = simp (c.ends.ensures, c.in-Ends.is)

pub returns-in-Turns : goal.returns-in-Turns
unfolding done
returns-in-Turns c = simp (c.turns.ensures, c.in-Turns.is)

pub returns-in-Meets : goal.returns-in-Meets
unfolding done
returns-in-Meets c = simp (c.meets.ensures, c.in-Meets.is)

pub returns-in-Again : goal.returns-in-Again
unfolding done
returns-in-Again c = simp (c.again.ensures, c.in-Again.is)

pub returns-in-Yields : goal.returns-in-Yields
unfolding done
returns-in-Yields c = simp (c.yields.ensures, c.in-Yields.is)
