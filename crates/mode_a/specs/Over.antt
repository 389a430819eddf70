-- 01, The station: the case of a direction, and the over.  R-086, R-087, R-088, R-089, R-090, R-091
--
-- "The over is heard when ? follows + in figures case with only β between, within a block or across blocks; any other signal
-- between cancels it, and so does the step from Asking to Opening or from Turning to Receiving. Only accepted blocks count here.
-- The case of a direction starts at letters and lasts through turns." The cancelling steps are `cancelled_to` (R-089), what counts
-- is `accepts` alone (R-090), and the case stays in `moved_to` and `cancelled_to` (R-091), all in Step.antt;
-- a call that is placed or answered begins a direction, in letters case with no + (`begun`, 02's T-02). A shift is such another
-- signal, also one to figures. ? is the figure of B, + of Z; in letters case they are letters and no part of an over.
--
-- 02, T-06: "D in figures" (3.7.13.2), who are you, is told of the same signals: D asks in the case in force where it stands in the block,
-- and cancels a + as any other signal does.  R-234
-- Assumes nothing.
use Rattle.std.specs.Prelude.{Bool, true, false, ◌||◌, ℕ, eqb, if◌then◌else◌}
use Rattle.signals.specs.declared.Case.{Case}
use Rattle.signals.specs.declared.Case.TheVariants.{Letters, Figures}
use Rattle.signals.specs.Meaning.{word_no, letters, figures, beta}
use Rattle.mode_a.specs.declared.Words.{Words}
use Rattle.mode_a.specs.declared.Listening.{Listening}

-- the words of ?, of + and of who are you (D)
abbrev pub query : ℕ
query = word_no 2

abbrev pub cross : ℕ
cross = word_no 26

abbrev pub who : ℕ
who = word_no 4

-- one signal that is neither β nor a shift, in the case in force
abbrev pub signal_in : Case → Bool → Bool → Bool → ℕ → Listening
signal_in Letters plus over asked w = record { case = Letters; plus = false; over = over; asked = asked }
signal_in Figures plus over asked w =
    if eqb w cross then record { case = Figures; plus = true; over = over; asked = asked }
    else if eqb w query then record { case = Figures; plus = false; over = over || plus; asked = asked }
    else record { case = Figures; plus = false; over = over; asked = asked || eqb w who }

unfoldable pub listened : Listening → ℕ → Listening
listened l w =
    if eqb w beta then l
    else if eqb w letters then record { case = Letters; plus = false; over = l.over; asked = l.asked }
    else if eqb w figures then record { case = Figures; plus = false; over = l.over; asked = l.asked }
    else signal_in l.case l.plus l.over l.asked w

-- what the station has kept, before a block
abbrev pub keeping : Case → Bool → Listening
keeping c p = record { case = c; plus = p; over = false; asked = false }

-- a block, from what the station has kept
abbrev pub listened_all : Case → Bool → Words → Listening
listened_all c p b = listened (listened (listened (keeping c p) b.0) b.1) b.2
