-- A code's words judged in one pass, from a case (02, T-06). Of what `listened_in` keeps only the case and the word before are looked at: an
-- over, or who are you, ends the judging, and + counts for the very next word, since β is not of a code. Assumes nothing.
use Rattle.std.specs.Prelude.{Bool, true, false, not, ◌&&◌, List, [], ◌∷◌, ℕ, Option, Some, None, eqb, if◌then◌else◌}
use Rattle.signals.specs.declared.Case.{Case}
use Rattle.signals.specs.declared.Case.TheVariants.{Letters, Figures}
use Rattle.signals.specs.Meaning.{traffic_of, letters, figures}
use Rattle.mode_a.specs.Over.{cross, query, who}

-- traffic that is no shift and that in figures neither asks nor completes an over
unfoldable pub is_plain : ℕ → Bool
is_plain w = traffic_of w && (not (eqb w letters) && (not (eqb w figures) && (not (eqb w who) && not (eqb w query))))

-- what a word that is not plain leads to, in a case and behind the word b: a case, or a code that does not pass
abbrev in_figures : Case → Option Case → Option Case
in_figures Letters behind = Some Letters
in_figures Figures behind = behind

unfoldable pub special : Case → ℕ → ℕ → Option Case
special c b w =
    if eqb w letters then Some Letters
    else if eqb w figures then Some Figures
    else if eqb w who then in_figures c None
    else if eqb w query then in_figures c (if eqb b cross then None else Some Figures)
    else None

-- the words of a code, from a case and behind the word b: a plain one changes nothing but what stands before
unfoldable pub judged : Case → ℕ → List ℕ → Bool
judged c b [] = true
judged c b (w ∷ ws) =
    if is_plain w then judged c w ws
    else elim (special c b w) [ None ↦ false | Some behind ↦ judged behind w ws ]
