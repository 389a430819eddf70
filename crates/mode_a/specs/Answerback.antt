-- 02, T-06: "sends its code, then two blocks of βββ, and turns back by an over of its own; if the over stood in the same block, it keeps the
-- direction" (001, 3.7.13.2). The code, which codes pass, and the blocks of an answer.  R-229, R-230, R-232, R-236, R-237, R-238, R-241, R-242
-- Assumes nothing.
use Rattle.std.specs.Prelude.{Bool, true, false, not, ◌&&◌, List, [], ◌∷◌, ◌++◌, ℕ, zero, suc, leb, ltb, length, get_or, if◌then◌else◌}
use Rattle.signals.specs.declared.Case.{Case}
use Rattle.signals.specs.declared.Case.TheVariants.{Letters, Figures}
use Rattle.signals.specs.Meaning.{traffic_of, figures, beta}
use Rattle.signals.specs.Numbers.{first_not}
use Rattle.mode_a.specs.declared.Words.{Words}
use Rattle.mode_a.specs.declared.Code.{Code}
use Rattle.mode_a.specs.declared.Owed.{Owed}
use Rattle.mode_a.specs.declared.Listening.{Listening}
use Rattle.mode_a.specs.Station.{words, list_of}
use Rattle.mode_a.specs.Over.{listened, keeping, cross, query}

-- "The code has at most 20 signals": as many of its words as the length says; a length that it has no words for has β there, and does
-- not pass  R-229
abbrev pub words_of : Code → List ℕ
words_of c =
    list_of c.first ++ list_of c.second ++ list_of c.third ++ list_of c.fourth ++ list_of c.fifth ++ list_of c.sixth
    ++ list_of c.seventh

abbrev pub firsts : ℕ → List ℕ → List ℕ
firsts zero ws = []
firsts (suc n) [] = beta ∷ firsts n []
firsts (suc n) (w ∷ ws) = w ∷ firsts n ws

unfoldable pub code_signals : Code → List ℕ
code_signals c = firsts c.length (words_of c)

-- "9, a code over 20 signals, with a word that isn't traffic, or holding D in figures or an over from either case"  R-242
abbrev pub listened_in : Listening → List ℕ → Listening
listened_in l [] = l
listened_in l (w ∷ ws) = listened_in (listened l w) ws

unfoldable pub holds_neither : Case → List ℕ → Bool
holds_neither c ws = not (listened_in (keeping c false) ws).over && not (listened_in (keeping c false) ws).asked

unfoldable pub passes : Code → Bool
passes c =
    leb c.length 20
    && (leb (length (code_signals c)) (first_not traffic_of (code_signals c))
    && (holds_neither Letters (code_signals c) && holds_neither Figures (code_signals c)))

-- "transmits the traffic information signals derived from the teleprinter answer-back code generator": three to a block, the last one filled
-- with β  R-236
abbrev pub in_threes : List ℕ → List Words
in_threes [] = []
in_threes (a ∷ []) = words a beta beta ∷ []
in_threes (a ∷ b ∷ []) = words a b beta ∷ []
in_threes (a ∷ b ∷ c ∷ ws) = words a b c ∷ in_threes ws

-- "after completion of the answer-back code, or in the absence of an answer-back code, two information blocks of three idle signals β"
-- R-236, R-237
abbrev pub βββ : Words
βββ = words beta beta beta

abbrev pub figures+? : Words
figures+? = words figures cross query

unfoldable pub answer_keeping : Code → List Words
answer_keeping c = in_threes (code_signals c) ++ βββ ∷ βββ ∷ []

-- "turns back by an over of its own; if the over stood in the same block, it keeps the direction": the blocks of the answer of which a part
-- is owed  R-232, R-236
unfoldable pub answer_of : Code → Owed → List Words
answer_of c Owed.Nothing = []
answer_of c (Owed.Back i) = answer_keeping c ++ figures+? ∷ []
answer_of c (Owed.Keep i) = answer_keeping c

-- the block that is owed next, by its index, and what is owed once it has been taken: the one behind it, or nothing after the last
-- R-230, R-238
abbrev pub owed_from : Owed → ℕ
owed_from Owed.Nothing = 0
owed_from (Owed.Back i) = i
owed_from (Owed.Keep i) = i

unfoldable pub block_owed : Code → Owed → Words
block_owed c o = get_or (answer_of c o) (owed_from o) βββ

abbrev pub owed_behind : Owed → Owed
owed_behind Owed.Nothing = Owed.Nothing
owed_behind (Owed.Back i) = Owed.Back (suc i)
owed_behind (Owed.Keep i) = Owed.Keep (suc i)

unfoldable pub owed_then : Code → Owed → Owed
owed_then c o = if ltb (suc (owed_from o)) (length (answer_of c o)) then owed_behind o else Owed.Nothing

-- "the station's shape and 01's test of it change": an index that the answer does not have  R-241
unfoldable pub owed_exists : Code → Owed → Bool
owed_exists c Owed.Nothing = true
owed_exists c (Owed.Back i) = ltb i (length (answer_of c (Owed.Back i)))
owed_exists c (Owed.Keep i) = ltb i (length (answer_of c (Owed.Keep i)))
