-- 02, T-02 and T-05: call blocks (001, 3.5.2 and 3.5.3). "The identity letters are those of table 3a": `is_identity`.  R-175 to R-178, R-184, R-199, R-207
-- Assumes nothing.
use Rattle.std.specs.Prelude.{Bool, ◌&&◌, List, [], ◌∷◌, ℕ, ◌%◌, eqb, if◌then◌else◌}
use Rattle.signals.specs.Meaning.{rq}
use Rattle.identity.specs.declared.Seven.{Seven}
use Rattle.identity.specs.Table3.{is_identity}
use Rattle.mode_a.specs.declared.Words.{Words}
use Rattle.mode_a.specs.declared.Identity.{Identity}

-- "two-block calls of four identity signals"  R-175
abbrev pub signals_of : Identity → List ℕ
signals_of i = i.0 ∷ i.1 ∷ i.2 ∷ i.3 ∷ []

unfoldable pub is_callable : Identity → Bool
is_callable i = is_identity i.0 && (is_identity i.1 && (is_identity i.2 && is_identity i.3))

-- "call block 1": "the first identification signal, .. signal repetition and the second identification signal"  3.5.3, R-177
abbrev pub call_block1 : Identity → Words
call_block1 i = record { 0 = i.0; 1 = rq; 2 = i.1 }

-- "call block 2": "the third and the fourth identification signals of the called station and signal repetition"  3.5.3, R-178
abbrev pub call_block2 : Identity → Words
call_block2 i = record { 0 = i.2; 1 = i.3; 2 = rq }

-- "sends call blocks 1 and 2 in turn": the block that follows so many of them  R-184
unfoldable pub next_block : Identity → ℕ → Words
next_block i sent = if eqb (sent % 2) 0 then call_block1 i else call_block2 i

-- "in the case of a 7-signal call identity": "call block 1" as above  3.5.3, R-199
abbrev pub call3_block1 : Seven → Words
call3_block1 i = record { 0 = i.0; 1 = rq; 2 = i.1 }

-- "call block 2": "signal repetition, and the third and fourth identification signals of the called station"
abbrev pub call3_block2 : Seven → Words
call3_block2 i = record { 0 = rq; 1 = i.2; 2 = i.3 }

-- "call block 3": "the last three identification signals of the called station"
abbrev pub call3_block3 : Seven → Words
call3_block3 i = record { 0 = i.4; 1 = i.5; 2 = i.6 }

-- "sends the call signal until": the block that follows so many of them  3.5.4, R-207
unfoldable pub next_block3 : Seven → ℕ → Words
next_block3 i sent =
    if eqb (sent % 3) 0 then call3_block1 i else if eqb (sent % 3) 1 then call3_block2 i else call3_block3 i
