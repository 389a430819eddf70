-- 01, Text: "Both answer how many bytes they wrote and the case they end in."  R-038
-- 01, Numbers returned: "A refusal prints and sends nothing, writes nothing into lent memory .. On success, room beyond
-- the part written is untouched."  R-136, R-137, R-139
-- Assumes nothing.
use Rattle.std.specs.Prelude.{List, ℕ, length}
use Rattle.laws.specs.Room.{over}
use Rattle.signals.specs.declared.Case.{Case}
use Rattle.signals.specs.Numbers.{Answer, answered, refused}

-- what a call writes at the start of the lent room, and the case it ends in
pub record Written : Type 0 where
  pub bytes : List ℕ
  pub ends : Case

-- what it answers of that
pub record Counted : Type 0 where
  pub count : ℕ
  pub ends : Case

abbrev pub counted : Answer Written → Answer Counted
counted (answered w) = answered (record { count = length w.bytes; ends = w.ends })
counted (refused n v) = refused n v

-- the lent room after the call
abbrev pub leaves : Answer Written → List ℕ → List ℕ
leaves (answered w) room = over w.bytes room
leaves (refused n v) room = room
