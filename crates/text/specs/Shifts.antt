-- 01, Text: "A shift is put in only where the next letter or figure needs the other case"  R-030, as a statement about
-- every place of an encoded text at which a shift stands.
-- That the character is the one of the text follows with the round trip: printing gives the text in capitals.
-- Assumes nothing.
use Rattle.std.specs.Prelude.{◌≡◌, List, ◌∷◌, ℕ}
use Rattle.signals.specs.declared.Case.{Case}
use Rattle.signals.specs.Cases.{other}
use Rattle.text.specs.Encoding.{Needing, character_of}

-- a shift to the case d stands where c is in force, and `after` follows it: c is the other case, and directly after the
-- shift comes the signal of a character that needs d
pub record Needed (c d : Case) (after : List ℕ) : Type 0 where
  pub from_other : c ≡ other d
  pub character : ℕ
  pub word : ℕ
  pub rest : List ℕ
  pub needs : character_of character ≡ Needing d word
  pub directly : after ≡ word ∷ rest
