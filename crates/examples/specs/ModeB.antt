-- 01, Worked examples: "P: text E has 36 positions and 72 slots; E stands in slots 36 and 41, return in 32 and 37; slot 72 is refused
-- 6 with 72."  R-147
-- Assumes nothing.
use Rattle.std.specs.Prelude.{Bool, false, ◌&&◌, List, [], ◌∷◌, ℕ, eqb, length}
use Rattle.signals.specs.Numbers.{Answer, answered, refused}
use Rattle.mode_b.specs.Sender.{carriage_return, positions_of, slots_of, slotting}

text_e : List ℕ
text_e = 86 ∷ []

-- the call answers the word; or refuses by the number, with the value
stands : ℕ → Answer ℕ → Bool
stands w (answered v) = eqb v w
stands w (refused n v) = false

refuses : ℕ → ℕ → Answer ℕ → Bool
refuses n v (answered w) = false
refuses n v (refused m u) = eqb m n && eqb u v

unfoldable pub mode_b_examples : List Bool
unfolding text_e stands refuses
mode_b_examples =
    eqb (length (positions_of text_e)) 36  -- 36 positions
    ∷ eqb (length (slots_of text_e)) 72  -- 72 slots
    ∷ stands 86 (slotting text_e 36)  -- E stands in slots 36
    ∷ stands 86 (slotting text_e 41)  -- and 41
    ∷ stands carriage_return (slotting text_e 32)  -- return in 32
    ∷ stands carriage_return (slotting text_e 37)  -- and 37
    ∷ refuses 6 72 (slotting text_e 72)  -- slot 72 is refused 6 with 72
    ∷ []
