-- `encoding::row_of` meets its contract: a letter's row by its number, and any other byte's by a search that stays short of its
-- holder's number, and so ends there. Assumes nothing.
use Prim.Native.Nat.{◌<◌, ◌≤◌}
use native.Mathlib.Omega.{arith}
use lib.Bits.{bit_and}
use Rattle.characters.proofs.CharacterLaws.{holder_le, holder_pos, letter_holder, figure_hit, figure_missed, has_row}
use Rattle.encoding.proofs.row_of.Goals as goal
use Rattle.encoding.proofs.row_of.Goals.{At-loop-place, Then-byte-ge-FIRST_LETTER}

-- a letter's number
number : (c : Then-byte-ge-FIRST_LETTER) → (0 < bit_and c.args.byte 31) × (bit_and c.args.byte 31 ≤ 35)
number c =
    let x = c.args.byte in
    let held = letter_holder x c.requires (omega (arith, c.if-byte-ge-FIRST_LETTER.true)) in
    (omega (arith, held, holder_pos x c.requires), omega (arith, held, holder_le x c.requires))

pub returns-then-byte-ge-FIRST_LETTER : goal.returns-then-byte-ge-FIRST_LETTER
returns-then-byte-ge-FIRST_LETTER c =
    let x = c.args.byte in
    let held = letter_holder x c.requires (omega (arith, c.if-byte-ge-FIRST_LETTER.true)) in
    has_row x c.requires _ (omega (arith, held)) _ (c.rows-rows.ensures _ (omega (arith, (number (goal.at.returns-then-byte-ge-FIRST_LETTER c).Then-byte-ge-FIRST_LETTER).1)))

-- where the search is
within : (c : At-loop-place) → c.loop-place.place < 35
within c = omega (arith, c.loop-place.invariant, holder_le c.args.byte c.requires)

pub bounds-rows-place : goal.bounds-rows-place
bounds-rows-place c = within (goal.at.bounds-rows-place c).At-loop-place

pub loop-place-preserved : goal.loop-place-preserved
loop-place-preserved c =
    let l = c.loop-place in
    let row = c.rows-rows.ensures l.place (within (goal.at.loop-place-preserved c).At-loop-place) in
    figure_missed c.args.byte c.requires (omega (arith, c.if-byte-ge-FIRST_LETTER.false)) l.place l.invariant (λ e. c.loop-place-test.true (rw row e))

pub returns : goal.returns
returns c =
    let x = c.args.byte in
    let at = c.loop-place.place in
    let row = c.rows-rows.ensures at (within (goal.at.returns c).At-loop-place) in
    let hit = figure_hit x c.requires at (within (goal.at.returns c).At-loop-place) (rw row at c.loop-place-test.false) in
    has_row x c.requires at (omega (arith, hit)) _ row

pub overflow_cast-result : goal.overflow_cast-result
overflow_cast-result c = omega (arith, (number (goal.at.overflow_cast-result c).Then-byte-ge-FIRST_LETTER).1)

pub overflow_sub-result : goal.overflow_sub-result
overflow_sub-result c = (number (goal.at.overflow_sub-result c).Then-byte-ge-FIRST_LETTER).0

pub offset_bounds-rows-byte : goal.offset_bounds-rows-byte
offset_bounds-rows-byte c = omega (arith, (number (goal.at.offset_bounds-rows-byte c).Then-byte-ge-FIRST_LETTER).1)

pub bounds-rows-byte : goal.bounds-rows-byte
bounds-rows-byte c = omega (arith, (number (goal.at.bounds-rows-byte c).Then-byte-ge-FIRST_LETTER).1)

pub loop-place-init : goal.loop-place-init
loop-place-init c = holder_pos c.args.byte c.requires

pub offset_bounds-rows-place : goal.offset_bounds-rows-place
offset_bounds-rows-place c = omega (arith, within (goal.at.offset_bounds-rows-place c).At-loop-place)

pub overflow_add-place : goal.overflow_add-place
overflow_add-place c = omega (arith, within (goal.at.overflow_add-place c).At-loop-place)

pub loop-place-smaller : goal.loop-place-smaller
loop-place-smaller c = omega (arith, c.loop-place.invariant)

pub offset_bounds-rows-place-2 : goal.offset_bounds-rows-place-2
offset_bounds-rows-place-2 c = omega (arith, within (goal.at.offset_bounds-rows-place-2 c).At-loop-place)

pub bounds-rows-place-2 : goal.bounds-rows-place-2
bounds-rows-place-2 c = within (goal.at.bounds-rows-place-2 c).At-loop-place
