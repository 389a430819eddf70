-- A whole run of the reader gives what the input lists (docs/FORMATS.md, "Numbers in, numbers out").
--     reads_what_is_listed   of every input whose places are words of 64 bits
-- Assumes nothing.
use mathlib.Core.Path.{◌≡◌, refl, ap, sym, ◌∙◌}
use mathlib.Core.Bool.{Bool, true, false}
use mathlib.Core.List.{List, [], ◌∷◌}
use Prim.Native.Nat.{ℕ, suc, ◌+◌, ◌-◌, ◌*◌, ◌^◌, ◌≤◌, ◌<◌}
use native.Mathlib.Omega.{arith}
use lib.Dec.{ltb}
use lib.ListN.{length}
use borrow.Author.Tests.{le-ltb, ltb-false, ne_eqb}
use Rattle.numbers.specs.declared.Reader.{Reader}
use Rattle.std.specs.Prelude.{Some, None, Ok, Err}
use Rattle.numbers.specs.declared.NumberError.TheVariants.{Over, NoDigit}
use Rattle.numbers.specs.Reading.{is_white, is_digit, up_to_white, runs_from, listed_by, listed, listing}
use Rattle.numbers.specs.Steps.{Took, between, fresh_reader, further, first_byte, value_so_far, end_brings, taking_digit, taking, telling, reading}
use Rattle.numbers.proofs.DigitLaws.{Kind, digit, white, other, kind, digit_bounds}
use Rattle.numbers.proofs.JudgedLaws.{judged_from, judged_from_lem}

-- a reader within a number
abbrev within : ℕ → ℕ → ℕ → Reader
within p s v = record { place = p; begun = Some (record { start = s; value = v }) }

-- what is left to list behind it
abbrev WithinLists : List ℕ → Type 0
WithinLists bs =
    (p s v : ℕ) → v ≤ 255 → p + length bs < 2 ^ 64 → reading (within p s v) bs ≡ listed_by s (judged_from v (up_to_white bs)) (listed (runs_from p false bs))

abbrev BetweenLists : List ℕ → Type 0
BetweenLists bs = (p : ℕ) → p + length bs < 2 ^ 64 → reading (between p) bs ≡ listed (runs_from p true bs)

reading_next : (r : Reader) (b : ℕ) (bs : List ℕ) (t : Took) → taking r b ≡ t → reading r (b ∷ bs) ≡ telling t.event (reading t.reader bs)
unfolding reading
reading_next r b bs t e = rw e

further_one : (p : ℕ) → suc p < 2 ^ 64 → further p ≡ p + 1
further_one p h = rw (ne_eqb p 18446744073709551615 (λ e. omega arith))

module _ (b : ℕ) (bs : List ℕ) where
  -- what a byte makes of the reader
  took_digit : (r : Reader) → is_digit b ≡ true → value_so_far r * 10 + (b - 48) ≤ 255 → suc r.place < 2 ^ 64 → taking r b ≡ record { reader = within (r.place + 1) (first_byte r) (value_so_far r * 10 + (b - 48)); event = Ok None }
  unfolding taking taking_digit
  took_digit r d h k = rw (d, le-ltb 255 (value_so_far r * 10 + (b - 48)) h, further_one r.place k)

  took_over : (r : Reader) → is_digit b ≡ true → ltb 255 (value_so_far r * 10 + (b - 48)) ≡ true → taking r b ≡ record { reader = r; event = Err (Over (first_byte r)) }
  unfolding taking taking_digit
  took_over r d h = rw (d, h)

  took_white : (r : Reader) → is_digit b ≡ false → is_white b ≡ true → suc r.place < 2 ^ 64 → taking r b ≡ record { reader = between (r.place + 1); event = Ok (end_brings r) }
  unfolding taking
  took_white r d w k = rw (d, w, further_one r.place k)

  took_other : (r : Reader) → is_digit b ≡ false → is_white b ≡ false → taking r b ≡ record { reader = r; event = Err (NoDigit (first_byte r)) }
  unfolding taking
  took_other r d w = rw (d, w)

  -- what it makes of the runs
  runs_white : (p : ℕ) (may : Bool) → is_white b ≡ true → runs_from p may (b ∷ bs) ≡ runs_from (p + 1) true bs
  unfolding runs_from
  runs_white p may w = rw w

  runs_first : (p : ℕ) → is_white b ≡ false → listed (runs_from p true (b ∷ bs)) ≡ listed_by p (judged_from 0 (b ∷ up_to_white bs)) (listed (runs_from (p + 1) false bs))
  unfolding runs_from listed up_to_white
  runs_first p w = rw (w, judged_from_lem (b ∷ up_to_white bs))

  runs_more : (p : ℕ) → is_white b ≡ false → runs_from p false (b ∷ bs) ≡ runs_from (p + 1) false bs
  unfolding runs_from
  runs_more p w = rw w

  run_white : is_white b ≡ true → up_to_white (b ∷ bs) ≡ []
  unfolding up_to_white
  run_white w = rw w

  run_more : is_white b ≡ false → up_to_white (b ∷ bs) ≡ b ∷ up_to_white bs
  unfolding up_to_white
  run_more w = rw w

  -- and of the run's verdict
  from_digit : (v : ℕ) → is_digit b ≡ true → v * 10 + (b - 48) ≤ 255 → judged_from v (b ∷ up_to_white bs) ≡ judged_from (v * 10 + (b - 48)) (up_to_white bs)
  unfolding judged_from
  from_digit v d h = rw (d, le-ltb 255 (v * 10 + (b - 48)) h)

  within_digit : WithinLists bs → is_digit b ≡ true → is_white b ≡ false → (p s v : ℕ) → p + suc (length bs) < 2 ^ 64 → (o : Bool) → ltb 255 (v * 10 + (b - 48)) ≡ o → reading (within p s v) (b ∷ bs) ≡ listed_by s (judged_from v (up_to_white (b ∷ bs))) (listed (runs_from p false (b ∷ bs)))
  unfolding judged_from
  within_digit rest d w p s v k true o =
      reading_next (within p s v) b bs _ (took_over (within p s v) d o) ∙ sym (rw (run_more w, d, o))
  within_digit rest d w p s v k false o =
      let h = ltb-false 255 (v * 10 + (b - 48)) o in
      reading_next (within p s v) b bs _ (took_digit (within p s v) d h (omega arith))
      ∙ rest (p + 1) s (v * 10 + (b - 48)) h (omega arith)
      ∙ sym (rw (run_more w, from_digit v d h, runs_more p w))

  within_next : WithinLists bs → BetweenLists bs → Kind b → WithinLists (b ∷ bs)
  unfolding judged_from
  within_next rest after (digit d w) p s v h k = within_digit rest d w p s v k (ltb 255 (v * 10 + (b - 48))) refl
  within_next rest after (white d w) p s v h k =
      reading_next (within p s v) b bs _ (took_white (within p s v) d w (omega arith))
      ∙ ap (telling (Ok (Some v))) (after (p + 1) (omega arith))
      ∙ sym (rw (run_white w, runs_white p false w))
  within_next rest after (other d w) p s v h k =
      reading_next (within p s v) b bs _ (took_other (within p s v) d w) ∙ sym (rw (run_more w, d))

  between_next : WithinLists bs → BetweenLists bs → Kind b → BetweenLists (b ∷ bs)
  unfolding judged_from
  between_next rest after (digit d w) p k =
      let h : 0 * 10 + (b - 48) ≤ 255 = omega (arith, digit_bounds b d) in
      reading_next (between p) b bs _ (took_digit (between p) d h (omega arith))
      ∙ rest (p + 1) p (0 * 10 + (b - 48)) h (omega arith)
      ∙ sym (runs_first p w ∙ rw (from_digit 0 d h))
  between_next rest after (white d w) p k =
      reading_next (between p) b bs _ (took_white (between p) d w (omega arith))
      ∙ after (p + 1) (omega arith)
      ∙ sym (rw (runs_white p true w))
  between_next rest after (other d w) p k =
      reading_next (between p) b bs _ (took_other (between p) d w) ∙ sym (runs_first p w ∙ rw d)

both_list : (bs : List ℕ) → WithinLists bs × BetweenLists bs
unfolding reading listed runs_from up_to_white judged_from
both_list [] = (λ p s v h k. refl, λ p k. refl)
both_list (b ∷ bs) =
    let rest = both_list bs in
    (within_next b bs rest.0 rest.1 (kind b), between_next b bs rest.0 rest.1 (kind b))

pub reads_what_is_listed : (input : List ℕ) → length input < 2 ^ 64 → reading fresh_reader input ≡ listing input
reads_what_is_listed input h = (both_list input).1 0 (omega arith)
