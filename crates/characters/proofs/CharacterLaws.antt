-- A byte's signals, read off the row of the signal that has it, and the place of that row: tests that antt computes over the
-- numbers below 128, from where on none has a signal, and over the 35 rows.
-- Assumes nothing.
use mathlib.Core.Path.{◌≡◌, refl, ap, sym, ◌∙◌}
use mathlib.Core.Bool.{Bool, true, false, not, ◌&&◌}
use mathlib.Core.List.{List, [], ◌∷◌, ◌++◌}
use Prim.Native.Nat.{ℕ, zero, suc, ◌+◌, ◌-◌, ◌<◌, ◌≤◌}
use native.Mathlib.Numerals.{sub-one}
use native.Mathlib.Omega.{arith}
use lib.Bits.{bit_and}
use lib.Dec.{eqb, ltb, leb, leb→le}
use borrow.Author.Tests.{eq-eqb, ne_eqb, lt-ltb, le-ltb, lt-leb, le-leb, ltb-true, ltb-false}
use Rattle.std.specs.Prelude.{if◌then◌else◌}
use Rattle.laws.proofs.Below.{at_below}
use Rattle.laws.proofs.Table.{tab_from, same_table}
use Rattle.signals.specs.declared.Case.{Case}
use Rattle.signals.specs.declared.Case.TheVariants.{Letters, Figures}
use Rattle.signals.specs.declared.Row.{Row}
use Rattle.signals.specs.Rows.{row_of}
use Rattle.text.specs.Encoding.{raised, character_of, has_signal, shift, signals_for, case_after}
use Rattle.signals.specs.Cases.{shift_to, other}
use Rattle.text.proofs.CharacterLaws.{signal_is_low}
use Rattle.characters.specs.Holder.{holder_of, HasRow}

-- what a byte gives in a case: its signals, and the case after them
abbrev Turned : Type 0
Turned = List ℕ × Case

abbrev turned : Case → ℕ → Turned
turned c x = (signals_for c (character_of x), case_after c (character_of x))

-- Of the bytes with a signal those from 65 on are letters; one below is a figure, unless it stands in the letter column too and is
-- the same in either case.
abbrev needs_shift : Case → Row → ℕ → Bool
needs_shift Letters r x = ltb x 65 && not (eqb r.1 x)
needs_shift Figures r x = leb 65 x

abbrev by_row : Case → Row → ℕ → Turned
by_row c r x = if needs_shift c r x then (shift_to (other c) ∷ r.0 ∷ [], other c) else (r.0 ∷ [], c)

by_number : Case → ℕ → ℕ → Turned
by_number c zero x = ([], c)
by_number c (suc n) x = by_row c (row_of n) x

same : (c : Case) → tab_from (λ x. by_number c (holder_of x) x) 128 0 ≡ tab_from (turned c) 128 0
unfolding by_number holder_of row_of character_of raised
same Letters = refl
same Figures = refl

same_has : tab_from (λ x. ltb 0 (holder_of x)) 128 0 ≡ tab_from has_signal 128 0
unfolding holder_of character_of raised
same_has = refl

-- Where a byte's row is: a letter's by its last five bits, any other's where the figure column has the byte. A byte of which
-- nothing is said has the value that the table has, so that one table says it of all.
abbrev letter_held : ℕ → ℕ
letter_held x = if has_signal x && leb 65 x then bit_and x 31 else holder_of x

letter_table : tab_from letter_held 128 0 ≡ tab_from holder_of 128 0
unfolding holder_of character_of raised
letter_table = refl

abbrev figure_held : ℕ → ℕ
figure_held x = if has_signal x then (row_of (holder_of x - 1)).2 else x

figure_table : tab_from figure_held 65 0 ≡ tab_from (λ x. x) 65 0
unfolding holder_of row_of character_of raised
figure_table = refl

abbrev place_holds : ℕ → ℕ
place_holds p = if has_signal (row_of p).2 then holder_of (row_of p).2 else suc p

place_table : tab_from place_holds 35 0 ≡ tab_from suc 35 0
unfolding holder_of row_of character_of raised
place_table = refl

module _ (x : ℕ) (has : has_signal x ≡ true) where
  low : x < 128
  low = signal_is_low x has

  pub holder_le : holder_of x ≤ 35
  unfolding holder_of raised
  holder_le = leb→le _ _ (at_below (λ x. leb (holder_of x) 35) 128 tt x low)

  pub holder_pos : 0 < holder_of x
  holder_pos = ltb-true 0 (holder_of x) (same_table (λ x. ltb 0 (holder_of x)) has_signal 128 false same_has x low ∙ has)

  -- the row at its signal's place
  pub has_row : (place : ℕ) → place ≡ holder_of x - 1 → (r : Row) → r ≡ row_of place → HasRow x r
  has_row place e r p = record { has = has; row = p ∙ ap row_of e }

  -- the letters are signals 1 to 26, as their last five bits count them, small or not
  pub letter_holder : 65 ≤ x → bit_and x 31 ≡ holder_of x
  letter_holder l = rw (has, le-leb 65 x l) at (same_table letter_held holder_of 128 0 letter_table x low)

  -- any other byte is in the figure column where its signal's row is, and nowhere else
  figure_there : x < 65 → (row_of (holder_of x - 1)).2 ≡ x
  figure_there l = rw has at (same_table figure_held (λ x. x) 65 0 figure_table x l)

  pub figure_hit : (place : ℕ) → place < 35 → (row_of place).2 ≡ x → holder_of x ≡ suc place
  figure_hit place h e = rw (e, has) at (same_table place_holds suc 35 0 place_table place h)

  pub figure_missed : x < 65 → (place : ℕ) → place < holder_of x → ((row_of place).2 ≡ x → ⊥) → place + 1 < holder_of x
  figure_missed l place h n = go (ltb (place + 1) (holder_of x)) refl
    where
      go : (b : Bool) → ltb (place + 1) (holder_of x) ≡ b → place + 1 < holder_of x
      go true e = ltb-true (place + 1) (holder_of x) e
      go false e =
          let here : holder_of x - 1 ≡ place = omega (arith, h, ltb-false (place + 1) (holder_of x) e) in
          absurd (n (rw here at (figure_there l)))

at_row : (c : Case) (n x : ℕ) → 0 < n → by_number c n x ≡ by_row c (row_of (n - 1)) x
unfolding by_number
at_row c zero x f = absurd (omega arith)
at_row c (suc n) x f = ap (λ (m : ℕ). by_row c (row_of m) x) (sym (sub-one (suc n)))

shift_none : (c : Case) → shift c c ≡ []
shift_none Letters = refl
shift_none Figures = refl

shift_one : (c : Case) → shift c (other c) ≡ shift_to (other c) ∷ []
shift_one Letters = refl
shift_one Figures = refl

module _ (x : ℕ) (r : Row) (h : HasRow x r) (c : Case) where
  read : by_row c r x ≡ turned c x
  read =
      ap (λ (r : Row). by_row c r x) h.row
      ∙ sym (at_row c (holder_of x) x (holder_pos x h.has))
      ∙ same_table (λ x. by_number c (holder_of x) x) (turned c) 128 ([], c) (same c) x (low x h.has)

  after : case_after c (character_of x) ≡ (if needs_shift c r x then other c else c)
  after = go (needs_shift c r x) read
    where
      go : (b : Bool) → (if b then (shift_to (other c) ∷ r.0 ∷ [], other c) else (r.0 ∷ [], c)) ≡ turned c x → case_after c (character_of x) ≡ (if b then other c else c)
      go true e = ap (λ (t : Turned). t.1) (sym e)
      go false e = ap (λ (t : Turned). t.1) (sym e)

  shift_then : signals_for c (character_of x) ≡ shift c (case_after c (character_of x)) ++ r.0 ∷ []
  shift_then = go (needs_shift c r x) read
    where
      go : (b : Bool) → (if b then (shift_to (other c) ∷ r.0 ∷ [], other c) else (r.0 ∷ [], c)) ≡ turned c x → signals_for c (character_of x) ≡ shift c (case_after c (character_of x)) ++ r.0 ∷ []
      go true e = rw (← ap (λ (t : Turned). t.0) e, ← ap (λ (t : Turned). t.1) e, shift_one c)
      go false e = rw (← ap (λ (t : Turned). t.0) e, ← ap (λ (t : Turned). t.1) e, shift_none c)

  pub stands : case_after c (character_of x) ≡ c → signals_for c (character_of x) ≡ r.0 ∷ []
  stands e = shift_then ∙ rw (e, shift_none c)

  pub shifts : case_after c (character_of x) ≡ other c → signals_for c (character_of x) ≡ shift_to (other c) ∷ r.0 ∷ []
  shifts e = shift_then ∙ rw (e, shift_one c)

-- the case after a letter, after a figure, and after what is the same in either case
module _ (x : ℕ) (r : Row) (h : HasRow x r) where
  pub after_letter : 65 ≤ x → (c : Case) → case_after c (character_of x) ≡ Letters
  after_letter l Letters = rw (le-ltb x 65 l) at (after x r h Letters)
  after_letter l Figures = rw (le-leb 65 x l) at (after x r h Figures)

  pub after_figure : x < 65 → (r.1 ≡ x → ⊥) → (c : Case) → case_after c (character_of x) ≡ Figures
  after_figure l n Letters = rw (lt-ltb x 65 l, ne_eqb r.1 x n) at (after x r h Letters)
  after_figure l n Figures = rw (lt-leb 65 x l) at (after x r h Figures)

  pub after_same : x < 65 → r.1 ≡ x → (c : Case) → case_after c (character_of x) ≡ c
  after_same l e Letters = rw (lt-ltb x 65 l, eq-eqb r.1 x e) at (after x r h Letters)
  after_same l e Figures = rw (lt-leb 65 x l) at (after x r h Figures)

  -- in figures case the last two are one
  pub stays_figures : x < 65 → case_after Figures (character_of x) ≡ Figures
  stays_figures l = rw (lt-leb 65 x l) at (after x r h Figures)
