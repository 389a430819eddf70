-- What holds of every character: printing its signals gives it back, a small letter as its capital. Tests that antt computes over
-- the numbers below 128; none from there on has a signal.
-- Assumes nothing.
use mathlib.Core.Path.{◌≡◌, refl, ap, sym, ◌∙◌}
use mathlib.Core.Bool.{Bool, true, false, ◌&&◌}
use mathlib.Core.List.{List, [], ◌∷◌}
use Prim.Native.Nat.{ℕ, ◌<◌, ◌≤◌}
use native.Mathlib.Omega.{arith}
use lib.Dec.{T, eqb, ltb, ltb→lt}
use lib.ListN.{length}
use borrow.Author.Tests.{ne_eqb, ltb-true, ltb-false}
use Rattle.std.specs.Prelude.{if◌then◌else◌}
use Rattle.laws.proofs.Below.{both_left, both_right}
use Rattle.laws.proofs.Table.{tab_from, same_table}
use Rattle.signals.specs.declared.Case.{Case}
use Rattle.signals.specs.declared.Case.TheVariants.{Letters, Figures}
use Rattle.signals.specs.Signals.{Signal, pair, lone, free, mute, signals}
use Rattle.signals.specs.Meaning.{meaning_of, traffic_of}
use Rattle.signals.specs.Numbers.{first_not}
use Rattle.text.specs.Encoding.{Without, raised, character_in, character_of, signals_for, case_after, is_character, has_signal}
use Rattle.text.specs.Printing.{bytes_of, printed, ends_printed, may_print}
use Rattle.text.proofs.RaisedLaws.{raised_stays, small_past}

-- every character of the list is below 128
low : List Signal → Bool
low [] = true
low (pair w l f ∷ ss) = ltb l 128 && (ltb f 128 && low ss)
low (lone w l ∷ ss) = ltb l 128 && low ss
low (free w c ∷ ss) = ltb c 128 && low ss
low (mute w ∷ ss) = low ss

differs : (x l : ℕ) → 128 ≤ x → T (ltb l 128) → eqb x l ≡ false
differs x l h t = ne_eqb x l (λ e. let b = ltb→lt l 128 t in omega arith)

-- a number from 128 on has no signal
past : (ss : List Signal) (x : ℕ) → T (low ss) → 128 ≤ x → character_in ss x ≡ Without
unfolding low
past [] x t h = refl
past (pair w l f ∷ ss) x t h =
    let r = both_right (ltb l 128) (ltb f 128 && low ss) t in
    rw (differs x l h (both_left (ltb l 128) (ltb f 128 && low ss) t), differs x f h (both_left (ltb f 128) (low ss) r))
    (past ss x (both_right (ltb f 128) (low ss) r) h)
past (lone w l ∷ ss) x t h =
    rw (differs x l h (both_left (ltb l 128) (low ss) t)) (past ss x (both_right (ltb l 128) (low ss) t) h)
past (free w c ∷ ss) x t h =
    rw (differs x c h (both_left (ltb c 128) (low ss) t)) (past ss x (both_right (ltb c 128) (low ss) t) h)
past (mute w ∷ ss) x t h = past ss x t h

pub past_none : (x : ℕ) → 128 ≤ x → has_signal x ≡ false
unfolding character_of low
past_none x h =
    let stays = raised_stays x (small_past x (omega arith)) in
    rw stays (ap is_character (past signals x tt h))

pub signal_is_low : (x : ℕ) → has_signal x ≡ true → x < 128
signal_is_low x e = go (ltb x 128) refl
  where
    go : (b : Bool) → ltb x 128 ≡ b → x < 128
    go true p = ltb-true x 128 p
    go false p =
        let z : true ≡ false = sym e ∙ past_none x (ltb-false x 128 p) in
        absurd (never z)
      where
        never : true ≡ false → ⊥
        never z = let k : ◌≡◌ {A = ℕ} 0 1 = cc in omega arith

pub signal_is_byte : (x : ℕ) → has_signal x ≡ true → x < 256
signal_is_byte x e = omega (arith, signal_is_low x e)

-- the signals of a character, printed; a number without a signal stands for itself, so that one table says it of all
abbrev back : Case → ℕ → List ℕ
back c x = if has_signal x then printed c (signals_for c (character_of x)) else raised x ∷ []

back_table : (c : Case) → tab_from (back c) 128 0 ≡ tab_from (λ x. raised x ∷ []) 128 0
unfolding character_of raised printed bytes_of
back_table Letters = refl
back_table Figures = refl

ends_table : (c : Case) → tab_from (λ x. ends_printed c (signals_for c (character_of x))) 128 0 ≡ tab_from (λ x. case_after c (character_of x)) 128 0
unfolding character_of raised ends_printed
ends_table Letters = refl
ends_table Figures = refl

may_table : (c : Case) → tab_from (λ x. first_not may_print (signals_for c (character_of x))) 128 0 ≡ tab_from (λ x. length (signals_for c (character_of x))) 128 0
unfolding character_of raised first_not may_print traffic_of meaning_of
may_table Letters = refl
may_table Figures = refl

module _ (c : Case) (x : ℕ) (h : x < 128) where
  pub character_prints : has_signal x ≡ true → printed c (signals_for c (character_of x)) ≡ raised x ∷ []
  character_prints e = rw e at (same_table (back c) (λ x. raised x ∷ []) 128 [] (back_table c) x h)

  pub character_ends : ends_printed c (signals_for c (character_of x)) ≡ case_after c (character_of x)
  character_ends = same_table (λ x. ends_printed c (signals_for c (character_of x))) (λ x. case_after c (character_of x)) 128 c (ends_table c) x h

  pub character_may : first_not may_print (signals_for c (character_of x)) ≡ length (signals_for c (character_of x))
  character_may = same_table (λ x. first_not may_print (signals_for c (character_of x))) (λ x. length (signals_for c (character_of x))) 128 0 (may_table c) x h
