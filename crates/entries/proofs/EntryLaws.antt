-- A text offer without a third word, and a kind that is none of the eight. Assumes nothing.
use mathlib.Core.Path.{◌≡◌, refl}
use mathlib.Core.List.{List, [], ◌∷◌}
use Prim.Native.Nat.{ℕ, ◌<◌}
use native.Mathlib.Omega.{arith}
use lib.ListN.{length}
use borrow.Author.Tests.{ne_eqb}
use Rattle.mode_a.specs.declared.Role.{Role}
use Rattle.entries.specs.Entries.{unknown, short, text_to, entry_of}

-- a body cut short
pub text_cut : (r : Role) (bs : List ℕ) → length bs < 3 → text_to r bs ≡ short
text_cut r [] h = refl
text_cut r (a ∷ []) h = refl
text_cut r (a ∷ b ∷ []) h = refl
text_cut r (a ∷ b ∷ c ∷ bs) h = absurd (omega arith)

-- a kind that is none of the eight
pub kind_unknown : (k : ℕ) (bs : List ℕ) → ((k ≡ 1) → ⊥) → ((k ≡ 2) → ⊥) → ((k ≡ 3) → ⊥) → ((k ≡ 4) → ⊥) → ((k ≡ 5) → ⊥) → ((k ≡ 6) → ⊥) → ((k ≡ 7) → ⊥) → ((k ≡ 8) → ⊥) → entry_of k bs ≡ unknown
unfolding entry_of
kind_unknown k bs n1 n2 n3 n4 n5 n6 n7 n8 =
    rw (ne_eqb k 1 n1, ne_eqb k 2 n2, ne_eqb k 3 n3, ne_eqb k 4 n4, ne_eqb k 5 n5, ne_eqb k 6 n6, ne_eqb k 7 n7, ne_eqb k 8 n8)
