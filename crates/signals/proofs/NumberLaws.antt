-- Laws of the index of the first entry that fails a test. Assumes nothing.
use mathlib.Core.Path.{◌≡◌, refl, sym}
use mathlib.Core.Bool.{Bool, true, false, not, cond}
use mathlib.Core.List.{List, [], ◌∷◌, ◌++◌}
use Prim.Native.Nat.{ℕ, suc, ◌+◌, ◌<◌, ◌≤◌}
use native.Mathlib.Numerals.{add-one}
use native.Mathlib.Omega.{arith}
use lib.Dec.{ltb}
use borrow.Author.Tests.{ltb-false}
use lib.ListN.{length, get_or, drop}
use lib.Seq.{drop-cons, drop-length}
use Rattle.std.specs.Prelude.{if◌then◌else◌}
use Rattle.std.specs.List.{position, position_or_len}
use Rattle.std.specs.Option.{unwrap_or}
use Rattle.std.proofs.lemmas.List.Recursion.{is_position_or_len}
use Rattle.signals.specs.Numbers.{first_not}

module _ (may : ℕ → Bool) where
  -- from one entry to the next
  pub first_next : (s : List ℕ) (i : ℕ) → i < length s → may (get_or s i 0) ≡ true → first_not may (drop i s) ≡ suc (first_not may (drop (i + 1) s))
  unfolding first_not
  first_next s i h e = rw (add-one, drop-cons s i 0, e)

  pub first_here : (s : List ℕ) (i : ℕ) → i < length s → may (get_or s i 0) ≡ false → first_not may (drop i s) ≡ 0
  unfolding first_not
  first_here s i h e = rw (drop-cons s i 0, e)

  pub first_end : (s : List ℕ) → first_not may (drop (length s) s) ≡ 0
  unfolding first_not
  first_end s = rw drop-length

  pub first_le : (s : List ℕ) → first_not may s ≤ length s
  unfolding first_not
  first_le [] = omega arith
  first_le (x ∷ xs) = go (may x) (first_le xs)
    where
      go : (b : Bool) → first_not may xs ≤ length xs → (if b then suc (first_not may xs) else 0) ≤ suc (length xs)
      go true h = omega arith
      go false h = omega arith

  -- every entry passes: the head, and the rest
  pub all_head : (x : ℕ) (xs : List ℕ) → length (x ∷ xs) ≤ first_not may (x ∷ xs) → (may x ≡ true) × (length xs ≤ first_not may xs)
  unfolding first_not
  all_head x xs h = go (may x) h
    where
      go : (b : Bool) → suc (length xs) ≤ (if b then suc (first_not may xs) else 0) → (b ≡ true) × (length xs ≤ first_not may xs)
      go true h = (refl, omega arith)
      go false h = absurd (omega arith)

  pub all_cons : (x : ℕ) (xs : List ℕ) → may x ≡ true → length xs ≤ first_not may xs → length (x ∷ xs) ≤ first_not may (x ∷ xs)
  unfolding first_not
  all_cons x xs e h = rw e (omega arith)

  -- both parts pass
  pub all_append : (s t : List ℕ) → length s ≤ first_not may s → length t ≤ first_not may t → length (s ++ t) ≤ first_not may (s ++ t)
  all_append [] t g h = h
  all_append (x ∷ xs) t g h =
      let p = all_head x xs g in
      all_cons x (xs ++ t) p.0 (all_append xs t p.1 h)

  -- it is the place that the library finds, of the first entry that fails
  pub first_position : (s : List ℕ) → first_not may s ≡ position_or_len (λ x. not (may x)) s
  unfolding first_not
  first_position s = is_position_or_len (first_not may) (λ x. not (may x)) refl (λ x xs. go (may x) (first_not may xs)) s
    where
      go : (b : Bool) (n : ℕ) → (if b then suc n else 0) ≡ cond (not b) 0 (1 + n)
      go true n = omega arith
      go false n = refl

  pub first_found : (s : List ℕ) → unwrap_or (position (λ x. not (may x)) s) (length s) ≡ first_not may s
  first_found s = go (ltb (position_or_len (λ x. not (may x)) s) (length s)) refl
    where
      go : (b : Bool) → ltb (position_or_len (λ x. not (may x)) s) (length s) ≡ b → unwrap_or (position (λ x. not (may x)) s) (length s) ≡ first_not may s
      go true e = rw e (sym (first_position s))
      go false e = rw e (omega (arith, first_le s, first_position s, ltb-false _ _ e))
