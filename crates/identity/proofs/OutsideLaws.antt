-- The index of the first word outside table 3a: as `position` finds it; where it is below the length of one identity, or of two. Assumes nothing.
use mathlib.Core.Path.{◌≡◌, refl, ap, ap₂, sym, ◌∙◌}
use mathlib.Core.Bool.{Bool, true, false, not, ◌&&◌, cond, and-true, and_assoc}
use mathlib.Core.List.{List, [], ◌∷◌, ◌++◌}
use Prim.Native.Nat.{ℕ, suc, ◌+◌, ◌<◌, ◌≤◌}
use native.Mathlib.Nat.{zero-add}
use native.Mathlib.Omega.{arith}
use lib.Dec.{ltb, leb-suc-suc}
use lib.ListN.{length}
use borrow.Author.Tests.{lt-ltb, ltb-false}
use Rattle.std.specs.Option.{unwrap_or}
use Rattle.std.specs.declared.option.Option.TheVariants.{Some, None}
use Rattle.std.specs.List.{position_or_len}
use Rattle.std.proofs.lemmas.List.Recursion.{is_position_or_len}
use Rattle.std.proofs.lemmas.List.Sums.{prefix_len-le-length}
use Rattle.std.specs.Prelude.{if◌then◌else◌}
use Rattle.signals.specs.Numbers.{first_not}
use Rattle.identity.specs.declared.Seven.{Seven}
use Rattle.identity.specs.Table3.{is_identity}
use Rattle.identity.specs.Sums.{signals_of7, is_callable7}

-- the index, from the test of the first word and the index among the others
abbrev after : Bool → ℕ → ℕ
after b n = if b then suc n else 0

-- what `position` answers, the length where it finds none
module _ (may : ℕ → Bool) where
  abbrev place : List ℕ → ℕ
  place xs = position_or_len (λ w. not (may w)) xs

  found : (xs : List ℕ) → first_not may xs ≡ place xs
  unfolding first_not
  found = is_position_or_len (first_not may) (λ w. not (may w)) refl (λ x xs. go (may x) (first_not may xs))
    where
      go : (b : Bool) (n : ℕ) → after b n ≡ cond (not b) 0 (1 + n)
      go true n = omega arith
      go false n = refl

  pub outside_found : (xs : List ℕ) →
      unwrap_or (cond (ltb (place xs) (length xs)) (Some (place xs)) None) (length xs) ≡ first_not may xs
  outside_found xs = rw (found xs) (go (ltb (place xs) (length xs)) refl)
    where
      go : (b : Bool) → ltb (place xs) (length xs) ≡ b → unwrap_or (cond b (Some (place xs)) None) (length xs) ≡ place xs
      go true e = refl
      go false e = omega (arith, prefix_len-le-length (λ w. not (not (may w))) xs, ltb-false)

-- of a list and another behind it: the index is in the first, or past it
module _ (may : ℕ → Bool) where
  pub first_within : (xs ys : List ℕ) → first_not may xs < length xs → first_not may (xs ++ ys) ≡ first_not may xs
  unfolding first_not
  first_within [] ys h = absurd (omega arith)
  first_within (x ∷ xs) ys h = go (may x) h (first_within xs ys)
    where
      go : (b : Bool) → after b (first_not may xs) < suc (length xs) →
          (first_not may xs < length xs → first_not may (xs ++ ys) ≡ first_not may xs) →
          after b (first_not may (xs ++ ys)) ≡ after b (first_not may xs)
      go true h later = ap suc (later (omega arith))
      go false h later = refl

  pub first_past : (xs ys : List ℕ) → length xs ≤ first_not may xs → first_not may (xs ++ ys) ≡ length xs + first_not may ys
  unfolding first_not
  first_past [] ys h = sym (zero-add (first_not may ys))
  first_past (x ∷ xs) ys h = go (may x) h (first_past xs ys)
    where
      go : (b : Bool) → suc (length xs) ≤ after b (first_not may xs) →
          (length xs ≤ first_not may xs → first_not may (xs ++ ys) ≡ length xs + first_not may ys) →
          after b (first_not may (xs ++ ys)) ≡ suc (length xs) + first_not may ys
      go true h later = omega (arith, later (omega arith))
      go false h later = absurd (omega arith)

  -- every word passes
  abbrev pub all_of : List ℕ → Bool
  all_of [] = true
  all_of (x ∷ xs) = may x && all_of xs

  pub outside_test : (xs : List ℕ) → ltb (first_not may xs) (length xs) ≡ not (all_of xs)
  unfolding first_not
  outside_test [] = refl
  outside_test (x ∷ xs) = go (may x) (outside_test xs)
    where
      go : (b : Bool) → ltb (first_not may xs) (length xs) ≡ not (all_of xs) →
          ltb (after b (first_not may xs)) (suc (length xs)) ≡ not (b && all_of xs)
      go true later = leb-suc-suc (suc (first_not may xs)) (length xs) ∙ later
      go false later = lt-ltb 0 (suc (length xs)) (omega arith)

  all_append : (xs ys : List ℕ) → all_of (xs ++ ys) ≡ all_of xs && all_of ys
  all_append [] ys = refl
  all_append (x ∷ xs) ys = ap (λ (b : Bool). may x && b) (all_append xs ys) ∙ sym (and_assoc (may x) (all_of xs) (all_of ys))

callable_7 : (i : Seven) → all_of is_identity (signals_of7 i) ≡ is_callable7 i
unfolding is_callable7
callable_7 i = rw (and-true (is_identity i.6))

-- one identity
pub outside_7 : (i : Seven) → ltb (first_not is_identity (signals_of7 i)) 7 ≡ not (is_callable7 i)
outside_7 i = outside_test is_identity (signals_of7 i) ∙ ap not (callable_7 i)

-- and two, one behind the other
module _ (i j : Seven) where
  pub outside_first : first_not is_identity (signals_of7 i) < 7 →
      first_not is_identity (signals_of7 i ++ signals_of7 j) ≡ first_not is_identity (signals_of7 i)
  outside_first h = first_within is_identity (signals_of7 i) (signals_of7 j) h

  pub outside_second : 7 ≤ first_not is_identity (signals_of7 i) →
      first_not is_identity (signals_of7 i ++ signals_of7 j) ≡ 7 + first_not is_identity (signals_of7 j)
  outside_second h = first_past is_identity (signals_of7 i) (signals_of7 j) h

  pub outside_14 : ltb (first_not is_identity (signals_of7 i ++ signals_of7 j)) 14 ≡ not (is_callable7 i && is_callable7 j)
  outside_14 =
      outside_test is_identity (signals_of7 i ++ signals_of7 j)
      ∙ ap not (all_append is_identity (signals_of7 i) (signals_of7 j) ∙ ap₂ ◌&&◌ (callable_7 i) (callable_7 j))
