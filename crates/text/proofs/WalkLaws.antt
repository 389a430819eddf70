-- A list is turned entry by entry, with a case carried along: `step c x` is what the entry x gives in the case c, and
-- `after c x` the case after it. Encoding and printing are both such a walk, so each law here serves both.
-- Assumes nothing.
use mathlib.Core.Path.{◌≡◌, ap, sym, ◌∙◌}
use mathlib.Core.List.{List, [], ◌∷◌, ◌++◌, append_assoc}
use Prim.Native.Nat.{ℕ, suc, ◌+◌, ◌<◌}
use native.Mathlib.Numerals.{add-one}
use lib.ListN.{length, get_or, drop, length-append}
use lib.Seq.{drop-cons, drop-length}
use Rattle.signals.specs.declared.Case.{Case}

pub record Walk (all : Case → List ℕ → List ℕ) (ends : Case → List ℕ → Case) (step : Case → ℕ → List ℕ) (after : Case → ℕ → Case) : Type 0 where
  pub nil : (c : Case) → all c [] ≡ []
  pub cons : (c : Case) (x : ℕ) (xs : List ℕ) → all c (x ∷ xs) ≡ step c x ++ all (after c x) xs
  pub ends_nil : (c : Case) → ends c [] ≡ c
  pub ends_cons : (c : Case) (x : ℕ) (xs : List ℕ) → ends c (x ∷ xs) ≡ ends (after c x) xs

module _ (all : Case → List ℕ → List ℕ) (ends : Case → List ℕ → Case) (step : Case → ℕ → List ℕ) (after : Case → ℕ → Case) (w : Walk all ends step after) where
  pub all_end : (c : Case) (s : List ℕ) → all c (drop (length s) s) ≡ []
  all_end c s = rw drop-length (w.nil c)

  pub ends_end : (c : Case) (s : List ℕ) → ends c (drop (length s) s) ≡ c
  ends_end c s = rw drop-length (w.ends_nil c)

  -- one list after the other
  pub ends_append : (c : Case) (s t : List ℕ) → ends c (s ++ t) ≡ ends (ends c s) t
  ends_append c [] t = rw (w.ends_nil c)
  ends_append c (x ∷ xs) t = w.ends_cons c x (xs ++ t) ∙ ends_append (after c x) xs t ∙ rw (w.ends_cons c x xs)

  pub all_append : (c : Case) (s t : List ℕ) → all c (s ++ t) ≡ all c s ++ all (ends c s) t
  all_append c [] t = rw (w.nil c, w.ends_nil c)
  all_append c (x ∷ xs) t =
      w.cons c x (xs ++ t)
      ∙ ap (λ (l : List ℕ). step c x ++ l) (all_append (after c x) xs t)
      ∙ rw (w.cons c x xs, w.ends_cons c x xs) (sym (append_assoc (step c x) (all (after c x) xs) (all (ends (after c x) xs) t)))

  module _ (s : List ℕ) (i : ℕ) (h : i < length s) (c : Case) where
    pub all_next : all c (drop i s) ≡ step c (get_or s i 0) ++ all (after c (get_or s i 0)) (drop (i + 1) s)
    all_next = rw (add-one, drop-cons s i 0) (w.cons c (get_or s i 0) (drop (suc i) s))

    pub length_next : length (all c (drop i s)) ≡ length (step c (get_or s i 0)) + length (all (after c (get_or s i 0)) (drop (i + 1) s))
    length_next =
        ap (λ (l : List ℕ). length l) all_next
        ∙ length-append (step c (get_or s i 0)) (all (after c (get_or s i 0)) (drop (i + 1) s))

    pub ends_next : ends c (drop i s) ≡ ends (after c (get_or s i 0)) (drop (i + 1) s)
    ends_next = rw (add-one, drop-cons s i 0) (w.ends_cons c (get_or s i 0) (drop (suc i) s))
