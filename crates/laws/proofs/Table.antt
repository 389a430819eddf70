-- A rule listed, which antt computes, has the rule's value at each place; so two rules with the same list agree. Assumes nothing.
use mathlib.Core.Path.{◌≡◌, ◌∙◌, ap, sym}
use mathlib.Core.List.{List, [], ◌∷◌}
use Prim.Native.Nat.{ℕ, zero, suc, ◌+◌, ◌<◌}
use native.Mathlib.Nat.{add-zero, zero-add, add-suc, suc-add, le_of_suc-le-suc, not-suc-le-zero}
use lib.ListN.{get_or}

-- the list of f i, f (i + 1), .., n of them
abbrev pub tab_from {ℓ} : {A : Type ℓ} → (ℕ → A) → ℕ → ℕ → List A
tab_from f zero i = []
tab_from f (suc n) i = f i ∷ tab_from f n (suc i)

tab_from_lem {ℓ} : {A : Type ℓ} (f : ℕ → A) (d : A) (n i k : ℕ) → k < n → get_or (tab_from f n i) k d ≡ f (i + k)
tab_from_lem f d zero i k h = absurd (not-suc-le-zero h)
tab_from_lem f d (suc n) i zero h = ap f (sym (add-zero i))
tab_from_lem f d (suc n) i (suc k) h =
    tab_from_lem f d n (suc i) k (le_of_suc-le-suc h) ∙ ap f (suc-add i k ∙ sym (add-suc i k))

tab_at {ℓ} : {A : Type ℓ} (f : ℕ → A) (n : ℕ) (d : A) (k : ℕ) → k < n → get_or (tab_from f n 0) k d ≡ f k
tab_at f n d k h = tab_from_lem f d n 0 k h ∙ ap f (zero-add k)

-- two rules with the same table agree at each place
pub same_table {ℓ} : {A : Type ℓ} (f g : ℕ → A) (n : ℕ) (d : A) → tab_from f n 0 ≡ tab_from g n 0 → (k : ℕ) → k < n → f k ≡ g k
same_table f g n d e k h = sym (tab_at f n d k h) ∙ ap (λ l. get_or l k d) e ∙ tab_at g n d k h
