-- A promise that leaves one answer. Assumes nothing.
use mathlib.Core.Path.{◌≡◌, ap, sym, ◌∙◌}

-- of the form `r ≡ f x`
pub unique {ℓ} : {A : Type ℓ} {r r' a : A} → r ≡ a → r' ≡ a → r ≡ r'
unique p q = p ∙ sym q

-- of the form `said r ≡ f x`, where an answer can be read back from what it says
pub unique_by {ℓ κ} : {A : Type ℓ} {B : Type κ} (said : A → B) (back : B → A) → ((r : A) → back (said r) ≡ r) → {r r' : A} {b : B} → said r ≡ b → said r' ≡ b → r ≡ r'
unique_by said back same {r} {r'} p q = sym (same r) ∙ ap back (p ∙ sym q) ∙ same r'
