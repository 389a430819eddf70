-- A code of at most 20 signals passes where it passes in one pass from figures case: what `judged` looks at is what `listened_in` keeps, and
-- what passes from figures passes from letters. Assumes nothing.
use mathlib.Core.Path.{◌≡◌, refl, ap, sym, ◌∙◌}
use mathlib.Core.Bool.{Bool, true, false, not, ◌&&◌}
use mathlib.Core.List.{List, [], ◌∷◌}
use Prim.Native.Nat.{ℕ}
use native.Mathlib.Omega.{arith}
use lib.Dec.{eqb, leb, leb-suc-zero, leb-suc-suc}
use lib.ListN.{length}
use borrow.Author.Tests.{eqb-true}
use Rattle.std.specs.Prelude.{if◌then◌else◌}
use Rattle.signals.specs.declared.Case.{Case}
use Rattle.signals.specs.declared.Case.TheVariants.{Letters, Figures}
use Rattle.signals.specs.Meaning.{meaning_of, traffic_of, letters, figures, beta}
use Rattle.signals.specs.Numbers.{first_not}
use Rattle.mode_a.specs.declared.Code.{Code}
use Rattle.mode_a.specs.declared.Listening.{Listening}
use Rattle.mode_a.specs.Over.{cross, query, who, signal_in, listened, keeping}
use Rattle.mode_a.specs.Answerback.{code_signals, listened_in, holds_neither, passes}
use Rattle.answerback.specs.Judged.{is_plain, special, judged}

pub false_true : {A : Type 0} → false ≡ true → A
false_true e = let z : ◌≡◌ {A = ℕ} 0 1 = cc in absurd (omega arith)

-- which word it is, of those that are not plain though they are traffic
data Kind (w : ℕ) : Type 0 where
  is_letters : w ≡ letters → Kind w
  is_figures : w ≡ figures → Kind w
  is_who : w ≡ who → Kind w
  is_query : w ≡ query → Kind w
  is_other : eqb w letters ≡ false → eqb w figures ≡ false → eqb w who ≡ false → eqb w query ≡ false → Kind w

kind : (w : ℕ) → Kind w
kind w = go (eqb w letters) refl (eqb w figures) refl (eqb w who) refl (eqb w query) refl
  where
    go : (l : Bool) → eqb w letters ≡ l → (f : Bool) → eqb w figures ≡ f → (d : Bool) → eqb w who ≡ d → (q : Bool) → eqb w query ≡ q → Kind w
    go true e f e₁ d e₂ q e₃ = is_letters (eqb-true w letters e)
    go false e true e₁ d e₂ q e₃ = is_figures (eqb-true w figures e₁)
    go false e false e₁ true e₂ q e₃ = is_who (eqb-true w who e₂)
    go false e false e₁ false e₂ true e₃ = is_query (eqb-true w query e₃)
    go false e false e₁ false e₂ false e₃ = is_other e e₁ e₂ e₃

not_β : (w : ℕ) → traffic_of w ≡ true → eqb w beta ≡ false
unfolding traffic_of meaning_of
not_β w t = go (eqb w beta) refl
  where
    go : (b : Bool) → eqb w beta ≡ b → b ≡ false
    go true e = false_true (sym (ap traffic_of (eqb-true w beta e)) ∙ t)
    go false e = refl

-- all of some words are traffic
abbrev all_traffic : List ℕ → Bool
all_traffic ws = leb (length ws) (first_not traffic_of ws)

traffic_next : (w : ℕ) (ws : List ℕ) → traffic_of w ≡ true → all_traffic (w ∷ ws) ≡ all_traffic ws
unfolding first_not
traffic_next w ws t = rw (t, leb-suc-suc)

traffic_none : (w : ℕ) (ws : List ℕ) → traffic_of w ≡ false → all_traffic (w ∷ ws) ≡ false
unfolding first_not
traffic_none w ws t = rw (t, leb-suc-zero)

-- neither the over nor who are you was heard; once one was, that stays
abbrev neither : Listening → Bool
neither l = not l.over && not l.asked

by_if : {A : Type 0} (P : A → Type 0) (t : Bool) {x y : A} → P x → P y → P (if t then x else y)
by_if P true p q = p
by_if P false p q = q

abbrev Spoilt : Listening → Type 0
Spoilt l = neither l ≡ false

spoilt_signal : (c : Case) (p o a : Bool) (w : ℕ) → (not o && not a) ≡ false → Spoilt (signal_in c p o a w)
spoilt_signal Letters p o a w e = e
spoilt_signal Figures p true a w e = by_if Spoilt (eqb w cross) refl (by_if Spoilt (eqb w query) refl refl)
spoilt_signal Figures true false true w e = by_if Spoilt (eqb w cross) refl (by_if Spoilt (eqb w query) refl refl)
spoilt_signal Figures false false true w e = by_if Spoilt (eqb w cross) refl (by_if Spoilt (eqb w query) refl refl)
spoilt_signal Figures p false false w e = false_true (sym e)

spoilt_next : (l : Listening) (w : ℕ) → Spoilt l → Spoilt (listened l w)
unfolding listened
spoilt_next l w e =
    by_if Spoilt (eqb w beta) e
    (by_if Spoilt (eqb w letters) e (by_if Spoilt (eqb w figures) e (spoilt_signal l.case l.plus l.over l.asked w e)))

spoilt : (l : Listening) (ws : List ℕ) → Spoilt l → Spoilt (listened_in l ws)
spoilt l [] e = e
spoilt l (w ∷ ws) e = spoilt (listened l w) ws (spoilt_next l w e)

-- what `listened_in` has kept, where the word b came last
abbrev kept : Case → ℕ → Listening
kept Figures b = keeping Figures (eqb b cross)
kept Letters b = keeping Letters false

abbrev Judges : Case → ℕ → List ℕ → Type 0
Judges f b ws = judged f b ws ≡ (all_traffic ws && neither (listened_in (kept f b) ws))

and_false : (a : Bool) → (a && false) ≡ false
and_false true = refl
and_false false = refl

module _ (w : ℕ) (ws : List ℕ) (ih : (f : Case) (b : ℕ) → Judges f b ws) where
  -- ? in figures, behind + or not
  query_next : (b : ℕ) → w ≡ query → (t : Bool) → eqb b cross ≡ t → Judges Figures b (w ∷ ws)
  unfolding judged is_plain special traffic_of meaning_of listened
  query_next b e true x =
      rw (traffic_next w ws (ap traffic_of e), e, x, spoilt (record { case = Figures; plus = false; over = true; asked = false }) ws refl)
      (sym (and_false (all_traffic ws)))
  query_next b e false x = rw (traffic_next w ws (ap traffic_of e), e, x, e) (ih Figures query)

  -- a plain word, + or not
  plain_kept : (f : Case) (b : ℕ) → traffic_of w ≡ true → eqb w letters ≡ false → eqb w figures ≡ false → eqb w who ≡ false → eqb w query ≡ false → (t : Bool) → eqb w cross ≡ t → listened (kept f b) w ≡ kept f w
  unfolding listened
  plain_kept Figures b t l g d q true x = rw (not_β w t, l, g, x)
  plain_kept Figures b t l g d q false x = rw (not_β w t, l, g, x, q, d)
  plain_kept Letters b t l g d q c x = simp (not_β w t, l, g)

  other_next : (f : Case) (b : ℕ) → eqb w letters ≡ false → eqb w figures ≡ false → eqb w who ≡ false → eqb w query ≡ false → (t : Bool) → traffic_of w ≡ t → Judges f b (w ∷ ws)
  unfolding judged is_plain special
  other_next f b l g d q true t =
      rw (traffic_next w ws t, t, l, g, d, q)
      (ih f w ∙ ap (λ (k : Listening). all_traffic ws && neither (listened_in k ws)) (sym (plain_kept f b t l g d q (eqb w cross) refl)))
  other_next f b l g d q false t = rw (traffic_none w ws t, t, l, g, d, q)

  judges_next : (f : Case) (b : ℕ) → Kind w → Judges f b (w ∷ ws)
  unfolding judged is_plain special traffic_of meaning_of listened
  judges_next Figures b (is_letters e) = rw (traffic_next w ws (ap traffic_of e), e, e) (ih Letters letters)
  judges_next Letters b (is_letters e) = rw (traffic_next w ws (ap traffic_of e), e, e) (ih Letters letters)
  judges_next Figures b (is_figures e) = rw (traffic_next w ws (ap traffic_of e), e, e) (ih Figures figures)
  judges_next Letters b (is_figures e) = rw (traffic_next w ws (ap traffic_of e), e, e) (ih Figures figures)
  judges_next Figures b (is_who e) =
      rw (traffic_next w ws (ap traffic_of e), e, spoilt (record { case = Figures; plus = false; over = false; asked = true }) ws refl)
      (sym (and_false (all_traffic ws)))
  judges_next Letters b (is_who e) = rw (traffic_next w ws (ap traffic_of e), e, e) (ih Letters who)
  judges_next Figures b (is_query e) = query_next b e (eqb b cross) refl
  judges_next Letters b (is_query e) = rw (traffic_next w ws (ap traffic_of e), e, e) (ih Letters query)
  judges_next f b (is_other l g d q) = other_next f b l g d q (traffic_of w) refl

judges : (ws : List ℕ) (f : Case) (b : ℕ) → Judges f b ws
unfolding judged first_not
judges [] Figures b = refl
judges [] Letters b = refl
judges (w ∷ ws) f b = judges_next w ws (judges ws) f b (kind w)

-- what passes from figures passes from letters, whatever stands before: up to the first shift nothing counts in letters, and behind it the two
-- are one
module _ (w : ℕ) (ws : List ℕ) (ih : (b b' : ℕ) → judged Figures b ws ≡ true → judged Letters b' ws ≡ true) where
  letters_other : (b b' : ℕ) → eqb w letters ≡ false → eqb w figures ≡ false → eqb w who ≡ false → eqb w query ≡ false → (t : Bool) → is_plain w ≡ t → judged Figures b (w ∷ ws) ≡ true → judged Letters b' (w ∷ ws) ≡ true
  unfolding judged special
  letters_other b b' l g d q true t h = rw t (ih w w (rw t at h))
  letters_other b b' l g d q false t h = false_true (rw (t, l, g, d, q) at h)

  letters_query : (b b' : ℕ) → w ≡ query → (t : Bool) → eqb b cross ≡ t → judged Figures b (w ∷ ws) ≡ true → judged Letters b' (w ∷ ws) ≡ true
  unfolding judged is_plain special traffic_of meaning_of
  letters_query b b' e true t h = false_true (simp (e, t) at h)
  letters_query b b' e false t h = simp e (ih query query (simp (e, t) at h))

  letters_next : (b b' : ℕ) → Kind w → judged Figures b (w ∷ ws) ≡ true → judged Letters b' (w ∷ ws) ≡ true
  unfolding judged is_plain special traffic_of meaning_of
  letters_next b b' (is_letters e) h = rw e (rw e at h)
  letters_next b b' (is_figures e) h = rw e (rw e at h)
  letters_next b b' (is_who e) h = false_true (rw e at h)
  letters_next b b' (is_query e) h = letters_query b b' e (eqb b cross) refl h
  letters_next b b' (is_other l g d q) h = letters_other b b' l g d q (is_plain w) refl h

from_letters : (ws : List ℕ) (b b' : ℕ) → judged Figures b ws ≡ true → judged Letters b' ws ≡ true
unfolding judged
from_letters [] b b' h = refl
from_letters (w ∷ ws) b b' h = letters_next w ws (from_letters ws) b b' (kind w) h

both_ways : (a l f : Bool) → ((a && f) ≡ true → (a && l) ≡ true) → (a && (l && f)) ≡ (a && f)
both_ways true true f h = refl
both_ways true false true h = h refl
both_ways true false false h = refl
both_ways false l f h = refl

pub passes_judged : (c : Code) → passes c ≡ (leb c.length 20 && judged Figures 0 (code_signals c))
unfolding passes holds_neither
passes_judged c =
    let s = code_signals c in
    ap (λ (t : Bool). leb c.length 20 && t)
    (both_ways (all_traffic s) (neither (listened_in (kept Letters 0) s)) (neither (listened_in (kept Figures 0) s))
    (λ h. sym (judges s Letters 0) ∙ from_letters s 0 0 (judges s Figures 0 ∙ h))
    ∙ sym (judges s Figures 0))
