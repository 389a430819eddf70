-- Signal by signal: what `listened` keeps of a list of words, and how that list ends. The words need be no signals. c is the case
-- before the first of them.
--     keep_words                 the case is the list's, and a + is kept exactly while the list ends in + and β any number of
--                                times, the + in figures case
--     over_found, over_heard     the over is heard among further words exactly where a ? among them has such a list before it
--     who_found, who_heard       who are you is heard among them exactly where a D among them stands in figures case
-- Assumes nothing.
use mathlib.Core.Path.{◌≡◌, refl, ap, sym, ◌∙◌}
use mathlib.Core.Bool.{Bool, true, false, ◌||◌, or-true, false≢true}
use mathlib.Core.List.{List, [], ◌∷◌, ◌++◌, append_assoc, append-nil}
use mathlib.Core.Logic.{◌⊎◌, inl, inr}
use Prim.Native.Nat.{ℕ, zero, suc, ◌<◌}
use native.Mathlib.Omega.{arith}
use lib.Dec.{eqb, ltb}
use lib.ListN.{length, replicate, length-append}
use borrow.Author.Tests.{eqb-true, eqb-false, ltb-true, ltb-false}
use Rattle.signals.specs.declared.Case.{Case}
use Rattle.signals.specs.declared.Case.TheVariants.{Letters, Figures}
use Rattle.signals.specs.Meaning.{letters, figures, beta}
use Rattle.mode_a.specs.declared.Listening.{Listening}
use Rattle.mode_a.specs.Over.{query, cross, who, listened}
use Rattle.overs.specs.Overs.{case_at, case_after, HeardWho}
use Rattle.overs.proofs.ListLaws.{same_split, replicate_last, case_append}

-- the words that an over turns on, and all others
data Sort (w : ℕ) : Type 0 where
  is_beta : w ≡ beta → Sort w
  is_letters_lem : w ≡ letters → Sort w
  is_figures_lem : w ≡ figures → Sort w
  is_cross : w ≡ cross → Sort w
  is_query_lem : w ≡ query → Sort w
  is_other_lem : eqb w beta ≡ false → eqb w letters ≡ false → eqb w figures ≡ false → eqb w cross ≡ false → eqb w query ≡ false → Sort w

sort : (w : ℕ) → Sort w
sort w = at_beta (eqb w beta) refl
  where
    at_query : eqb w beta ≡ false → eqb w letters ≡ false → eqb w figures ≡ false → eqb w cross ≡ false → (t : Bool) → eqb w query ≡ t → Sort w
    at_query b l f x true e = is_query_lem (eqb-true w query e)
    at_query b l f x false e = is_other_lem b l f x e

    at_cross : eqb w beta ≡ false → eqb w letters ≡ false → eqb w figures ≡ false → (t : Bool) → eqb w cross ≡ t → Sort w
    at_cross b l f true e = is_cross (eqb-true w cross e)
    at_cross b l f false e = at_query b l f e (eqb w query) refl

    at_figures : eqb w beta ≡ false → eqb w letters ≡ false → (t : Bool) → eqb w figures ≡ t → Sort w
    at_figures b l true e = is_figures_lem (eqb-true w figures e)
    at_figures b l false e = at_cross b l e (eqb w cross) refl

    at_letters : eqb w beta ≡ false → (t : Bool) → eqb w letters ≡ t → Sort w
    at_letters b true e = is_letters_lem (eqb-true w letters e)
    at_letters b false e = at_figures b e (eqb w figures) refl

    at_beta : (t : Bool) → eqb w beta ≡ t → Sort w
    at_beta true e = is_beta (eqb-true w beta e)
    at_beta false e = at_letters e (eqb w letters) refl

-- what is kept after one more word
abbrev keeps : Case → Bool → Bool → Bool → Listening
keeps d p o a = record { case = d; plus = p; over = o; asked = a }

module _ (d : Case) (p o a : Bool) where
  at_beta : listened (keeps d p o a) beta ≡ keeps d p o a
  unfolding listened
  at_beta = refl

  at_letters : listened (keeps d p o a) letters ≡ keeps Letters false o a
  unfolding listened
  at_letters = refl

  at_figures : listened (keeps d p o a) figures ≡ keeps Figures false o a
  unfolding listened
  at_figures = refl

module _ (p o a : Bool) where
  at_cross : listened (keeps Figures p o a) cross ≡ keeps Figures true o a
  unfolding listened
  at_cross = refl

  at_query : listened (keeps Figures p o a) query ≡ keeps Figures false (o || p) a
  unfolding listened
  at_query = refl

  module _ (w : ℕ) (b : eqb w beta ≡ false) (l : eqb w letters ≡ false) (f : eqb w figures ≡ false) where
    at_letter : listened (keeps Letters p o a) w ≡ keeps Letters false o a
    unfolding listened
    at_letter = rw (b, l, f)

    at_other : eqb w cross ≡ false → eqb w query ≡ false → listened (keeps Figures p o a) w ≡ keeps Figures false o (a || eqb w who)
    unfolding listened
    at_other x q = rw (b, l, f, x, q)

-- the list ends in a + and β any number of times, and figures case is in force at the +
pub record Ends (c : Case) (list : List ℕ) : Type 0 where
  pub beginning : List ℕ
  pub betas : ℕ
  pub split : list ≡ beginning ++ cross ∷ replicate betas beta
  pub in_figures_lem : case_after c beginning ≡ Figures

betas_case : (d : Case) (k : ℕ) → case_after d (replicate k beta) ≡ d
unfolding case_after
betas_case d zero = refl
betas_case d (suc k) = betas_case d k

module _ (c : Case) where
  -- one word more
  case_last : (list : List ℕ) (w : ℕ) → case_after c (list ++ w ∷ []) ≡ case_at (case_after c list) w
  case_last list w = case_append c list (w ∷ []) ∙ (unfold case_after in refl)

  pub cross_then_betas : (list : List ℕ) (k : ℕ) → case_after c (list ++ cross ∷ replicate k beta) ≡ case_after c list
  cross_then_betas list k =
      case_append c list (cross ∷ replicate k beta)
      ∙ (unfold case_after in betas_case (case_after c list) k)

  pub ends_figures : (list : List ℕ) → Ends c list → case_after c list ≡ Figures
  ends_figures list n = rw n.split (cross_then_betas n.beginning n.betas ∙ n.in_figures_lem)

  ends_cross : (list : List ℕ) → case_after c list ≡ Figures → Ends c (list ++ cross ∷ [])
  ends_cross list f = record { beginning = list; betas = 0; split = refl; in_figures_lem = f }

  ends_beta : (list : List ℕ) → Ends c list → Ends c (list ++ beta ∷ [])
  ends_beta list n = record {
    beginning = n.beginning;
    betas = suc n.betas;
    split = ap (λ (l : List ℕ). l ++ beta ∷ []) n.split ∙ append_assoc n.beginning (cross ∷ replicate n.betas beta) (beta ∷ []) ∙ ap (λ (l : List ℕ). n.beginning ++ cross ∷ l) (replicate_last n.betas beta);
    in_figures_lem = n.in_figures_lem;
  }

  -- such a list has a + or a β last
  ends_last : (list : List ℕ) (w : ℕ) → Ends c (list ++ w ∷ []) → ((w ≡ cross) × (case_after c list ≡ Figures)) ⊎ ((w ≡ beta) × Ends c list)
  ends_last list w n = go n.betas n.split
    where
      go : (k : ℕ) → list ++ w ∷ [] ≡ n.beginning ++ cross ∷ replicate k beta → ((w ≡ cross) × (case_after c list ≡ Figures)) ⊎ ((w ≡ beta) × Ends c list)
      go zero e =
          let p = same_split list n.beginning (w ∷ []) (cross ∷ []) refl e in
          let h : w ∷ [] ≡ cross ∷ [] = p.1 in
          inl (cc, rw p.0 n.in_figures_lem)
      go (suc k) e =
          let p = same_split list (n.beginning ++ cross ∷ replicate k beta) (w ∷ []) (beta ∷ []) refl (e ∙ ap (λ (l : List ℕ). n.beginning ++ cross ∷ l) (sym (replicate_last k beta)) ∙ sym (append_assoc n.beginning (cross ∷ replicate k beta) (beta ∷ []))) in
          let h : w ∷ [] ≡ beta ∷ [] = p.1 in
          inr (cc, record { beginning = n.beginning; betas = k; split = p.0; in_figures_lem = n.in_figures_lem })

-- what a station has kept after the list: the case in force, and a + exactly where the list ends so
pub record Keeps (c : Case) (list : List ℕ) (d : Case) (p : Bool) : Type 0 where
  pub case_kept : d ≡ case_after c list
  pub plus_ends : p ≡ true → Ends c list
  pub ends_plus : Ends c list → p ≡ true

letters_figures {ℓ} : {A : Type ℓ} → Letters ≡ Figures → A
letters_figures e = let z : ◌≡◌ {A = ℕ} 0 1 = cc in absurd (omega arith)

module _ (c : Case) (list : List ℕ) where
  keep_beta : (d : Case) (p : Bool) → Keeps c list d p → Keeps c (list ++ beta ∷ []) d p
  keep_beta d p k = record {
    case_kept = k.case_kept ∙ sym (case_last c list beta);
    plus_ends = λ t. ends_beta c list (k.plus_ends t);
    ends_plus = λ n. back (ends_last c list beta n);
  }
    where
      back : ((beta ≡ cross) × (case_after c list ≡ Figures)) ⊎ ((beta ≡ beta) × Ends c list) → p ≡ true
      back (inl h) = absurd (omega (arith, h.0))
      back (inr h) = k.ends_plus h.1

  keep_cross : case_after c list ≡ Figures → Keeps c (list ++ cross ∷ []) Figures true
  keep_cross f = record {
    case_kept = sym f ∙ sym (case_last c list cross);
    plus_ends = λ t. ends_cross c list f;
    ends_plus = λ n. refl;
  }

  -- a word that is neither β nor a + in figures case
  keep_none : (w : ℕ) (d : Case) → d ≡ case_at (case_after c list) w → (w ≡ beta → ⊥) → (w ≡ cross → case_after c list ≡ Figures → ⊥) → Keeps c (list ++ w ∷ []) d false
  keep_none w d e b x = record {
    case_kept = e ∙ sym (case_last c list w);
    plus_ends = λ t. absurd (false≢true t);
    ends_plus = λ n. absurd (back (ends_last c list w n));
  }
    where
      back : ((w ≡ cross) × (case_after c list ≡ Figures)) ⊎ ((w ≡ beta) × Ends c list) → ⊥
      back (inl h) = x h.0 h.1
      back (inr h) = b h.0

  -- any word
  keep_word : (d : Case) (p o a : Bool) (w : ℕ) → Sort w → Keeps c list d p → Keeps c (list ++ w ∷ []) (listened (keeps d p o a) w).case (listened (keeps d p o a) w).plus
  keep_word d p o a w (is_beta e) k = rw (e, at_beta d p o a) (keep_beta d p k)
  keep_word d p o a w (is_letters_lem e) k =
      rw (e, at_letters d p o a) (keep_none letters Letters refl (λ b. omega arith) (λ x f. omega arith))
  keep_word d p o a w (is_figures_lem e) k =
      rw (e, at_figures d p o a) (keep_none figures Figures refl (λ b. omega arith) (λ x f. omega arith))
  keep_word Letters p o a w (is_cross e) k =
      rw (e, at_letter p o a cross refl refl refl) (keep_none cross Letters k.case_kept (λ b. omega arith) (λ x f. letters_figures (k.case_kept ∙ f)))
  keep_word Figures p o a w (is_cross e) k = rw (e, at_cross p o a) (keep_cross (sym k.case_kept))
  keep_word Letters p o a w (is_query_lem e) k =
      rw (e, at_letter p o a query refl refl refl) (keep_none query Letters k.case_kept (λ b. omega arith) (λ x f. omega arith))
  keep_word Figures p o a w (is_query_lem e) k =
      rw (e, at_query p o a) (keep_none query Figures k.case_kept (λ b. omega arith) (λ x f. omega arith))
  keep_word Letters p o a w (is_other_lem b l f x q) k =
      rw (at_letter p o a w b l f) (keep_none w Letters (rw (l, f) k.case_kept) (eqb-false w beta b) (λ y z. eqb-false w cross x y))
  keep_word Figures p o a w (is_other_lem b l f x q) k =
      rw (at_other p o a w b l f x q) (keep_none w Figures (rw (l, f) k.case_kept) (eqb-false w beta b) (λ y z. eqb-false w cross x y))

  -- the word that an over was heard at is a ? with such a list before it
  over_word : (d : Case) (p o a : Bool) (w : ℕ) → Sort w → Keeps c list d p → (listened (keeps d p o a) w).over ≡ true → (o ≡ true) ⊎ ((w ≡ query) × Ends c list)
  over_word d p o a w (is_beta e) k h = inl (rw (e, at_beta d p o a) at h)
  over_word d p o a w (is_letters_lem e) k h = inl (rw (e, at_letters d p o a) at h)
  over_word d p o a w (is_figures_lem e) k h = inl (rw (e, at_figures d p o a) at h)
  over_word Letters p o a w (is_cross e) k h = inl (rw (e, at_letter p o a cross refl refl refl) at h)
  over_word Figures p o a w (is_cross e) k h = inl (rw (e, at_cross p o a) at h)
  over_word Letters p o a w (is_query_lem e) k h = inl (rw (e, at_letter p o a query refl refl refl) at h)
  over_word Figures p true a w (is_query_lem e) k h = inl refl
  over_word Figures p false a w (is_query_lem e) k h = inr (e, k.plus_ends (rw (e, at_query p false a) at h))
  over_word Letters p o a w (is_other_lem b l f x q) k h = inl (rw (at_letter p o a w b l f) at h)
  over_word Figures p o a w (is_other_lem b l f x q) k h = inl (rw (at_other p o a w b l f x q) at h)

  -- and at such a ? it is heard
  over_query : (d : Case) (p o a : Bool) → Keeps c list d p → Ends c list → (listened (keeps d p o a) query).over ≡ true
  over_query Letters p o a k n = letters_figures (k.case_kept ∙ ends_figures c list n)
  over_query Figures p o a k n = rw (at_query p o a, k.ends_plus n) (or-true o)

over_stays : (d : Case) (p a : Bool) (w : ℕ) → Sort w → (listened (keeps d p true a) w).over ≡ true
over_stays d p a w (is_beta e) = rw (e, at_beta d p true a)
over_stays d p a w (is_letters_lem e) = rw (e, at_letters d p true a)
over_stays d p a w (is_figures_lem e) = rw (e, at_figures d p true a)
over_stays Letters p a w (is_cross e) = rw (e, at_letter p true a cross refl refl refl)
over_stays Figures p a w (is_cross e) = rw (e, at_cross p true a)
over_stays Letters p a w (is_query_lem e) = rw (e, at_letter p true a query refl refl refl)
over_stays Figures p a w (is_query_lem e) = rw (e, at_query p true a)
over_stays Letters p a w (is_other_lem b l f x q) = rw (at_letter p true a w b l f)
over_stays Figures p a w (is_other_lem b l f x q) = rw (at_other p true a w b l f x q)

-- what is kept after further words
abbrev pub listened_to : Listening → List ℕ → Listening
listened_to l [] = l
listened_to l (w ∷ ws) = listened_to (listened l w) ws

-- the list goes on with `words`, and among them stands a ? with such a list before it
pub record OverAt (c : Case) (list words : List ℕ) : Type 0 where
  pub before : List ℕ
  pub rest : List ℕ
  pub split : list ++ words ≡ before ++ query ∷ rest
  pub in_words : length rest < length words
  pub ends : Ends c before

over_lasts : (words : List ℕ) (l : Listening) → l.over ≡ true → (listened_to l words).over ≡ true
over_lasts [] l h = h
over_lasts (w ∷ ws) l h =
    over_lasts ws (listened l w) (ap (λ (o : Bool). (listened (keeps l.case l.plus o l.asked) w).over) h ∙ over_stays l.case l.plus l.asked w (sort w))

module _ (c : Case) where
  pub keep_words : (words list : List ℕ) (l : Listening) → Keeps c list l.case l.plus → Keeps c (list ++ words) (listened_to l words).case (listened_to l words).plus
  keep_words [] list l k = rw (append-nil list) k
  keep_words (w ∷ ws) list l k =
      rw (append_assoc list (w ∷ []) ws) at (keep_words ws (list ++ w ∷ []) (listened l w) (keep_word c list l.case l.plus l.over l.asked w (sort w) k))

  pub over_found : (words list : List ℕ) (l : Listening) → Keeps c list l.case l.plus → (listened_to l words).over ≡ true → (l.over ≡ true) ⊎ OverAt c list words
  over_found [] list l k h = inl h
  over_found (w ∷ ws) list l k h =
      first (over_found ws (list ++ w ∷ []) (listened l w) (keep_word c list l.case l.plus l.over l.asked w (sort w) k) h)
    where
      here : (l.over ≡ true) ⊎ ((w ≡ query) × Ends c list) → (l.over ≡ true) ⊎ OverAt c list (w ∷ ws)
      here (inl o) = inl o
      here (inr q) = inr (record { before = list; rest = ws; split = rw q.0; in_words = omega arith; ends = q.1 })

      first : ((listened l w).over ≡ true) ⊎ OverAt c (list ++ w ∷ []) ws → (l.over ≡ true) ⊎ OverAt c list (w ∷ ws)
      first (inl o) = here (over_word c list l.case l.plus l.over l.asked w (sort w) k o)
      first (inr a) = inr (record {
        before = a.before;
        rest = a.rest;
        split = sym (append_assoc list (w ∷ []) ws) ∙ a.split;
        in_words = omega (arith, a.in_words);
        ends = a.ends;
      })

  pub over_heard : (words list : List ℕ) (l : Listening) → Keeps c list l.case l.plus → OverAt c list words → (listened_to l words).over ≡ true
  over_heard [] list l k a = absurd (omega (arith, a.in_words))
  over_heard (w ∷ ws) list l k a = go (ltb (length a.rest) (length ws)) refl (λ b. over_heard ws (list ++ w ∷ []) (listened l w) (keep_word c list l.case l.plus l.over l.asked w (sort w) k) b)
    where
      go : (t : Bool) → ltb (length a.rest) (length ws) ≡ t → (OverAt c (list ++ w ∷ []) ws → (listened_to (listened l w) ws).over ≡ true) → (listened_to (listened l w) ws).over ≡ true
      go true t later = later (record {
        before = a.before;
        rest = a.rest;
        split = append_assoc list (w ∷ []) ws ∙ a.split;
        in_words = ltb-true (length a.rest) (length ws) t;
        ends = a.ends;
      })
      go false t later =
          let p = same_split list a.before (w ∷ ws) (query ∷ a.rest) (omega (arith, a.in_words, ltb-false (length a.rest) (length ws) t)) a.split in
          let h : w ∷ ws ≡ query ∷ a.rest = p.1 in
          let q : w ≡ query = cc in
          over_lasts ws (listened l w) (rw q (over_query c list l.case l.plus l.over l.asked k (rw p.0 a.ends)))

-- the case after one word more
case_listened : (d : Case) (p o a : Bool) (w : ℕ) → Sort w → (listened (keeps d p o a) w).case ≡ case_at d w
case_listened d p o a w (is_beta e) = rw (e, at_beta d p o a)
case_listened d p o a w (is_letters_lem e) = rw (e, at_letters d p o a)
case_listened d p o a w (is_figures_lem e) = rw (e, at_figures d p o a)
case_listened Letters p o a w (is_cross e) = rw (e, at_letter p o a cross refl refl refl)
case_listened Figures p o a w (is_cross e) = rw (e, at_cross p o a)
case_listened Letters p o a w (is_query_lem e) = rw (e, at_letter p o a query refl refl refl)
case_listened Figures p o a w (is_query_lem e) = rw (e, at_query p o a)
case_listened Letters p o a w (is_other_lem b l f x q) = rw (at_letter p o a w b l f, l, f)
case_listened Figures p o a w (is_other_lem b l f x q) = rw (at_other p o a w b l f x q, l, f)

-- the word that asks is a D in figures case
asked_word : (d : Case) (p o : Bool) (w : ℕ) → Sort w → (listened (keeps d p o false) w).asked ≡ true → (w ≡ who) × (d ≡ Figures)
asked_word d p o w (is_beta e) h = absurd (false≢true (rw (e, at_beta d p o false) at h))
asked_word d p o w (is_letters_lem e) h = absurd (false≢true (rw (e, at_letters d p o false) at h))
asked_word d p o w (is_figures_lem e) h = absurd (false≢true (rw (e, at_figures d p o false) at h))
asked_word Letters p o w (is_cross e) h = absurd (false≢true (rw (e, at_letter p o false cross refl refl refl) at h))
asked_word Figures p o w (is_cross e) h = absurd (false≢true (rw (e, at_cross p o false) at h))
asked_word Letters p o w (is_query_lem e) h = absurd (false≢true (rw (e, at_letter p o false query refl refl refl) at h))
asked_word Figures p o w (is_query_lem e) h = absurd (false≢true (rw (e, at_query p o false) at h))
asked_word Letters p o w (is_other_lem b l f x q) h = absurd (false≢true (rw (at_letter p o false w b l f) at h))
asked_word Figures p o w (is_other_lem b l f x q) h = (eqb-true w who (rw (at_other p o false w b l f x q) at h), refl)

-- and such a D asks
who_asks : (p o a : Bool) → (listened (keeps Figures p o a) who).asked ≡ true
who_asks p o a = rw (at_other p o a who refl refl refl refl refl) (or-true a)

asked_stays : (d : Case) (p o : Bool) (w : ℕ) → Sort w → (listened (keeps d p o true) w).asked ≡ true
asked_stays d p o w (is_beta e) = rw (e, at_beta d p o true)
asked_stays d p o w (is_letters_lem e) = rw (e, at_letters d p o true)
asked_stays d p o w (is_figures_lem e) = rw (e, at_figures d p o true)
asked_stays Letters p o w (is_cross e) = rw (e, at_letter p o true cross refl refl refl)
asked_stays Figures p o w (is_cross e) = rw (e, at_cross p o true)
asked_stays Letters p o w (is_query_lem e) = rw (e, at_letter p o true query refl refl refl)
asked_stays Figures p o w (is_query_lem e) = rw (e, at_query p o true)
asked_stays Letters p o w (is_other_lem b l f x q) = rw (at_letter p o true w b l f)
asked_stays Figures p o w (is_other_lem b l f x q) = rw (at_other p o true w b l f x q)

asked_lasts : (words : List ℕ) (l : Listening) → l.asked ≡ true → (listened_to l words).asked ≡ true
asked_lasts [] l h = h
asked_lasts (w ∷ ws) l h =
    asked_lasts ws (listened l w) (ap (λ (a : Bool). (listened (keeps l.case l.plus l.over a) w).asked) h ∙ asked_stays l.case l.plus l.over w (sort w))

module _ (c : Case) where
  case_next : (list : List ℕ) (w : ℕ) (l : Listening) → l.case ≡ case_after c list → (listened l w).case ≡ case_after c (list ++ w ∷ [])
  case_next list w l k =
      case_listened l.case l.plus l.over l.asked w (sort w) ∙ ap (λ (d : Case). case_at d w) k ∙ sym (case_last c list w)

  pub who_found : (words list : List ℕ) (l : Listening) → l.case ≡ case_after c list → l.asked ≡ false → (listened_to l words).asked ≡ true → HeardWho c list words
  who_found [] list l k n h = absurd (false≢true (sym n ∙ h))
  who_found (w ∷ ws) list l k n h =
      go (listened l w).asked refl (λ a. who_found ws (list ++ w ∷ []) (listened l w) (case_next list w l k) a h)
    where
      go : (t : Bool) → (listened l w).asked ≡ t → ((listened l w).asked ≡ false → HeardWho c (list ++ w ∷ []) ws) → HeardWho c list (w ∷ ws)
      go true a later =
          let q = asked_word l.case l.plus l.over w (sort w) (ap (λ (a : Bool). (listened (keeps l.case l.plus l.over a) w).asked) (sym n) ∙ a) in
          record { beginning = []; rest = ws; split = rw q.0; figures_at_who = rw (append-nil list) (sym k ∙ q.1) }
      go false a later =
          let x = later a in
          record {
            beginning = w ∷ x.beginning;
            rest = x.rest;
            split = ap (λ (l : List ℕ). w ∷ l) x.split;
            figures_at_who = ap (case_after c) (sym (append_assoc list (w ∷ []) x.beginning)) ∙ x.figures_at_who;
          }

  pub who_heard : (words list : List ℕ) (l : Listening) → l.case ≡ case_after c list → HeardWho c list words → (listened_to l words).asked ≡ true
  who_heard [] list l k x = absurd (omega (arith, simp length-append at (ap length x.split)))
  who_heard (w ∷ ws) list l k x =
      go x.beginning x.split x.figures_at_who (λ b. who_heard ws (list ++ w ∷ []) (listened l w) (case_next list w l k) b)
    where
      go : (b : List ℕ) → w ∷ ws ≡ b ++ who ∷ x.rest → case_after c (list ++ b) ≡ Figures → (HeardWho c (list ++ w ∷ []) ws → (listened_to (listened l w) ws).asked ≡ true) → (listened_to (listened l w) ws).asked ≡ true
      go [] e f later =
          let d : l.case ≡ Figures = k ∙ (rw (append-nil list) at f) in
          let q : w ≡ who = cc in
          asked_lasts ws (listened l w) (rw q (ap (λ (d : Case). (listened (keeps d l.plus l.over l.asked) who).asked) d ∙ who_asks l.plus l.over l.asked))
      go (y ∷ b) e f later =
          let q : w ≡ y = cc in
          let s : ws ≡ b ++ who ∷ x.rest = cc in
          later (record { beginning = b; rest = x.rest; split = s; figures_at_who = ap (case_after c) (append_assoc list (w ∷ []) b ∙ ap (λ (y : ℕ). list ++ y ∷ b) q) ∙ f })
