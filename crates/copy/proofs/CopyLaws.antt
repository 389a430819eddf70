-- The perfect copy of 01, Mode B, as 02, T-03 has it. Assumes nothing.
use mathlib.Core.Path.{◌≡◌, refl, ap, sym, ◌∙◌}
use mathlib.Core.Bool.{Bool, true, false, ◌&&◌, false≢true}
use mathlib.Core.Logic.{◌⊎◌, inl, inr}
use mathlib.Core.List.{List, [], ◌∷◌, ◌++◌}
use Prim.Native.Nat.{ℕ, zero, suc, ◌+◌, ◌*◌, ◌≤◌, ◌<◌}
use native.Mathlib.Omega.{arith}
use lib.Dec.{eqb, leb}
use borrow.Author.Tests.{eqb-true, eqb-false, leb-true, leb-false}
use lib.ListN.{length, replicate, length-append}
use Rattle.std.specs.Prelude.{if◌then◌else◌}
use Rattle.signals.specs.Meaning.{traffic_of, meaning_of, rq}
use Rattle.mode_b.specs.declared.Receiver.{Receiver}
use Rattle.mode_b.specs.Sender.{Position, carriage_return, line_feed, with_breaks, positions_of, slots_from, slots_of}
use Rattle.signals.specs.Damage.{Damage, kept, hurt, arrives, NoSignal}
use Rattle.copy.specs.Run.{Damages, heard_from, listen}
use Rattle.copy.specs.Premise.{Text, Clause, Premise, LatePremise, FormerPremise, EndsAfter, PerfectCopy, DxIntact, RxIntact, RxSent, last_traffic}
use Rattle.copy.specs.Reading.{two_on, five_on, damaged, intactα, ends_behind, lost, traffic_in, seen_from}
use Rattle.copy.proofs.WordLaws.{traffic}
use Rattle.copy.proofs.StepLaws.{hurt_kept, settles_unbegun}
use Rattle.copy.proofs.QuietLaws.{AllIdle}
use Rattle.copy.proofs.SearchLaws.{alternate, At, at4, s4, locked}
use Rattle.copy.proofs.ReadingLaws.{Ordered, rest, alpha_heard, position, reads, begins_here, breaks_ordered}

abbrev traffics_in : List Position → List ℕ
traffics_in [] = []
traffics_in (p ∷ ps) = traffic_in p ++ traffics_in ps

idle_traffic : (ps : List Position) → AllIdle ps → traffics_in ps ≡ []
idle_traffic [] i = refl
idle_traffic (Position.phasing ∷ ps) i = absurd i
idle_traffic (Position.signal w ∷ ps) i = absurd i
idle_traffic (Position.idle ∷ ps) i = idle_traffic ps i

module _ (d : Damages) where
  -- None is lost before the end. The last two positions are α.
  abbrev NoneLost : ℕ → List Position → Type 0
  NoneLost k [] = Unit {0}
  NoneLost k (p ∷ []) = AllIdle (p ∷ [])
  NoneLost k (p ∷ q ∷ []) = AllIdle (p ∷ q ∷ [])
  NoneLost k (p ∷ q ∷ r ∷ ps) = (lost d k ≡ false) × (ends_behind d k q r ≡ true → AllIdle (q ∷ r ∷ ps)) × (ends_behind d k q r ≡ false → NoneLost (two_on k) (q ∷ r ∷ ps))

  -- what is then seen is the traffic
  seen_all : (ps : List Position) (k : ℕ) → NoneLost k ps → seen_from d k ps ≡ traffics_in ps
  unfolding seen_from
  seen_all [] k n = refl
  seen_all (p ∷ []) k n = sym (idle_traffic (p ∷ []) n)
  seen_all (p ∷ q ∷ []) k n = sym (idle_traffic (p ∷ q ∷ []) n)
  seen_all (p ∷ q ∷ r ∷ ps) k n = rw n.0 (ap (λ (l : List ℕ). traffic_in p ++ l) (go (ends_behind d k q r) refl (λ e. seen_all (q ∷ r ∷ ps) (two_on k) (n.2 e))))
    where
      go : (t : Bool) → ends_behind d k q r ≡ t → (ends_behind d k q r ≡ false → seen_from d (two_on k) (q ∷ r ∷ ps) ≡ traffics_in (q ∷ r ∷ ps)) → (if ends_behind d k q r then [] else seen_from d (two_on k) (q ∷ r ∷ ps)) ≡ traffics_in (q ∷ r ∷ ps)
      go true e ih = rw e (sym (idle_traffic (q ∷ r ∷ ps) (n.1 e)))
      go false e ih = rw e (ih e)

-- The premise, position by position. With one copy kept a position is not lost.
copy_kept : (a b : Damage) → (a ≡ kept) ⊎ (b ≡ kept) → damaged a && damaged b ≡ false
copy_kept kept b c = refl
copy_kept (hurt u) kept c = refl
copy_kept (hurt u) (hurt v) (inl e) = absurd (hurt_kept u e)
copy_kept (hurt u) (hurt v) (inr e) = absurd (hurt_kept v e)

module _ (text : List ℕ) (d : Damages) where
  -- from position t on each has a copy, as long as reception has not ended behind one of these; there are n positions in all
  abbrev Copies : ℕ → ℕ → Type 0
  Copies n t = (s : ℕ) → t ≤ s → s + 2 < n → ((e : ℕ) → t ≤ e → e < s → EndsAfter text d e → ⊥) → DxIntact d s ⊎ RxIntact d s

  next : (n t : ℕ) → Copies n t → (EndsAfter text d t → ⊥) → Copies n (suc t)
  next n t c none s l u f = c s (omega arith) u (λ e m h x. go e m h x (eqb e t) refl)
    where
      go : (e : ℕ) → t ≤ e → e < s → EndsAfter text d e → (b : Bool) → eqb e t ≡ b → ⊥
      go e m h x true i = let j = eqb-true e t i in none (rw j at x)
      go e m h x false i = let j = eqb-false e t i in f e (omega (arith, j)) h x

  kept_ends : (k t : ℕ) → k ≡ 2 * t → EndsAfter text d t → ends_behind d k Position.idle Position.idle ≡ true
  kept_ends k t e x =
      let i : two_on k ≡ 2 * (t + 1) = omega arith in
      let j : two_on (two_on k) ≡ 2 * (t + 2) = omega arith in
      rw (j, i, x.first_α, x.second_α)

  all_idle : (q r : Position) (ps : List Position) (g : Damage) (h : Bool) → Ordered (q ∷ r ∷ ps) → intactα q g && h ≡ true → AllIdle (q ∷ r ∷ ps)
  all_idle Position.phasing r ps g h o e = absurd (false≢true e)
  all_idle (Position.signal w) r ps g h o e = absurd (false≢true e)
  all_idle Position.idle r ps g h o e = o

  one_more : (n k t : ℕ) (p q r : Position) (ps : List Position) → k ≡ 2 * t → t + 2 < n → Ordered (p ∷ q ∷ r ∷ ps) → Copies n t → (EndsAfter text d t → ends_behind d k q r ≡ true) → (Copies n (suc t) → NoneLost d (two_on k) (q ∷ r ∷ ps)) → NoneLost d k (p ∷ q ∷ r ∷ ps)
  one_more n k t p q r ps e h o c f g =
      let i : five_on k ≡ 2 * t + 5 = omega arith in (
        rw (i, e) (copy_kept (d (2 * t)) (d (2 * t + 5)) (c t (omega arith) h (λ e l m x. omega arith))),
        (λ y. all_idle q r ps (d (two_on k)) (intactα r (d (two_on (two_on k)))) (rest p (q ∷ r ∷ ps) o) y),
        (λ y. g (next n t c (λ x. false≢true (sym y ∙ f x)))),
      )

  idle_none_lost : (m n k t : ℕ) → k ≡ 2 * t → t + m ≡ n → Copies n t → NoneLost d k (replicate m Position.idle)
  idle_none_lost zero n k t e h c = tt
  idle_none_lost (suc zero) n k t e h c = tt
  idle_none_lost (suc (suc zero)) n k t e h c = tt
  idle_none_lost (suc (suc (suc m))) n k t e h c = one_more n k t Position.idle Position.idle Position.idle (replicate m Position.idle) e (omega arith) (idle_all m) c (kept_ends k t e) (λ c. idle_none_lost (suc (suc m)) n (two_on k) (suc t) (omega arith) (omega arith) c)
    where
      idle_all : (m : ℕ) → AllIdle (replicate m Position.idle)
      idle_all zero = tt
      idle_all (suc m) = idle_all m

  none_lost : (ps : List Position) (n k t : ℕ) → k ≡ 2 * t → t + length ps ≡ last_traffic text + 1 → n ≡ last_traffic text + 18 → Ordered (ps ++ replicate 17 Position.idle) → Copies n t → NoneLost d k (ps ++ replicate 17 Position.idle)
  none_lost [] n k t e h i o c = idle_none_lost 17 n k t e (omega arith) c
  none_lost (p ∷ []) n k t e h i o c = one_more n k t p Position.idle Position.idle (replicate 15 Position.idle) e (omega arith) o c (kept_ends k t e) (λ c. none_lost [] n (two_on k) (suc t) (omega arith) (omega arith) i tt c)
  none_lost (p ∷ q ∷ []) n k t e h i o c = one_more n k t p q Position.idle (replicate 16 Position.idle) e (omega arith) o c (λ x. let b = x.behind_the_text in absurd (omega arith)) (λ c. none_lost (q ∷ []) n (two_on k) (suc t) (omega arith) (omega arith) i (rest p (q ∷ replicate 17 Position.idle) o) c)
  none_lost (p ∷ q ∷ r ∷ ps) n k t e h i o c = one_more n k t p q r (ps ++ replicate 17 Position.idle) e (omega arith) o c (λ x. let b = x.behind_the_text in absurd (omega arith)) (λ c. none_lost (q ∷ r ∷ ps) n (two_on k) (suc t) (omega arith) (omega arith) i (rest p (q ∷ r ∷ (ps ++ replicate 17 Position.idle)) o) c)

-- the text is what the traffic positions carry
breaks_traffic : (ws : List ℕ) (n : ℕ) → traffics_in (with_breaks n ws ++ replicate 17 Position.idle) ≡ ws
unfolding with_breaks
breaks_traffic [] n = refl
breaks_traffic (w ∷ ws) n = go (eqb n 96) (breaks_traffic ws 1) (breaks_traffic ws (n + 1))
  where
    go : (t : Bool) → traffics_in (with_breaks 1 ws ++ replicate 17 Position.idle) ≡ ws → traffics_in (with_breaks (n + 1) ws ++ replicate 17 Position.idle) ≡ ws → traffics_in ((if t then replicate 4 Position.phasing ++ Position.signal w ∷ with_breaks 1 ws else Position.signal w ∷ with_breaks (n + 1) ws) ++ replicate 17 Position.idle) ≡ w ∷ ws
    go true e f = rw e
    go false e f = rw f

-- The positions from the return on.
abbrev from_return : List ℕ → List Position
from_return text = with_breaks 0 (carriage_return ∷ line_feed ∷ text) ++ replicate 17 Position.idle

positions_length : (text : List ℕ) → length (positions_of text) ≡ last_traffic text + 18
unfolding positions_of
positions_length text = simp length-append (omega arith)

slots_begin : (text : List ℕ) → slots_of text ≡ alternate true 32 (slots_from Position.phasing Position.phasing (from_return text))
unfolding slots_of positions_of slots_from alternate
slots_begin text = refl

-- The perfect copy, under the weaker premise.
pub late_copy : (start : ℕ) (text : List ℕ) (d : Damages) → Text text → LatePremise start text d → PerfectCopy start text d
unfolding with_breaks
late_copy start text d t p =
    let l = locked d p.no_signal_lem start p.phasing (slots_from Position.phasing Position.phasing (from_return text)) in
    rw (slots_begin text) (l.same ∙ begin l.after l.in_phase_lem)
  where
    good : (k : ℕ) → NoSignal (d k)
    good = p.no_signal_lem

    ordered : Ordered (from_return text)
    ordered = unfold traffic_of meaning_of in breaks_ordered (carriage_return ∷ line_feed ∷ text) 0 (refl, (refl, t))

    not_lost : NoneLost d 32 (from_return text)
    not_lost =
        none_lost text d (with_breaks 0 (carriage_return ∷ line_feed ∷ text)) (last_traffic text + 18) 32 16 refl (omega arith) refl ordered (λ s l u f. p.copies s l (omega (arith, positions_length text)) (λ e h x. f e (omega (arith, x.behind_the_text)) h x))

    return_kept : lost d 32 ≡ false
    return_kept = copy_kept (d 32) (d 37) (p.copies 16 (omega arith) (omega (arith, positions_length text)) (λ e h x. let b = x.behind_the_text in omega arith))

    begin : (r : Receiver) → At true s4 r → listen r (heard_from d 32 (slots_from Position.phasing Position.phasing (from_return text))) ≡ carriage_return ∷ line_feed ∷ text
    begin r (at4 a b c x y z) =
        let cr = traffic carriage_return (unfold traffic_of meaning_of in refl) in
        let lf = traffic line_feed (unfold traffic_of meaning_of in refl) in
        let u = settles_unbegun b (d 33) y (good 33) in
        let v = settles_unbegun c (d 35) z (good 35) in
        position d good (arrives a rq) (arrives b rq) (arrives c rq) Position.phasing Position.phasing (Position.signal carriage_return) (Position.signal line_feed ∷ (with_breaks 2 text ++ replicate 17 Position.idle)) 32 false false (rw (alpha_heard (Position.signal carriage_return) cr (d 32) (good 32)))
        ∙ rw (u.0, u.1)
        (position d good (arrives b rq) (arrives c rq) (arrives (d 32) carriage_return) Position.phasing (Position.signal carriage_return) (Position.signal line_feed) (with_breaks 2 text ++ replicate 17 Position.idle) 34 false false (rw (alpha_heard (Position.signal line_feed) lf (d 34) (good 34)))
        ∙ rw (v.0, v.1)
        (reads d good (with_breaks 2 text ++ replicate 17 Position.idle) 32 (arrives c rq) (Position.signal carriage_return) (Position.signal line_feed) false (begins_here carriage_return refl refl return_kept) ordered
        ∙ seen_all d (from_return text) 32 not_lost
        ∙ breaks_traffic (carriage_return ∷ line_feed ∷ text) 0))

-- 01's premise implies the weaker one, and so does the weaker one of paper 01 itself, without T-03.
pub premise_is_late : (text : List ℕ) (d : Damages) → Premise 0 text d → LatePremise 0 text d
premise_is_late text d p =
    record {
      phasing = p Clause.phasing;
      copies = λ s l h f. copy s (p Clause.copies s (omega arith));
      no_signal_lem = p Clause.no_signal_lem;
    }
  where
    copy : (s : ℕ) → DxIntact d s ⊎ (RxSent text s × RxIntact d s) → DxIntact d s ⊎ RxIntact d s
    copy s (inl e) = inl e
    copy s (inr e) = inr e.1

pub former_is_late : (start : ℕ) (text : List ℕ) (d : Damages) → FormerPremise start text d → LatePremise start text d
former_is_late start text d p =
    record {
      phasing = p.phasing;
      copies = λ s l h f. go s l f (leb s (last_traffic text)) refl;
      no_signal_lem = p.no_signal_lem;
    }
  where
    go : (s : ℕ) → 16 ≤ s → ((e : ℕ) → e < s → EndsAfter text d e → ⊥) → (b : Bool) → leb s (last_traffic text) ≡ b → DxIntact d s ⊎ RxIntact d s
    go s l f true e = p.copies s l (leb-true s (last_traffic text) e)
    go s l f false e =
        absurd (f (last_traffic text) (leb-false s (last_traffic text) e) (record { behind_the_text = omega arith; first_α = p.first_α; second_α = p.second_α }))

-- The perfect copy, under 01's premise.
pub perfect_copy : (start : ℕ) (text : List ℕ) (d : Damages) → Text text → Premise start text d → PerfectCopy start text d
perfect_copy start text d t p =
    let e : start ≡ 0 = p Clause.from_0 in
    rw e (late_copy 0 text d t (premise_is_late text d (rw e at p)))

-- What paper 01's own premises allow, without T-03, is a perfect copy too.
pub former_copy : (start : ℕ) (text : List ℕ) (d : Damages) → Text text → FormerPremise start text d → PerfectCopy start text d
former_copy start text d t p = late_copy start text d t (former_is_late start text d p)
