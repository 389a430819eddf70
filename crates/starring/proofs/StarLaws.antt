-- 02, T-08: "For an error in mode B: both copies bad, or both good and unlike, with the two words."  R-289 to R-292
--     stars_exactly   a reason exactly for the steps that print the error mark, and it has the two words of the position they settle
--     starred_alike   the question is refused where the step is, and by its number
-- Assumes nothing.
use mathlib.Core.Path.{◌≡◌, refl}
use mathlib.Core.Bool.{Bool, true, false, not, ◌&&◌, ◌||◌}
use Prim.Native.Nat.{ℕ}
use native.Mathlib.Omega.{arith}
use lib.Dec.{eqb, ltb}
use borrow.Author.Tests.{eqb-true, eqb-false}
use Rattle.std.specs.Prelude.{if◌then◌else◌, Option, Some, None}
use Rattle.signals.specs.Units.{ones_of, intact_of}
use Rattle.signals.specs.Meaning.{meaning_of, traffic_of, alpha, rq, error_mark}
use Rattle.signals.specs.Numbers.{Answer, answered, refused}
use Rattle.mode_b.specs.declared.Phasing.{Phasing}
use Rattle.mode_b.specs.declared.Phase.{Phase}
use Rattle.mode_b.specs.declared.Wait.{Wait}
use Rattle.mode_b.specs.declared.Hearing.{Hearing}
use Rattle.mode_b.specs.declared.Hearing.TheVariants.{Searching, InPhase, Waiting}
use Rattle.mode_b.specs.declared.Heard.{Heard}
use Rattle.mode_b.specs.declared.Settled.{Settled}
use Rattle.mode_b.specs.Receiver.{hears, run_of, searched_on, searched, settled, begins, printed_of, heard_rx, heard_dx, waited, receiving_by}
use Rattle.reasons.specs.declared.Star.{Star}
use Rattle.reasons.specs.Stars.{settles, settles_none, settling_at, star_of, star_at, starring_by, starring, Faulty, both_bad, unlike, StarExactly, StarsExactly, StarredAlike}

never : {A : Type 0} → ◌≡◌ {A = ℕ} 0 1 → A
never z = absurd (omega arith)

-- no signal is printed as the error mark
mark_no_traffic : traffic_of error_mark ≡ false
unfolding traffic_of meaning_of
mark_no_traffic = refl

no_mark : (p : Bool) (w : ℕ) → printed_of p (Settled.Signal w) ≡ Some error_mark → ⊥
no_mark p w = go (p || begins w) (traffic_of w) refl
  where
    go : (t b : Bool) → traffic_of w ≡ b → (if t then (if b then Some w else None) else None) ≡ Some error_mark → ⊥
    go true true e z = let v : w ≡ error_mark = cc in let x : traffic_of error_mark ≡ true = rw v at e in never (cc (mark_no_traffic))
    go true false e z = never (cc)
    go false b e z = never (cc)

-- two copies that are settled while it prints: the mark is printed for the error, which has its reason, and for nothing else
record Marks (dx rx : ℕ) (s : Settled) (t : Option Star) : Type 0 where
  marked : printed_of true s ≡ Some error_mark → Faulty dx rx t
  not_marked : ¬ (printed_of true s ≡ Some error_mark) → t ≡ None

-- of a position that is phasing the DX is intact
phasing_intact : (dx : ℕ) (t : Bool) → eqb dx rq && t ≡ true → intact_of dx ≡ true
unfolding intact_of ones_of
phasing_intact dx t = go (eqb dx rq) refl
  where
    go : (b : Bool) → eqb dx rq ≡ b → b && t ≡ true → intact_of dx ≡ true
    go true e l = rw (eqb-true dx rq e)
    go false e l = never (cc)

marks : (dx rx : ℕ) → Marks dx rx (settled dx rx) (star_of dx rx)
unfolding settled star_of
marks dx rx = go (intact_of dx) (intact_of rx) (eqb dx rx) (eqb dx rq && eqb rx alpha) refl refl refl refl
  where
    none : (s : Settled) → (printed_of true s ≡ Some error_mark → ⊥) → Marks dx rx s None
    none s n = record { marked = λ z. absurd (n z); not_marked = λ z. refl }

    fault : (t : Option Star) → Faulty dx rx t → Marks dx rx Settled.Error t
    fault t f = record { marked = λ z. f; not_marked = λ n. absurd (n refl) }

    go : (a b e d : Bool) → intact_of dx ≡ a → intact_of rx ≡ b → eqb dx rx ≡ e → eqb dx rq && eqb rx alpha ≡ d → Marks dx rx (if a && (b && e) then Settled.Signal dx else if d then Settled.Phasing else if a && not b then Settled.Signal dx else if b && not a then Settled.Signal rx else Settled.Error) (if not a && not b then Some (Star.BothBad dx rx) else if d then None else if a && (b && not e) then Some (Star.Unlike dx rx) else None)
    go true true true true i j k l = none (Settled.Signal dx) (no_mark true dx)
    go true true true false i j k l = none (Settled.Signal dx) (no_mark true dx)
    go true true false true i j k l = none Settled.Phasing (λ z. never (cc))
    go true true false false i j k l = fault (Some (Star.Unlike dx rx)) (unlike i j (eqb-false dx rx k))
    go true false e true i j k l = none Settled.Phasing (λ z. never (cc))
    go true false e false i j k l = none (Settled.Signal dx) (no_mark true dx)
    go false true e true i j k l = none Settled.Phasing (λ z. never (cc))
    go false true e false i j k l = none (Settled.Signal rx) (no_mark true rx)
    go false false e true i j k l = never (cc (phasing_intact dx (eqb rx alpha) l))
    go false false e false i j k l = fault (Some (Star.BothBad dx rx)) (both_bad i j)

-- before printing has begun no settled position prints the mark
silent : (s : Settled) → printed_of false s ≡ Some error_mark → ⊥
silent (Settled.Signal w) = no_mark false w
silent Settled.Phasing = λ z. never (cc)
silent Settled.Error = λ z. never (cc)

-- a step of a receiver that hears w: one that prints no mark and has no reason, one that settles a position
module _ (x : Hearing) (w : ℕ) where
  abbrev Exactly : Heard → Option Star → Type 0
  Exactly h s = StarExactly (record { hearing = x }) w h s

  plain : (h : Heard) → (h.printed ≡ Some error_mark → ⊥) → Exactly h None
  plain h n = record { marked = λ z. absurd (n z); not_marked = λ z. refl }

  quiet : (t : Bool) (a b : Hearing) → Exactly (if t then hears a else hears b) None
  quiet true a b = plain (hears a) (λ z. never (cc))
  quiet false a b = plain (hears b) (λ z. never (cc))

  settling : (h : Heard) (dx : ℕ) (p : Bool) → settling_at x ≡ settles dx p → h.printed ≡ printed_of p (settled dx w) → Exactly h (star_at (settles dx p) w)
  settling h dx true e k = record { marked = λ z. (dx, e, (marks dx w).marked (rw k at z)); not_marked = λ n. (marks dx w).not_marked (rw k at n) }
  settling h dx false e k = plain h (λ z. silent (settled dx w) (rw k at z))

  answers : (t : Bool) (a h : Heard) (b s : Option Star) → Exactly a b → ◌≡◌ {A = Answer Heard} (if t then refused 4 0 else answered a) (answered h) → ◌≡◌ {A = Answer (Option Star)} (if t then refused 4 0 else answered b) (answered s) → Exactly h s
  answers true a h b s e p q = never (cc)
  answers false a h b s e p q =
      let u : a ≡ h = cc in
      let v : b ≡ s = cc in
      rw (u, v) at e

searching : (k : ℕ) (last : Phasing) (w : ℕ) → Exactly (Searching k last) w (searched k last w) None
searching k last w = go (eqb w alpha) (eqb w rq)
  where
    on : (p : Phasing) → Exactly (Searching k last) w (searched_on (run_of k last p) p) None
    on p = quiet (Searching k last) w (ltb 3 (run_of k last p)) _ _

    go : (a b : Bool) → Exactly (Searching k last) w (if a then searched_on (run_of k last Phasing.One) Phasing.One else if b then searched_on (run_of k last Phasing.Two) Phasing.Two else hears (Searching 0 Phasing.One)) None
    go true b = on Phasing.One
    go false true = on Phasing.Two
    go false false = plain (Searching k last) w _ (λ z. never (cc))

in_phase_lem : (p : Phase) (w : ℕ) (d : Bool) → p.dx ≡ d → Exactly (InPhase p) w (if d then heard_dx p w else heard_rx p w) (star_at (if d then settles_none else settles p.first p.printing) w)
unfolding heard_dx heard_rx
in_phase_lem p w true e = quiet (InPhase p) w (eqb w alpha && eqb p.third alpha) _ _
in_phase_lem p w false e = settling (InPhase p) w _ p.first p.printing (rw e) refl

waiting : (v : Wait) (w : ℕ) (t : Bool) → eqb v.left 3 ≡ t → Exactly (Waiting v) w (waited v w) (star_at (if t then settles v.word v.printing else settles_none) w)
unfolding waited
waiting v w true e = settling (Waiting v) w _ v.word v.printing (rw e) (rw e)
waiting v w false e = rw e (quiet (Waiting v) w (eqb v.left 2) _ _)

pub stars_exactly : StarsExactly
unfolding starring
stars_exactly r w h s = go r.hearing
  where
    go : (x : Hearing) → receiving_by x w ≡ answered h → starring_by x w ≡ answered s → Exactly x w h s
    go (Searching k last) = answers (Searching k last) w (ltb 3 k) _ h _ s (searching k last w)
    go (InPhase p) = answers (InPhase p) w false _ h _ s (in_phase_lem p w p.dx refl)
    go (Waiting v) = answers (Waiting v) w (ltb 3 v.left) _ h _ s (waiting v w (eqb v.left 3) refl)

-- a refusal of the one is a refusal of the other, since both ask the same question first
alike : {A B : Type 0} (t : Bool) (a : A) (b : B) (n v : ℕ) → ◌≡◌ {A = Answer A} (if t then refused 4 0 else answered a) (refused n v) → ◌≡◌ {A = Answer B} (if t then refused 4 0 else answered b) (refused n v)
alike true a b n v e =
    let p : 4 ≡ n = cc in
    let q : 0 ≡ v = cc in
    cc
alike false a b n v e = never (cc)

pub starred_alike : StarredAlike
unfolding starring
starred_alike r w = record { as_the_step = λ n v. step r.hearing n v; as_the_question = λ n v. question r.hearing n v }
  where
    step : (x : Hearing) (n v : ℕ) → receiving_by x w ≡ refused n v → starring_by x w ≡ refused n v
    step (Searching k last) n v = alike (ltb 3 k) _ _ n v
    step (InPhase p) n v = alike false _ _ n v
    step (Waiting u) n v = alike (ltb 3 u.left) _ _ n v

    question : (x : Hearing) (n v : ℕ) → starring_by x w ≡ refused n v → receiving_by x w ≡ refused n v
    question (Searching k last) n v = alike (ltb 3 k) _ _ n v
    question (InPhase p) n v = alike false _ _ n v
    question (Waiting u) n v = alike (ltb 3 u.left) _ _ n v
