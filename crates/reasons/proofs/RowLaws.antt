-- Of all rows that of Receiving alone accepts a block, and that of Stand-by alone answers a call.
--     accepts_at, accepts_not   a row accepts a block where the definition says so, and nowhere else
--     answers_at, uncalled      Stand-by that answers a call is called, and one that listens on is not
-- Assumes nothing.
use mathlib.Core.Path.{◌≡◌, refl, sym, ◌∙◌}
use mathlib.Core.Bool.{Bool, true, false, ◌&&◌, ◌||◌}
use Prim.Native.Nat.{ℕ}
use native.Mathlib.Omega.{arith}
use lib.Dec.{eqb, leb}
use Rattle.std.specs.Prelude.{if◌then◌else◌}
use Rattle.identity.specs.Sums.{check_sum1, check_sum2, check_sum3}
use Rattle.mode_a.specs.declared.Role.{Role}
use Rattle.mode_a.specs.declared.Number.{Number}
use Rattle.mode_a.specs.declared.Number.TheVariants.{One, Two}
use Rattle.mode_a.specs.declared.Stage.{Stage}
use Rattle.mode_a.specs.declared.Own.{Own}
use Rattle.mode_a.specs.declared.Waiting.{Waiting}
use Rattle.mode_a.specs.declared.Mark.{Mark}
use Rattle.mode_a.specs.declared.Place.{Place}
use Rattle.mode_a.specs.declared.Place.TheVariants.{Sending, Turning, Opening, Ending, Receiving, Asking, StandBy, Lost, Calling, Calling3, Identifying, Answering}
use Rattle.mode_a.specs.declared.Doing.{Doing}
use Rattle.mode_a.specs.declared.Doing.TheVariants.{Repeats, Goes, Takes, Receives, Opens, Accepts, Rests, Answers, Listens, Reaches, Answers3, Bars, Ends, Turns, Meets, Again, Yields}
use Rattle.mode_a.specs.Identification.{Told, nothing_told, block_1, block_2, block_3}
use Rattle.mode_a.specs.Station.{other, same, asks_for, mark_of, marks}
use Rattle.mode_a.specs.Heard.{First, Cs, Cs3, Rq, Else, Cs4, Cs5, Letter, Other, Heard}
use Rattle.mode_a.specs.Rows.{sending, turn_completed, turning_else, opening, ends_again, ending, both_heard, all_heard, calls_on, calling, calls_on3, calling3, comparing, at_stage, hearing, is_last, row_of}
use Rattle.mode_a.specs.declared.Offer.{Offer}
use Rattle.mode_a.specs.declared.Peer.{Peer}
use Rattle.reasons.specs.declared.Reason.{Reason}
use Rattle.reasons.specs.Reasons.{is_called, is_accepted, named, named_at}
use Rattle.reasons.proofs.TestLaws.{by_test, never}

-- 1: it accepts a block; 2: it answers a call; 0: neither
abbrev kind_of : Doing → ℕ
kind_of (Repeats w) = 0
kind_of (Goes p w) = 0
kind_of (Takes n) = 0
kind_of (Receives n) = 0
kind_of Opens = 0
kind_of (Accepts n) = 1
kind_of (Rests n w) = 0
kind_of Answers = 2
kind_of (Listens w) = 0
kind_of (Reaches p n) = 0
kind_of Answers3 = 2
kind_of (Bars i) = 0
kind_of (Ends i) = 0
kind_of (Turns i) = 0
kind_of (Meets i) = 0
kind_of (Again p w) = 0
kind_of (Yields n) = 0

-- whether the place answers a call
abbrev called_at : Place → Heard → Bool
called_at (Sending x) h = false
called_at (Turning n) h = false
called_at Opening h = false
called_at (Ending x) h = false
called_at (Receiving n) h = false
called_at Asking h = false
called_at (StandBy w) h = is_called w h
called_at Lost h = false
called_at (Calling c) h = false
called_at (Calling3 c) h = false
called_at (Identifying i) h = false
called_at (Answering g) h = false

abbrev kind_at : Place → Heard → ℕ
kind_at p h = if is_accepted p h then 1 else if called_at p h then 2 else 0

abbrev Plain : Doing → Type 0
Plain d = kind_of d ≡ 0

kinds : (own : Own) (r : Role) (p : Place) (h : Heard) → kind_of (row_of own r p h) ≡ kind_at p h
kinds own r (Sending x) h =
    elim h.first as (λ f. Plain (sending x f)) [
      | Cs n ↦ by_test Plain (same n x.number) (λ e. refl) (λ e. refl)
      | Cs3 ↦ refl
      | Rq ↦ refl
      | Else y ↦ refl
    ]
kinds own r (Turning n) h =
    by_test Plain (turn_completed r h) (λ e. refl)
    (λ e. elim h.first as (λ f. Plain (turning_else f)) [ Cs m ↦ refl | Cs3 ↦ refl | Rq ↦ refl | Else y ↦ refl ])
kinds own r Opening h = elim h.first as (λ f. Plain (opening r f)) [ Cs n ↦ refl | Cs3 ↦ refl | Rq ↦ refl | Else y ↦ refl ]
kinds own r (Ending x) h =
    let again : Plain (ends_again x) = by_test Plain (leb 4 x.total) (λ e. refl) (λ e. refl) in
    elim h.first as (λ f. Plain (ending x f)) [
      | Cs n ↦ by_test Plain (same n x.number) (λ e. again) (λ e. refl)
      | Cs3 ↦ again
      | Rq ↦ again
      | Else y ↦ again
    ]
kinds own r (Receiving n) h = go h.block h.alphas
  where
    go : (t u : Bool) → kind_of (if t then Accepts n else if u then Rests 0 (asks_for (other n)) else Repeats (asks_for n)) ≡ (if t then 1 else 0)
    go true u = refl
    go false u = by_test Plain u (λ e. refl) (λ e. refl)
kinds own r Asking h = by_test Plain h.turned (λ e. refl) (λ e. refl)
kinds own r (StandBy w) h = go (both_heard w.heard h.call) (all_heard w.heard3 h.call3) _
  where
    go : (t u : Bool) (v : Waiting) → kind_of (if t then Answers else if u then Answers3 else Listens v) ≡ (if t || u then 2 else 0)
    go true u v = refl
    go false true v = refl
    go false false v = refl
kinds own r Lost h = refl
kinds own r (Calling c) h =
    let on : (m : Mark) → Plain (calls_on c m) = λ m. by_test Plain (leb 128 c.sent) (λ e. refl) (λ e. refl) in
    elim h.first as (λ f. Plain (calling c f)) [
      | Cs n ↦ by_test Plain (marks c.last n) (λ e. refl) (λ e. on (mark_of n))
      | Cs3 ↦ refl
      | Rq ↦ on Mark.None
      | Else y ↦ on Mark.None
    ]
kinds own r (Calling3 c) h =
    let on : Plain (calls_on3 c) = by_test Plain (leb 128 c.sent) (λ e. refl) (λ e. refl) in
    elim h.first as (λ f. Plain (calling3 own.seven c f)) [
      | Cs n ↦ on
      | Cs3 ↦ refl
      | Rq ↦ on
      | Else Cs4 ↦ refl
      | Else Cs5 ↦ refl
      | Else (Letter w) ↦ on
      | Else Other ↦ on
    ]
kinds own r (Identifying i) h = go i.stage h.first
  where
    compares : (e : ℕ) (s : Stage) (f : First) → Plain (comparing own.seven i e s f)
    compares e s (Cs n) = refl
    compares e s Cs3 = refl
    compares e s Rq = refl
    compares e s (Else Cs4) = refl
    compares e s (Else Cs5) = refl
    compares e s (Else (Letter w)) =
        by_test Plain (eqb w e) (λ t. refl)
        (λ t. by_test Plain (leb 1 i.wrong && eqb w i.last) (λ u. refl) (λ u. by_test Plain (leb 4 i.wrong) (λ v. refl) (λ v. refl)))
    compares e s (Else Other) = refl

    go : (s : Stage) (f : First) → Plain (at_stage own.seven i f s)
    go Stage.One f = compares (check_sum1 i.to) Stage.Two f
    go Stage.Two f = compares (check_sum2 i.to) Stage.Three f
    go Stage.Three f = compares (check_sum3 i.to) Stage.Four f
    go Stage.Four f = elim f as (λ k. Plain (at_stage own.seven i k Stage.Four)) [ Cs One ↦ refl | Cs Two ↦ refl | Cs3 ↦ refl | Rq ↦ refl | Else x ↦ refl ]
kinds own r (Answering g) h =
    by_test Plain h.alphas (λ e. refl) (λ e. by_test Plain (h.RQs && is_last g.stage) (λ e. refl) (λ e. go g.stage h.told))
  where
    go : (s : Stage) (t : Told) → Plain (hearing own.seven g.got s t)
    go Stage.One t = elim t as (λ k. Plain (hearing own.seven g.got Stage.One k)) [ nothing_told ↦ refl | block_1 a b ↦ refl | block_2 a b ↦ refl | block_3 a b c ↦ refl ]
    go Stage.Two t = elim t as (λ k. Plain (hearing own.seven g.got Stage.Two k)) [ nothing_told ↦ refl | block_1 a b ↦ refl | block_2 a b ↦ refl | block_3 a b c ↦ refl ]
    go Stage.Three t = elim t as (λ k. Plain (hearing own.seven g.got Stage.Three k)) [ nothing_told ↦ refl | block_1 a b ↦ refl | block_2 a b ↦ refl | block_3 a b c ↦ refl ]
    go Stage.Four t = elim t as (λ k. Plain (hearing own.seven g.got Stage.Four k)) [ nothing_told ↦ refl | block_1 a b ↦ refl | block_2 a b ↦ refl | block_3 a b c ↦ refl ]

pub accepts_at : (own : Own) (r : Role) (p : Place) (h : Heard) → is_accepted p h ≡ true → (n : Number) × (row_of own r p h ≡ Accepts n)
accepts_at own r (Sending x) h e = never e
accepts_at own r (Turning n) h e = never e
accepts_at own r Opening h e = never e
accepts_at own r (Ending x) h e = never e
accepts_at own r (Receiving n) h e = (n, rw e)
accepts_at own r Asking h e = never e
accepts_at own r (StandBy w) h e = never e
accepts_at own r Lost h e = never e
accepts_at own r (Calling c) h e = never e
accepts_at own r (Calling3 c) h e = never e
accepts_at own r (Identifying i) h e = never e
accepts_at own r (Answering g) h e = never e

called_named : (r : Role) (p : Place) (h : Heard) (q : Peer) (o : Offer) → called_at p h ≡ true → named_at r p h q o ≡ named Reason.Called
called_named r (Sending x) h q o e = never e
called_named r (Turning n) h q o e = never e
called_named r Opening h q o e = never e
called_named r (Ending x) h q o e = never e
called_named r (Receiving n) h q o e = never e
called_named r Asking h q o e = never e
called_named r (StandBy w) h q o e = rw e
called_named r Lost h q o e = never e
called_named r (Calling c) h q o e = never e
called_named r (Calling3 c) h q o e = never e
called_named r (Identifying i) h q o e = never e
called_named r (Answering g) h q o e = never e

module _ (own : Own) (r : Role) (p : Place) (h : Heard) where
  pub accepts_not : is_accepted p h ≡ false → (n : Number) → ¬ (row_of own r p h ≡ Accepts n)
  accepts_not f n e = go (called_at p h) (rw (e, f) at (kinds own r p h))
    where
      go : (t : Bool) → ¬ (◌≡◌ {A = ℕ} 1 (if t then 2 else 0))
      go true z = omega arith
      go false z = omega arith

  -- of two blocks, or of three
  pub answers_at : (q : Peer) (o : Offer) (d : Doing) → kind_of d ≡ 2 → row_of own r p h ≡ d → named_at r p h q o ≡ named Reason.Called
  answers_at q o d k e = called_named r p h q o (go (is_accepted p h) (called_at p h) (sym k ∙ rw e at (kinds own r p h)))
    where
      go : (t u : Bool) → ◌≡◌ {A = ℕ} 2 (if t then 1 else if u then 2 else 0) → u ≡ true
      go true u z = absurd (omega arith)
      go false true z = refl
      go false false z = absurd (omega arith)

  pub uncalled : (v : Waiting) → row_of own r p h ≡ Listens v → called_at p h ≡ false
  uncalled v e = go (is_accepted p h) (called_at p h) (rw e at (kinds own r p h))
    where
      go : (t u : Bool) → ◌≡◌ {A = ℕ} 0 (if t then 1 else if u then 2 else 0) → u ≡ false
      go true u z = absurd (omega arith)
      go false true z = absurd (omega arith)
      go false false z = refl
