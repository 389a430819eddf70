-- No wrong signal: what a fresh receiver prints under any damage that is never one of the 35. Assumes nothing.
use mathlib.Core.Path.{◌≡◌, refl, ap, sym, ◌∙◌}
use mathlib.Core.Bool.{Bool, true, false, ◌&&◌, false≢true}
use mathlib.Core.Logic.{◌↔◌, inl, inr}
use mathlib.Core.List.{List, [], ◌∷◌, ◌++◌}
use Prim.Native.Nat.{ℕ, suc, ◌+◌}
use native.Mathlib.Omega.{arith}
use lib.Dec.{eqb}
use lib.ListN.{replicate}
use Rattle.std.specs.Prelude.{if◌then◌else◌}
use Rattle.signals.specs.Meaning.{traffic_of, meaning_of, alpha, rq, error_mark}
use Rattle.mode_b.specs.declared.Phasing.{Phasing}
use Rattle.mode_b.specs.declared.Receiver.{Receiver}
use Rattle.mode_b.specs.Sender.{Position, dx_of, rx_of, carriage_return, line_feed, with_breaks, positions_of, slots_from, slots_of}
use Rattle.mode_b.specs.declared.Settled.{Settled}
use Rattle.mode_b.specs.Receiver.{settled, printed_of, printing_after, begins, heard_rx, fresh_receiver, receiving, receiver_after}
use Rattle.signals.specs.Damage.{Damage, kept, hurt, arrives, NoSignal}
use Rattle.copy.specs.Run.{Damages, one, prints_of, heard_from, listen, copy_from, deaf_before}
use Rattle.copy.specs.Premise.{Text}
use Rattle.copy.specs.Reading.{two_on, five_on, damaged, intactα, ends_behind, lost, seen, seen_from, Printed, nothing, here, behind, InOrder, done, passed, sent, marked}
use Rattle.copy.proofs.WordLaws.{mutilated, Traffic, traffic}
use Rattle.copy.proofs.StepLaws.{in_phase, on_from, seeking, dx_rx, settles_counted, settles_signal, settles_phasing, settles_idle, settles_error, settles_unbegun, Quiet}
use Rattle.copy.proofs.QuietLaws.{Word, AllIdle, rx_not_rq, quiet_behind}
use Rattle.copy.proofs.HearLaws.{late_is_deaf, deaf_no_signal}

-- the positions of a broadcast: phasing and traffic, and then α only
abbrev pub Ordered : List Position → Type 0
Ordered [] = Unit {0}
Ordered (Position.phasing ∷ ps) = Ordered ps
Ordered (Position.signal w ∷ ps) = Traffic w × Ordered ps
Ordered (Position.idle ∷ ps) = AllIdle ps

idle_ordered : (ps : List Position) → AllIdle ps → Ordered ps
idle_ordered [] o = tt
idle_ordered (Position.phasing ∷ ps) o = absurd o
idle_ordered (Position.signal w ∷ ps) o = absurd o
idle_ordered (Position.idle ∷ ps) o = o

word : (p : Position) (ps : List Position) → Ordered (p ∷ ps) → Word p
word Position.phasing ps o = tt
word (Position.signal w) ps o = o.0
word Position.idle ps o = tt

pub rest : (p : Position) (ps : List Position) → Ordered (p ∷ ps) → Ordered ps
rest Position.phasing ps o = o
rest (Position.signal w) ps o = o.1
rest Position.idle ps o = idle_ordered ps o

idle_rest : (p : Position) (h : Damage) (ps : List Position) → intactα p h ≡ true → Ordered (p ∷ ps) → AllIdle ps
idle_rest Position.phasing h ps e o = absurd (false≢true e)
idle_rest (Position.signal w) h ps e o = absurd (false≢true e)
idle_rest Position.idle h ps e o = o

-- α is heard in a DX slot exactly where it is sent there and kept
pub alpha_heard : (p : Position) → Word p → (h : Damage) → NoSignal h → eqb (arrives h (dx_of p)) alpha ≡ intactα p h
alpha_heard Position.phasing s kept n = refl
alpha_heard (Position.signal w) s kept n = s.not_alpha
alpha_heard Position.idle s kept n = refl
alpha_heard Position.phasing s (hurt v) n = (mutilated v n).not_alpha
alpha_heard (Position.signal w) s (hurt v) n = (mutilated v n).not_alpha
alpha_heard Position.idle s (hurt v) n = (mutilated v n).not_alpha

-- What a position prints once printing has begun.
abbrev Sees : Position → Damage → Damage → Bool → Type 0
Sees p a b printing = (one (printed_of printing (settled (arrives a (dx_of p)) (arrives b (rx_of p)))) ≡ seen p (damaged a && damaged b)) × (printing_after printing (settled (arrives a (dx_of p)) (arrives b (rx_of p))) ≡ true)

sees : (p : Position) → Word p → (a b : Damage) → NoSignal a → NoSignal b → Sees p a b true
sees Position.phasing s kept b m n = settles_phasing true kept b m n (inl refl)
sees Position.phasing s (hurt u) kept m n = settles_phasing true (hurt u) kept m n (inr refl)
sees Position.phasing s (hurt u) (hurt v) m n = rw (settles_error u v (mutilated u m) (mutilated v n)) (refl, refl)
sees (Position.signal w) s kept b m n = rw (settles_signal w s kept b m n (inl refl), s.is_traffic) (refl, refl)
sees (Position.signal w) s (hurt u) kept m n =
    rw (settles_signal w s (hurt u) kept m n (inr refl), s.is_traffic) (refl, refl)
sees (Position.signal w) s (hurt u) (hurt v) m n = rw (settles_error u v (mutilated u m) (mutilated v n)) (refl, refl)
sees Position.idle s kept b m n = settles_idle true kept b m n (inl refl)
sees Position.idle s (hurt u) kept m n = settles_idle true (hurt u) kept m n (inr refl)
sees Position.idle s (hurt u) (hurt v) m n = rw (settles_error u v (mutilated u m) (mutilated v n)) (refl, refl)

-- Before printing has begun: nothing is printed, or it begins with a return or line feed that is not lost.
data First (p : Position) (missing : Bool) (s : Settled) : Type 0 where
  quiet : Quiet false s → First p missing s
  opens : (w : ℕ) → p ≡ Position.signal w → begins w ≡ true → missing ≡ false → First p missing s

opening : (w : ℕ) → (missing : Bool) → missing ≡ false → First (Position.signal w) missing (Settled.Signal w)
opening w missing e = go (begins w) refl
  where
    go : (t : Bool) → begins w ≡ t → First (Position.signal w) missing (Settled.Signal w)
    go true b = opens w refl b e
    go false b = quiet (rw b (refl, refl))

firsts : (p : Position) → Word p → (a b : Damage) → NoSignal a → NoSignal b → First p (damaged a && damaged b) (settled (arrives a (dx_of p)) (arrives b (rx_of p)))
firsts Position.phasing s a b m n = quiet (settles_unbegun a b m n)
firsts (Position.signal w) s kept b m n = rw (settles_signal w s kept b m n (inl refl)) (opening w false refl)
firsts (Position.signal w) s (hurt u) kept m n = rw (settles_signal w s (hurt u) kept m n (inr refl)) (opening w false refl)
firsts (Position.signal w) s (hurt u) (hurt v) m n = rw (settles_error u v (mutilated u m) (mutilated v n)) (quiet (refl, refl))
firsts Position.idle s kept b m n = quiet (settles_idle false kept b m n (inl refl))
firsts Position.idle s (hurt u) kept m n = quiet (settles_idle false (hurt u) kept m n (inr refl))
firsts Position.idle s (hurt u) (hurt v) m n = rw (settles_error u v (mutilated u m) (mutilated v n)) (quiet (refl, refl))

-- printing has begun, or begins with what is settled next
pub data Ready (p : Position) (missing : Bool) : Bool → Type 0 where
  printing_on : Ready p missing true
  begins_here : (w : ℕ) → p ≡ Position.signal w → begins w ≡ true → missing ≡ false → Ready p missing false

opened : (w : ℕ) → Traffic w → begins w ≡ true → (a b : Damage) → NoSignal a → NoSignal b → damaged a && damaged b ≡ false → Sees (Position.signal w) a b false
opened w s e kept b m n k = rw (settles_signal w s kept b m n (inl refl), e, s.is_traffic) (refl, refl)
opened w s e (hurt u) kept m n k = rw (settles_signal w s (hurt u) kept m n (inr refl), e, s.is_traffic) (refl, refl)
opened w s e (hurt u) (hurt v) m n k = absurd (false≢true (sym k))

sees_ready : (p : Position) → Word p → (a b : Damage) → NoSignal a → NoSignal b → (printing : Bool) → Ready p (damaged a && damaged b) printing → Sees p a b printing
sees_ready p s a b m n true printing_on = sees p s a b m n
sees_ready p s a b m n false (begins_here w e f k) = rw e (opened w (rw e at s) f a b m n k)

and_swap : (a b : Bool) → a && b ≡ b && a
and_swap true true = refl
and_swap true false = refl
and_swap false true = refl
and_swap false false = refl

and_left : (a b : Bool) → a && b ≡ true → a ≡ true
and_left true b e = refl
and_left false b e = e

module _ (d : Damages) (good : (k : ℕ) → NoSignal (d k)) where
  -- the words from slot k on
  abbrev heard_on : ℕ → Position → Position → List Position → List ℕ
  heard_on k before last ps = heard_from d k (slots_from before last ps)

  -- The two slots of position p, the first of them slot k: its DX is heard, and the position two before it is settled. x and y are
  -- kept as the DX of the two before.
  pub position : (first x y : ℕ) (before last p : Position) (ps : List Position) (k : ℕ) (printing t : Bool) → eqb (arrives (d k) (dx_of p)) alpha && eqb y alpha ≡ t → listen (in_phase first x y true printing) (heard_on k before last (p ∷ ps)) ≡ one (printed_of printing (settled x (arrives (d (suc k)) (rx_of before)))) ++ listen (on_from t x y (arrives (d k) (dx_of p)) (printing_after printing (settled x (arrives (d (suc k)) (rx_of before))))) (heard_on (two_on k) last p ps)
  unfolding heard_from slots_from
  position first x y before last p ps k printing t e = dx_rx first x y printing (arrives (d k) (dx_of p)) (arrives (d (suc k)) (rx_of before)) (heard_on (two_on k) last p ps) t e

  -- after the end nothing is printed
  more_idle : (r : Position) (ps : List Position) → AllIdle (r ∷ ps) → AllIdle ps
  more_idle Position.phasing ps i = absurd i
  more_idle (Position.signal w) ps i = absurd i
  more_idle Position.idle ps i = i

  -- The same where the DX of the position before was heard in slot j: if that was α and this one is, reception ends and nothing more is
  -- printed.
  goes_on : (first x j : ℕ) (before last p : Position) (ps : List Position) (printing : Bool) → Ordered (last ∷ p ∷ ps) → listen (in_phase first x (arrives (d j) (dx_of last)) true printing) (heard_on (two_on j) before last (p ∷ ps)) ≡ one (printed_of printing (settled x (arrives (d (suc (two_on j))) (rx_of before)))) ++ (if intactα last (d j) && intactα p (d (two_on j)) then [] else listen (in_phase x (arrives (d j) (dx_of last)) (arrives (d (two_on j)) (dx_of p)) true (printing_after printing (settled x (arrives (d (suc (two_on j))) (rx_of before))))) (heard_on (two_on (two_on j)) last p ps))
  goes_on first x j before last p ps printing o = go (intactα last (d j) && intactα p (d (two_on j))) refl
    where
      test : eqb (arrives (d (two_on j)) (dx_of p)) alpha && eqb (arrives (d j) (dx_of last)) alpha ≡ intactα last (d j) && intactα p (d (two_on j))
      test =
          rw (alpha_heard p (word p ps (rest last (p ∷ ps) o)) (d (two_on j)) (good (two_on j)), alpha_heard last (word last (p ∷ ps) o) (d j) (good j))
          (and_swap (intactα p (d (two_on j))) (intactα last (d j)))

      go : (t : Bool) → intactα last (d j) && intactα p (d (two_on j)) ≡ t → listen (in_phase first x (arrives (d j) (dx_of last)) true printing) (heard_on (two_on j) before last (p ∷ ps)) ≡ one (printed_of printing (settled x (arrives (d (suc (two_on j))) (rx_of before)))) ++ (if intactα last (d j) && intactα p (d (two_on j)) then [] else listen (in_phase x (arrives (d j) (dx_of last)) (arrives (d (two_on j)) (dx_of p)) true (printing_after printing (settled x (arrives (d (suc (two_on j))) (rx_of before))))) (heard_on (two_on (two_on j)) last p ps))
      go true e =
          let i = more_idle p ps (idle_rest last (d j) (p ∷ ps) (and_left (intactα last (d j)) (intactα p (d (two_on j))) e) o) in
          position first x (arrives (d j) (dx_of last)) before last p ps (two_on j) printing true (test ∙ e)
          ∙ rw (e, quiet_behind d good ps i (two_on (two_on j)) last p (word last (p ∷ ps) o) (word p ps (rest last (p ∷ ps) o)))
      go false e = position first x (arrives (d j) (dx_of last)) before last p ps (two_on j) printing false (test ∙ e) ∙ rw e

  -- once printing has begun, or where it begins with the first of these positions
  pub reads : (ps : List Position) (k first : ℕ) (before last : Position) (printing : Bool) → Ready before (lost d k) printing → Ordered (before ∷ last ∷ ps) → listen (in_phase first (arrives (d k) (dx_of before)) (arrives (d (two_on k)) (dx_of last)) true printing) (heard_on (two_on (two_on k)) before last ps) ≡ seen_from d k (before ∷ last ∷ ps)
  unfolding seen_from
  reads [] k first before last printing y o = unfold listen heard_from slots_from in refl
  reads (p ∷ ps) k first before last printing y o =
      let ol = rest before (last ∷ p ∷ ps) o in
      let s = sees_ready before (word before (last ∷ p ∷ ps) o) (d k) (d (five_on k)) (good k) (good (five_on k)) printing y in
      goes_on first (arrives (d k) (dx_of before)) (two_on k) before last p ps printing ol
      ∙ rw (s.0, s.1, reads ps (two_on k) (arrives (d k) (dx_of before)) last p true printing_on ol)

  -- in phase, before printing has begun
  printed_as : {k : ℕ} {ps : List Position} {xs ys : List ℕ} → xs ≡ ys → Printed d k ps ys → Printed d k ps xs
  printed_as e p = rw e p

  if_on : {k : ℕ} {ps : List Position} {xs : List ℕ} (ends : Bool) → Printed d k ps xs → Printed d k ps (if ends then [] else xs)
  if_on true p = nothing
  if_on false p = p

  unbegun : (ps : List Position) (k first : ℕ) (before last : Position) → Ordered (before ∷ last ∷ ps) → Printed d k (before ∷ last ∷ ps) (listen (in_phase first (arrives (d k) (dx_of before)) (arrives (d (two_on k)) (dx_of last)) true false) (heard_on (two_on (two_on k)) before last ps))
  unbegun [] k first before last o = unfold listen heard_from slots_from in nothing
  unbegun (p ∷ ps) k first before last o = go (unbegun ps (two_on k) (arrives (d k) (dx_of before)) last p (rest before (last ∷ p ∷ ps) o)) (firsts before (word before (last ∷ p ∷ ps) o) (d k) (d (five_on k)) (good k) (good (five_on k)))
    where
      go : Printed d (two_on k) (last ∷ p ∷ ps) (listen (in_phase (arrives (d k) (dx_of before)) (arrives (d (two_on k)) (dx_of last)) (arrives (d (two_on (two_on k))) (dx_of p)) true false) (heard_on (two_on (two_on (two_on k))) last p ps)) → First before (lost d k) (settled (arrives (d k) (dx_of before)) (arrives (d (five_on k)) (rx_of before))) → Printed d k (before ∷ last ∷ p ∷ ps) (listen (in_phase first (arrives (d k) (dx_of before)) (arrives (d (two_on k)) (dx_of last)) true false) (heard_on (two_on (two_on k)) before last (p ∷ ps)))
      go ih (quiet q) =
          printed_as
          (goes_on first (arrives (d k) (dx_of before)) (two_on k) before last p ps false (rest before (last ∷ p ∷ ps) o) ∙ rw (q.0, q.1))
          (if_on (ends_behind d k last p) (behind ih))
      go ih (opens w e b m) = printed_as (reads (p ∷ ps) k first before last false (begins_here w e b m) o) (rw e (here b m))

  -- just in phase: one waiting word, or both, taken for RQ
  one_counted : (ps : List Position) (k first : ℕ) (before last : Position) → Ordered (last ∷ ps) → Printed d k (last ∷ ps) (listen (in_phase first rq (arrives (d k) (dx_of last)) true false) (heard_on (two_on k) before last ps))
  one_counted [] k first before last o = unfold listen heard_from slots_from in nothing
  one_counted (p ∷ ps) k first before last o =
      let q = settles_counted (arrives (d (suc (two_on k))) (rx_of before)) in
      printed_as
      (goes_on first rq k before last p ps false o ∙ rw (q.0, q.1))
      (if_on (intactα last (d k) && intactα p (d (two_on k))) (unbegun ps k rq last p o))

  both_counted : (ps : List Position) (k first : ℕ) (before last : Position) → Ordered ps → Printed d k ps (listen (in_phase first rq rq true false) (heard_on k before last ps))
  both_counted [] k first before last o = unfold listen heard_from slots_from in nothing
  both_counted (p ∷ ps) k first before last o =
      let q = settles_counted (arrives (d (suc k)) (rx_of before)) in
      printed_as
      (position first rq rq before last p ps k false false (and_swap (eqb (arrives (d k) (dx_of p)) alpha) false) ∙ rw (q.0, q.1))
      (one_counted ps k rq last p o)

-- The search. Before a DX slot the last signal of a run is α: RQ is never heard in an RX slot.
data BeforeDx : Receiver → Type 0 where
  dx0 : (s : Phasing) → BeforeDx (seeking 0 s)
  dx1 : BeforeDx (seeking 1 Phasing.One)
  dx2 : BeforeDx (seeking 2 Phasing.One)
  dx3 : BeforeDx (seeking 3 Phasing.One)

data BeforeRx : Receiver → Type 0 where
  rx0 : (s : Phasing) → BeforeRx (seeking 0 s)
  rx1 : (s : Phasing) → BeforeRx (seeking 1 s)
  rx2 : BeforeRx (seeking 2 Phasing.Two)
  rx3 : BeforeRx (seeking 3 Phasing.Two)
  rx_locked : BeforeRx (in_phase rq rq rq false false)

data Next : Receiver → Type 0 where
  seeks : {r : Receiver} → BeforeDx r → Next r
  locks : Next (in_phase rq rq rq true false)

abbrev Dx : Receiver → ℕ → Type 0
Dx r v = (prints_of (receiving r v) ≡ []) × BeforeRx (receiver_after r (receiving r v))

abbrev Rx : Receiver → ℕ → Type 0
Rx r v = (prints_of (receiving r v) ≡ []) × Next (receiver_after r (receiving r v))

in_dx : (v : ℕ) (r : Receiver) → BeforeDx r → Dx r v
in_dx v r s = go (eqb v alpha) (eqb v rq) refl refl r s
  where
    go : (a b : Bool) → eqb v alpha ≡ a → eqb v rq ≡ b → (r : Receiver) → BeforeDx r → Dx r v
    go true b e f r (dx0 s) = rw e (refl, rx1 Phasing.One)
    go true b e f r dx1 = rw e (refl, rx1 Phasing.One)
    go true b e f r dx2 = rw e (refl, rx1 Phasing.One)
    go true b e f r dx3 = rw e (refl, rx1 Phasing.One)
    go false true e f r (dx0 s) = rw (e, f) (refl, rx1 Phasing.Two)
    go false true e f r dx1 = rw (e, f) (refl, rx2)
    go false true e f r dx2 = rw (e, f) (refl, rx3)
    go false true e f r dx3 = rw (e, f) (refl, rx_locked)
    go false false e f r (dx0 s) = rw (e, f) (refl, rx0 Phasing.One)
    go false false e f r dx1 = rw (e, f) (refl, rx0 Phasing.One)
    go false false e f r dx2 = rw (e, f) (refl, rx0 Phasing.One)
    go false false e f r dx3 = rw (e, f) (refl, rx0 Phasing.One)

in_rx : (v : ℕ) → eqb v rq ≡ false → Quiet false (settled rq v) → (r : Receiver) → BeforeRx r → Rx r v
unfolding heard_rx
in_rx v n q r s = go (eqb v alpha) refl r s
  where
    go : (a : Bool) → eqb v alpha ≡ a → (r : Receiver) → BeforeRx r → Rx r v
    go a e r rx_locked = rw q.1 (q.0, locks)
    go true e r (rx0 s) = rw e (refl, seeks dx1)
    go true e r (rx1 Phasing.One) = rw e (refl, seeks dx1)
    go true e r (rx1 Phasing.Two) = rw e (refl, seeks dx2)
    go true e r rx2 = rw e (refl, seeks dx3)
    go true e r rx3 = rw e (refl, locks)
    go false e r (rx0 s) = rw (e, n) (refl, seeks (dx0 Phasing.One))
    go false e r (rx1 s) = rw (e, n) (refl, seeks (dx0 Phasing.One))
    go false e r rx2 = rw (e, n) (refl, seeks (dx0 Phasing.One))
    go false e r rx3 = rw (e, n) (refl, seeks (dx0 Phasing.One))

module _ (d : Damages) (good : (k : ℕ) → NoSignal (d k)) where
  searching : (ps : List Position) (k : ℕ) (before last : Position) (r : Receiver) → Word before → Word last → Ordered ps → BeforeDx r → Printed d k ps (listen r (heard_from d k (slots_from before last ps)))
  unfolding listen heard_from slots_from
  searching [] k before last r s t o b = nothing
  searching (p ∷ ps) k before last r s t o b =
      let x = in_dx (arrives (d k) (dx_of p)) r b in
      let y = in_rx (arrives (d (suc k)) (rx_of before)) (rx_not_rq before s (d (suc k)) (good (suc k))) (settles_counted (arrives (d (suc k)) (rx_of before))) _ x.1 in
      rw (x.0, y.0) (behind (go _ y.1 (λ r b. searching ps (two_on k) last p r t (word p ps o) (rest p ps o) b)))
    where
      go : (r : Receiver) → Next r → ((r : Receiver) → BeforeDx r → Printed d (two_on k) ps (listen r (heard_from d (two_on k) (slots_from last p ps)))) → Printed d (two_on k) ps (listen r (heard_from d (two_on k) (slots_from last p ps)))
      go r (seeks b) ih = ih r b
      go r locks ih = both_counted d good ps (two_on k) rq last p (rest p ps o)

-- a broadcast is phasing and traffic, and then α
pub breaks_ordered : (ws : List ℕ) (n : ℕ) → Text ws → Ordered (with_breaks n ws ++ replicate 17 Position.idle)
unfolding with_breaks
breaks_ordered [] n t = tt
breaks_ordered (w ∷ ws) n t = go (eqb n 96) (breaks_ordered ws 1 t.1) (breaks_ordered ws (n + 1) t.1)
  where
    go : (b : Bool) → Ordered (with_breaks 1 ws ++ replicate 17 Position.idle) → Ordered (with_breaks (n + 1) ws ++ replicate 17 Position.idle) → Ordered ((if b then replicate 4 Position.phasing ++ Position.signal w ∷ with_breaks 1 ws else Position.signal w ∷ with_breaks (n + 1) ws) ++ replicate 17 Position.idle)
    go true e f = (traffic w t.0, e)
    go false e f = (traffic w t.0, f)

ordered : (text : List ℕ) → Text text → Ordered (positions_of text)
unfolding positions_of traffic_of meaning_of
ordered text t = breaks_ordered (carriage_return ∷ line_feed ∷ text) 0 (refl, (refl, t))

-- No wrong signal: under any damage that is never one of the 35 a fresh receiver prints nothing, or what is to be seen from a return
-- or line feed on.
pub no_wrong_signal : (text : List ℕ) (d : Damages) → Text text → ((k : ℕ) → NoSignal (d k)) → Printed d 0 (positions_of text) (copy_from 0 text d)
unfolding slots_of
no_wrong_signal text d t n = searching d n (positions_of text) 0 Position.idle Position.idle fresh_receiver tt tt (ordered text t) (dx0 Phasing.One)

-- So each signal printed is the one sent at a position, or an error mark, and the positions come in order, none twice (in_order).
seen_in_order : (d : Damages) (ps : List Position) (k : ℕ) → InOrder ps (seen_from d k ps)
unfolding seen_from
seen_in_order d [] k = done
seen_in_order d (p ∷ []) k = done
seen_in_order d (p ∷ q ∷ []) k = done
seen_in_order d (p ∷ q ∷ r ∷ ps) k = go (ends_behind d k q r) (lost d k) (seen_in_order d (q ∷ r ∷ ps) (two_on k))
  where
    one_more : (p : Position) (b : Bool) (xs : List ℕ) → InOrder (q ∷ r ∷ ps) xs → InOrder (p ∷ q ∷ r ∷ ps) (seen p b ++ xs)
    one_more p true xs i = marked i
    one_more Position.phasing false xs i = passed i
    one_more (Position.signal w) false xs i = sent i
    one_more Position.idle false xs i = passed i

    go : (e b : Bool) → InOrder (q ∷ r ∷ ps) (seen_from d (two_on k) (q ∷ r ∷ ps)) → InOrder (p ∷ q ∷ r ∷ ps) (seen p b ++ (if e then [] else seen_from d (two_on k) (q ∷ r ∷ ps)))
    go true b i = one_more p b [] done
    go false b i = one_more p b _ i

printed_in_order : {d : Damages} {k : ℕ} {ps : List Position} {xs : List ℕ} → Printed d k ps xs → InOrder ps xs
printed_in_order nothing = done
printed_in_order {d} {k} (here {w = w} {q = q} {r = r} {ps = qs} b l) = seen_in_order d (Position.signal w ∷ q ∷ r ∷ qs) k
printed_in_order (behind p) = passed (printed_in_order p)

-- Once printing has begun a settled position is an error mark exactly where it is lost.
pub marked_exactly : (d : Damages) (k : ℕ) (p : Position) → Word p → (seen p (lost d k) ≡ error_mark ∷ []) ↔ (lost d k ≡ true)
marked_exactly d k p s = go (lost d k)
  where
    no_traffic : traffic_of error_mark ≡ false
    no_traffic = unfold traffic_of meaning_of in refl

    other : (p : Position) → Word p → seen p false ≡ error_mark ∷ [] → ⊥
    other Position.phasing s e = let z : ◌≡◌ {A = ℕ} 0 1 = cc in omega arith
    other (Position.signal w) s e = let h : w ≡ error_mark = cc in false≢true (sym no_traffic ∙ ap traffic_of (sym h) ∙ s.is_traffic)
    other Position.idle s e = let z : ◌≡◌ {A = ℕ} 0 1 = cc in omega arith

    go : (b : Bool) → (seen p b ≡ error_mark ∷ []) ↔ (b ≡ true)
    go true = ((λ e. refl), (λ e. refl))
    go false = ((λ e. absurd (other p s e)), (λ e. absurd (false≢true e)))

-- From a later slot on. What the receiver does not listen to is lost to it.
pub no_wrong_signal_from : (start : ℕ) (text : List ℕ) (d : Damages) → Text text → ((k : ℕ) → NoSignal (d k)) → Printed (deaf_before start d) 0 (positions_of text) (copy_from start text d)
no_wrong_signal_from start text d t n = rw (late_is_deaf start d (slots_of text)) (no_wrong_signal text (deaf_before start d) t (deaf_no_signal start d n))

pub in_order : (start : ℕ) (text : List ℕ) (d : Damages) → Text text → ((k : ℕ) → NoSignal (d k)) → InOrder (positions_of text) (copy_from start text d)
in_order start text d t n = printed_in_order (no_wrong_signal_from start text d t n)
