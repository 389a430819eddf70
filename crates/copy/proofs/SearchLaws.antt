-- The search, over the 32 slots before the text: they carry RQ and α in turn, so four kept in a row bring the receiver into phase,
-- whatever became of the others. Assumes nothing.
use mathlib.Core.Path.{◌≡◌, refl, ◌∙◌}
use mathlib.Core.Bool.{Bool, true, false, not}
use mathlib.Core.List.{List, [], ◌∷◌}
use Prim.Native.Nat.{ℕ, zero, suc, ◌+◌, ◌-◌, ◌<◌}
use native.Mathlib.Omega.{arith}
use lib.Dec.{lit<}
use lib.ListN.{drop}
use Rattle.signals.specs.Meaning.{alpha, rq}
use Rattle.mode_b.specs.declared.Phasing.{Phasing}
use Rattle.mode_b.specs.declared.Receiver.{Receiver}
use Rattle.mode_b.specs.Receiver.{heard_dx, heard_rx, receiving, receiver_after, fresh_receiver}
use Rattle.signals.specs.Damage.{Damage, kept, hurt, arrives, NoSignal}
use Rattle.copy.specs.Run.{Damages, prints_of, heard_from, listen}
use Rattle.copy.specs.Premise.{FourIntact}
use Rattle.copy.proofs.WordLaws.{mutilated}
use Rattle.copy.proofs.StepLaws.{in_phase, seeking, settles_unbegun}

-- n slots of phasing signals in turn, the first of them in a DX slot or not, and then others
abbrev pub phasing_word : Bool → ℕ
phasing_word true = rq
phasing_word false = alpha

unfoldable pub alternate : Bool → ℕ → List ℕ → List ℕ
alternate dx zero rest = rest
alternate dx (suc n) rest = phasing_word dx ∷ alternate (not dx) n rest

-- how far the search has come: the run, and the fourth signal. The last signal of a run is the one of the slot before.
pub data Stage : Type 0 where
  s0 s1 s2 s3 s4 : Stage

abbrev on : Stage → Stage
on s0 = s1
on s1 = s2
on s2 = s3
on s3 = s4
on s4 = s4

abbrev off : Stage → Stage
off s0 = s0
off s1 = s0
off s2 = s0
off s3 = s0
off s4 = s4

abbrev pub last_of : Bool → Phasing
last_of true = Phasing.One
last_of false = Phasing.Two

pub data At (dx : Bool) : Stage → Receiver → Type 0 where
  at0 : (s : Phasing) → At dx s0 (seeking 0 s)
  at1 : At dx s1 (seeking 1 (last_of dx))
  at2 : At dx s2 (seeking 2 (last_of dx))
  at3 : At dx s3 (seeking 3 (last_of dx))
  at4 : (a b c : Damage) → NoSignal a → NoSignal b → NoSignal c → At dx s4 (in_phase (arrives a rq) (arrives b rq) (arrives c rq) dx false)

-- one slot: nothing is printed, and the receiver is at a stage
abbrev Moves : Bool → Stage → Receiver → ℕ → Type 0
Moves dx m r v = (prints_of (receiving r v) ≡ []) × At dx m (receiver_after r (receiving r v))

settling : (dx : Bool) (a b c : Damage) → NoSignal a → NoSignal b → NoSignal c → (h : Damage) → NoSignal h → Moves (not dx) s4 (in_phase (arrives a rq) (arrives b rq) (arrives c rq) dx false) (arrives h (phasing_word dx))
unfolding heard_dx heard_rx
settling true a b c l m n kept o = (refl, at4 b c kept m n tt)
settling true a b c l m n (hurt v) o = rw (mutilated v o).not_alpha (refl, at4 b c (hurt v) m n o)
settling false a b c l m n h o =
    let q = settles_unbegun a h l o in
    rw q.1 (q.0, at4 a b c l m n)

keeps : (dx : Bool) (m : Stage) (r : Receiver) → At dx m r → Moves (not dx) (on m) r (phasing_word dx)
keeps true m r (at0 s) = (refl, at1)
keeps true m r at1 = (refl, at2)
keeps true m r at2 = (refl, at3)
keeps true m r at3 = (refl, at4 kept kept kept tt tt tt)
keeps true m r (at4 a b c x y z) = settling true a b c x y z kept tt
keeps false m r (at0 s) = (refl, at1)
keeps false m r at1 = (refl, at2)
keeps false m r at2 = (refl, at3)
keeps false m r at3 = (refl, at4 kept kept kept tt tt tt)
keeps false m r (at4 a b c x y z) = settling false a b c x y z kept tt

loses : (v : ℕ) → NoSignal (hurt v) → (dx : Bool) (m : Stage) (r : Receiver) → At dx m r → Moves (not dx) (off m) r v
loses v n dx m r (at0 s) = rw ((mutilated v n).not_alpha, (mutilated v n).not_rq_lem) (refl, at0 Phasing.One)
loses v n dx m r at1 = rw ((mutilated v n).not_alpha, (mutilated v n).not_rq_lem) (refl, at0 Phasing.One)
loses v n dx m r at2 = rw ((mutilated v n).not_alpha, (mutilated v n).not_rq_lem) (refl, at0 Phasing.One)
loses v n dx m r at3 = rw ((mutilated v n).not_alpha, (mutilated v n).not_rq_lem) (refl, at0 Phasing.One)
loses v n dx m r (at4 a b c x y z) = settling dx a b c x y z (hurt v) n

abbrev moved : Damage → Stage → Stage
moved kept m = on m
moved (hurt v) m = off m

slot : (h : Damage) → NoSignal h → (dx : Bool) (m : Stage) (r : Receiver) → At dx m r → Moves (not dx) (moved h m) r (arrives h (phasing_word dx))
slot kept n dx m r a = keeps dx m r a
slot (hurt v) n dx m r a = loses v n dx m r a

stays : (h : Damage) → NoSignal h → (dx : Bool) (r : Receiver) → At dx s4 r → Moves (not dx) s4 r (arrives h (phasing_word dx))
stays kept n dx r a = keeps dx s4 r a
stays (hurt v) n dx r a = loses v n dx s4 r a

slot_kept : (h : Damage) → h ≡ kept → (dx : Bool) (m : Stage) (r : Receiver) → At dx m r → Moves (not dx) (on m) r (arrives h (phasing_word dx))
slot_kept h e dx m r a = rw e (keeps dx m r a)

-- n slots on: the number of the slot, and whether it is a DX slot
abbrev pub later : ℕ → ℕ → ℕ
later zero k = k
later (suc n) k = later n (suc k)

abbrev pub turned : ℕ → Bool → Bool
turned zero dx = dx
turned (suc n) dx = turned n (not dx)

-- a receiver that hears n such slots, and then the rest, prints what a receiver in phase prints of the rest
pub record Locks (d : Damages) (dx : Bool) (n k : ℕ) (r : Receiver) (rest : List ℕ) : Type 0 where
  pub after : Receiver
  pub in_phase_lem : At (turned n dx) s4 after
  pub same : listen r (heard_from d k (alternate dx n rest)) ≡ listen after (heard_from d (later n k) rest)

module _ (d : Damages) (good : (k : ℕ) → NoSignal (d k)) (rest : List ℕ) where
  next : (dx : Bool) (n k : ℕ) (r : Receiver) → prints_of (receiving r (arrives (d k) (phasing_word dx))) ≡ [] → Locks d (not dx) n (suc k) (receiver_after r (receiving r (arrives (d k) (phasing_word dx)))) rest → Locks d dx (suc n) k r rest
  unfolding listen heard_from alternate
  next dx n k r e l = record { after = l.after; in_phase_lem = l.in_phase_lem; same = rw e l.same }

  in_phase_on : (n : ℕ) (dx : Bool) (k : ℕ) (r : Receiver) → At dx s4 r → Locks d dx n k r rest
  unfolding alternate
  in_phase_on zero dx k r a = record { after = r; in_phase_lem = a; same = refl }
  in_phase_on (suc n) dx k r a =
      let m = stays (d k) (good k) dx r a in
      next dx n k r m.0 (in_phase_on n (not dx) (suc k) _ m.1)

  four : (n : ℕ) (dx : Bool) (m : Stage) (k : ℕ) (r : Receiver) → At dx m r → ((j : ℕ) → j < 4 → d (later j k) ≡ kept) → Locks d dx (suc (suc (suc (suc n)))) k r rest
  four n dx m k r a e =
      let m1 = slot_kept (d k) (e 0 (lit< tt)) dx m r a in
      let m2 = slot_kept (d (suc k)) (e 1 (lit< tt)) (not dx) _ _ m1.1 in
      let m3 = slot_kept (d (suc (suc k))) (e 2 (lit< tt)) (not (not dx)) _ _ m2.1 in
      let m4 = slot_kept (d (suc (suc (suc k)))) (e 3 (lit< tt)) (not (not (not dx))) _ _ m3.1 in
      next dx _ k r m1.0
      (next (not dx) _ (suc k) _ m2.0
      (next (not (not dx)) _ (suc (suc k)) _ m3.0
      (next (not (not (not dx))) n (suc (suc (suc k))) _ m4.0
      (in_phase_on n _ _ _ (all m m4.1)))))
    where
      all : (m : Stage) {b : Bool} {r : Receiver} → At b (on (on (on (on m)))) r → At b s4 r
      all s0 a = a
      all s1 a = a
      all s2 a = a
      all s3 a = a
      all s4 a = a

  pub locks : (i n : ℕ) (dx : Bool) (m : Stage) (k : ℕ) (r : Receiver) → At dx m r → i + 3 < n → ((j : ℕ) → j < 4 → d (later j (later i k)) ≡ kept) → Locks d dx n k r rest
  locks zero zero dx m k r a h e = absurd (omega arith)
  locks zero (suc zero) dx m k r a h e = absurd (omega arith)
  locks zero (suc (suc zero)) dx m k r a h e = absurd (omega arith)
  locks zero (suc (suc (suc zero))) dx m k r a h e = absurd (omega arith)
  locks zero (suc (suc (suc (suc n)))) dx m k r a h e = four n dx m k r a e
  locks (suc i) zero dx m k r a h e = absurd (omega arith)
  locks (suc i) (suc n) dx m k r a h e =
      let s = slot (d k) (good k) dx m r a in
      next dx n k r s.0 (locks i n (not dx) _ (suc k) _ s.1 (omega arith) e)

later_add : (n k : ℕ) → later n k ≡ n + k
later_add zero k = omega arith
later_add (suc n) k = later_add n (suc k) ∙ omega arith

turned_add : (m s n : ℕ) (dx : Bool) → s + m ≡ n → turned m (turned s dx) ≡ turned n dx
turned_add m zero n dx e = let h : m ≡ n = omega arith in rw h
turned_add m (suc s) zero dx e = absurd (omega arith)
turned_add m (suc s) (suc n) dx e = turned_add m s n (not dx) (omega arith)

dropped : (m s n : ℕ) (dx : Bool) (rest : List ℕ) → s + m ≡ n → drop s (alternate dx n rest) ≡ alternate (turned s dx) m rest
unfolding alternate
dropped m zero n dx rest e = let h : m ≡ n = omega arith in rw h
dropped m (suc s) zero dx rest e = absurd (omega arith)
dropped m (suc s) (suc n) dx rest e = dropped m s n (not dx) rest (omega arith)

-- a fresh receiver that listens from a slot on is in phase before the text
pub record Locked (d : Damages) (start : ℕ) (rest : List ℕ) : Type 0 where
  pub after : Receiver
  pub in_phase_lem : At true s4 after
  pub same : listen fresh_receiver (heard_from d start (drop start (alternate true 32 rest))) ≡ listen after (heard_from d 32 rest)

pub locked : (d : Damages) → ((k : ℕ) → NoSignal (d k)) → (start : ℕ) → FourIntact start d → (rest : List ℕ) → Locked d start rest
locked d good start f rest =
    let l = locks d good rest (f.first - start) (32 - start) (turned start true) s0 start fresh_receiver (at0 Phasing.One) (omega arith) heard in
    record {
      after = l.after;
      in_phase_lem = rw (turned_add (32 - start) start 32 true (omega arith)) at l.in_phase_lem;
      same = rw (dropped (32 - start) start 32 true rest (omega arith)) (l.same ∙ rw at_32);
    }
  where
    at_32 : later (32 - start) start ≡ 32
    at_32 = later_add (32 - start) start ∙ omega arith

    place : (j : ℕ) → later j (later (f.first - start) start) ≡ f.first + j
    place j = omega (arith, later_add j (later (f.first - start) start), later_add (f.first - start) start)

    heard : (j : ℕ) → j < 4 → d (later j (later (f.first - start) start)) ≡ kept
    heard j h = rw (place j) (f.intact j h)
