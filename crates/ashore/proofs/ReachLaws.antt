-- Every burst of a record is a step of the circuit: no entry offers a call, a text is offered only if it is a block, and damage is heard as 0.
--     every_burst_is_a_step   the events told are a run that demand 3 speaks of, and all of them are steps
--     demand_3_ashore         so demand 3 holds after every entry
--     records_reach           a record without a fault is told entry by entry
--     accepted_read_back      and its entries, written, are the record
--     reached_are_records     and what is told so is a record without a fault
--     bursts_alternate        its bursts alternate
-- Assumes nothing.
use mathlib.Core.Path.{◌≡◌, refl, ap, sym, subst, ◌∙◌}
use mathlib.Core.Bool.{Bool, true, false, not, ◌||◌, false≢true}
use mathlib.Core.List.{List, [], ◌∷◌, ◌++◌, append_assoc, append-nil}
use Prim.Native.Nat.{ℕ, ◌+◌}
use native.Mathlib.Omega.{arith}
use lib.Dec.{eqb, ltb}
use lib.ListN.{length}
use borrow.Author.Tests.{eqb-true, le-leb, ltb-false}
use Rattle.std.specs.Prelude.{if◌then◌else◌}
use Rattle.signals.specs.Meaning.{meaning_of}
use Rattle.signals.specs.Damage.{NoSignal, kept, hurt}
use Rattle.signals.specs.Units.{unit}
use Rattle.signals.specs.Numbers.{Answer, answered, refused, first_not}
use Rattle.mode_a.specs.declared.Role.{Role}
use Rattle.mode_a.specs.declared.Role.TheVariants.{Master, Slave}
use Rattle.mode_a.specs.declared.Own.{Own}
use Rattle.mode_a.specs.declared.Words.{Words}
use Rattle.mode_a.specs.declared.Offer.{Offer}
use Rattle.mode_a.specs.declared.Reply.{Reply}
use Rattle.mode_a.specs.Station.{list_of, no_code, no_identity}
use Rattle.mode_a.specs.Heard.{may_hold, is_block}
use Rattle.runs.specs.Runs.{is_answered, is_call, InOrder}
use Rattle.runs.specs.Circuit.{Event, heard, Harmless, Circuit, fresh, said, goes_on, answered_by, after, AllHarmless, NoCallPlaced}
use Rattle.runs.proofs.StepLaws.{held_block, own_stays}
use Rattle.circuit.specs.Starts.{both_fresh}
use Rattle.circuit.specs.Demand.{Demand3}
use Rattle.circuit.proofs.RunLaws.{no_call_offered}
use Rattle.circuit.proofs.Runs.{codes_pass}
use Rattle.circuit.proofs.Theorem.{demand3}
use Rattle.entries.specs.declared.Entry.{Entry}
use Rattle.entries.specs.declared.Entry.TheVariants.{Burst, Text, Over, End}
use Rattle.entries.specs.declared.Standing.{Standing}
use Rattle.entries.specs.Entries.{other_role, same_role, written, record_of, Rest, nothing, unknown_kind, cut_short}
use Rattle.entries.specs.Passage.{Passage, begins, circuit_of, offer_to, offering, damage_to, hearing, event_of, turned, answered_to, after_burst, after_offer, tells, stands, fault_of, told, fault, tells_all}
use Rattle.entries.specs.Passing.{outcome_from}
use Rattle.entries.proofs.ReadBackLaws.{read_back, entries_read_back}
use Rattle.entries.proofs.TellLaws.{told_whole}
use Rattle.ashore.specs.Ashore.{Reached, at_first, one_more, RecordsReach, AcceptedReadBack, ReachedAreRecords, AllSteps, EveryBurstIsAStep, Demand3Ashore, bursts_in, Alternate, BurstsAlternate}
use Rattle.ashore.proofs.RoleLaws.{role_stays}

-- what may stand for a station: no call, and a text only if it is a block
abbrev pub MayStand : Offer → Type 0
MayStand (Offer.Text w) = is_block w ≡ true
MayStand Offer.Over = Unit {0}
MayStand Offer.End = Unit {0}
MayStand Offer.Nothing = Unit {0}
MayStand (Offer.Call i) = ⊥
MayStand (Offer.Call3 i) = ⊥

in_order : (own : Own) (o : Offer) → MayStand o → InOrder own o
in_order own (Offer.Text w) y = y
in_order own Offer.Over y = tt
in_order own Offer.End y = tt
in_order own Offer.Nothing y = tt
in_order own (Offer.Call i) y = absurd y
in_order own (Offer.Call3 i) y = absurd y

pub no_call : (o : Offer) → MayStand o → is_call o ≡ false
no_call (Offer.Text w) y = refl
no_call Offer.Over y = refl
no_call Offer.End y = refl
no_call Offer.Nothing y = refl
no_call (Offer.Call i) y = absurd y
no_call (Offer.Call3 i) y = absurd y

-- a damaged word is heard as 0, which is none of the 35
no_signal_lem : (d i : ℕ) → NoSignal (damage_to d i)
unfolding meaning_of
no_signal_lem d i = go (eqb (unit d i) 1)
  where
    go : (t : Bool) → NoSignal (if t then hurt 0 else kept)
    go true = refl
    go false = tt

harmless_event : (s : Standing) (d : ℕ) → Harmless (event_of s d)
harmless_event s d = (no_signal_lem d 0, no_signal_lem d 1, no_signal_lem d 2)

-- The invariant.
pub record Holds (p : Passage) : Type 0 where
  pub steps : AllSteps fresh p.events
  pub harmless : AllHarmless p.events
  pub none_placed : NoCallPlaced fresh p.events
  pub offers : (r : Role) → MayStand (offer_to p.standing r)
  pub sender_is : (circuit_of p).sender.role ≡ p.standing.turn
  pub hearer_is : (circuit_of p).hearer.role ≡ hearing p.standing
  pub sender_own : (circuit_of p).sender.own ≡ no_identity
  pub hearer_own : (circuit_of p).hearer.own ≡ no_identity

pub demand_3_of : (p : Passage) → Holds p → Demand3 (circuit_of p)
demand_3_of p h = demand3 fresh (both_fresh no_code no_code) codes_pass p.events h.harmless h.none_placed

holds_first : Holds begins
unfolding after AllSteps AllHarmless NoCallPlaced
holds_first =
    record { steps = tt; harmless = tt; none_placed = tt; offers = none; sender_is = refl; hearer_is = refl; sender_own = refl; hearer_own = refl }
  where
    none : (r : Role) → MayStand (offer_to begins.standing r)
    none Master = tt
    none Slave = tt

-- an offer
holds_offer : (p : Passage) (r : Role) (o : Offer) → MayStand o → Holds p → Holds (after_offer p r o)
holds_offer p r o y h =
    record {
      steps = h.steps;
      harmless = h.harmless;
      none_placed = h.none_placed;
      offers = offers r;
      sender_is = h.sender_is ∙ turn r;
      hearer_is = h.hearer_is ∙ ap other_role (turn r);
      sender_own = h.sender_own;
      hearer_own = h.hearer_own;
    }
  where
    turn : (r : Role) → p.standing.turn ≡ (offering p.standing r o).turn
    turn Master = refl
    turn Slave = refl

    offers : (r q : Role) → MayStand (offer_to (offering p.standing r o) q)
    offers Master Master = y
    offers Master Slave = h.offers Slave
    offers Slave Master = h.offers Master
    offers Slave Slave = y

-- A burst: the station that hears it is answered for, and the turn is its own then. What stood for it stands, or is taken.
pub next_step : (p : Passage) → Holds p → (d : ℕ) → is_answered (said (circuit_of p) (event_of p.standing d)) ≡ true
next_step p h d =
    (demand_3_of p h).refuses_only_offers (event_of p.standing d) (in_order (circuit_of p).hearer.own (offer_to p.standing (hearing p.standing)) (h.offers (hearing p.standing)))

-- the standing after an answer
abbrev pub left : Standing → Bool → Standing
left s t = turned (if t then offering s (hearing s) Offer.Nothing else s)

pub left_turn : (s : Standing) (t : Bool) → (left s t).turn ≡ hearing s
left_turn s true = ap other_role (go (hearing s))
  where
    go : (r : Role) → (offering s r Offer.Nothing).turn ≡ s.turn
    go Master = refl
    go Slave = refl
left_turn s false = refl

left_offers : (s : Standing) (t : Bool) → ((r : Role) → MayStand (offer_to s r)) → (r : Role) → MayStand (offer_to (left s t) r)
left_offers s true y r = go (hearing s) r
  where
    go : (q r : Role) → MayStand (offer_to (turned (offering s q Offer.Nothing)) r)
    go Master Master = tt
    go Master Slave = y Slave
    go Slave Master = y Master
    go Slave Slave = tt
left_offers s false y Master = y Master
left_offers s false y Slave = y Slave

pub other_other : (r : Role) → other_role (other_role r) ≡ r
other_other Master = refl
other_other Slave = refl

-- the circuit after a burst that is answered, and the standing
pub circuit_then : (p : Passage) (e : Event) (r : Reply) → said (circuit_of p) e ≡ answered r → circuit_of (after_burst p e) ≡ answered_by (circuit_of p) e.offer (heard e (circuit_of p).burst) r
unfolding after
circuit_then p e r i = ap (goes_on (circuit_of p) e) i

pub standing_then : (p : Passage) (e : Event) (r : Reply) → said (circuit_of p) e ≡ answered r → (after_burst p e).standing ≡ left p.standing r.taken
standing_then p e r i = ap (answered_to p.standing) i

holds_burst : (p : Passage) (d : ℕ) → Holds p → Holds (after_burst p (event_of p.standing d))
unfolding after AllSteps AllHarmless NoCallPlaced
holds_burst p d h = go (said (circuit_of p) e) refl (next_step p h d)
  where
    e : Event
    e = event_of p.standing d

    o : Offer
    o = offer_to p.standing (hearing p.standing)

    go : (a : Answer Reply) → said (circuit_of p) e ≡ a → is_answered a ≡ true → Holds (after_burst p e)
    go (answered r) i t =
        let c = circuit_then p e r i in
        let s = standing_then p e r i in
        let n = no_call o (h.offers (hearing p.standing)) in
        record {
          steps = (h.steps, ap is_answered i);
          harmless = (h.harmless, harmless_event p.standing d);
          none_placed = (h.none_placed, no_call_offered (circuit_of p) e n);
          offers = subst (λ (s : Standing). (r : Role) → MayStand (offer_to s r)) (sym s) (left_offers p.standing r.taken h.offers);
          sender_is =
              ap (λ (c : Circuit). c.sender.role) c
              ∙ role_stays (circuit_of p).hearer (heard e (circuit_of p).burst) o r i h.hearer_own n
              ∙ h.hearer_is
              ∙ sym (ap (λ (s : Standing). s.turn) s ∙ left_turn p.standing r.taken);
          hearer_is =
              ap (λ (c : Circuit). c.hearer.role) c
              ∙ h.sender_is
              ∙ sym (ap other_role (ap (λ (s : Standing). s.turn) s ∙ left_turn p.standing r.taken) ∙ other_other p.standing.turn);
          sender_own = ap (λ (c : Circuit). c.sender.own) c ∙ own_stays (circuit_of p).hearer (heard e (circuit_of p).burst) o r i ∙ h.hearer_own;
          hearer_own = ap (λ (c : Circuit). c.hearer.own) c ∙ h.sender_own;
        }
    go (refused n v) i t = absurd (false≢true t)

-- an entry that is not refused
text_may : (s : Standing) (r : Role) (w : Words) → fault_of s (Text r w) ≡ 0 → is_block w ≡ true
text_may s r w f = go (stands (offer_to s r)) (ltb (first_not may_hold (list_of w)) 3) refl f
  where
    go : (a b : Bool) → ltb (first_not may_hold (list_of w)) 3 ≡ b → ◌≡◌ {A = ℕ} (if a then 13 else if b then 3 else 0) 0 → is_block w ≡ true
    go true b e f = absurd (omega arith)
    go false true e f = absurd (omega arith)
    go false false e f = sym (held_block w) ∙ le-leb 3 (first_not may_hold (list_of w)) (ltb-false _ _ e)

holds_tells : (p : Passage) (e : Entry) → fault_of p.standing e ≡ 0 → Holds p → Holds (tells p e)
holds_tells p (Burst r d) f h = holds_burst p d h
holds_tells p (Text r w) f h = holds_offer p r (Offer.Text w) (text_may p.standing r w f) h
holds_tells p (Over r) f h = holds_offer p r Offer.Over tt h
holds_tells p (End r) f h = holds_offer p r Offer.End tt h

pub holds : {es : List Entry} {p : Passage} → Reached es p → Holds p
holds at_first = holds_first
holds (one_more {p = p} y e f) = holds_tells p e f (holds y)

pub every_burst_is_a_step : EveryBurstIsAStep
every_burst_is_a_step es p y =
    let h = holds y in
    record {
      steps = h.steps;
      harmless = h.harmless;
      no_call = h.none_placed;
      next_is_a_step = next_step p h;
      sender_is = h.sender_is;
      hearer_is = h.hearer_is;
    }

pub demand_3_ashore : Demand3Ashore
demand_3_ashore es p y = demand_3_of p (holds y)

-- a record without a fault, entry by entry
told_more : (e : Entry) (es : List Entry) (rest : Rest) (at : ℕ) (p q : Passage) → tells_all (e ∷ es) rest at p ≡ told q → (fault_of p.standing e ≡ 0) × (tells_all es rest (at + length (written e)) (tells p e) ≡ told q)
unfolding tells_all
told_more e es rest at p q i = go (eqb (fault_of p.standing e) 0) refl i
  where
    go : (t : Bool) → eqb (fault_of p.standing e) 0 ≡ t → (if t then tells_all es rest (at + length (written e)) (tells p e) else fault (fault_of p.standing e) at) ≡ told q → (fault_of p.standing e ≡ 0) × (tells_all es rest (at + length (written e)) (tells p e) ≡ told q)
    go true f i = (eqb-true _ _ f, i)
    go false f i = let z : ◌≡◌ {A = ℕ} 0 1 = cc in absurd (omega arith)

reach_on : (es : List Entry) (rest : Rest) (at : ℕ) (ds : List Entry) (p q : Passage) → Reached ds p → tells_all es rest at p ≡ told q → Reached (ds ++ es) q
unfolding tells_all
reach_on [] nothing at ds p q y i =
    let j : p ≡ q = cc in subst (λ (q : Passage). Reached (ds ++ []) q) j (subst (λ (l : List Entry). Reached l p) (sym (append-nil ds)) y)
reach_on [] unknown_kind at ds p q y i = let z : ◌≡◌ {A = ℕ} 0 1 = cc in absurd (omega arith)
reach_on [] cut_short at ds p q y i = let z : ◌≡◌ {A = ℕ} 0 1 = cc in absurd (omega arith)
reach_on (e ∷ es) rest at ds p q y i =
    let m = told_more e es rest at p q i in
    subst (λ (l : List Entry). Reached l q) (append_assoc ds (e ∷ []) es) (reach_on es rest (at + length (written e)) (ds ++ e ∷ []) (tells p e) q (one_more y e m.0) m.1)

pub records_reach : RecordsReach
unfolding outcome_from
records_reach bytes p i = reach_on (record_of bytes).entries (record_of bytes).rest 0 [] begins p at_first i

pub accepted_read_back : AcceptedReadBack
unfolding outcome_from
accepted_read_back bytes p i = read_back bytes (told_whole (record_of bytes).entries (record_of bytes).rest 0 begins p i)

-- and what is reached is a record without a fault
tells_on : (es ds : List Entry) (at : ℕ) (p q : Passage) → tells_all es nothing at p ≡ told q → (n : ℕ) × (tells_all (es ++ ds) nothing at p ≡ tells_all ds nothing n q)
unfolding tells_all
tells_on [] ds at p q i = let j : p ≡ q = cc in (at, ap (tells_all ds nothing at) j)
tells_on (e ∷ es) ds at p q i =
    let m = told_more e es nothing at p q i in
    let x = tells_on es ds (at + length (written e)) (tells p e) q m.1 in
    (x.0, rw m.0 x.1)

told_reached : {es : List Entry} {p : Passage} → Reached es p → tells_all es nothing 0 begins ≡ told p
unfolding tells_all
told_reached at_first = refl
told_reached (one_more {es = es} {p = p} y e f) =
    let x = tells_on es (e ∷ []) 0 begins p (told_reached y) in x.1 ∙ rw f

pub reached_are_records : ReachedAreRecords
unfolding outcome_from
reached_are_records es p y = rw (entries_read_back es) (told_reached y)

-- a burst is that of the station whose turn it is, and the turn is then the other's
burst_in_turn : (s : Standing) (r : Role) (d : ℕ) → fault_of s (Burst r d) ≡ 0 → r ≡ s.turn
burst_in_turn s r d f = go r s.turn f
  where
    go : (r t : Role) → ◌≡◌ {A = ℕ} (if not (same_role r t) || ltb 7 d then 12 else 0) 0 → r ≡ t
    go Master Master f = refl
    go Master Slave f = absurd (omega arith)
    go Slave Master f = absurd (omega arith)
    go Slave Slave f = refl

pub turn_then : (p : Passage) (d : ℕ) → Holds p → (after_burst p (event_of p.standing d)).standing.turn ≡ hearing p.standing
turn_then p d h = go (said (circuit_of p) (event_of p.standing d)) (next_step p h d)
  where
    go : (a : Answer Reply) → is_answered a ≡ true → (answered_to p.standing a).turn ≡ hearing p.standing
    go (answered r) t = left_turn p.standing r.taken
    go (refused n v) t = absurd (false≢true t)

pub turn_kept : (s : Standing) (r : Role) (o : Offer) → (offering s r o).turn ≡ s.turn
turn_kept s Master o = refl
turn_kept s Slave o = refl

alternate_more : (e : Entry) (es : List Entry) (p : Passage) → Holds p → fault_of p.standing e ≡ 0 → Alternate (tells p e).standing.turn (bursts_in es) → Alternate p.standing.turn (bursts_in (e ∷ es))
unfolding Alternate bursts_in
alternate_more (Burst r d) es p h f a =
    (burst_in_turn p.standing r d f, subst (λ (t : Role). Alternate t (bursts_in es)) (turn_then p d h) a)
alternate_more (Text r w) es p h f a = subst (λ (t : Role). Alternate t (bursts_in es)) (turn_kept p.standing r (Offer.Text w)) a
alternate_more (Over r) es p h f a = subst (λ (t : Role). Alternate t (bursts_in es)) (turn_kept p.standing r Offer.Over) a
alternate_more (End r) es p h f a = subst (λ (t : Role). Alternate t (bursts_in es)) (turn_kept p.standing r Offer.End) a

alternate_on : (es : List Entry) (rest : Rest) (at : ℕ) (p q : Passage) → Holds p → tells_all es rest at p ≡ told q → Alternate p.standing.turn (bursts_in es)
unfolding Alternate bursts_in
alternate_on [] rest at p q h i = tt
alternate_on (e ∷ es) rest at p q h i =
    let m = told_more e es rest at p q i in
    alternate_more e es p h m.0 (alternate_on es rest (at + length (written e)) (tells p e) q (holds_tells p e m.0 h) m.1)

pub bursts_alternate : BurstsAlternate
unfolding outcome_from
bursts_alternate bytes p i = alternate_on (record_of bytes).entries (record_of bytes).rest 0 begins p holds_first i
