-- How much a record prints: a station accepts a block only from a burst of the other, which is two bytes of the record, and between two of
-- these there is a burst of its own, two bytes more; the slave's first burst is no block. So there are four bytes of the record to each block
-- of three signals, and each signal is one byte of text or none. Assumes nothing.
use mathlib.Core.Path.{◌≡◌, refl, ap, sym, subst, ◌∙◌}
use mathlib.Core.Bool.{Bool, true, false, false≢true}
use mathlib.Core.Logic.{◌⊎◌, inl, inr}
use mathlib.Core.List.{List, [], ◌∷◌, ◌++◌, append-nil}
use Prim.Native.Nat.{ℕ, ◌+◌, ◌*◌, ◌≤◌}
use native.Mathlib.Omega.{arith}
use lib.Dec.{eqb}
use lib.ListN.{length, length-append}
use Rattle.std.specs.Prelude.{if◌then◌else◌}
use Rattle.signals.specs.declared.Case.{Case}
use Rattle.signals.specs.declared.Case.TheVariants.{Letters, Figures}
use Rattle.signals.specs.Signals.{Signal, pair, lone, free, mute, signals, word_of}
use Rattle.signals.specs.Meaning.{traffic_of, error_mark}
use Rattle.signals.specs.Numbers.{Answer, answered, refused}
use Rattle.text.specs.Printing.{prints, prints_in, bytes_of, case_at, printed}
use Rattle.mode_a.specs.declared.Role.{Role}
use Rattle.mode_a.specs.declared.Words.{Words}
use Rattle.mode_a.specs.declared.Reply.{Reply}
use Rattle.mode_a.specs.Station.{list_of}
use Rattle.mode_a.specs.Heard.{heard_of}
use Rattle.runs.specs.Runs.{start, is_answered, accepting}
use Rattle.runs.specs.Circuit.{Event, heard, traffic, signals_in, Circuit, fresh, said, accepted_by, answered_by, after}
use Rattle.entries.specs.declared.Entry.{Entry}
use Rattle.entries.specs.declared.Entry.TheVariants.{Burst, Text, Over, End}
use Rattle.entries.specs.Entries.{same_role, written, written_all, record_of}
use Rattle.entries.proofs.ReadBackLaws.{splits}
use Rattle.entries.specs.Passage.{Passage, circuit_of, event_of, after_burst, tells, text_of, signals_of}
use Rattle.ashore.specs.Ashore.{Reached, at_first, one_more, RoomOfThreeQuarters, direction_to}
use Rattle.ashore.proofs.ReachLaws.{Holds, holds, next_step, circuit_then, demand_3_ashore, records_reach}
use Rattle.ashore.proofs.Theorem.{printed_there, carried_there}

-- a signal is a byte of text, or none
prints_le : (c : Case) (s : Signal) → length (prints c s) ≤ 1
prints_le Letters (pair w l f) = omega arith
prints_le Letters (lone w l) = omega arith
prints_le Letters (free w x) = omega arith
prints_le Letters (mute w) = omega arith
prints_le Figures (pair w l f) = omega arith
prints_le Figures (lone w l) = omega arith
prints_le Figures (free w x) = omega arith
prints_le Figures (mute w) = omega arith

prints_in_le : (ss : List Signal) (c : Case) (w : ℕ) → length (prints_in ss c w) ≤ 1
prints_in_le [] c w = omega arith
prints_in_le (s ∷ ss) c w = go (eqb w (word_of s)) (prints_in_le ss c w)
  where
    go : (t : Bool) → length (prints_in ss c w) ≤ 1 → length (if t then prints c s else prints_in ss c w) ≤ 1
    go true h = prints_le c s
    go false h = h

bytes_le : (c : Case) (w : ℕ) → length (bytes_of c w) ≤ 1
unfolding bytes_of
bytes_le c w = go (eqb w error_mark)
  where
    go : (t : Bool) → length (if t then 42 ∷ [] else prints_in signals c w) ≤ 1
    go true = omega arith
    go false = prints_in_le signals c w

text_le : (c : Case) (ws : List ℕ) → length (printed c ws) ≤ length ws
unfolding printed
text_le c [] = omega arith
text_le c (w ∷ ws) = simp length-append (omega (arith, bytes_le c w, text_le (case_at c w) ws))

-- a block has three signals at most
traffic_le : (ws : List ℕ) → length (traffic ws) ≤ length ws
unfolding traffic
traffic_le [] = omega arith
traffic_le (w ∷ ws) = go (traffic_of w) (traffic_le ws)
  where
    go : (t : Bool) → length (traffic ws) ≤ length ws → length (if t then w ∷ traffic ws else traffic ws) ≤ length (w ∷ ws)
    go true h = omega arith
    go false h = omega arith

signals_le : (bs : List Words) → length (signals_in bs) ≤ 3 * length bs
unfolding signals_in
signals_le [] = omega arith
signals_le (b ∷ bs) = simp length-append (omega (arith, traffic_le (list_of b), signals_le bs))

-- The bytes of the bursts that the blocks accepted took: two more are spent behind the last block that the station accepted that hears next.
record Spent (n : ℕ) (c : Circuit) : Type 0 where
  by_hearer : 4 * length c.from_sender.accepted + 2 ≤ n
  by_sender : 4 * length c.from_hearer.accepted ≤ n

accepted_le : (t : Bool) (b : Words) → length (if t then b ∷ [] else []) ≤ 1
accepted_le true b = omega arith
accepted_le false b = omega arith

spent_more : (n m : ℕ) (c : Circuit) → n ≤ m → Spent n c → Spent m c
spent_more n m c l s = record { by_hearer = omega arith; by_sender = omega arith }

spent_burst : (n : ℕ) (p : Passage) (d : ℕ) → Holds p → (p.events ≡ start) ⊎ Spent n (circuit_of p) → Spent (n + 2) (circuit_of (after_burst p (event_of p.standing d)))
unfolding after
spent_burst n p d h y = go (said (circuit_of p) (event_of p.standing d)) refl (next_step p h d)
  where
    e : Event
    e = event_of p.standing d

    first : (c : Circuit) (b : Words) (r : Reply) → c ≡ fresh → Spent (n + 2) (answered_by c e.offer b r)
    first c b r i =
        let z : c.from_hearer.accepted ≡ [] = ap (λ (c : Circuit). c.from_hearer.accepted) i in
        let u : c.from_sender.accepted ++ accepted_by c.hearer b ≡ [] = ap (λ (c : Circuit). c.from_sender.accepted ++ accepted_by c.hearer b) i in
        record { by_hearer = rw z (omega arith); by_sender = rw u (omega arith) }

    later : (c : Circuit) (b : Words) (r : Reply) → Spent n c → Spent (n + 2) (answered_by c e.offer b r)
    later c b r s =
        let l = accepted_le (accepting c.hearer.place (heard_of c.hearer.own b)) b in
        record { by_hearer = omega arith; by_sender = simp length-append (omega arith) }

    by : (r : Reply) → (p.events ≡ start) ⊎ Spent n (circuit_of p) → Spent (n + 2) (answered_by (circuit_of p) e.offer (heard e (circuit_of p).burst) r)
    by r (inl i) = first (circuit_of p) (heard e (circuit_of p).burst) r (ap (after fresh) i)
    by r (inr s) = later (circuit_of p) (heard e (circuit_of p).burst) r s

    go : (a : Answer Reply) → said (circuit_of p) e ≡ a → is_answered a ≡ true → Spent (n + 2) (circuit_of (after_burst p e))
    go (answered r) i t = subst (Spent (n + 2)) (sym (circuit_then p e r i)) (by r y)
    go (refused k v) i t = absurd (false≢true t)

written_more : (es : List Entry) (e : Entry) → length (written_all (es ++ e ∷ [])) ≡ length (written_all es) + length (written e)
unfolding written_all
written_more [] e = omega (arith, ap length (append-nil (written e)))
written_more (x ∷ es) e = simp length-append (omega (arith, written_more es e))

spent_offer : (n m : ℕ) (p : Passage) → n ≤ m → (p.events ≡ start) ⊎ Spent n (circuit_of p) → (p.events ≡ start) ⊎ Spent m (circuit_of p)
spent_offer n m p l (inl i) = inl i
spent_offer n m p l (inr s) = inr (spent_more n m (circuit_of p) l s)

spent : {es : List Entry} {p : Passage} → Reached es p → (p.events ≡ start) ⊎ Spent (length (written_all es)) (circuit_of p)
spent at_first = inl refl
spent (one_more {es = es} {p = p} y e f) = rw (written_more es e) (go e (spent y))
  where
    go : (e : Entry) → (p.events ≡ start) ⊎ Spent (length (written_all es)) (circuit_of p) → ((tells p e).events ≡ start) ⊎ Spent (length (written_all es) + length (written e)) (circuit_of (tells p e))
    go (Burst r d) s = inr (spent_burst (length (written_all es)) p d (holds y) s)
    go (Text r w) s = spent_offer (length (written_all es)) (length (written_all es) + 4) p (omega arith) s
    go (Over r) s = spent_offer (length (written_all es)) (length (written_all es) + 1) p (omega arith) s
    go (End r) s = spent_offer (length (written_all es)) (length (written_all es) + 1) p (omega arith) s

-- a block is accepted for every four bytes at most
accepted_of_four : (es : List Entry) (p : Passage) → Reached es p → (r : Role) → 4 * length (direction_to p r).accepted ≤ length (written_all es)
unfolding after
accepted_of_four es p y r = go (spent y) (same_role r p.standing.turn)
  where
    go : (p.events ≡ start) ⊎ Spent (length (written_all es)) (circuit_of p) → (t : Bool) → 4 * length (if t then (circuit_of p).from_hearer else (circuit_of p).from_sender).accepted ≤ length (written_all es)
    go (inl i) true = rw i (omega arith)
    go (inl i) false = rw i (omega arith)
    go (inr s) true = s.by_sender
    go (inr s) false = omega arith

pub three_quarters : (es : List Entry) (p : Passage) → Reached es p → (r : Role) → length (text_of p r) * 4 ≤ 3 * length (written_all es)
three_quarters es p y r =
    let d = carried_there p r (demand_3_ashore es p y) in
    let i : signals_of p r ≡ signals_in (direction_to p r).accepted = sym (printed_there p r) ∙ d.prints_what_it_accepts in
    omega (arith, text_le Letters (signals_of p r), ap length i, signals_le (direction_to p r).accepted, accepted_of_four es p y r)

pub room_of_three_quarters : RoomOfThreeQuarters
room_of_three_quarters bytes p i r =
    let w = splits bytes in
    omega (arith, three_quarters (record_of bytes).entries p (records_reach bytes p i) r, simp length-append at (ap length w.whole))
