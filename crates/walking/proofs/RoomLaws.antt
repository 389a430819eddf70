-- How much a record can have printed: a station hears every second burst, which takes two bytes of the record and prints three signals at
-- most, so a text is at most three quarters as long as the record. Assumes nothing.
use mathlib.Core.Path.{◌≡◌, refl, ap, ◌∙◌}
use mathlib.Core.Bool.{Bool, true, false}
use mathlib.Core.List.{List, [], ◌∷◌, ◌++◌}
use Prim.Native.Nat.{ℕ, ◌+◌, ◌*◌, ◌≤◌, ◌<◌, ◌^◌}
use native.Mathlib.Omega.{arith}
use lib.Dec.{eqb}
use lib.ListN.{length, length-append}
use Rattle.std.specs.Prelude.{if◌then◌else◌}
use Rattle.signals.specs.declared.Case.TheVariants.{Letters}
use Rattle.signals.specs.Numbers.{Answer, answered, refused}
use Rattle.text.specs.Printing.{printed, ends_printed}
use Rattle.judging.proofs.SizeLaws.{at_most}
use Rattle.mode_a.specs.declared.Role.{Role}
use Rattle.mode_a.specs.declared.Role.TheVariants.{Master, Slave}
use Rattle.mode_a.specs.declared.Offer.{Offer}
use Rattle.mode_a.specs.declared.Reply.{Reply}
use Rattle.mode_a.specs.Station.{list_of}
use Rattle.runs.specs.Circuit.{without_zeros, said, after}
use Rattle.entries.specs.declared.Entry.{Entry}
use Rattle.entries.specs.declared.Entry.TheVariants.{Burst, Text, Over, End}
use Rattle.entries.specs.Entries.{other_role, same_role, written}
use Rattle.entries.specs.Passage.{Passage, begins, circuit_of, event_of, answered_to, after_offer, tells, printed_in, signals_of, text_of}
use Rattle.entries.proofs.TellLaws.{turn_answered, prints_more, burst_prints, text_more}

-- by whose burst is on the way: the bytes of the record so far, and those of the two texts
abbrev WithinAt : Role → ℕ → ℕ → ℕ → Type 0
WithinAt Slave at m s = (4 * m ≤ 3 * at) × (4 * s ≤ 3 * at)
WithinAt Master at m s = (4 * m ≤ 3 * at + 6) × (4 * s + 6 ≤ 3 * at)

abbrev pub Within : ℕ → Passage → Type 0
Within at p = WithinAt p.standing.turn at (length (text_of p Master)) (length (text_of p Slave))

-- before the first entry, wherever that stands
pub within_begins : (at : ℕ) → Within at begins
unfolding after printed
within_begins at = (omega arith, omega arith)

further : (t : Role) (at more m s m' s' : ℕ) → m' ≤ m → s' ≤ s → WithinAt t at m s → WithinAt t (at + more) m' s'
further Master at more m s m' s' a b w = (omega (arith, w.0), omega (arith, w.1))
further Slave at more m s m' s' a b w = (omega (arith, w.0), omega (arith, w.1))

when : (t u : Role) (at m s : ℕ) → t ≡ u → WithinAt u at m s → WithinAt t at m s
when t u at m s e w = rw e w

-- the station that hears prints three bytes at most, the other none
abbrev more : Role → Role → ℕ
more by turn = if same_role by (other_role turn) then 3 else 0

turns : (t : Role) (at m s m' s' : ℕ) → m' ≤ m + more Master t → s' ≤ s + more Slave t → WithinAt t at m s → WithinAt (other_role t) (at + 2) m' s'
turns Master at m s m' s' a b w = (omega (arith, a, w.0), omega (arith, b, w.1))
turns Slave at m s m' s' a b w = (omega (arith, a, w.0), omega (arith, b, w.1))

without_less : (ws : List ℕ) → length (without_zeros ws) ≤ length ws
without_less [] = omega arith
without_less (w ∷ ws) = by (eqb w 0) (without_less ws)
  where
    by : (t : Bool) → length (without_zeros ws) ≤ length ws → length (if t then without_zeros ws else w ∷ without_zeros ws) ≤ length (w ∷ ws)
    by true h = omega (arith, h)
    by false h = omega (arith, h)

text_less : (p q : Passage) (by : Role) (ws : List ℕ) → signals_of q by ≡ signals_of p by ++ ws → length (text_of q by) ≤ length (text_of p by) + length ws
text_less p q by ws e =
    omega (
      arith,
      ap (λ (l : List ℕ). length l) (text_more p q by ws e),
      length-append (text_of p by) (printed (ends_printed Letters (signals_of p by)) ws),
      at_most (ends_printed Letters (signals_of p by)) ws,
    )

three_more : (by turn : Role) (r : Reply) → length (prints_more by turn (answered r)) ≤ more by turn
three_more by turn r = go (same_role by (other_role turn))
  where
    go : (t : Bool) → length (if t then printed_in (answered r) else []) ≤ (if t then 3 else 0)
    go true = without_less (list_of r.printed)
    go false = omega arith

none_more : (by turn : Role) (n v : ℕ) → length (prints_more by turn (refused n v)) ≤ 0
none_more by turn n v = go (same_role by (other_role turn))
  where
    go : (t : Bool) → length (if t then printed_in (refused n v) else []) ≤ 0
    go true = omega arith
    go false = omega arith

-- of a burst, by what it was answered
burst_within : (p q : Passage) (a : Answer Reply) (at : ℕ) → q.standing.turn ≡ (answered_to p.standing a).turn →
    ((by : Role) → signals_of q by ≡ signals_of p by ++ prints_more by p.standing.turn a) → Within at p → Within (at + 2) q
burst_within p q (answered r) at t e w =
    when q.standing.turn (other_role p.standing.turn) (at + 2) (length (text_of q Master)) (length (text_of q Slave)) (t ∙ turn_answered p.standing r)
    (turns p.standing.turn at (length (text_of p Master)) (length (text_of p Slave)) (length (text_of q Master)) (length (text_of q Slave))
    (omega (arith, text_less p q Master (prints_more Master p.standing.turn (answered r)) (e Master), three_more Master p.standing.turn r))
    (omega (arith, text_less p q Slave (prints_more Slave p.standing.turn (answered r)) (e Slave), three_more Slave p.standing.turn r))
    w)
burst_within p q (refused n v) at t e w =
    when q.standing.turn p.standing.turn (at + 2) (length (text_of q Master)) (length (text_of q Slave)) t
    (further p.standing.turn at 2 (length (text_of p Master)) (length (text_of p Slave)) (length (text_of q Master)) (length (text_of q Slave))
    (omega (arith, text_less p q Master (prints_more Master p.standing.turn (refused n v)) (e Master), none_more Master p.standing.turn n v))
    (omega (arith, text_less p q Slave (prints_more Slave p.standing.turn (refused n v)) (e Slave), none_more Slave p.standing.turn n v))
    w)

offer_within : (p : Passage) (r : Role) (o : Offer) (at n : ℕ) → Within at p → Within (at + n) (after_offer p r o)
offer_within p Master o at n w = further p.standing.turn at n (length (text_of p Master)) (length (text_of p Slave)) (length (text_of p Master)) (length (text_of p Slave)) (omega arith) (omega arith) w
offer_within p Slave o at n w = further p.standing.turn at n (length (text_of p Master)) (length (text_of p Slave)) (length (text_of p Master)) (length (text_of p Slave)) (omega arith) (omega arith) w

pub within_tells : (p : Passage) (e : Entry) (at : ℕ) → Within at p → Within (at + length (written e)) (tells p e)
within_tells p (Burst r d) at w =
    burst_within p (tells p (Burst r d)) (said (circuit_of p) (event_of p.standing d)) at refl (burst_prints p (event_of p.standing d)) w
within_tells p (Text r x) at w = offer_within p r (Offer.Text x) at 4 w
within_tells p (Over r) at w = offer_within p r Offer.Over at 1 w
within_tells p (End r) at w = offer_within p r Offer.End at 1 w

-- so no count is too large, at a place within a slice
counts : (t : Role) (at m s : ℕ) → at < 2 ^ 64 → WithinAt t at m s → (m + 3 < 2 ^ 64) × (s + 3 < 2 ^ 64)
counts Master at m s h w = (omega (arith, h, w.0), omega (arith, h, w.1))
counts Slave at m s h w = (omega (arith, h, w.0), omega (arith, h, w.1))

pub within_counts : (p : Passage) (at : ℕ) → Within at p → at < 2 ^ 64 → (r : Role) → length (text_of p r) + 3 < 2 ^ 64
within_counts p at w h Master = (counts p.standing.turn at (length (text_of p Master)) (length (text_of p Slave)) h w).0
within_counts p at w h Slave = (counts p.standing.turn at (length (text_of p Master)) (length (text_of p Slave)) h w).1
