-- What a step prints may be printed: of a row that accepts, the traffic signals of the block that it has heard; of any other, nothing.
-- Assumes nothing.
use mathlib.Core.Logic.{◌⊎◌, inl, inr}
use mathlib.Core.Path.{◌≡◌, refl, sym, ◌∙◌, subst}
use mathlib.Core.Bool.{Bool, true, false, and-eq-true_iff, true≢false}
use mathlib.Core.List.{List, [], ◌∷◌}
use Prim.Native.Nat.{ℕ, ◌≤◌}
use native.Mathlib.Omega.{arith}
use lib.Dec.{eqb}
use lib.ListN.{length}
use Rattle.std.specs.Prelude.{if◌then◌else◌}
use Rattle.signals.specs.Meaning.{traffic_of, beta}
use Rattle.signals.specs.Numbers.{answered, first_not}
use Rattle.signals.proofs.NumberLaws.{all_cons}
use Rattle.text.specs.Printing.{may_print}
use Rattle.identity.specs.declared.Seven.{Seven}
use Rattle.mode_a.specs.declared.Number.{Number}
use Rattle.mode_a.specs.declared.Peer.{Peer}
use Rattle.mode_a.specs.declared.Peer.TheVariants.{Known}
use Rattle.mode_a.specs.declared.Waiting.{Waiting}
use Rattle.mode_a.specs.declared.Words.{Words}
use Rattle.mode_a.specs.declared.Place.{Place}
use Rattle.mode_a.specs.declared.Place.TheVariants.{Sending, Turning, Opening, Ending, Receiving, Asking, StandBy, Lost, Calling, Calling3, Identifying, Answering}
use Rattle.mode_a.specs.declared.Offer.{Offer}
use Rattle.mode_a.specs.declared.Station.{Station}
use Rattle.mode_a.specs.declared.Doing.{Doing}
use Rattle.mode_a.specs.declared.Doing.TheVariants.{Repeats, Takes, Accepts, Listens, Reaches, Meets, Again}
use Rattle.mode_a.specs.declared.Reply.{Reply}
use Rattle.mode_a.specs.Station.{silence}
use Rattle.mode_a.specs.Heard.{Heard, may_hold, is_block, heard_of}
use Rattle.mode_a.specs.Over.{listened_all}
use Rattle.mode_a.specs.Rows.{row_of}
use Rattle.mode_a.specs.Step.{three, traffic_in, knowing, is_over, done, stepping}
use Rattle.runs.specs.Circuit.{without_zeros}
use Rattle.runs.proofs.RowLaws.{by_sending, by_turning, by_opening, by_ending, by_receiving, by_asking, by_standing, by_calling, by_calling3, by_identifying, by_answering}
use Rattle.runs.proofs.StepLaws.{answers, by_repeat, by_again, by_meet, by_take, by_accept, by_listen}
use Rattle.replay.specs.Replay.{Printable}

-- a printed word is a signal that may be printed, or 0
abbrev May : ℕ → Type 0
May w = (eqb w 0 ≡ true) ⊎ (may_print w ≡ true)

abbrev AllMay : List ℕ → Type 0
AllMay ws = length (without_zeros ws) ≤ first_not may_print (without_zeros ws)

with_zeros : (w : ℕ) (ws : List ℕ) → May w → AllMay ws → AllMay (w ∷ ws)
with_zeros w ws (inl z) a = rw z a
with_zeros w ws (inr m) a = go (eqb w 0)
  where
    go : (t : Bool) → length (if t then without_zeros ws else w ∷ without_zeros ws) ≤ first_not may_print (if t then without_zeros ws else w ∷ without_zeros ws)
    go true = a
    go false = all_cons may_print w (without_zeros ws) m a

none : AllMay []
unfolding first_not
none = omega arith

each : (w : Words) → May w.0 → May w.1 → May w.2 → Printable w
each w x y z = with_zeros w.0 (w.1 ∷ w.2 ∷ []) x (with_zeros w.1 (w.2 ∷ []) y (with_zeros w.2 [] z none))

pub nothing : Printable silence
nothing = each silence (inl refl) (inl refl) (inl refl)

-- what may stand in a block and is no β is traffic
traffic_may : (w : ℕ) → may_hold w ≡ true → eqb w beta ≡ false → May w
unfolding may_hold may_print
traffic_may w h e = go (traffic_of w) refl
  where
    go : (t : Bool) → traffic_of w ≡ t → May w
    go true i = inr (rw i)
    go false i = absurd (true≢false (sym h ∙ rw (i, e)))

block_prints : (b : Words) → is_block b ≡ true → Printable (traffic_in b)
unfolding is_block traffic_in
block_prints b h =
    let m = (and-eq-true_iff _ _).0 h in
    let n = (and-eq-true_iff _ _).0 m.1 in
    go (eqb b.0 beta) (eqb b.1 beta) (eqb b.2 beta) (traffic_may b.0 m.0) (traffic_may b.1 n.0) (traffic_may b.2 n.1)
  where
    z : May 0
    z = inl refl

    go : (t u v : Bool) → (t ≡ false → May b.0) → (u ≡ false → May b.1) → (v ≡ false → May b.2) → Printable (three (let w = if v then [] else b.2 ∷ [] in let ws = if u then w else b.1 ∷ w in if t then ws else b.0 ∷ ws))
    go true true true p q r = each _ z z z
    go true true false p q r = each _ (r refl) z z
    go true false true p q r = each _ (q refl) z z
    go true false false p q r = each _ (q refl) (r refl) z
    go false true true p q r = each _ (p refl) z z
    go false true false p q r = each _ (p refl) (r refl) z
    go false false true p q r = each _ (p refl) (q refl) z
    go false false false p q r = each _ (p refl) (q refl) (r refl)

module _ (s : Station) (b : Words) (o : Offer) where
  abbrev Prints : Reply → Type 0
  Prints r = Printable r.printed

  abbrev P : Doing → Type 0
  P d = Prints (done s b o d)

  repeated : (w : Words) → P (Repeats w)
  unfolding done
  repeated w = by_repeat Prints s w (λ t. nothing) (λ t. nothing)

  again : (p : Place) (w : Words) → P (Again p w)
  unfolding done
  again p w = by_again Prints s p w (λ t. nothing) (λ t. nothing)

  took : (n : Number) → P (Takes n)
  unfolding done
  took n = by_take Prints s n o (λ u w t. nothing) nothing

  reached : (p : Peer) (n : Number) → P (Reaches p n)
  unfolding done
  reached p n = by_take Prints (knowing s p) n o (λ u w t. nothing) nothing

  accepted : (n : Number) → is_block b ≡ true → P (Accepts n)
  unfolding done
  accepted n e =
      by_accept Prints s n b o (listened_all s.case s.plus b) (λ w u. block_prints b e) (block_prints b e)

  listened : (w : Waiting) → P (Listens w)
  unfolding done
  listened w = by_listen Prints s w o (λ i c d. nothing) (λ i c d. nothing) nothing

  met : (i : Seven) → P (Meets i)
  unfolding done
  met i = by_meet Prints (knowing s (Known i)) (is_over o) nothing nothing

  row_prints : (p : Place) (h : Heard) → (h.block ≡ true → is_block b ≡ true) → P (row_of s.own s.role p h)
  unfolding done
  row_prints (Sending x) h k = by_sending P x h.first (λ e. repeated _) (λ e. took _) (λ e. nothing) (λ e. repeated _)
  row_prints (Turning n) h k = by_turning P s.role n h nothing (repeated _) (repeated _)
  row_prints Opening h k = by_opening P s.role h.first took nothing (repeated _)
  row_prints (Ending x) h k = by_ending P x h.first nothing (λ e. nothing)
  row_prints (Receiving n) h k = by_receiving P n h (λ e. accepted n (k e)) (λ e. nothing) (λ e. repeated _)
  row_prints Asking h k = by_asking P h nothing (repeated _)
  row_prints (StandBy w) h k = by_standing P w h.call h.call3 (λ e. nothing) (λ e f. nothing) (λ e f. listened _)
  row_prints Lost h k = nothing
  row_prints (Calling c) h k = by_calling P c h.first (λ n e f. reached _ n) nothing (λ e. nothing)
  row_prints (Calling3 c) h k = by_calling3 P s.own.seven c h.first (λ e. nothing) (λ e. nothing) nothing (λ e. nothing)
  row_prints (Identifying i) h k =
      by_identifying P s.own.seven i h.first (λ e. again _ _) (λ e f. nothing) (λ w e f g l. again _ _) (λ w e f g. nothing) (λ e f. nothing) (λ e f. reached _ _) (λ e f. nothing)
  row_prints (Answering g) h k = by_answering P s.own.seven g h nothing (λ e. met _) (λ e x w. nothing) (λ x w. again _ _)

  pub step_prints : (r : Reply) → stepping s b o ≡ answered r → Printable r.printed
  unfolding heard_of
  step_prints r e =
      subst (λ (r : Reply). Prints r) (sym (answers s b o r e).is_done) (row_prints s.place (heard_of s.own b) (λ k. k))
