-- What an entry leads to: the state and the printed signals that the definition of a passage has. Assumes nothing.
use mathlib.Core.Path.{◌≡◌, refl, ap, sym, subst, ◌∙◌}
use mathlib.Core.Bool.{Bool, true, false, true≢false}
use mathlib.Core.List.{List, [], ◌++◌, append-nil}
use Prim.Native.Nat.{ℕ}
use Rattle.std.specs.Prelude.{if◌then◌else◌, Result, Ok, Err}
use Rattle.signals.specs.Numbers.{Answer, answered, refused}
use Rattle.mode_a.specs.declared.Role.{Role}
use Rattle.mode_a.specs.declared.Role.TheVariants.{Master, Slave}
use Rattle.mode_a.specs.declared.Offer.{Offer}
use Rattle.mode_a.specs.declared.Reply.{Reply}
use Rattle.mode_a.specs.declared.Refused.{Refused}
use Rattle.mode_a.specs.declared.Refusal.{Refusal}
use Rattle.mode_a.specs.Station.{silence}
use Rattle.mode_a.specs.Step.{stepping, said_refusal, said_stepped, Steps}
use Rattle.runs.specs.Runs.{is_answered}
use Rattle.runs.specs.Circuit.{heard, printed_by, said, after}
use Rattle.entries.specs.declared.Entry.{Entry}
use Rattle.entries.specs.declared.Entry.TheVariants.{Burst, Text, Over, End}
use Rattle.entries.specs.Entries.{other_role, same_role}
use Rattle.entries.specs.Passage.{Passage, circuit_of, offer_to, hearing, event_with, event_of, after_burst, after_offer, tells}
use Rattle.telling.specs.declared.Told.{Told}
use Rattle.telling.specs.Telling.{told_by}
use Rattle.telling.proofs.TurnLaws.{same_turn, other_turn}
use Rattle.replay.specs.declared.State.{State}
use Rattle.replay.specs.declared.Gone.{Gone}
use Rattle.replay.specs.Replay.{state_of, gone_by, offered_to, GoesTo, Goes}
use Rattle.replay.proofs.PrintLaws.{nothing, step_prints}

-- nothing is printed
no_more : (t : Bool) (l : List ℕ) → l ≡ l ++ (if t then [] else [])
no_more true l = sym (append-nil l)
no_more false l = sym (append-nil l)

offers_so : (s : State) (r : Role) (o : Offer) → Goes s (λ p. after_offer p r o) (offered_to s r o)
offers_so s r o p i =
    record {
      state_is = rw i;
      prints = λ by. rw (same_turn p.standing r o) (no_more (same_role by r) _);
      printable = nothing;
    }

-- what the station that heard has printed is told in the direction from the other, which hears next
prints_so : (by t : Role) (y x new : List ℕ) → (if same_role by (other_role t) then x ++ new else y) ≡ (if same_role by t then y else x) ++ (if same_role by (other_role t) then new else [])
prints_so Master Master y x new = sym (append-nil y)
prints_so Master Slave y x new = refl
prints_so Slave Master y x new = refl
prints_so Slave Slave y x new = sym (append-nil y)

module _ (s : State) (d : ℕ) (r : Role) (r_is : r ≡ hearing s.standing) (y : Result Reply Refused) (steps : Steps s.hearer (heard (event_with d (offer_to s.standing r)) s.burst) (offer_to s.standing r) y) where
  -- of any passage that has this state
  said_is : (p : Passage) → s ≡ state_of p → said (circuit_of p) (event_of p.standing d) ≡ said_stepped y
  said_is p i =
      sym
      (steps.0
      ∙ ap (λ (x : Role). stepping s.hearer (heard (event_with d (offer_to s.standing x)) s.burst) (offer_to s.standing x)) r_is
      ∙ ap (λ (x : State). stepping x.hearer (heard (event_of x.standing d) x.burst) (offer_to x.standing (hearing x.standing))) i)

  pub answers_so : (x : Reply) → y ≡ Ok x → Goes s (λ p. after_burst p (event_of p.standing d)) (gone_by s r x)
  unfolding after
  answers_so x j p i =
      let q : said (circuit_of p) (event_of p.standing d) ≡ answered x = said_is p i ∙ ap said_stepped j in
      let k : r ≡ hearing p.standing = r_is ∙ ap (λ (x : State). hearing x.standing) i in
      record {
        state_is = rw (q, i);
        prints = λ by. rw (q, k, other_turn p.standing x) (prints_so by p.standing.turn (circuit_of p).from_hearer.printed (circuit_of p).from_sender.printed (printed_by x));
        printable = step_prints (circuit_of p).hearer (heard (event_of p.standing d) (circuit_of p).burst) (offer_to p.standing (hearing p.standing)) x q;
      }

  -- a refusal is no step of the circuit
  pub refuses_so : (e : Refused) → y ≡ Err e → Goes s (λ p. after_burst p (event_of p.standing d)) (record { state = s; by = r; printed = silence })
  unfolding after
  refuses_so e j p i = go (said_stepped y) (said_is p i) (ap (λ (y : Result Reply Refused). is_answered (said_stepped y)) j ∙ refusal e.why)
    where
      refusal : (w : Refusal) → is_answered (said_refusal {A = Reply} w) ≡ false
      refusal Refusal.BadStation = refl
      refusal Refusal.BadCode = refl
      refusal (Refusal.BadWord n) = refl
      refusal (Refusal.BadCall n) = refl

      go : (a : Answer Reply) → said (circuit_of p) (event_of p.standing d) ≡ a → is_answered a ≡ false → GoesTo p (after_burst p (event_of p.standing d)) (record { state = s; by = r; printed = silence })
      go (answered x) q e = absurd (true≢false e)
      go (refused n v) q e = record { state_is = rw q i; prints = λ by. rw q (no_more (same_role by r) _); printable = nothing }

-- what an entry says is what it leads to
told_to : Passage → Told → Passage
told_to p (Told.Burst d) = after_burst p (event_of p.standing d)
told_to p (Told.Offer r o) = after_offer p r o

module _ (s : State) (e : Entry) (t : Told) (t_is : t ≡ told_by e) (g : Gone) where
  goes_so : (x : Told) → t ≡ x → Goes s (λ p. told_to p x) g → Goes s (λ p. tells p e) g
  unfolding told_to
  goes_so x j h p k = subst (λ (q : Passage). GoesTo p q g) (ap (told_to p) (sym j ∙ t_is) ∙ is e) (h p k)
    where
      is : (e : Entry) → told_to p (told_by e) ≡ tells p e
      is (Burst r d) = refl
      is (Text r w) = refl
      is (Over r) = refl
      is (End r) = refl

  pub offer_goes : (r : Role) (o : Offer) → t ≡ Told.Offer r o → g ≡ offered_to s r o → Goes s (λ p. tells p e) g
  unfolding told_to
  offer_goes r o j i = goes_so (Told.Offer r o) j (rw i (offers_so s r o))
