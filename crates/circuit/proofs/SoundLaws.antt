-- The stations of a run are sound: their counts are at most 31, an Ending total 1 to 4, what is held is a block, and what is owed of an
-- answer is a block that it has; and their codes pass. So a step is refused only for its offer. Assumes nothing.
use mathlib.Core.Path.{◌≡◌, refl, ap, ◌∙◌}
use mathlib.Core.Bool.{true, ◌&&◌, and-eq-true_iff}
use Prim.Native.Nat.{◌+◌}
use native.Mathlib.Omega.{arith}
use lib.Dec.{leb}
use borrow.Author.Tests.{leb-false, le-leb}
use Rattle.signals.specs.Numbers.{Answer, answered, refused}
use Rattle.mode_a.specs.declared.Role.{Role}
use Rattle.mode_a.specs.declared.Number.{Number}
use Rattle.mode_a.specs.declared.Own.{Own}
use Rattle.mode_a.specs.declared.Peer.TheVariants.{Known}
use Rattle.mode_a.specs.declared.Words.{Words}
use Rattle.mode_a.specs.declared.Place.{Place}
use Rattle.mode_a.specs.declared.Place.TheVariants.{Sending, Turning, Opening, Ending, Receiving, Asking, StandBy, Lost, Calling, Calling3, Identifying, Answering}
use Rattle.mode_a.specs.declared.Offer.{Offer}
use Rattle.mode_a.specs.declared.Station.{Station}
use Rattle.mode_a.specs.declared.Listening.{Listening}
use Rattle.mode_a.specs.declared.Doing.{Doing}
use Rattle.mode_a.specs.declared.Doing.TheVariants.{Repeats, Goes, Takes, Receives, Opens, Accepts, Rests, Answers, Listens, Reaches, Answers3, Bars, Ends, Turns, Meets, Again, Yields}
use Rattle.mode_a.specs.declared.Reply.{Reply}
use Rattle.mode_a.specs.Heard.{Heard, heard_of}
use Rattle.mode_a.specs.Over.{listened_all}
use Rattle.mode_a.specs.Rows.{row_of}
use Rattle.mode_a.specs.Answerback.{passes, owed_exists}
use Rattle.mode_a.specs.Step.{knowing, takes, repeats, is_over, accepts_heard, done, sound_place, sound}
use Rattle.runs.specs.Runs.{start, ◌▷◌, is_answered, InOrder}
use Rattle.runs.proofs.RowLaws.{by_sending, by_turning, by_opening, by_ending, by_receiving, by_asking, by_standing, by_calling, by_calling3, by_identifying, by_answering}
use Rattle.runs.proofs.OwedLaws.{exists_kept}
use Rattle.runs.proofs.StepLaws.{answers, is_answered_lem, own_stays, held_block, by_repeat, by_take_block, by_accept, by_listen, by_again, by_meet}
use Rattle.runs.specs.Circuit.{Event, heard, Run, Circuit, said, goes_on, next, after}
use Rattle.circuit.specs.Starts.{Begins, with_block_lem, with_end, Starts, both_fresh, placed, completed, placed3, turned, CodesPass}
use Rattle.circuit.proofs.ReplyLaws.{Fine}

-- what a row may do at a sound place
abbrev Fits : Doing → Type 0
Fits (Repeats w) = Unit {0}
Fits (Goes p w) = sound_place p ≡ true
Fits (Takes n) = Unit {0}
Fits (Receives n) = Unit {0}
Fits Opens = Unit {0}
Fits (Accepts n) = Unit {0}
Fits (Rests n w) = Unit {0}
Fits Answers = Unit {0}
Fits (Listens w) = Unit {0}
Fits (Reaches p n) = Unit {0}
Fits Answers3 = Unit {0}
Fits (Bars i) = Unit {0}
Fits (Ends i) = Unit {0}
Fits (Turns i) = Unit {0}
Fits (Meets i) = Unit {0}
Fits (Again p w) = sound_place p ≡ true
Fits (Yields n) = Unit {0}

row_fits : (own : Own) (r : Role) (x : Place) (h : Heard) → sound_place x ≡ true → Fits (row_of own r x h)
row_fits own r (Sending b) h s = by_sending Fits b h.first (λ c. tt) (λ c. tt) (λ c. tt) (λ c. tt)
row_fits own r (Turning n) h s = by_turning Fits r n h tt tt tt
row_fits own r Opening h s = by_opening Fits r h.first (λ n. tt) tt tt
row_fits own r (Ending e) h s =
    by_ending Fits e h.first tt (λ i. let l = leb-false 4 e.total i in rw (le-leb 1 (e.total + 1) (omega arith), le-leb (e.total + 1) 4 (omega arith)))
row_fits own r (Receiving n) h s = by_receiving Fits n h (λ c. tt) (λ c. tt) (λ c. tt)
row_fits own r Asking h s = by_asking Fits h tt tt
row_fits own r (StandBy w) h s = by_standing Fits w h.call h.call3 (λ c. tt) (λ c d. tt) (λ c d. tt)
row_fits own r Lost h s = refl
row_fits own r (Calling c) h s = by_calling Fits c h.first (λ n e i. tt) tt (λ i. refl)
row_fits own r (Calling3 c) h s = by_calling3 Fits own.seven c h.first (λ e. refl) (λ e. tt) tt (λ e. refl)
row_fits own r (Identifying i) h s =
    by_identifying Fits own.seven i h.first (λ w. refl) (λ w l. refl) (λ v e w l k. refl) (λ v e w l. refl) (λ w l. tt) (λ e l. tt) (λ e l. tt)
row_fits own r (Answering g) h s = by_answering Fits own.seven g h tt (λ l. tt) (λ l g' w. refl) (λ g' w. refl)

-- what the station then is: its count and its place
Sound : Reply → Type 0
Sound r = leb r.station.count 31 && sound_place r.station.place ≡ true

takes_fit : (s : Station) (n : Number) (o : Offer) → Fine s o → Sound (takes s n o)
unfolding Sound
takes_fit s n o (k, i) = by_take_block Sound s n s.own o k i (λ u w t y. held_block w ∙ y) refl

accepts_fit : (s : Station) (n : Number) (b : Words) (o : Offer) (l : Listening) → Sound (accepts_heard s n b o l)
unfolding Sound
accepts_fit s n b o l = by_accept Sound s n b o l (λ w u. refl) refl

repeats_fit : (s : Station) (w : Words) → sound_place s.place ≡ true → Sound (repeats s w)
unfolding Sound
repeats_fit s w i =
    by_repeat Sound s w (λ e. refl) (λ e. let h = leb-false 31 s.count e in rw (le-leb (s.count + 1) 31 (omega arith)) i)

done_fits : (s : Station) (b : Words) (o : Offer) (d : Doing) → sound_place s.place ≡ true → Fine s o → Fits d →
    Sound (done s b o d)
unfolding done Sound
done_fits s b o (Repeats w) i y f = repeats_fit s w i
done_fits s b o (Goes p w) i y f = f
done_fits s b o (Takes n) i y f = takes_fit s n o y
done_fits s b o (Receives n) i y f = refl
done_fits s b o Opens i y f = refl
done_fits s b o (Accepts n) i y f = accepts_fit s n b o (listened_all s.case s.plus b)
done_fits s b o (Rests n w) i y f = refl
done_fits s b o Answers i y f = refl
done_fits s b o (Listens w) i y f = by_listen Sound s w o (λ x e z. refl) (λ x e z. refl) refl
done_fits s b o (Reaches p n) i y f = takes_fit (knowing s p) n o y
done_fits s b o Answers3 i y f = refl
done_fits s b o (Bars x) i y f = refl
done_fits s b o (Ends x) i y f = refl
done_fits s b o (Turns x) i y f = refl
done_fits s b o (Meets x) i y f = by_meet Sound (knowing s (Known x)) (is_over o) refl refl
done_fits s b o (Again p w) i y f =
    by_again Sound s p w (λ e. refl) (λ e. let h = leb-false 31 s.count e in rw (le-leb (s.count + 1) 31 (omega arith)) f)
done_fits s b o (Yields n) i y f = refl

-- with what is owed, and the code
pub record IsSound (s : Station) : Type 0 where
  pub sound_is : sound s ≡ true
  pub passes_is : passes s.own.code ≡ true

all_sound : (s : Station) → leb s.count 31 && sound_place s.place ≡ true → owed_exists s.own.code s.owed ≡ true → sound s ≡ true
unfolding sound
all_sound s i j = let x = (and-eq-true_iff (leb s.count 31) (sound_place s.place)).0 i in rw (x.0, x.1, j)

-- every run
pub record BothSound (c : Circuit) : Type 0 where
  pub hearer_sound : IsSound c.hearer
  pub sender_sound : IsSound c.sender

sound_next : (c : Circuit) (e : Event) → BothSound c → BothSound (next c e)
unfolding Sound
sound_next c e s = go (said c e) refl
  where
    go : (a : Answer Reply) → said c e ≡ a → BothSound (goes_on c e a)
    go (answered r) i =
        let y = answers c.hearer (heard e c.burst) e.offer r i in
        record {
          hearer_sound = s.sender_sound;
          sender_sound = record {
            sound_is = all_sound r.station (rw y.is_done (done_fits c.hearer (heard e c.burst) e.offer _ y.is_sound (y.is_passed, y.is_fine) (row_fits c.hearer.own c.hearer.role c.hearer.place (heard_of c.hearer.own (heard e c.burst)) y.is_sound))) (exists_kept c.hearer (heard e c.burst) e.offer r i);
            passes_is = ap (λ (o : Own). passes o.code) (own_stays c.hearer (heard e c.burst) e.offer r i) ∙ y.is_passed;
          };
        }
    go (refused n v) i = s

-- of every start, and so of every run
sound_start : (c : Circuit) → Starts c → (sound c.hearer ≡ true) × (sound c.sender ≡ true)
unfolding sound owed_exists
sound_start c (both_fresh k j) = (refl, refl)
sound_start c (placed y) = (y.hearer_sound, rw y.sender_is)
sound_start c (completed y) = (rw (y.hearer_place, y.hearer_count, y.hearer_owed), go y.begins)
  where
    go : Begins c → leb c.sender.count 31 && (sound_place c.sender.place && owed_exists c.sender.own.code c.sender.owed) ≡ true
    go (with_block_lem {b = b} i p q d) = rw (y.sender_count, p, y.sender_owed, held_block b, i)
    go (with_end p q d) = rw (y.sender_count, p, y.sender_owed)
sound_start c (placed3 y) = (y.hearer_sound, rw y.sender_is)
sound_start c (turned y) =
    (rw (y.hearer_place, y.hearer_count, y.hearer_owed), rw (y.sender_count, y.sender_place, y.sender_owed))

pub sound_run : (c : Circuit) → Starts c → CodesPass c → (run : Run) → BothSound (after c run)
unfolding after
sound_run c y k start =
    let z = sound_start c y in
    record { hearer_sound = record { sound_is = z.0; passes_is = k.hearer_passes }; sender_sound = record { sound_is = z.1; passes_is = k.sender_passes } }
sound_run c y k (run ▷ e) = sound_next (after c run) e (sound_run c y k run)

-- so a step is refused only for its offer
pub answered_if : (c : Circuit) → BothSound c → (e : Event) → InOrder c.hearer.own e.offer → is_answered (said c e) ≡ true
answered_if c s e i = ap is_answered (is_answered_lem c.hearer (heard e c.burst) e.offer s.hearer_sound.sound_is s.hearer_sound.passes_is i)
