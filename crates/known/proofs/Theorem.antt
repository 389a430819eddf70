-- What a call of three blocks leaves, who is then known, and that nothing of it is printed.
--     phase_run            every run from the call: in it, or left by the caller, or neither goes on with it
--     placing_leaves3      and it begins with the step that places the call
--     leaves_completed3, known_to_both, nothing_printed
-- Assumes nothing.
use mathlib.Core.Path.{◌≡◌, refl, ap, sym, subst, ◌∙◌}
use mathlib.Core.Bool.{Bool, true, false, or-true, true≢false}
use mathlib.Core.Logic.{◌⊎◌, inl, inr}
use Rattle.signals.specs.Numbers.{Answer, answered, refused}
use Rattle.identity.specs.declared.Seven.{Seven}
use Rattle.identity.specs.Sums.{is_callable7}
use Rattle.mode_a.specs.declared.Number.TheVariants.{Two}
use Rattle.mode_a.specs.declared.Mark.{Mark}
use Rattle.mode_a.specs.declared.Waiting.{Waiting}
use Rattle.mode_a.specs.declared.Words.{Words}
use Rattle.mode_a.specs.declared.Place.{Place}
use Rattle.mode_a.specs.declared.Place.TheVariants.{Sending, Turning, Opening, Ending, Receiving, Asking, StandBy, Lost, Calling, Calling3, Identifying, Answering}
use Rattle.mode_a.specs.declared.Offer.{Offer}
use Rattle.mode_a.specs.declared.Station.{Station}
use Rattle.mode_a.specs.declared.Reply.{Reply}
use Rattle.mode_a.specs.Station.{silence, marks, resting}
use Rattle.mode_a.specs.Heard.{call_of, call3_of}
use Rattle.mode_a.specs.Rows.{both_heard, all_heard}
use Rattle.mode_a.specs.Step.{called3}
use Rattle.runs.specs.Places.{is_calling3, is_identifying}
use Rattle.runs.specs.Runs.{start, ◌▷◌, InOrder}
use Rattle.runs.proofs.PlaceLaws.{is_standby}
use Rattle.runs.proofs.StepLaws.{Answers as Answered, answers, by_listen, standby_answers, standby_answers3, standby_listens}
use Rattle.runs.specs.Circuit.{Event, heard, Harmless, Run, nothing_yet, Circuit, said, places_call, answered_by, goes_on, next, after, AllHarmless, NoCallPlaced}
use Rattle.circuit.specs.Starts.{Call3Placed, Begins, with_block_lem, with_end, CallCompleted, CallTurned}
use Rattle.known.specs.Known.{PlacingLeaves3, KnownToBoth, to_traffic, LeavesCompleted3, identifies, NothingPrinted}
use Rattle.known.proofs.BlockLaws.{first, Late, SameSo}
use Rattle.known.proofs.Phases.{Telling, calls, CallerAt, at_calling_lem, at_telling, call_block, met_at, Callee, standing, answering, meeting, lost, NothingCarried, InCall, hears_caller, hears_callee}
use Rattle.known.proofs.CalleeLaws.{callee_hears}
use Rattle.known.proofs.CallerLaws.{Result, goes_on_lem, stops, completes, caller_hears}
use Rattle.known.proofs.LeftLaws.{is_apart, Apart, single_late, ααα-late, βαβ-late, block_late, apart_next, stands, answers_on, Left, hears_nobody, hears_waiting, left_next}

data Phase (i y : Seven) (c : Circuit) : Type 0 where
  in_call : InCall i y c → Phase i y c
  left : Left c → Phase i y c
  apart : Apart c → Phase i y c

either : {i y : Seven} {c : Circuit} → Left c ⊎ Apart c → Phase i y c
either (inl x) = left x
either (inr x) = apart x

-- the caller is at Stand-by: the other waits for it, or has gone on to traffic
stopped : {i y : Seven} {u : Telling} {w : Words} (d : Circuit) → Callee i y d.hearer u w → (n : _) → d.sender.place ≡ resting n → d.burst ≡ silence → NothingCarried d → Phase i y d
stopped d (standing x p t l) n q j k = left (hears_nobody (stands x p) (n, q) j k)
stopped d (answering t v s o p) n q j k = left (hears_nobody (answers_on _ p) (n, q) j k)
stopped d (meeting t o p v m) n q j k =
    apart (record { hearer_apart = ap is_apart p ∙ met t; sender_apart = ap is_apart q; burst_late = subst Late (sym j) (single_late 0) })
  where
    met : (t : Bool) → is_apart (met_at t) ≡ true
    met true = refl
    met false = refl
stopped d (lost p) n q j k =
    apart (record { hearer_apart = ap is_apart p; sender_apart = ap is_apart q; burst_late = subst Late (sym j) (single_late 0) })

-- identification is over
completed : {d : Circuit} → CallCompleted d ⊎ CallTurned d → Apart d
completed (inl x) = begun x.begins x.hearer_place
  where
    begun : {d : Circuit} → Begins d → d.hearer.place ≡ met_at false → Apart d
    begun (with_block_lem g p j f) q = record { hearer_apart = ap is_apart q; sender_apart = ap is_apart p; burst_late = subst Late (sym j) (block_late _ g) }
    begun (with_end p j f) q = record { hearer_apart = ap is_apart q; sender_apart = ap is_apart p; burst_late = subst Late (sym j) ααα-late }
completed (inr x) =
    record { hearer_apart = ap is_apart x.hearer_place; sender_apart = ap is_apart x.sender_place; burst_late = subst Late (sym x.burst_is) βαβ-late }

phase_next : (i y : Seven) → is_callable7 i ≡ true → is_callable7 y ≡ true → (c : Circuit) (e : Event) → Harmless e → places_call c e ≡ false → Phase i y c → Phase i y (next c e)
phase_next i y ci cy c e h q (left x) = either (left_next c e h q x)
phase_next i y ci cy c e h q (apart x) = apart (apart_next c e h q x)
phase_next i y ci cy c e h q (in_call x) = go (said c e) refl x
  where
    after_caller : {u : Telling} {r : Reply} (k : said c e ≡ answered r) (n : NothingCarried c) → Callee i y c.sender u c.burst → Result i y c e h r k n → Phase i y (answered_by c e.offer (heard e c.burst) r)
    after_caller k n o (goes_on_lem u x a f g) = in_call (hears_caller u x a f g)
    after_caller k n o (stops m p j g) = stopped _ o m p j g
    after_caller k n o (completes x f g) = apart (completed x)

    go : (a : Answer Reply) → said c e ≡ a → InCall i y c → Phase i y (goes_on c e a)
    go (answered r) k (hears_caller u o a f n) = in_call (callee_hears i y ci cy c e h r k n q u o a f)
    go (answered r) k (hears_callee u a o n) = after_caller k n o (caller_hears i y c e h r k n a o)
    go (refused m v) k x = in_call x

-- Every run from a call that was placed.
calls_of : (i : Seven) (c : Circuit) (y : Call3Placed i c) → InCall i y.caller.own.seven c
calls_of i c y =
    hears_caller calls (standing y.waits y.hearer_at (ap (λ (m : Mark). marks m Two) y.none_heard) (subst (SameSo i c.hearer.own.seven) (sym y.none_heard3) tt)) (rw y.sender_is (record { at = at_calling_lem 1 refl; role_is = refl; case_is = refl; plus_is = refl; owed_is = refl; own_is = refl })) (rw y.burst_is (call_block first)) (record { from_hearer_is = y.none_from_hearer; from_sender_is = y.none_from_sender })

phase_run : (i : Seven) (c : Circuit) (y : Call3Placed i c) (run : Run) → AllHarmless run → NoCallPlaced c run → Phase i y.caller.own.seven (after c run)
unfolding after AllHarmless NoCallPlaced
phase_run i c y start a n = in_call (calls_of i c y)
phase_run i c y (run ▷ e) a n =
    phase_next i y.caller.own.seven y.called_letters y.caller_letters (after c run) e a.1 n.1 (phase_run i c y run a.0 n.0)

-- who is where
apart_not : (p : Place) → is_apart p ≡ true → identifies p ≡ false
apart_not (Sending h) e = refl
apart_not (Turning n) e = refl
apart_not Opening e = refl
apart_not (Ending x) e = refl
apart_not (Receiving n) e = refl
apart_not Asking e = refl
apart_not (StandBy w) e = refl
apart_not Lost e = refl
apart_not (Calling c) e = absurd (true≢false (sym e))
apart_not (Calling3 c) e = absurd (true≢false (sym e))
apart_not (Identifying x) e = absurd (true≢false (sym e))
apart_not (Answering g) e = absurd (true≢false (sym e))

identifying_not : (p : Place) → identifies p ≡ false → is_identifying p ≡ true → ⊥
identifying_not p e i = true≢false (sym (rw i (or-true (is_calling3 p))) ∙ e)

callee_not : {i y : Seven} {u : Telling} {w : Words} (s : Station) → Callee i y s u w → (is_identifying s.place ≡ false) × (to_traffic s.place ≡ false)
callee_not s (standing x p t l) = (ap is_identifying p, ap to_traffic p)
callee_not s (answering t v f o p) = (ap is_identifying p, ap to_traffic p)
callee_not s (meeting true o p v m) = (ap is_identifying p, ap to_traffic p)
callee_not s (meeting false o p v m) = (ap is_identifying p, ap to_traffic p)
callee_not s (lost p) = (ap is_identifying p, ap to_traffic p)

caller_not : {i : Seven} {u : Telling} (p : Place) → CallerAt i p u → to_traffic p ≡ false
caller_not p (at_calling_lem n j) = ap to_traffic j
caller_not p (at_telling s k l j) = ap to_traffic j

-- so what the caller leaves for traffic is what a completed call leaves
abbrev Leaves : Seven → Circuit → Type 0
Leaves i d = (CallCompleted d ⊎ CallTurned d) × KnownToBoth d × (i ≡ d.hearer.own.seven)

leaves_by : (i y : Seven) (c : Circuit) (e : Event) → Harmless e → Phase i y c → is_identifying c.hearer.place ≡ true → to_traffic (next c e).sender.place ≡ true → Leaves i (next c e)
leaves_by i y c e h (apart x) p q = absurd (identifying_not c.hearer.place (apart_not c.hearer.place x.hearer_apart) p)
leaves_by i y c e h (left (hears_nobody (stands x j) s g n)) p q = absurd (true≢false (sym p ∙ ap is_identifying j))
leaves_by i y c e h (left (hears_nobody (answers_on x j) s g n)) p q = absurd (true≢false (sym p ∙ ap is_identifying j))
leaves_by i y c e h (left (hears_waiting x v s j g n)) p q = absurd (true≢false (sym p ∙ ap is_identifying s.1))
leaves_by i y c e h (in_call (hears_caller u o a f n)) p q = absurd (true≢false (sym p ∙ (callee_not c.hearer o).0))
leaves_by i y c e h (in_call (hears_callee u a o n)) p q = go (said c e) refl q
  where
    so : {r : Reply} (k : said c e ≡ answered r) → Result i y c e h r k n → to_traffic r.station.place ≡ true → Leaves i (answered_by c e.offer (heard e c.burst) r)
    so k (goes_on_lem v x b f g) q = absurd (true≢false (sym q ∙ caller_not _ b.at))
    so k (stops m j f g) q = absurd (true≢false (sym q ∙ ap to_traffic j))
    so k (completes x f g) q = (x, f, g)

    go : (x : Answer Reply) → said c e ≡ x → to_traffic (goes_on c e x).sender.place ≡ true → Leaves i (goes_on c e x)
    go (answered r) k q = so k (caller_hears i y c e h r k n a o) q
    go (refused m v) k q = absurd (true≢false (sym q ∙ (callee_not c.sender o).1))

pub leaves_completed3 : LeavesCompleted3
leaves_completed3 i c y run a n e h p q = leaves_by i y.caller.own.seven (after c run) e h (phase_run i c y run a n) p q

-- each side's kept identity is then the other's own
pub known_to_both : (i : Seven) (c : Circuit) → Call3Placed i c → (run : Run) → AllHarmless run → NoCallPlaced c run → (e : Event) → Harmless e →
    is_identifying (after c run).hearer.place ≡ true → to_traffic (next (after c run) e).sender.place ≡ true → KnownToBoth (next (after c run) e)
known_to_both i c y run a n e h p q = (leaves_completed3 i c y run a n e h p q).1

-- nothing is printed before
pub nothing_printed : NothingPrinted
nothing_printed i c y run a n p = go (phase_run i c y run a n)
  where
    carried : {d : Circuit} → NothingCarried d → (d.from_hearer ≡ nothing_yet) × (d.from_sender ≡ nothing_yet)
    carried n = (n.from_hearer_is, n.from_sender_is)

    go : Phase i y.caller.own.seven (after c run) → ((after c run).from_hearer ≡ nothing_yet) × ((after c run).from_sender ≡ nothing_yet)
    go (in_call (hears_caller u o b f n)) = carried n
    go (in_call (hears_callee u b o n)) = carried n
    go (left (hears_nobody w s j n)) = carried n
    go (left (hears_waiting g v s j f n)) = carried n
    go (apart x) = absurd (true≢false (sym p ∙ rw (apart_not _ x.hearer_apart, apart_not _ x.sender_apart)))

-- The step that places the call leaves what such a run begins with.
placed_by : (i : Seven) (s : Station) (b : Words) (o : Offer) (r : Reply) (w : Waiting) → s.place ≡ StandBy w → o ≡ Offer.Call3 i → Answered s b o r → r.taken ≡ true → r ≡ called3 s i
placed_by i s b o r w p j y t =
    go (both_heard w.heard (call_of s.own.four b)) (all_heard w.heard3 (call3_of s.own.seven b)) refl refl
  where
    not_taken : (x : Reply) → x.taken ≡ false → r ≡ x → r ≡ called3 s i
    not_taken x f g = absurd (true≢false (sym t ∙ ap (λ (r : Reply). r.taken) g ∙ f))

    go : (u v : Bool) → both_heard w.heard (call_of s.own.four b) ≡ u → all_heard w.heard3 (call3_of s.own.seven b) ≡ v → r ≡ called3 s i
    go true v e f = not_taken _ refl (standby_answers s b o r y w p e)
    go false true e f = not_taken _ refl (standby_answers3 s b o r y w p e f)
    go false false e f =
        by_listen (λ (x : Reply). r ≡ x → r ≡ called3 s i) s _ o (λ k g z x. cc) (λ k g z x. let m : k ≡ i = cc in x ∙ ap (called3 s) m) (λ x. not_taken _ refl x) (standby_listens s b o r y w p e f)

pub placing_leaves3 : PlacingLeaves3
placing_leaves3 i c e r w h s m v k f g j is t =
    subst (Call3Placed i) (sym (ap (goes_on c e) is)) (let x = is_standby c.hearer.place h in by_place x.0 x.1)
  where
    by_place : (x : Waiting) → c.hearer.place ≡ StandBy x → Call3Placed i (answered_by c e.offer (heard e c.burst) r)
    by_place x p =
        let y = answers c.hearer (heard e c.burst) e.offer r is in
        let z = placed_by i c.hearer (heard e c.burst) e.offer r x p j y t in
        let l = subst (InOrder c.hearer.own) j y.is_fine in
        record {
          caller = c.hearer;
          sender_is = ap (λ (r : Reply). r.station) z;
          burst_is = ap (λ (r : Reply). r.sent) z;
          called_letters = l.0;
          caller_letters = l.1;
          waits = w;
          hearer_at = s;
          none_heard = m;
          none_heard3 = v;
          hearer_sound = k;
          none_from_hearer = rw (g, p, z);
          none_from_sender = rw (f, p);
        }
