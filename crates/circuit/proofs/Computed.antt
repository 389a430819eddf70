-- How antt computes a run: each circuit is worked out before the next step, so that no step is computed twice.
--     computed   the circuit after a list of events is what `through` computes
-- Assumes nothing.
use mathlib.Core.Path.{◌≡◌, refl, sym, ◌∙◌}
use mathlib.Core.Bool.{Bool, true, false}
use mathlib.Core.List.{List, [], ◌∷◌}
use Prim.Native.Nat.{ℕ, zero, suc}
use Rattle.signals.specs.declared.Case.{Case}
use Rattle.signals.specs.declared.Case.TheVariants.{Letters, Figures}
use Rattle.mode_a.specs.declared.Role.{Role}
use Rattle.mode_a.specs.declared.Role.TheVariants.{Master, Slave}
use Rattle.mode_a.specs.declared.Number.{Number}
use Rattle.mode_a.specs.declared.Number.TheVariants.{One, Two}
use Rattle.mode_a.specs.declared.Words.{Words}
use Rattle.mode_a.specs.declared.Mark.{Mark}
use Rattle.mode_a.specs.declared.Succession.{Succession}
use Rattle.mode_a.specs.declared.Stage.{Stage}
use Rattle.mode_a.specs.declared.Identity.{Identity}
use Rattle.identity.specs.declared.Seven.{Seven}
use Rattle.mode_a.specs.declared.Own.{Own}
use Rattle.mode_a.specs.declared.Owed.{Owed}
use Rattle.mode_a.specs.declared.Peer.{Peer}
use Rattle.mode_a.specs.declared.Peer.TheVariants.{Nobody, Four, Known, Barred}
use Rattle.mode_a.specs.declared.Place.{Place}
use Rattle.mode_a.specs.declared.Place.TheVariants.{Sending, Turning, Opening, Ending, Receiving, Asking, StandBy, Lost, Calling, Calling3, Identifying, Answering}
use Rattle.mode_a.specs.declared.Station.{Station}
use Rattle.mode_a.specs.Station.{words}
use Rattle.runs.specs.Runs.{◌▷◌}
use Rattle.runs.specs.Circuit.{Event, Run, Direction, Circuit, next, after}

-- a value worked out, and handed on
abbrev number : ℕ → (ℕ → Circuit) → Circuit
number zero k = k zero
number (suc n) k = k (suc n)

number_is : (n : ℕ) (k : ℕ → Circuit) → number n k ≡ k n
number_is zero k = refl
number_is (suc n) k = refl

abbrev block : Words → (Words → Circuit) → Circuit
block w k = number w.0 (λ x. number w.1 (λ y. number w.2 (λ z. k (words x y z))))

block_is : (w : Words) (k : Words → Circuit) → block w k ≡ k w
block_is w k =
    number_is w.0 (λ x. number w.1 (λ y. number w.2 (λ z. k (words x y z)))) ∙ number_is w.1 (λ y. number w.2 (λ z. k (words w.0 y z))) ∙ number_is w.2 (λ z. k (words w.0 w.1 z))

abbrev blocks : List Words → (List Words → Circuit) → Circuit
blocks [] k = k []
blocks (b ∷ bs) k = block b (λ a. blocks bs (λ l. k (a ∷ l)))

blocks_is : (l : List Words) (k : List Words → Circuit) → blocks l k ≡ k l
blocks_is [] k = refl
blocks_is (b ∷ bs) k = block_is b (λ a. blocks bs (λ l. k (a ∷ l))) ∙ blocks_is bs (λ l. k (b ∷ l))

abbrev numbers : List ℕ → (List ℕ → Circuit) → Circuit
numbers [] k = k []
numbers (b ∷ bs) k = number b (λ a. numbers bs (λ l. k (a ∷ l)))

numbers_is : (l : List ℕ) (k : List ℕ → Circuit) → numbers l k ≡ k l
numbers_is [] k = refl
numbers_is (b ∷ bs) k = number_is b (λ a. numbers bs (λ l. k (a ∷ l))) ∙ numbers_is bs (λ l. k (b ∷ l))

abbrev named : Number → (Number → Circuit) → Circuit
named One k = k One
named Two k = k Two

named_is : (n : Number) (k : Number → Circuit) → named n k ≡ k n
named_is One k = refl
named_is Two k = refl

abbrev mark : Mark → (Mark → Circuit) → Circuit
mark Mark.None k = k Mark.None
mark Mark.One k = k Mark.One
mark Mark.Two k = k Mark.Two

mark_is : (m : Mark) (k : Mark → Circuit) → mark m k ≡ k m
mark_is Mark.None k = refl
mark_is Mark.One k = refl
mark_is Mark.Two k = refl

abbrev succession : Succession → (Succession → Circuit) → Circuit
succession Succession.None k = k Succession.None
succession Succession.One k = k Succession.One
succession Succession.OneTwo k = k Succession.OneTwo
succession Succession.Two k = k Succession.Two
succession Succession.TwoThree k = k Succession.TwoThree

succession_is : (h : Succession) (k : Succession → Circuit) → succession h k ≡ k h
succession_is Succession.None k = refl
succession_is Succession.One k = refl
succession_is Succession.OneTwo k = refl
succession_is Succession.Two k = refl
succession_is Succession.TwoThree k = refl

abbrev stage : Stage → (Stage → Circuit) → Circuit
stage Stage.One k = k Stage.One
stage Stage.Two k = k Stage.Two
stage Stage.Three k = k Stage.Three
stage Stage.Four k = k Stage.Four

stage_is : (s : Stage) (k : Stage → Circuit) → stage s k ≡ k s
stage_is Stage.One k = refl
stage_is Stage.Two k = refl
stage_is Stage.Three k = refl
stage_is Stage.Four k = refl

abbrev identity : Identity → (Identity → Circuit) → Circuit
identity i k = number i.0 (λ x. number i.1 (λ y. number i.2 (λ z. number i.3 (λ u. k (record { 0 = x; 1 = y; 2 = z; 3 = u })))))

identity_is : (i : Identity) (k : Identity → Circuit) → identity i k ≡ k i
identity_is i k =
    number_is i.0 (λ x. number i.1 (λ y. number i.2 (λ z. number i.3 (λ u. k (record { 0 = x; 1 = y; 2 = z; 3 = u })))))
    ∙ number_is i.1 (λ y. number i.2 (λ z. number i.3 (λ u. k (record { 0 = i.0; 1 = y; 2 = z; 3 = u }))))
    ∙ number_is i.2 (λ z. number i.3 (λ u. k (record { 0 = i.0; 1 = i.1; 2 = z; 3 = u })))
    ∙ number_is i.3 (λ u. k (record { 0 = i.0; 1 = i.1; 2 = i.2; 3 = u }))

-- seven signals: the first four, and the last three
abbrev seven_of : Identity → Words → Seven
seven_of i w = record { 0 = i.0; 1 = i.1; 2 = i.2; 3 = i.3; 4 = w.0; 5 = w.1; 6 = w.2 }

abbrev first_four : Seven → Identity
first_four i = record { 0 = i.0; 1 = i.1; 2 = i.2; 3 = i.3 }

abbrev last_three : Seven → Words
last_three i = words i.4 i.5 i.6

abbrev seven : Seven → (Seven → Circuit) → Circuit
seven i k = identity (first_four i) (λ x. block (last_three i) (λ y. k (seven_of x y)))

seven_is : (i : Seven) (k : Seven → Circuit) → seven i k ≡ k i
seven_is i k =
    identity_is (first_four i) (λ x. block (last_three i) (λ y. k (seven_of x y))) ∙ block_is (last_three i) (λ y. k (seven_of (first_four i) y))

-- the code is handed on as it stands: no step changes it
abbrev own : Own → (Own → Circuit) → Circuit
own o k = identity o.four (λ i. seven o.seven (λ j. k (record { four = i; seven = j; code = o.code })))

own_is : (o : Own) (k : Own → Circuit) → own o k ≡ k o
own_is o k =
    identity_is o.four (λ i. seven o.seven (λ j. k (record { four = i; seven = j; code = o.code }))) ∙ seven_is o.seven (λ j. k (record { four = o.four; seven = j; code = o.code }))

abbrev owed : Owed → (Owed → Circuit) → Circuit
owed Owed.Nothing k = k Owed.Nothing
owed (Owed.Back i) k = number i (λ i. k (Owed.Back i))
owed (Owed.Keep i) k = number i (λ i. k (Owed.Keep i))

owed_is : (o : Owed) (k : Owed → Circuit) → owed o k ≡ k o
owed_is Owed.Nothing k = refl
owed_is (Owed.Back i) k = number_is i (λ i. k (Owed.Back i))
owed_is (Owed.Keep i) k = number_is i (λ i. k (Owed.Keep i))

abbrev peer : Peer → (Peer → Circuit) → Circuit
peer Nobody k = k Nobody
peer (Four i) k = identity i (λ i. k (Four i))
peer (Known i) k = seven i (λ i. k (Known i))
peer (Barred i) k = seven i (λ i. k (Barred i))

peer_is : (p : Peer) (k : Peer → Circuit) → peer p k ≡ k p
peer_is Nobody k = refl
peer_is (Four i) k = identity_is i (λ i. k (Four i))
peer_is (Known i) k = seven_is i (λ i. k (Known i))
peer_is (Barred i) k = seven_is i (λ i. k (Barred i))

abbrev place : Place → (Place → Circuit) → Circuit
place (Sending h) k = named h.number (λ n. block h.block (λ b. k (Sending (record { number = n; block = b }))))
place (Turning n) k = named n (λ n. k (Turning n))
place Opening k = k Opening
place (Ending e) k = named e.number (λ n. number e.total (λ i. k (Ending (record { number = n; total = i }))))
place (Receiving n) k = named n (λ n. k (Receiving n))
place Asking k = k Asking
place (StandBy w) k = number w.wait (λ n. mark w.heard (λ m. succession w.heard3 (λ h. k (StandBy (record { wait = n; heard = m; heard3 = h })))))
place Lost k = k Lost
place (Calling c) k = identity c.to (λ i. number c.sent (λ n. mark c.last (λ m. k (Calling (record { to = i; sent = n; last = m })))))
place (Calling3 c) k = seven c.to (λ i. number c.sent (λ n. k (Calling3 (record { to = i; sent = n }))))
place (Identifying i) k = seven i.to (λ j. stage i.stage (λ s. number i.wrong (λ n. number i.last (λ m. k (Identifying (record { to = j; stage = s; wrong = n; last = m }))))))
place (Answering g) k = stage g.stage (λ s. seven g.got (λ i. k (Answering (record { stage = s; got = i }))))

place_is : (p : Place) (k : Place → Circuit) → place p k ≡ k p
place_is (Sending h) k = named_is h.number (λ n. block h.block (λ b. k (Sending (record { number = n; block = b })))) ∙ block_is h.block (λ b. k (Sending (record { number = h.number; block = b })))
place_is (Turning n) k = named_is n (λ n. k (Turning n))
place_is Opening k = refl
place_is (Ending e) k = named_is e.number (λ n. number e.total (λ i. k (Ending (record { number = n; total = i })))) ∙ number_is e.total (λ i. k (Ending (record { number = e.number; total = i })))
place_is (Receiving n) k = named_is n (λ n. k (Receiving n))
place_is Asking k = refl
place_is (StandBy w) k =
    number_is w.wait (λ n. mark w.heard (λ m. succession w.heard3 (λ h. k (StandBy (record { wait = n; heard = m; heard3 = h })))))
    ∙ mark_is w.heard (λ m. succession w.heard3 (λ h. k (StandBy (record { wait = w.wait; heard = m; heard3 = h }))))
    ∙ succession_is w.heard3 (λ h. k (StandBy (record { wait = w.wait; heard = w.heard; heard3 = h })))
place_is Lost k = refl
place_is (Calling c) k =
    identity_is c.to (λ i. number c.sent (λ n. mark c.last (λ m. k (Calling (record { to = i; sent = n; last = m })))))
    ∙ number_is c.sent (λ n. mark c.last (λ m. k (Calling (record { to = c.to; sent = n; last = m }))))
    ∙ mark_is c.last (λ m. k (Calling (record { to = c.to; sent = c.sent; last = m })))
place_is (Calling3 c) k =
    seven_is c.to (λ i. number c.sent (λ n. k (Calling3 (record { to = i; sent = n }))))
    ∙ number_is c.sent (λ n. k (Calling3 (record { to = c.to; sent = n })))
place_is (Identifying i) k =
    seven_is i.to (λ j. stage i.stage (λ s. number i.wrong (λ n. number i.last (λ m. k (Identifying (record { to = j; stage = s; wrong = n; last = m }))))))
    ∙ stage_is i.stage (λ s. number i.wrong (λ n. number i.last (λ m. k (Identifying (record { to = i.to; stage = s; wrong = n; last = m })))))
    ∙ number_is i.wrong (λ n. number i.last (λ m. k (Identifying (record { to = i.to; stage = i.stage; wrong = n; last = m }))))
    ∙ number_is i.last (λ m. k (Identifying (record { to = i.to; stage = i.stage; wrong = i.wrong; last = m })))
place_is (Answering g) k =
    stage_is g.stage (λ s. seven g.got (λ i. k (Answering (record { stage = s; got = i })))) ∙ seven_is g.got (λ i. k (Answering (record { stage = g.stage; got = i })))

abbrev role : Role → (Role → Circuit) → Circuit
role Master k = k Master
role Slave k = k Slave

role_is : (r : Role) (k : Role → Circuit) → role r k ≡ k r
role_is Master k = refl
role_is Slave k = refl

abbrev case_of : Case → (Case → Circuit) → Circuit
case_of Letters k = k Letters
case_of Figures k = k Figures

case_is : (c : Case) (k : Case → Circuit) → case_of c k ≡ k c
case_is Letters k = refl
case_is Figures k = refl

abbrev plus_of : Bool → (Bool → Circuit) → Circuit
plus_of true k = k true
plus_of false k = k false

plus_is : (b : Bool) (k : Bool → Circuit) → plus_of b k ≡ k b
plus_is true k = refl
plus_is false k = refl

abbrev station : Station → (Station → Circuit) → Circuit
station s k = role s.role (λ r. place s.place (λ p. number s.count (λ n. case_of s.case (λ c. plus_of s.plus (λ m. own s.own (λ i. peer s.other (λ q. owed s.owed (λ w. k (record { role = r; place = p; count = n; case = c; plus = m; own = i; other = q; owed = w })))))))))

station_is : (s : Station) (k : Station → Circuit) → station s k ≡ k s
station_is s k =
    role_is s.role (λ r. place s.place (λ p. number s.count (λ n. case_of s.case (λ c. plus_of s.plus (λ m. own s.own (λ i. peer s.other (λ q. owed s.owed (λ w. k (record { role = r; place = p; count = n; case = c; plus = m; own = i; other = q; owed = w })))))))))
    ∙ place_is s.place (λ p. number s.count (λ n. case_of s.case (λ c. plus_of s.plus (λ m. own s.own (λ i. peer s.other (λ q. owed s.owed (λ w. k (record { role = s.role; place = p; count = n; case = c; plus = m; own = i; other = q; owed = w }))))))))
    ∙ number_is s.count (λ n. case_of s.case (λ c. plus_of s.plus (λ m. own s.own (λ i. peer s.other (λ q. owed s.owed (λ w. k (record { role = s.role; place = s.place; count = n; case = c; plus = m; own = i; other = q; owed = w })))))))
    ∙ case_is s.case (λ c. plus_of s.plus (λ m. own s.own (λ i. peer s.other (λ q. owed s.owed (λ w. k (record { role = s.role; place = s.place; count = s.count; case = c; plus = m; own = i; other = q; owed = w }))))))
    ∙ plus_is s.plus (λ m. own s.own (λ i. peer s.other (λ q. owed s.owed (λ w. k (record { role = s.role; place = s.place; count = s.count; case = s.case; plus = m; own = i; other = q; owed = w })))))
    ∙ own_is s.own (λ i. peer s.other (λ q. owed s.owed (λ w. k (record { role = s.role; place = s.place; count = s.count; case = s.case; plus = s.plus; own = i; other = q; owed = w }))))
    ∙ peer_is s.other (λ q. owed s.owed (λ w. k (record { role = s.role; place = s.place; count = s.count; case = s.case; plus = s.plus; own = s.own; other = q; owed = w })))
    ∙ owed_is s.owed (λ w. k (record { role = s.role; place = s.place; count = s.count; case = s.case; plus = s.plus; own = s.own; other = s.other; owed = w }))

abbrev direction : Direction → (Direction → Circuit) → Circuit
direction d k = blocks d.taken (λ t. blocks d.accepted (λ a. numbers d.printed (λ p. blocks d.confirmed (λ c. k (record { taken = t; accepted = a; printed = p; confirmed = c })))))

direction_is : (d : Direction) (k : Direction → Circuit) → direction d k ≡ k d
direction_is d k =
    blocks_is d.taken (λ t. blocks d.accepted (λ a. numbers d.printed (λ p. blocks d.confirmed (λ c. k (record { taken = t; accepted = a; printed = p; confirmed = c })))))
    ∙ blocks_is d.accepted (λ a. numbers d.printed (λ p. blocks d.confirmed (λ c. k (record { taken = d.taken; accepted = a; printed = p; confirmed = c }))))
    ∙ numbers_is d.printed (λ p. blocks d.confirmed (λ c. k (record { taken = d.taken; accepted = d.accepted; printed = p; confirmed = c })))
    ∙ blocks_is d.confirmed (λ c. k (record { taken = d.taken; accepted = d.accepted; printed = d.printed; confirmed = c }))

abbrev settled : Circuit → (Circuit → Circuit) → Circuit
settled c k = station c.hearer (λ x. station c.sender (λ p. block c.burst (λ w. direction c.from_hearer (λ d. direction c.from_sender (λ g. k (record { hearer = x; sender = p; burst = w; from_hearer = d; from_sender = g }))))))

settled_is : (c : Circuit) (k : Circuit → Circuit) → settled c k ≡ k c
settled_is c k =
    station_is c.hearer (λ x. station c.sender (λ p. block c.burst (λ w. direction c.from_hearer (λ d. direction c.from_sender (λ g. k (record { hearer = x; sender = p; burst = w; from_hearer = d; from_sender = g }))))))
    ∙ station_is c.sender (λ p. block c.burst (λ w. direction c.from_hearer (λ d. direction c.from_sender (λ g. k (record { hearer = c.hearer; sender = p; burst = w; from_hearer = d; from_sender = g })))))
    ∙ block_is c.burst (λ w. direction c.from_hearer (λ d. direction c.from_sender (λ g. k (record { hearer = c.hearer; sender = c.sender; burst = w; from_hearer = d; from_sender = g }))))
    ∙ direction_is c.from_hearer (λ d. direction c.from_sender (λ g. k (record { hearer = c.hearer; sender = c.sender; burst = c.burst; from_hearer = d; from_sender = g })))
    ∙ direction_is c.from_sender (λ g. k (record { hearer = c.hearer; sender = c.sender; burst = c.burst; from_hearer = c.from_hearer; from_sender = g }))

-- a list of events, after a run; by any step
abbrev pub run_of : Run → List Event → Run
run_of run [] = run
run_of run (e ∷ es) = run_of (run ▷ e) es

unfoldable pub through : (Circuit → Event → Circuit) → Circuit → List Event → Circuit
through step c [] = c
through step c (e ∷ es) = settled (step c e) (λ d. through step d es)

pub computed : (c : Circuit) (run : Run) (es : List Event) → after c (run_of run es) ≡ through next (after c run) es
unfolding after through
computed c run [] = refl
computed c run (e ∷ es) = computed c (run ▷ e) es ∙ sym (settled_is (next (after c run) e) (λ d. through next d es))
