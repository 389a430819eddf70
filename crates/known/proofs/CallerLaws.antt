-- The caller hears the station that it calls.
--     caller_hears   it goes on, or stops and is at Stand-by, or identification is over: traffic begins, and each knows the other
-- No check-sum that it hears is wrong: the station that answers is the one that was called.
-- Assumes nothing.
use mathlib.Core.Path.{◌≡◌, refl, ap, sym, ◌∙◌}
use mathlib.Core.Bool.{Bool, true, false, and-false, true≢false}
use mathlib.Core.Logic.{◌⊎◌, inl, inr}
use mathlib.Core.List.{[], ◌∷◌}
use Prim.Native.Nat.{ℕ, ◌+◌}
use lib.Dec.{leb}
use borrow.Author.Tests.{eq-eqb}
use Rattle.std.specs.Prelude.{if◌then◌else◌}
use Rattle.signals.specs.Meaning.{meaning_of, traffic_of, rq, cs1, cs3, cs4}
use Rattle.signals.specs.Numbers.{answered}
use Rattle.identity.specs.declared.Seven.{Seven}
use Rattle.identity.specs.Table3.{is_identity}
use Rattle.identity.proofs.SumLaws.{check_sum_letter}
use Rattle.mode_a.specs.declared.Number.TheVariants.{One}
use Rattle.mode_a.specs.declared.Stage.{Stage}
use Rattle.mode_a.specs.declared.Identified.{Identified}
use Rattle.mode_a.specs.declared.Own.{Own}
use Rattle.mode_a.specs.declared.Words.{Words}
use Rattle.mode_a.specs.declared.Peer.TheVariants.{Known}
use Rattle.mode_a.specs.declared.Place.{Place}
use Rattle.mode_a.specs.declared.Place.TheVariants.{Calling3, Identifying}
use Rattle.mode_a.specs.declared.Offer.{Offer}
use Rattle.mode_a.specs.declared.Station.{Station}
use Rattle.mode_a.specs.declared.Doing.{Doing}
use Rattle.mode_a.specs.declared.Doing.TheVariants.{Goes, Bars}
use Rattle.mode_a.specs.declared.Reply.{Reply}
use Rattle.mode_a.specs.Calls.{next_block3}
use Rattle.mode_a.specs.Identification.{identity_block}
use Rattle.mode_a.specs.Station.{single, silence, resting}
use Rattle.mode_a.specs.Heard.{First, Cs, Cs3, Rq, Else, Cs4, Letter, Other, further_of, first_of, may_hold, is_block, heard_of}
use Rattle.mode_a.specs.Rows.{calling3, same_block, right_sum, at_stage, is_last}
use Rattle.mode_a.specs.Step.{stands_at, sends, holds, takes_offer, takes_by, turns, knowing, done}
use Rattle.runs.specs.Places.{is_sending}
use Rattle.runs.specs.Runs.{InOrder, taking, next_stage}
use Rattle.runs.specs.Taken.{block_of}
use Rattle.runs.proofs.StepLaws.{Answers as Answered, answers, by_again}
use Rattle.runs.specs.Circuit.{Event, heard, Harmless, Circuit, said, confirmed_by, accepted_by, answered_by}
use Rattle.circuit.specs.Starts.{Begins, with_block_lem, with_end, CallCompleted, CallTurned}
use Rattle.circuit.proofs.DamageLaws.{mangled, FirstIs, said as as_said, unsaid}
use Rattle.circuit.proofs.ReplyLaws.{asks_first, silence_first, first_of_lem}
use Rattle.circuit.proofs.CallStepLaws.{asked}
use Rattle.known.specs.Known.{KnownToBoth}
use Rattle.known.proofs.BlockLaws.{letter_first, next_block_lem}
use Rattle.known.proofs.Phases.{Telling, calls, tells, CallerAt, at_calling_lem, at_telling, Caller, Bursts, call_block, identity_block_lem, sum_of, answering_at, Says, asks_calling, asks_here, asks_behind, sums, met_at, met_by, Slaved, Callee, standing, answering, meeting, lost, NothingCarried, still_none}

-- the rows of Identifying: what says nothing to it has the block sent again, and the check-sum leads on
abbrev same_again : Seven → Identified → First → Stage → Type 0
same_again y m f s = at_stage y m f s ≡ same_block y m

unheard : (y : Seven) (m : Identified) (s : Stage) → same_again y m (Else Other) s × same_again y m Rq s × same_again y m (Else Cs4) s
unheard y m Stage.One = (refl, refl, refl)
unheard y m Stage.Two = (refl, refl, refl)
unheard y m Stage.Three = (refl, refl, refl)
unheard y m Stage.Four = (refl, refl, refl)

right : (y : Seven) (m : Identified) (s : Stage) → is_last s ≡ false → at_stage y m (Else (Letter (sum_of s m.to))) s ≡ right_sum y m (next_stage s)
right y m Stage.One n = rw (eq-eqb (sum_of Stage.One m.to) _ refl)
right y m Stage.Two n = rw (eq-eqb (sum_of Stage.Two m.to) _ refl)
right y m Stage.Three n = rw (eq-eqb (sum_of Stage.Three m.to) _ refl)
right y m Stage.Four n = absurd (true≢false n)

sum_letter : (s : Stage) (i : Seven) → is_last s ≡ false → is_identity (sum_of s i) ≡ true
sum_letter Stage.One i n = check_sum_letter i.0 i.1 i.2
sum_letter Stage.Two i n = check_sum_letter i.2 i.3 i.4
sum_letter Stage.Three i n = check_sum_letter i.4 i.5 i.6
sum_letter Stage.Four i n = absurd (true≢false n)

module _ (i y : Seven) (c : Circuit) (e : Event) (h : Harmless e) (r : Reply) (is : said c e ≡ answered r) (n : NothingCarried c) where
  abbrev b : Words
  b = heard e c.burst

  abbrev d : Circuit
  d = answered_by c e.offer b r

  z : Answered c.hearer b e.offer r
  z = answers c.hearer b e.offer r is

  pub data Result : Type 0 where
    goes_on_lem : {w : Words} (u : Telling) → Callee i y d.hearer u w → Caller i y u d.sender → Bursts i y d.burst u → NothingCarried d →
        Result
    stops : (k : ℕ) → r.station.place ≡ resting k → r.sent ≡ silence → NothingCarried d → Result
    completes : CallCompleted d ⊎ CallTurned d → KnownToBoth d → i ≡ d.hearer.own.seven → Result

  -- nothing is carried, whether it goes on or stops
  none_carried : {u : Telling} → CallerAt i c.hearer.place u → (x : Place) → r.station.place ≡ x → is_sending x ≡ false → r.printed ≡ silence → NothingCarried d
  none_carried a x p s j =
      still_none c e.offer b r n (rw (p, s, and-false (taking c.hearer.place (first_of b.0))), (so a).0, (so a).1, j)
    where
      so : {u : Telling} → CallerAt i c.hearer.place u → (confirmed_by c.hearer b ≡ []) × (accepted_by c.hearer b ≡ [])
      so (at_calling_lem k p) = rw p (refl, refl)
      so (at_telling s k l p) = rw p (refl, refl)

  module _ {u : Telling} (a : Caller i y u c.hearer) where
    goes : {w : Words} (u' : Telling) (x : Place) (k : ℕ) (v : Words) → Callee i y c.sender u' w → CallerAt i x u' → Bursts i y v u' → is_sending x ≡ false → r ≡ sends (stands_at c.hearer x k c.hearer.case c.hearer.plus) v → Result
    goes u' x k v o p f s j =
        goes_on_lem u' o (rw j (record { at = p; role_is = a.role_is; case_is = a.case_is; plus_is = a.plus_is; owed_is = a.owed_is; own_is = a.own_is })) (rw j f) (none_carried a.at x (ap (λ (r : Reply). r.station.place) j) s (ap (λ (r : Reply). r.printed) j))

    stop : (s : Station) (k : ℕ) → s.place ≡ resting k → r ≡ sends s silence → Result
    stop s k p j =
        stops k (ap (λ (r : Reply). r.station.place) j ∙ p) (ap (λ (r : Reply). r.sent) j) (none_carried a.at (resting k) (ap (λ (r : Reply). r.station.place) j ∙ p) refl (ap (λ (r : Reply). r.printed) j))

  -- calling: all but CS4 has the next block sent, up to 128
  module _ (k : ℕ) (a : Caller i y calls c.hearer) (p : c.hearer.place ≡ Calling3 (record { to = i; sent = k })) where
    calls_row : (f : First) (x : Doing) → first_of b.0 ≡ f → calling3 c.hearer.own.seven (record { to = i; sent = k }) f ≡ x → r ≡ done c.hearer b e.offer x
    unfolding heard_of
    calls_row f x g j = z.is_done ∙ ap (done c.hearer b e.offer) (rw (p, g) j)

    calls_on_lem : {w : Words} → Callee i y c.sender calls w → first_of b.0 ≡ Else Other → Result
    calls_on_lem o g = go (leb 128 k) (calls_row (Else Other) _ g refl)
      where
        go : (t : Bool) → r ≡ done c.hearer b e.offer (if t then Bars i else Goes (Calling3 (record { to = i; sent = k + 1 })) (next_block3 i k)) → Result
        go true j = unfold done in stop a _ 128 refl j
        go false j = unfold done in goes a calls _ 0 _ o (at_calling_lem (k + 1) refl) (call_block (next_block_lem i k)) refl j

    identifies : Slaved i c.sender → c.sender.place ≡ answering_at y Stage.One → first_of b.0 ≡ Else Cs4 → Result
    unfolding done
    identifies o q g =
        goes a (tells Stage.One) _ 0 _ (answering Stage.One cs4 (asks_here Stage.One) o q) (at_telling Stage.One 0 0 refl) (identity_block_lem Stage.One (ap (λ (x : Seven). identity_block x Stage.One) a.own_is)) refl (calls_row (Else Cs4) _ g refl)

  -- identifying: the check-sum leads to the next block, all else has the block sent again, up to 32 times
  module _ (s : Stage) (k l : ℕ) (a : Caller i y (tells s) c.hearer) (p : c.hearer.place ≡ Identifying (record { to = i; stage = s; wrong = k; last = l })) where
    abbrev held : Identified
    held = record { to = i; stage = s; wrong = k; last = l }

    tells_row : (f : First) (x : Doing) → first_of b.0 ≡ f → at_stage c.hearer.own.seven held f s ≡ x → r ≡ done c.hearer b e.offer x
    unfolding heard_of
    tells_row f x g j = z.is_done ∙ ap (done c.hearer b e.offer) (rw (p, g) j)

    tells_again : {w : Words} → Callee i y c.sender (tells s) w → r ≡ done c.hearer b e.offer (same_block c.hearer.own.seven held) → Result
    unfolding done
    tells_again o j =
        by_again (λ (g : Reply). r ≡ g → Result) c.hearer (Identifying held) (identity_block c.hearer.own.seven s) (λ t j. stop a _ _ refl j) (λ t j. goes a (tells s) _ _ _ o (at_telling s k l refl) (identity_block_lem s (ap (λ (x : Seven). identity_block x s) a.own_is)) refl j) j

    tells_on : is_last s ≡ false → Slaved i c.sender → c.sender.place ≡ answering_at y (next_stage s) → first_of b.0 ≡ Else (Letter (sum_of s i)) → Result
    unfolding done
    tells_on t o q g =
        goes a (tells (next_stage s)) _ 0 _ (answering (next_stage s) _ (asks_here (next_stage s)) o q) (at_telling (next_stage s) 0 0 refl) (identity_block_lem (next_stage s) (ap (λ (x : Seven). identity_block x (next_stage s)) a.own_is)) refl (tells_row _ _ g (right c.hearer.own.seven held s t))

  -- the end of identification
  module _ (k l : ℕ) (a : Caller i y (tells Stage.Four) c.hearer) (p : c.hearer.place ≡ Identifying (record { to = i; stage = Stage.Four; wrong = k; last = l })) (o : Slaved i c.sender) (v : c.sender.other ≡ Known y) (m : leb c.sender.count 31 ≡ true) where
    abbrev now : Station
    now = knowing c.hearer (Known i)

    known : r.station.other ≡ Known i → r.station.own ≡ c.hearer.own → KnownToBoth d
    known x w =
        record { sender_knows = x ∙ ap Known (sym o.own_is); hearer_knows = v ∙ ap Known (sym (ap (λ (g : Own). g.seven) w ∙ a.own_is)) }

    -- CS1: the offer is taken under number 1
    module _ (q : c.sender.place ≡ met_at false) (f : taking c.hearer.place (first_of b.0) ≡ true) where
      completed : Begins d → r.printed ≡ silence → r.station.role ≡ c.hearer.role → r.station.count ≡ 0 → r.station.case ≡ c.hearer.case → r.station.plus ≡ c.hearer.plus → r.station.other ≡ Known i → r.station.own ≡ c.hearer.own → r.station.owed ≡ c.hearer.owed → Result
      completed g j x₁ x₂ x₃ x₄ x₅ x₆ x₇ =
          completes (inl (record { sender_role = x₁ ∙ a.role_is; sender_count = x₂; sender_case = x₃ ∙ a.case_is; sender_plus = x₄ ∙ a.plus_is; begins = g; sender_owed = x₇ ∙ a.owed_is; hearer_role = o.role_is; hearer_place = q; hearer_count = m; hearer_case = o.case_is; hearer_plus = o.plus_is; hearer_owed = o.owed_is; none_from_hearer = rw (n.from_sender_is, p, j) })) (known x₅ x₆) (sym o.own_is)

      by_block_lem : (w : Words) (t : Bool) → block_of e.offer ≡ w ∷ [] → is_block w ≡ true → r ≡ holds now One w t → Result
      by_block_lem w t x g j =
          completed (with_block_lem g (ap (λ (r : Reply). r.station.place) j) (ap (λ (r : Reply). r.sent) j) (rw (n.from_hearer_is, f, p, j, a.owed_is, x))) (ap (λ (r : Reply). r.printed) j) (ap (λ (r : Reply). r.station.role) j) (ap (λ (r : Reply). r.station.count) j) (ap (λ (r : Reply). r.station.case) j) (ap (λ (r : Reply). r.station.plus) j) (ap (λ (r : Reply). r.station.other) j) (ap (λ (r : Reply). r.station.own) j) (ap (λ (r : Reply). r.station.owed) j)

      by_end : r ≡ takes_offer now One Offer.End → Result
      by_end j =
          completed (with_end (ap (λ (r : Reply). r.station.place) j) (ap (λ (r : Reply). r.sent) j) (rw (n.from_hearer_is, f, p, j))) (ap (λ (r : Reply). r.printed) j) (ap (λ (r : Reply). r.station.role) j) (ap (λ (r : Reply). r.station.count) j) (ap (λ (r : Reply). r.station.case) j) (ap (λ (r : Reply). r.station.plus) j) (ap (λ (r : Reply). r.station.other) j) (ap (λ (r : Reply). r.station.own) j) (ap (λ (r : Reply). r.station.owed) j)

      by_offer : (x : Offer) → e.offer ≡ x → InOrder c.hearer.own x → r ≡ takes_offer now One x → Result
      unfolding is_block may_hold traffic_of meaning_of
      by_offer (Offer.Text w) x g j = by_block_lem w true (ap block_of x) g j
      by_offer Offer.Over x g j = by_block_lem _ true (ap block_of x) refl j
      by_offer Offer.End x g j = by_end j
      by_offer Offer.Nothing x g j = by_block_lem _ true (ap block_of x) refl j
      by_offer (Offer.Call w) x g j = by_block_lem _ false (ap block_of x) refl j
      by_offer (Offer.Call3 w) x g j = by_block_lem _ false (ap block_of x) refl j

    begins : c.sender.place ≡ met_at false → first_of b.0 ≡ Cs One → Result
    unfolding done
    begins q g =
        by_offer q (rw (p, g)) e.offer refl z.is_fine (tells_row Stage.Four k l a p (Cs One) _ g refl ∙ ap (takes_by now One e.offer) a.owed_is)

    -- CS3: βαβ, and the slave is to send first
    turned : c.sender.place ≡ met_at true → first_of b.0 ≡ Cs3 → Result
    unfolding done
    turned q g =
        let j : r ≡ turns now = tells_row Stage.Four k l a p Cs3 _ g refl in
        let x = none_carried a.at _ (ap (λ (r : Reply). r.station.place) j) refl (ap (λ (r : Reply). r.printed) j) in
        completes (inr (record { sender_role = ap (λ (r : Reply). r.station.role) j ∙ a.role_is; sender_place = ap (λ (r : Reply). r.station.place) j; sender_count = ap (λ (r : Reply). r.station.count) j; sender_case = ap (λ (r : Reply). r.station.case) j ∙ a.case_is; sender_plus = ap (λ (r : Reply). r.station.plus) j ∙ a.plus_is; sender_owed = ap (λ (r : Reply). r.station.owed) j ∙ a.owed_is; burst_is = ap (λ (r : Reply). r.sent) j; hearer_role = o.role_is; hearer_place = q; hearer_count = m; hearer_case = o.case_is; hearer_plus = o.plus_is; hearer_owed = o.owed_is; none_from_hearer = x.from_hearer_is; none_from_sender = x.from_sender_is })) (known (ap (λ (r : Reply). r.station.other) j) (ap (λ (r : Reply). r.station.own) j)) (sym o.own_is)

  -- what was heard of the first word: it, or what says nothing
  first_is_lem : (w : ℕ) (f : First) → c.burst.0 ≡ w → first_of w ≡ f → FirstIs f (first_of b.0)
  first_is_lem w f p g = first_of_lem f (mangled e c.burst h) (ap first_of p ∙ g)

  by_first : (f : First) → FirstIs f (first_of b.0) → (first_of b.0 ≡ f → Result) → (first_of b.0 ≡ Else Other → Result) → Result
  by_first f g heard not = go (first_of b.0) refl g
    where
      go : (x : First) → first_of b.0 ≡ x → FirstIs f x → Result
      go x p as_said = heard p
      go x p unsaid = not p

  -- silence, and what is heard of it
  silent : {u : Telling} {w : Words} → Caller i y u c.hearer → Callee i y c.sender u w → first_of b.0 ≡ Else Other → Result
  silent {u} {w} a o g = go a.at a o
    where
      go : {u : Telling} → CallerAt i c.hearer.place u → Caller i y u c.hearer → Callee i y c.sender u w → Result
      go (at_calling_lem k p) a o = calls_on_lem k a p o g
      go (at_telling s k l p) a o =
          tells_again s k l a p o (tells_row s k l a p (Else Other) _ g (unheard c.hearer.own.seven _ s).0)

  nothing_first : c.burst.0 ≡ 0 → first_of b.0 ≡ Else Other
  nothing_first p = go (first_of b.0) (first_is_lem 0 (Else Other) p silence_first)
    where
      go : (x : First) → FirstIs (Else Other) x → x ≡ Else Other
      go x as_said = refl
      go x unsaid = refl

  -- what asks for the block again
  asked_again_lem : (s : Stage) (v : ℕ) (f : First) → Caller i y (tells s) c.hearer → Callee i y c.sender (tells s) (single v) → c.burst.0 ≡ v → first_of v ≡ f → ((m : Identified) → same_again c.hearer.own.seven m f s) → Result
  asked_again_lem s v f a o j g u = go a.at
    where
      go : CallerAt i c.hearer.place (tells s) → Result
      go (at_telling _ k l p) =
          by_first f (first_is_lem v f j g) (λ x. tells_again s k l a p o (tells_row s k l a p f _ x (u _))) (silent a o)

  by_asked : (s : Stage) → Caller i y (tells s) c.hearer → Callee i y c.sender (tells s) (single (asked s)) → c.burst.0 ≡ asked s → Result
  unfolding first_of further_of
  by_asked Stage.One a o j = asked_again_lem Stage.One cs4 (Else Cs4) a o j refl (λ m. (unheard _ m Stage.One).2)
  by_asked Stage.Two a o j = asked_again_lem Stage.Two rq Rq a o j refl (λ m. (unheard _ m Stage.Two).1)
  by_asked Stage.Three a o j = asked_again_lem Stage.Three rq Rq a o j refl (λ m. (unheard _ m Stage.Three).1)
  by_asked Stage.Four a o j = asked_again_lem Stage.Four rq Rq a o j refl (λ m. (unheard _ m Stage.Four).1)

  by_said : {u : Telling} (t : Stage) (v : ℕ) → Says i u t v → Caller i y u c.hearer → Slaved i c.sender → c.sender.place ≡ answering_at y t → c.burst.0 ≡ v → Result
  unfolding first_of further_of
  by_said t v asks_calling a o q j = go a.at
    where
      go : CallerAt i c.hearer.place calls → Result
      go (at_calling_lem k p) =
          by_first (Else Cs4) (first_is_lem cs4 (Else Cs4) j refl) (identifies k a p o q) (calls_on_lem k a p (answering Stage.One cs4 asks_calling o q))
  by_said t v (asks_here s) a o q j = by_asked s a (answering s (asked s) (asks_here s) o q) j
  by_said t v (asks_behind s f) a o q j =
      asked_again_lem s rq Rq a (answering (next_stage s) rq (asks_behind s f) o q) j refl (λ m. (unheard _ m s).1)
  by_said t v (sums s f) a o q j = go a.at
    where
      go : CallerAt i c.hearer.place (tells s) → Result
      go (at_telling _ k l p) =
          by_first (Else (Letter (sum_of s i))) (first_is_lem (sum_of s i) _ j (letter_first (sum_of s i) (sum_letter s i f))) (tells_on s k l a p f o q) (silent a (answering (next_stage s) _ (sums s f) o q))

  by_met : (t : Bool) → Caller i y (tells Stage.Four) c.hearer → Slaved i c.sender → c.sender.place ≡ met_at t → c.sender.other ≡ Known y → leb c.sender.count 31 ≡ true → c.burst.0 ≡ (met_by t).0 → Result
  unfolding first_of
  by_met true a o q v m j = go a.at
    where
      go : CallerAt i c.hearer.place (tells Stage.Four) → Result
      go (at_telling _ k l p) =
          by_first Cs3 (first_is_lem cs3 Cs3 j refl) (turned k l a p o v m q) (silent a (meeting true o q v m))
  by_met false a o q v m j = go a.at
    where
      go : CallerAt i c.hearer.place (tells Stage.Four) → Result
      go (at_telling _ k l p) =
          by_first (Cs One) (first_is_lem cs1 (Cs One) j (asks_first One)) (begins k l a p o v m q) (silent a (meeting false o q v m))

  pub caller_hears : {u : Telling} → Caller i y u c.hearer → Callee i y c.sender u c.burst → Result
  caller_hears a o = go a o refl
    where
      go : {u : Telling} {w : Words} → Caller i y u c.hearer → Callee i y c.sender u w → c.burst ≡ w → Result
      go a (standing x p t l) j = silent a (standing x p t l) (nothing_first (ap (λ (w : Words). w.0) j))
      go a (answering t v s o q) j = by_said t v s a o q (ap (λ (w : Words). w.0) j)
      go a (meeting t o q v m) j = by_met t a o q v m (ap (λ (w : Words). w.0) j)
      go a (lost p) j = silent a (lost p) (nothing_first (ap (λ (w : Words). w.0) j))
