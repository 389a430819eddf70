-- The station that is called hears the caller: it stays in the call, whatever it hears of the burst.
--     callee_hears   at Stand-by, at Answering, behind identification, and Lost
-- Assumes nothing.
use mathlib.Core.Path.{◌≡◌, refl, ap, sym, subst, ◌∙◌}
use mathlib.Core.Bool.{Bool, true, false, ◌&&◌, and-false, true≢false}
use mathlib.Core.Logic.{◌⊎◌, inl, inr}
use Prim.Native.Nat.{ℕ, ◌+◌}
use native.Mathlib.Omega.{arith}
use lib.Dec.{leb}
use borrow.Author.Tests.{leb-false, le-leb}
use Rattle.signals.specs.Meaning.{meaning_of, traffic_of, cs4}
use Rattle.signals.specs.Numbers.{answered}
use Rattle.identity.specs.declared.Seven.{Seven}
use Rattle.identity.specs.Sums.{is_callable7}
use Rattle.identity.proofs.SumLaws.{same_itself}
use Rattle.mode_a.specs.declared.Number.TheVariants.{Two}
use Rattle.mode_a.specs.declared.Mark.{Mark}
use Rattle.mode_a.specs.declared.Identity.{Identity}
use Rattle.mode_a.specs.declared.Succession.{Succession}
use Rattle.mode_a.specs.declared.Stage.{Stage}
use Rattle.mode_a.specs.declared.Waiting.{Waiting}
use Rattle.mode_a.specs.declared.Words.{Words}
use Rattle.mode_a.specs.declared.Peer.TheVariants.{Known}
use Rattle.mode_a.specs.declared.Place.TheVariants.{StandBy}
use Rattle.mode_a.specs.declared.Doing.{Doing}
use Rattle.mode_a.specs.declared.Reply.{Reply}
use Rattle.mode_a.specs.Identification.{nothing_told, identity_block, told_in}
use Rattle.mode_a.specs.Station.{single, silence, βαβ, ααα, RQ×3, marks, no_seven}
use Rattle.mode_a.specs.Heard.{may_hold, is_block, is_words, call_of, call3_of, heard_of}
use Rattle.mode_a.specs.Rows.{both_heard, all_heard, heard_then, hearing, gathers, asks_on, is_last}
use Rattle.mode_a.specs.Step.{repeats, knowing, meets, is_over, done}
use Rattle.runs.specs.Places.{is_stand_by}
use Rattle.runs.specs.Runs.{next_stage}
use Rattle.runs.proofs.StepLaws.{Answers as Answered, answers, by_repeat, by_again, by_meet, by_listen, standby_answers3, standby_listens, lost_stays}
use Rattle.runs.specs.Circuit.{Event, heard, Harmless, Circuit, said, places_call, answered_by}
use Rattle.circuit.proofs.DamageLaws.{Mangled, mangled, whole_words, no_block, no_words as not_words, whole_told}
use Rattle.circuit.proofs.ReplyLaws.{ααα-signals, βαβ-signals, RQ×3_signals}
use Rattle.circuit.proofs.CallStepLaws.{not_two, neither_two, AllOrNone, identity_rqs, identity_no_alphas, no_alphas, rqs_are, begins_none, all_none, asked}
use Rattle.circuit.proofs.RunLaws.{quiet}
use Rattle.known.proofs.BlockLaws.{Same, same_then, same_heard, same_heard_part, Late, all_or_none, late_heard, told_at, told_at_lem, call_ends, call_no_first}
use Rattle.known.proofs.Phases.{Telling, calls, tells, Caller, Bursts, call_block, identity_block_lem, sum_of, gathered, answering_at, Says, asks_calling, asks_here, asks_behind, sums, met_at, met_by, Slaved, Listened, Callee, standing, answering, meeting, lost, NothingCarried, InCall, hears_callee, Carries, still_none}

-- the rows of Answering, by what is told
pub not_heard : (x g : Seven) (t : Stage) → hearing x g t nothing_told ≡ asks_on t g (asked t)
not_heard x g Stage.One = refl
not_heard x g Stage.Two = refl
not_heard x g Stage.Three = refl
not_heard x g Stage.Four = refl

heard_now : (x y : Seven) (s : Stage) → is_last s ≡ false → hearing x (gathered y s) s (told_at y s) ≡ gathers (next_stage s) (gathered y (next_stage s)) (sum_of s x)
heard_now x y Stage.One n = refl
heard_now x y Stage.Two n = refl
heard_now x y Stage.Three n = refl
heard_now x y Stage.Four n = absurd (true≢false n)

heard_again : (x y : Seven) (s : Stage) → is_last s ≡ false → hearing x (gathered y (next_stage s)) (next_stage s) (told_at y s) ≡ asks_on (next_stage s) (gathered y (next_stage s)) (sum_of s x)
heard_again x y Stage.One n = rw (same_itself (gathered y Stage.Two))
heard_again x y Stage.Two n = rw (same_itself (gathered y Stage.Three))
heard_again x y Stage.Three n = rw (same_itself y)
heard_again x y Stage.Four n = absurd (true≢false n)

-- it may always say that it has not heard
behind : {i : Seven} (s : Stage) → is_last s ≡ false → Says i (tells s) (next_stage s) (asked (next_stage s))
behind Stage.One n = asks_behind Stage.One n
behind Stage.Two n = asks_behind Stage.Two n
behind Stage.Three n = asks_behind Stage.Three n
behind Stage.Four n = absurd (true≢false n)

asks_on_lem : {i : Seven} {u : Telling} {t : Stage} {v : ℕ} → Says i u t v → Says i u t (asked t)
asks_on_lem asks_calling = asks_calling
asks_on_lem (asks_here s) = asks_here s
asks_on_lem (asks_behind s n) = behind s n
asks_on_lem (sums s n) = behind s n

-- what a burst of the caller never is: heard as block 2 of a call of two, or ααα
bursts_not_two : {i y : Seven} {u : Telling} (w b : Words) → is_callable7 i ≡ true → is_callable7 y ≡ true → Bursts i y w u → Mangled w b → (x : Identity) → marks (call_of x b) Two ≡ false
bursts_not_two {i} {y} w b ci cy (call_block k) m x = not_two w (call_ends i ci k) b m x
bursts_not_two {i} {y} w b ci cy (identity_block_lem s e) m x =
    ap (λ (h : Mark). marks h Two) (begins_none (is_last s) w (subst (AllOrNone (is_last s)) (sym e) (identity_rqs y cy s)) b m x)

bursts_no_ααα : {i y : Seven} {u : Telling} (w : Words) → is_callable7 i ≡ true → is_callable7 y ≡ true → Bursts i y w u → is_words w ααα ≡ false
bursts_no_ααα {i} {y} w ci cy (call_block k) = no_alphas w (call_ends i ci k)
bursts_no_ααα {i} {y} w ci cy (identity_block_lem s e) = ap (λ (w : Words). is_words w ααα) e ∙ identity_no_alphas y cy s

-- Stand-by that has just been reached has heard nothing
none_heard : (i x : Seven) (u : Telling) → Listened i u x Succession.None
none_heard i x calls = tt
none_heard i x (tells s) = refl

module _ (i y : Seven) (ci : is_callable7 i ≡ true) (cy : is_callable7 y ≡ true) (c : Circuit) (e : Event) (h : Harmless e) (r : Reply) (is : said c e ≡ answered r) (n : NothingCarried c) (q : places_call c e ≡ false) where
  abbrev b : Words
  b = heard e c.burst

  abbrev d : Circuit
  d = answered_by c e.offer b r

  z : Answered c.hearer b e.offer r
  z = answers c.hearer b e.offer r is

  m : Mangled c.burst b
  m = mangled e c.burst h

  module _ (u : Telling) (k : Caller i y u c.sender) (f : Bursts i y c.burst u) where
    says : {w : Words} → Callee i y r.station u w → r.sent ≡ w → Carries c.hearer b e.offer r → InCall i y d
    says x j g = hears_callee u k (subst (λ (w : Words). Callee i y r.station u w) (sym j) x) (still_none c e.offer b r n g)

    -- Stand-by
    module _ (x : Waiting) (p : c.hearer.place ≡ StandBy x) (t : marks x.heard Two ≡ false) where
      two : marks (call_of c.hearer.own.four b) Two ≡ false
      two = bursts_not_two c.burst b ci cy f m c.hearer.own.four

      both : both_heard x.heard (call_of c.hearer.own.four b) ≡ false
      both = neither_two x.heard (call_of c.hearer.own.four b) t two

      listens_on : all_heard x.heard3 (call3_of c.hearer.own.seven b) ≡ false → Listened i u c.hearer.own.seven (heard_then x.heard3 (call3_of c.hearer.own.seven b)) → InCall i y d
      listens_on g l =
          let j = standby_listens c.hearer b e.offer r z x p both g in
          by_listen (λ (v : Reply). r ≡ v → v.taken ≡ false → InCall i y d) c.hearer _ e.offer (λ v s w j t. absurd (true≢false t)) (λ v s w j t. absurd (true≢false t)) (λ j t. says (standing _ (ap (λ (r : Reply). r.station.place) j) two (rw j l)) (ap (λ (r : Reply). r.sent) j) (rw (p, j) (refl, refl, refl, refl))) j (sym (ap (λ (r : Reply). r.taken) j) ∙ quiet c e r is q (ap is_stand_by p))

    -- Answering, at the stage t
    module _ (t : Stage) (o : Slaved i c.hearer) (p : c.hearer.place ≡ answering_at y t) where
      row : (x : Doing) → is_words b ααα ≡ false → (is_words b RQ×3 && is_last t) ≡ false → hearing c.hearer.own.seven (gathered y t) t (told_in b) ≡ x → r ≡ done c.hearer b e.offer x
      unfolding heard_of
      row x na nr j = z.is_done ∙ ap (done c.hearer b e.offer) (rw (p, na, nr) j)

      stays : (v : ℕ) → Says i u t v → r ≡ done c.hearer b e.offer (asks_on t (gathered y t) v) → InCall i y d
      unfolding done
      stays v s j =
          by_again (λ (g : Reply). r ≡ g → InCall i y d) c.hearer (answering_at y t) (single v) (λ t j. says (standing _ (ap (λ (r : Reply). r.station.place) j) refl (none_heard i r.station.own.seven u)) (ap (λ (r : Reply). r.sent) j) (rw (p, j) (refl, refl, refl, refl))) (λ g j. says (answering t v s (rw j (record { role_is = o.role_is; case_is = o.case_is; plus_is = o.plus_is; owed_is = o.owed_is; own_is = o.own_is })) (ap (λ (r : Reply). r.station.place) j)) (ap (λ (r : Reply). r.sent) j) (rw (p, j) (refl, refl, refl, refl))) j

      not_told : {v : ℕ} → Says i u t v → is_words b ααα ≡ false → is_words b RQ×3 ≡ false → told_in b ≡ nothing_told → InCall i y d
      not_told s na nr nt =
          stays (asked t) (asks_on_lem s) (row _ na (ap (λ (g : Bool). g && is_last t) nr) (ap (hearing c.hearer.own.seven (gathered y t) t) nt ∙ not_heard c.hearer.own.seven (gathered y t) t))

  at_standing : (u : Telling) → Caller i y u c.sender → Bursts i y c.burst u → (x : Waiting) → c.hearer.place ≡ StandBy x → marks x.heard Two ≡ false → Listened i u c.hearer.own.seven x.heard3 → InCall i y d
  at_standing u k (call_block f) x p t l =
      go (all_heard x.heard3 (call3_of c.hearer.own.seven b)) refl
    where
      so : Same i c.hearer.own.seven (call3_of c.hearer.own.seven b)
      so = same_heard_part i c.hearer.own.seven c.burst b ci f m

      go : (g : Bool) → all_heard x.heard3 (call3_of c.hearer.own.seven b) ≡ g → InCall i y d
      go true g =
          let j = standby_answers3 c.hearer b e.offer r z x p (both calls k (call_block f) x p t) g in
          says calls k (call_block f) (answering Stage.One cs4 asks_calling (rw j (record { role_is = refl; case_is = refl; plus_is = refl; owed_is = refl; own_is = same_heard i c.hearer.own.seven x.heard3 (call3_of c.hearer.own.seven b) g l so })) (ap (λ (r : Reply). r.station.place) j)) (ap (λ (r : Reply). r.sent) j) (rw (p, j) (refl, refl, refl, refl))
      go false g =
          listens_on calls k (call_block f) x p t g (same_then i c.hearer.own.seven x.heard3 (call3_of c.hearer.own.seven b) l so)
  at_standing u k (identity_block_lem s f) x p t l =
      let g = late_heard c.hearer.own.seven c.burst b (subst Late (sym f) (all_or_none (is_last s) (identity_rqs y cy s))) m in
      listens_on (tells s) k (identity_block_lem s f) x p t (rw l (all_none (call3_of c.hearer.own.seven b))) (rw l g)

  -- Answering that hears an identification block whole: the one before its stage, or that of its stage; the fourth ends identification
  module _ (s : Stage) (k : Caller i y (tells s) c.sender) (f : Bursts i y c.burst (tells s)) (w : b ≡ identity_block y s) (o : Slaved i c.hearer) where
    no_ααα : is_words b ααα ≡ false
    no_ααα = ap (λ (v : Words). is_words v ααα) w ∙ identity_no_alphas y cy s

    RQs : is_words b RQ×3 ≡ is_last s
    RQs = ap (λ (v : Words). is_words v RQ×3) w ∙ rqs_are (is_last s) (identity_block y s) (identity_rqs y cy s)

    told : told_in b ≡ told_at y s
    told = ap told_in w ∙ told_at_lem y cy s

    before : is_last s ≡ false → c.hearer.place ≡ answering_at y (next_stage s) → InCall i y d
    before j p =
        stays (tells s) k f (next_stage s) o p (sum_of s i) (sums s j) (row (tells s) k f (next_stage s) o p _ no_ααα (ap (λ (g : Bool). g && is_last (next_stage s)) (RQs ∙ j)) (ap (hearing c.hearer.own.seven (gathered y (next_stage s)) (next_stage s)) told ∙ heard_again c.hearer.own.seven y s j ∙ ap (λ (x : Seven). asks_on (next_stage s) (gathered y (next_stage s)) (sum_of s x)) o.own_is))

    now : is_last s ≡ false → c.hearer.place ≡ answering_at y s → InCall i y d
    unfolding done
    now j p =
        let g : r ≡ done c.hearer b e.offer (gathers (next_stage s) (gathered y (next_stage s)) (sum_of s i)) = row (tells s) k f s o p _ no_ααα (ap (λ (g : Bool). g && is_last s) (RQs ∙ j)) (ap (hearing c.hearer.own.seven (gathered y s) s) told ∙ heard_now c.hearer.own.seven y s j ∙ ap (λ (x : Seven). gathers (next_stage s) (gathered y (next_stage s)) (sum_of s x)) o.own_is) in
        says (tells s) k f (answering (next_stage s) (sum_of s i) (sums s j) (rw g (record { role_is = o.role_is; case_is = o.case_is; plus_is = o.plus_is; owed_is = o.owed_is; own_is = o.own_is })) (ap (λ (r : Reply). r.station.place) g)) (ap (λ (r : Reply). r.sent) g) (rw (p, g) (refl, refl, refl, refl))

  met : (k : Caller i y (tells Stage.Four) c.sender) (f : Bursts i y c.burst (tells Stage.Four)) → b ≡ identity_block y Stage.Four → Slaved i c.hearer → c.hearer.place ≡ answering_at y Stage.Four → InCall i y d
  unfolding done heard_of
  met k f w o p =
      by_meet (λ (g : Reply). r ≡ g → InCall i y d) (knowing c.hearer (Known y)) (is_over e.offer) (λ j. so true j) (λ j. so false j) (z.is_done ∙ rw (p, no_ααα Stage.Four k f w o, RQs Stage.Four k f w o))
    where
      so : (t : Bool) → r ≡ meets (knowing c.hearer (Known y)) t → InCall i y d
      so true j =
          says (tells Stage.Four) k f (meeting true (rw j (record { role_is = o.role_is; case_is = o.case_is; plus_is = o.plus_is; owed_is = o.owed_is; own_is = o.own_is })) (ap (λ (r : Reply). r.station.place) j) (ap (λ (r : Reply). r.station.other) j) (ap (λ (r : Reply). leb r.station.count 31) j)) (ap (λ (r : Reply). r.sent) j) (rw (p, j) (refl, refl, refl, refl))
      so false j =
          says (tells Stage.Four) k f (meeting false (rw j (record { role_is = o.role_is; case_is = o.case_is; plus_is = o.plus_is; owed_is = o.owed_is; own_is = o.own_is })) (ap (λ (r : Reply). r.station.place) j) (ap (λ (r : Reply). r.station.other) j) (ap (λ (r : Reply). leb r.station.count 31) j)) (ap (λ (r : Reply). r.sent) j) (rw (p, j) (refl, refl, refl, refl))

  here : (s : Stage) (k : Caller i y (tells s) c.sender) (f : Bursts i y c.burst (tells s)) → b ≡ identity_block y s → Slaved i c.hearer → c.hearer.place ≡ answering_at y s → InCall i y d
  here Stage.One k f w o p = now Stage.One k f w o refl p
  here Stage.Two k f w o p = now Stage.Two k f w o refl p
  here Stage.Three k f w o p = now Stage.Three k f w o refl p
  here Stage.Four k f w o p = met k f w o p

  at_answering : (u : Telling) → Caller i y u c.sender → Bursts i y c.burst u → (t : Stage) (v : ℕ) → Says i u t v → Slaved i c.hearer → c.hearer.place ≡ answering_at y t → b ≡ c.burst → InCall i y d
  at_answering u k (call_block f) t v asks_calling o p w =
      stays calls k (call_block f) Stage.One o p cs4 asks_calling (row calls k (call_block f) Stage.One o p _ (rw w (no_alphas c.burst (call_ends i ci f))) (and-false (is_words b RQ×3)) (rw w (call_no_first i ci f (hearing c.hearer.own.seven no_seven Stage.One) _ refl (λ _ _ _. refl))))
  at_answering u k (identity_block_lem s f) t v (asks_here _) o p w = here s k (identity_block_lem s f) (w ∙ f) o p
  at_answering u k (identity_block_lem s f) t v (asks_behind _ j) o p w = before s k (identity_block_lem s f) (w ∙ f) o j p
  at_answering u k (identity_block_lem s f) t v (sums _ j) o p w = before s k (identity_block_lem s f) (w ∙ f) o j p

  -- behind identification: RQ RQ RQ is neither a block nor ααα nor βαβ
  at_meeting : (k : Caller i y (tells Stage.Four) c.sender) (f : Bursts i y c.burst (tells Stage.Four)) (t : Bool) → Slaved i c.hearer → c.hearer.place ≡ met_at t → c.hearer.other ≡ Known y → InCall i y d
  unfolding done heard_of
  at_meeting k (identity_block_lem _ f) t o p v =
      by_repeat (λ (g : Reply). r ≡ g → InCall i y d) c.hearer (met_by t) (λ g j. says (tells Stage.Four) k (identity_block_lem Stage.Four f) (lost (ap (λ (r : Reply). r.station.place) j)) (ap (λ (r : Reply). r.sent) j) (carries t p (ap (λ (r : Reply). r.printed) j))) (λ g j. says (tells Stage.Four) k (identity_block_lem Stage.Four f) (meeting t (rw j (record { role_is = o.role_is; case_is = o.case_is; plus_is = o.plus_is; owed_is = o.owed_is; own_is = o.own_is })) (ap (λ (r : Reply). r.station.place) j ∙ p) (ap (λ (r : Reply). r.station.other) j ∙ v) (ap (λ (r : Reply). leb r.station.count 31) j ∙ more g)) (ap (λ (r : Reply). r.sent) j) (carries t p (ap (λ (r : Reply). r.printed) j))) (repeated t p)
    where
      RQ×3_is : (w : Words) → w ≡ RQ×3 → (is_block w ≡ false) × (is_words w ααα ≡ false) × (is_words w βαβ ≡ false)
      RQ×3_is w j = unfold is_block may_hold traffic_of meaning_of is_words in subst (λ (w : Words). (is_block w ≡ false) × (is_words w ααα ≡ false) × (is_words w βαβ ≡ false)) (sym j) (refl, refl, refl)

      none : (is_block b ≡ false) × (is_words b ααα ≡ false) × (is_words b βαβ ≡ false)
      none =
          let g = RQ×3_is c.burst f in
          (no_block c.burst b m g.0, not_words c.burst b ααα m ααα-signals g.1, not_words c.burst b βαβ m βαβ-signals g.2)

      repeated : (t : Bool) → c.hearer.place ≡ met_at t → r ≡ repeats c.hearer (met_by t)
      repeated true p = z.is_done ∙ rw (p, none.2)
      repeated false p = z.is_done ∙ rw (p, none.0, none.1)

      carries : (t : Bool) → c.hearer.place ≡ met_at t → r.printed ≡ silence → Carries c.hearer b e.offer r
      carries true p j = rw (p, j) (refl, refl, refl, refl)
      carries false p j = rw (p, none.0, j) (refl, refl, refl, refl)

      more : leb 31 c.hearer.count ≡ false → leb (c.hearer.count + 1) 31 ≡ true
      more g = let l = leb-false 31 c.hearer.count g in le-leb (c.hearer.count + 1) 31 (omega arith)

  pub callee_hears : {w : Words} (u : Telling) → Callee i y c.hearer u w → Caller i y u c.sender → Bursts i y c.burst u → InCall i y d
  callee_hears u (standing x p t l) k f = at_standing u k f x p t l
  callee_hears u (answering t v s o p) k f =
      go (is_words b RQ×3) refl (whole_told c.burst b m)
    where
      go : (x : Bool) → is_words b RQ×3 ≡ x → (told_in b ≡ nothing_told) ⊎ (b ≡ c.burst) → InCall i y d
      go true x w = at_answering u k f t v s o p (whole_words c.burst b RQ×3 m RQ×3_signals x)
      go false x (inl w) =
          not_told u k f t o p s (not_words c.burst b ααα m ααα-signals (bursts_no_ααα c.burst ci cy f)) x w
      go false x (inr w) = at_answering u k f t v s o p w
  callee_hears u (meeting t o p v g) k f = at_meeting k f t o p v
  callee_hears u (lost p) k f =
      let j = lost_stays c.hearer b e.offer r z p in
      says u k f (lost (ap (λ (r : Reply). r.station.place) j)) (ap (λ (r : Reply). r.sent) j) (rw (p, j) (refl, refl, refl, refl))
