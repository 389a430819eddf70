-- No second answer: the promises of the inner functions (docs/PROMISES.md), as their contracts cite them, leave one.
-- Assumes nothing.
use mathlib.Core.Path.{◌≡◌, refl, ap, subst, sym, ◌∙◌}
use mathlib.Core.Bool.{Bool}
use mathlib.Core.List.{List, [], ◌∷◌, append_cancel_left}
use Prim.Native.Nat.{ℕ, zero, suc, ◌<◌}
use lib.Dec.{eqb}
use lib.ListN.{length, take}
use lib.Seq.{ext_get_or}
use Rattle.std.specs.Prelude.{if◌then◌else◌, Option, Some, None, Result, Ok, Err}
use Rattle.laws.proofs.Unique.{unique, unique_by}
use Rattle.numbers.specs.declared.Reader.{Reader}
use Rattle.numbers.specs.declared.Line.{Line}
use Rattle.numbers.specs.declared.Room.{Room}
use Rattle.numbers.specs.Steps.{Event, fresh_reader, taking, end_brings}
use Rattle.numbers.specs.Writing.{PutsOn, PutsWord, decimal, hexadecimal, word_at, fits_word}
use Rattle.signals.specs.declared.Case.{Case}
use Rattle.signals.specs.declared.Row.{Row}
use Rattle.signals.specs.Meaning.{traffic_of, cs4}
use Rattle.signals.specs.Cases.{other as other_case, shift_to}
use Rattle.signals.specs.Rows.{row, Rows}
use Rattle.signals.specs.Numbers.{Answer, answered, refused, first_not}
use Rattle.identity.specs.declared.Seven.{Seven}
use Rattle.identity.specs.Table3.{is_identity}
use Rattle.identity.specs.Sums.{signals_of7, check_sum1, check_sum2, check_sum3, same_seven}
use Rattle.text.specs.Encoding.{has_signal}
use Rattle.text.specs.Printing.{may_print, bytes_of}
use Rattle.judging.specs.Size.{sizes_of}
use Rattle.printing.specs.Glyph.{put_of}
use Rattle.signals.specs.Damage.{arrives}
use Rattle.mode_a.specs.declared.Role.{Role}
use Rattle.mode_a.specs.declared.Role.TheVariants.{Slave}
use Rattle.mode_a.specs.declared.Number.{Number}
use Rattle.mode_a.specs.declared.Number.TheVariants.{One}
use Rattle.mode_a.specs.declared.Mark.{Mark}
use Rattle.mode_a.specs.declared.Part.{Part}
use Rattle.mode_a.specs.declared.Succession.{Succession}
use Rattle.mode_a.specs.declared.Stage.{Stage}
use Rattle.mode_a.specs.declared.Words.{Words}
use Rattle.mode_a.specs.declared.Identity.{Identity}
use Rattle.mode_a.specs.declared.Own.{Own}
use Rattle.mode_a.specs.declared.Code.{Code}
use Rattle.mode_a.specs.declared.Owed.{Owed}
use Rattle.mode_a.specs.declared.Peer.{Peer}
use Rattle.mode_a.specs.declared.Peer.TheVariants.{Known, Barred}
use Rattle.mode_a.specs.declared.Waiting.{Waiting}
use Rattle.mode_a.specs.declared.Called.{Called}
use Rattle.mode_a.specs.declared.Called3.{Called3}
use Rattle.mode_a.specs.declared.Identified.{Identified}
use Rattle.mode_a.specs.declared.Gathered.{Gathered}
use Rattle.mode_a.specs.declared.Place.{Place}
use Rattle.mode_a.specs.declared.Offer.{Offer}
use Rattle.mode_a.specs.declared.Station.{Station}
use Rattle.mode_a.specs.declared.Listening.{Listening}
use Rattle.mode_a.specs.declared.Reply.{Reply}
use Rattle.mode_a.specs.declared.Refusal.{Refusal}
use Rattle.mode_a.proofs.Unique.{refusal_from}
use Rattle.mode_a.specs.declared.Doing.{Doing}
use Rattle.mode_a.specs.declared.Doing.TheVariants.{Bars, Ends, Meets}
use Rattle.mode_a.specs.Calls.{signals_of, call_block1, call_block2}
use Rattle.mode_a.specs.Station.{words, single, silence, fresh_master, other, same, asks_for, mark_of}
use Rattle.mode_a.specs.Identification.{identity_block, told_in}
use Rattle.mode_a.specs.Heard.{Cs, Cs3, Else, Cs4, Letter, may_hold, is_words, call_of, call3_of}
use Rattle.mode_a.specs.Answerback.{passes, block_owed, owed_then, owed_exists}
use Rattle.mode_a.specs.Rows.{requests, calls_on, calling, stand_by, all_heard, heard_then, calls_on3, calling3, identifying, same_block, hearing, is_last}
use Rattle.mode_a.specs.Step.{moved_to, cancelled_to, sends, is_over, heard_at, owing, accepts, repeats, again, rested, begun, listens, knowing, meets, ends, turns, unidentified, sound, said_refusal, TellsRefusal, done}
use Rattle.table.specs.declared.Kind.{Kind}
use Rattle.table.specs.declared.Action.{Action}
use Rattle.table.specs.Kinds.{kind_of, column_of}
use Rattle.table.specs.Actions.{action_of, row_no}
use Rattle.carried.specs.Carried.{number_in, block_in, total_in, waiting_in, called_in, called3_in, identified_in, gathered_in}
use Rattle.moves.specs.Moves.{asked, ends_again, ended}
use Rattle.doings.specs.Doings.{doing_of}
use Rattle.offers.specs.declared.Going.{Going}
use Rattle.offers.specs.Goes.{next_of, takes_next}
use Rattle.refusals.specs.Parts.{bad_offer, bad_call}
use Rattle.refusals.specs.Judging.{said_judged, Judges}
use Rattle.entries.specs.declared.Entry.{Entry}
use Rattle.entries.specs.declared.ReadError.{ReadError}
use Rattle.entries.specs.declared.Standing.{Standing}
use Rattle.entries.specs.Entries.{other_role, same_role, Read, read_to, Stays, ReadsOn}
use Rattle.entries.specs.Passage.{Passage, begins, hearing as hearer_of, offer_to, offering, damage_to, tells, fault_of, signals_of as signals_by}
use Rattle.entries.specs.Passing.{Passed, said_passed}
use Rattle.entries.proofs.Unique.{passed_from, passed_back}
use Rattle.typing.specs.declared.Typed.{Typed}
use Rattle.typing.specs.Typing.{signals_in, Types}
use Rattle.telling.specs.declared.Fault.{Fault}
use Rattle.telling.specs.declared.Told.{Told}
use Rattle.telling.specs.Telling.{number_of, told_by, Leaves}
use Rattle.replay.specs.declared.State.{State}
use Rattle.replay.specs.declared.Gone.{Gone}
use Rattle.replay.specs.Replay.{state_of, Goes}
use Rattle.walking.specs.Walk.{Walks}

-- `signals::rows`: that there are 35 rows is the answer's type, `[Row; 35]`, and `Rows` says what each is
pub rows_unique : (r r' : List Row) → length r ≡ 35 → length r' ≡ 35 → Rows r → Rows r' → r ≡ r'
rows_unique r r' n n' p q =
    ext_get_or (row 0 0 0) r r' (unique n n') (λ at h. unique (p at (subst (λ k. at < k) n h)) (q at (subst (λ k. at < k) n h)))

-- `signals::is_traffic`
pub is_traffic_unique : (w : ℕ) (r r' : Bool) → r ≡ traffic_of w → r' ≡ traffic_of w → r ≡ r'
is_traffic_unique w r r' p q = unique p q

-- `characters::first_without`
pub first_without_unique : (text : List ℕ) (r r' : ℕ) → r ≡ first_not has_signal text → r' ≡ first_not has_signal text → r ≡ r'
first_without_unique text r r' p q = unique p q

-- `Case::other`, `Case::shift`
pub other_case_unique : (c r r' : Case) → r ≡ other_case c → r' ≡ other_case c → r ≡ r'
other_case_unique c r r' p q = unique p q

pub shift_unique : (c : Case) (r r' : ℕ) → r ≡ shift_to c → r' ≡ shift_to c → r ≡ r'
shift_unique c r r' p q = unique p q

-- `judging::first_bad`, `judging::needed`
pub first_bad_unique : (ws : List ℕ) (r r' : ℕ) → r ≡ first_not may_print ws → r' ≡ first_not may_print ws → r ≡ r'
first_bad_unique ws r r' p q = unique p q

pub needed_unique : (ws : List ℕ) (r r' : ℕ) → r ≡ sizes_of ws → r' ≡ sizes_of ws → r ≡ r'
needed_unique ws r r' p q = unique p q

-- `printing::glyph`: the byte, read back from what is put for it
abbrev byte_in : List ℕ → ℕ
byte_in [] = 0
byte_in (b ∷ bs) = b

put_back : (r : ℕ) → byte_in (put_of r) ≡ r
put_back zero = refl
put_back (suc g) = refl

pub glyph_unique : (c : Case) (w : ℕ) (r r' : ℕ) → put_of r ≡ bytes_of c w → put_of r' ≡ bytes_of c w → r ≡ r'
glyph_unique c w r r' p q = unique_by put_of byte_in put_back p q

-- `identity::may_identify`, `identity::outside`, and the functions of `Seven`
pub may_identify_unique : (w : ℕ) (r r' : Bool) → r ≡ is_identity w → r' ≡ is_identity w → r ≡ r'
may_identify_unique w r r' p q = unique p q

pub outside_unique : (w place rest : ℕ) (r r' : ℕ) → r ≡ (if is_identity w then rest else place) → r' ≡ (if is_identity w then rest else place) → r ≡ r'
outside_unique w place rest r r' p q = unique p q

pub check_sum_1_unique : (i : Seven) (r r' : ℕ) → r ≡ check_sum1 i → r' ≡ check_sum1 i → r ≡ r'
check_sum_1_unique i r r' p q = unique p q

pub check_sum_2_unique : (i : Seven) (r r' : ℕ) → r ≡ check_sum2 i → r' ≡ check_sum2 i → r ≡ r'
check_sum_2_unique i r r' p q = unique p q

pub check_sum_3_unique : (i : Seven) (r r' : ℕ) → r ≡ check_sum3 i → r' ≡ check_sum3 i → r ≡ r'
check_sum_3_unique i r r' p q = unique p q

pub seven_first_outside_unique : (i : Seven) (r r' : ℕ) → r ≡ first_not is_identity (signals_of7 i) → r' ≡ first_not is_identity (signals_of7 i) → r ≡ r'
seven_first_outside_unique i r r' p q = unique p q

pub seven_same_unique : (i j : Seven) (r r' : Bool) → r ≡ same_seven i j → r' ≡ same_seven i j → r ≡ r'
seven_same_unique i j r r' p q = unique p q

-- `mode_a::may_hold`, and the functions of `Number` and `Identity`
pub may_hold_unique : (w : ℕ) (r r' : Bool) → r ≡ may_hold w → r' ≡ may_hold w → r ≡ r'
may_hold_unique w r r' p q = unique p q

pub other_unique : (n r r' : Number) → r ≡ other n → r' ≡ other n → r ≡ r'
other_unique n r r' p q = unique p q

pub same_unique : (n m : Number) (r r' : Bool) → r ≡ same n m → r' ≡ same n m → r ≡ r'
same_unique n m r r' p q = unique p q

pub asks_unique : (n : Number) (r r' : Words) → r ≡ asks_for n → r' ≡ asks_for n → r ≡ r'
asks_unique n r r' p q = unique p q

pub mark_unique : (n : Number) (r r' : Mark) → r ≡ mark_of n → r' ≡ mark_of n → r ≡ r'
mark_unique n r r' p q = unique p q

pub is_last_unique : (s : Stage) (r r' : Bool) → r ≡ is_last s → r' ≡ is_last s → r ≡ r'
is_last_unique s r r' p q = unique p q

pub block_1_unique : (i : Identity) (r r' : Words) → r ≡ call_block1 i → r' ≡ call_block1 i → r ≡ r'
block_1_unique i r r' p q = unique p q

pub block_2_unique : (i : Identity) (r r' : Words) → r ≡ call_block2 i → r' ≡ call_block2 i → r ≡ r'
block_2_unique i r r' p q = unique p q

pub first_outside_unique : (i : Identity) (r r' : ℕ) → r ≡ first_not is_identity (signals_of i) → r' ≡ first_not is_identity (signals_of i) → r ≡ r'
first_outside_unique i r r' p q = unique p q

-- `table::is_words`, `table::row_no`, `table::kind_of`, `table::column_of`, `table::action_at`
pub is_words_unique : (b : Words) (x y z : ℕ) (r r' : Bool) → r ≡ is_words b (words x y z) → r' ≡ is_words b (words x y z) → r ≡ r'
is_words_unique b x y z r r' p q = unique p q

pub row_no_unique : (place : Place) (r r' : ℕ) → r ≡ row_no place → r' ≡ row_no place → r ≡ r'
row_no_unique place r r' p q = unique p q

pub kind_of_unique : (b : Words) (r r' : Kind) → r ≡ kind_of b → r' ≡ kind_of b → r ≡ r'
kind_of_unique b r r' p q = unique p q

pub column_of_unique : (kind : Kind) (r r' : ℕ) → r ≡ column_of kind → r' ≡ column_of kind → r ≡ r'
column_of_unique kind r r' p q = unique p q

pub action_at_unique : (place : Place) (kind : Kind) (r r' : Action) → r ≡ action_of place kind → r' ≡ action_of place kind → r ≡ r'
action_at_unique place kind r r' p q = unique p q

-- `carried`: what a place carries
pub number_in_unique : (place : Place) (r r' : Number) → r ≡ number_in place → r' ≡ number_in place → r ≡ r'
number_in_unique place r r' p q = unique p q

pub block_in_unique : (place : Place) (r r' : Words) → r ≡ block_in place → r' ≡ block_in place → r ≡ r'
block_in_unique place r r' p q = unique p q

pub total_in_unique : (place : Place) (r r' : ℕ) → r ≡ total_in place → r' ≡ total_in place → r ≡ r'
total_in_unique place r r' p q = unique p q

pub waiting_in_unique : (place : Place) (r r' : Waiting) → r ≡ waiting_in place → r' ≡ waiting_in place → r ≡ r'
waiting_in_unique place r r' p q = unique p q

pub called_in_unique : (place : Place) (r r' : Called) → r ≡ called_in place → r' ≡ called_in place → r ≡ r'
called_in_unique place r r' p q = unique p q

pub called3_in_unique : (place : Place) (r r' : Called3) → r ≡ called3_in place → r' ≡ called3_in place → r ≡ r'
called3_in_unique place r r' p q = unique p q

pub identified_in_unique : (place : Place) (r r' : Identified) → r ≡ identified_in place → r' ≡ identified_in place → r ≡ r'
identified_in_unique place r r' p q = unique p q

pub gathered_in_unique : (place : Place) (r r' : Gathered) → r ≡ gathered_in place → r' ≡ gathered_in place → r ≡ r'
gathered_in_unique place r r' p q = unique p q

-- `calling3`: what Stand-by hears of a three-block call, and what Calling with three blocks does
pub call_of_unique : (seven : Seven) (b : Words) (r r' : Part) → r ≡ call3_of seven b → r' ≡ call3_of seven b → r ≡ r'
call_of_unique seven b r r' p q = unique p q

pub all_heard_unique : (before : Succession) (heard : Part) (r r' : Bool) → r ≡ all_heard before heard → r' ≡ all_heard before heard → r ≡ r'
all_heard_unique before heard r r' p q = unique p q

pub heard_then_unique : (before : Succession) (heard : Part) (r r' : Succession) → r ≡ heard_then before heard → r' ≡ heard_then before heard → r ≡ r'
heard_then_unique before heard r r' p q = unique p q

pub calls_on_3_unique : (place : Place) (r r' : Doing) → r ≡ calls_on3 (called3_in place) → r' ≡ calls_on3 (called3_in place) → r ≡ r'
calls_on_3_unique place r r' p q = unique p q

pub identifies_unique : (place : Place) (own : Own) (r r' : Doing) → r ≡ calling3 own.seven (called3_in place) (Else Cs4) → r' ≡ calling3 own.seven (called3_in place) (Else Cs4) → r ≡ r'
identifies_unique place own r r' p q = unique p q

pub ends_3_unique : (place : Place) (r r' : Doing) → r ≡ Ends (called3_in place).to → r' ≡ Ends (called3_in place).to → r ≡ r'
ends_3_unique place r r' p q = unique p q

pub stops_unique : (place : Place) (r r' : Doing) → r ≡ Bars (called3_in place).to → r' ≡ Bars (called3_in place).to → r ≡ r'
stops_unique place r r' p q = unique p q

-- `calling::listening`, `calling::calls_on`, `calling::called`
pub listening_unique : (place : Place) (own : Own) (burst : Words) (r r' : Doing) → r ≡ stand_by (waiting_in place) (call_of own.four burst) (call3_of own.seven burst) → r' ≡ stand_by (waiting_in place) (call_of own.four burst) (call3_of own.seven burst) → r ≡ r'
listening_unique place own burst r r' p q = unique p q

pub calls_on_unique : (place : Place) (heard : Mark) (r r' : Doing) → r ≡ calls_on (called_in place) heard → r' ≡ calls_on (called_in place) heard → r ≡ r'
calls_on_unique place heard r r' p q = unique p q

pub called_unique : (place : Place) (number : Number) (r r' : Doing) → r ≡ calling (called_in place) (Cs number) → r' ≡ calling (called_in place) (Cs number) → r ≡ r'
called_unique place number r r' p q = unique p q

-- `identifying`: Identifying, by what is heard
pub identity_block_unique : (own : Seven) (stage : Stage) (r r' : Words) → r ≡ identity_block own stage → r' ≡ identity_block own stage → r ≡ r'
identity_block_unique own stage r r' p q = unique p q

pub compared_unique : (place : Place) (own : Own) (letter : ℕ) (r r' : Doing) → r ≡ identifying own.seven (identified_in place) (Else (Letter letter)) → r' ≡ identifying own.seven (identified_in place) (Else (Letter letter)) → r ≡ r'
compared_unique place own letter r r' p q = unique p q

pub block_again_unique : (place : Place) (own : Own) (r r' : Doing) → r ≡ same_block own.seven (identified_in place) → r' ≡ same_block own.seven (identified_in place) → r ≡ r'
block_again_unique place own r r' p q = unique p q

pub taken_if_last_unique : (place : Place) (own : Own) (r r' : Doing) → r ≡ identifying own.seven (identified_in place) (Cs One) → r' ≡ identifying own.seven (identified_in place) (Cs One) → r ≡ r'
taken_if_last_unique place own r r' p q = unique p q

pub turned_if_last_unique : (place : Place) (own : Own) (r r' : Doing) → r ≡ identifying own.seven (identified_in place) Cs3 → r' ≡ identifying own.seven (identified_in place) Cs3 → r ≡ r'
turned_if_last_unique place own r r' p q = unique p q

-- `answering::gathered`, `answering::met_if_last`
pub gathered_unique : (place : Place) (own : Own) (burst : Words) (r r' : Doing) → r ≡ hearing own.seven (gathered_in place).got (gathered_in place).stage (told_in burst) → r' ≡ hearing own.seven (gathered_in place).got (gathered_in place).stage (told_in burst) → r ≡ r'
gathered_unique place own burst r r' p q = unique p q

pub met_if_last_unique : (place : Place) (own : Own) (burst : Words) (r r' : Doing) → r ≡ (if is_last (gathered_in place).stage then Meets (gathered_in place).got else hearing own.seven (gathered_in place).got (gathered_in place).stage (told_in burst)) → r' ≡ (if is_last (gathered_in place).stage then Meets (gathered_in place).got else hearing own.seven (gathered_in place).got (gathered_in place).stage (told_in burst)) → r ≡ r'
met_if_last_unique place own burst r r' p q = unique p q

-- `moves::asked`, `moves::ends_again`, `moves::ended`, `moves::requests`
pub asked_unique : (heard number : Number) (block : Words) (r r' : Doing) → r ≡ asked heard number block → r' ≡ asked heard number block → r ≡ r'
asked_unique heard number block r r' p q = unique p q

pub ends_again_unique : (number : Number) (total : ℕ) (r r' : Doing) → r ≡ ends_again number total → r' ≡ ends_again number total → r ≡ r'
ends_again_unique number total r r' p q = unique p q

pub ended_unique : (heard number : Number) (total : ℕ) (r r' : Doing) → r ≡ ended heard number total → r' ≡ ended heard number total → r ≡ r'
ended_unique heard number total r r' p q = unique p q

pub requests_unique : (role : Role) (r r' : Words) → r ≡ requests role → r' ≡ requests role → r ≡ r'
requests_unique role r r' p q = unique p q

-- `doings::doing`
pub doing_unique : (action : Action) (role : Role) (place : Place) (own : Own) (burst : Words) (r r' : Doing) → r ≡ doing_of action role place own burst → r' ≡ doing_of action role place own burst → r ≡ r'
doing_unique action role place own burst r r' p q = unique p q

-- `stands`: the station after a step, an answer that only sends, a repetition
pub moved_to_unique : (s : Station) (place : Place) (r r' : Station) → r ≡ moved_to s place → r' ≡ moved_to s place → r ≡ r'
moved_to_unique s place r r' p q = unique p q

pub cancelled_to_unique : (s : Station) (place : Place) (r r' : Station) → r ≡ cancelled_to s place → r' ≡ cancelled_to s place → r ≡ r'
cancelled_to_unique s place r r' p q = unique p q

pub heard_at_unique : (s : Station) (place : Place) (l : Listening) (r r' : Station) → r ≡ heard_at s place l → r' ≡ heard_at s place l → r ≡ r'
heard_at_unique s place l r r' p q = unique p q

pub owing_at_unique : (s : Station) (place : Place) (w : Owed) (r r' : Station) → r ≡ moved_to (owing s w) place → r' ≡ moved_to (owing s w) place → r ≡ r'
owing_at_unique s place w r r' p q = unique p q

pub asked_at_unique : (s : Station) (place : Place) (l : Listening) (w : Owed) (r r' : Station) → r ≡ owing (heard_at s place l) w → r' ≡ owing (heard_at s place l) w → r ≡ r'
asked_at_unique s place l w r r' p q = unique p q

pub rested_unique : (s : Station) (wait : ℕ) (r r' : Station) → r ≡ rested s wait → r' ≡ rested s wait → r ≡ r'
rested_unique s wait r r' p q = unique p q

pub begun_unique : (s : Station) (role : Role) (place : Place) (r r' : Station) → r ≡ begun s role place → r' ≡ begun s role place → r ≡ r'
begun_unique s role place r r' p q = unique p q

pub knowing_unique : (s : Station) (end : Peer) (r r' : Station) → r ≡ knowing s end → r' ≡ knowing s end → r ≡ r'
knowing_unique s end r r' p q = unique p q

pub sends_unique : (s : Station) (w : Words) (r r' : Reply) → r ≡ sends s w → r' ≡ sends s w → r ≡ r'
sends_unique s w r r' p q = unique p q

pub repeats_unique : (s : Station) (w : Words) (r r' : Reply) → r ≡ repeats s w → r' ≡ repeats s w → r ≡ r'
repeats_unique s w r r' p q = unique p q

pub again_unique : (s : Station) (place : Place) (w : Words) (r r' : Reply) → r ≡ again s place w → r' ≡ again s place w → r ≡ r'
again_unique s place w r r' p q = unique p q

-- `answerback::passes`
pub passes_unique : (code : Code) (r r' : Bool) → r ≡ passes code → r' ≡ passes code → r ≡ r'
passes_unique code r r' p q = unique p q

-- `owed`: whether the answer has the block that is owed, that block, and what is owed behind it
pub exists_unique : (code : Code) (w : Owed) (r r' : Bool) → r ≡ owed_exists code w → r' ≡ owed_exists code w → r ≡ r'
exists_unique code w r r' p q = unique p q

pub block_unique : (code : Code) (w : Owed) (r r' : Words) → r ≡ block_owed code w → r' ≡ block_owed code w → r ≡ r'
block_unique code w r r' p q = unique p q

pub then_unique : (code : Code) (w : Owed) (r r' : Owed) → r ≡ owed_then code w → r' ≡ owed_then code w → r ≡ r'
then_unique code w r r' p q = unique p q

-- `acceptance::is_over`, `acceptance::accepts`; `offers::next`, `offers::takes`, `offers::listens`
pub is_over_unique : (o : Offer) (r r' : Bool) → r ≡ is_over o → r' ≡ is_over o → r ≡ r'
is_over_unique o r r' p q = unique p q

pub accepts_unique : (s : Station) (n : Number) (b : Words) (o : Offer) (r r' : Reply) → r ≡ accepts s n b o → r' ≡ accepts s n b o → r ≡ r'
accepts_unique s n b o r r' p q = unique p q

pub next_unique : (s : Station) (o : Offer) (r r' : Going) → r ≡ next_of s.own.code s.owed o → r' ≡ next_of s.own.code s.owed o → r ≡ r'
next_unique s o r r' p q = unique p q

pub takes_unique : (s : Station) (n : Number) (x : Going) (r r' : Reply) → r ≡ takes_next s n x → r' ≡ takes_next s n x → r ≡ r'
takes_unique s n x r r' p q = unique p q

pub listens_unique : (s : Station) (w : Waiting) (o : Offer) (r r' : Reply) → r ≡ listens s w o → r' ≡ listens s w o → r ≡ r'
listens_unique s w o r r' p q = unique p q

-- `meeting`: a three-block call heard, failed, ended by CS5; identification ended by CS3, by RQ RQ RQ
pub answers3_unique : (s : Station) (r r' : Reply) → r ≡ sends (begun s Slave unidentified) (single cs4) → r' ≡ sends (begun s Slave unidentified) (single cs4) → r ≡ r'
answers3_unique s r r' p q = unique p q

pub bars_unique : (s : Station) (to : Seven) (r r' : Reply) → r ≡ sends (rested (knowing s (Barred to)) 0) silence → r' ≡ sends (rested (knowing s (Barred to)) 0) silence → r ≡ r'
bars_unique s to r r' p q = unique p q

pub ends_unique : (s : Station) (to : Seven) (r r' : Reply) → r ≡ ends (knowing s (Barred to)) → r' ≡ ends (knowing s (Barred to)) → r ≡ r'
ends_unique s to r r' p q = unique p q

pub turns_unique : (s : Station) (to : Seven) (r r' : Reply) → r ≡ turns (knowing s (Known to)) → r' ≡ turns (knowing s (Known to)) → r ≡ r'
turns_unique s to r r' p q = unique p q

pub meets_unique : (s : Station) (got : Seven) (o : Offer) (r r' : Reply) → r ≡ meets (knowing s (Known got)) (is_over o) → r' ≡ meets (knowing s (Known got)) (is_over o) → r ≡ r'
meets_unique s got o r r' p q = unique p q

-- `refusals`: what a step refuses
pub sound_unique : (s : Station) (r r' : Bool) → r ≡ sound s → r' ≡ sound s → r ≡ r'
sound_unique s r r' p q = unique p q

pub bad_offer_unique : (o : Offer) (r r' : ℕ) → r ≡ bad_offer o → r' ≡ bad_offer o → r ≡ r'
bad_offer_unique o r r' p q = unique p q

pub bad_call_unique : (s : Station) (o : Offer) (r r' : ℕ) → r ≡ bad_call s.own o → r' ≡ bad_call s.own o → r ≡ r'
bad_call_unique s o r r' p q = unique p q

abbrev judged_from : Answer (Unit {0}) → Result (Unit {0}) Refusal
judged_from (answered u) = Ok u
judged_from (refused n v) = Err (refusal_from n v)

judged_back : (r : Result (Unit {0}) Refusal) → judged_from (said_judged r) ≡ r
judged_back (Ok u) = refl
judged_back (Err Refusal.BadStation) = refl
judged_back (Err Refusal.BadCode) = refl
judged_back (Err (Refusal.BadWord i)) = refl
judged_back (Err (Refusal.BadCall i)) = refl

pub judged_unique : (s : Station) (o : Offer) (r r' : Result (Unit {0}) Refusal) → Judges s o r → Judges s o r' → r ≡ r'
judged_unique s o r r' p q = unique_by said_judged judged_from judged_back p q

-- `Refusal::told`
abbrev numbers_in : Answer Reply → ℕ × ℕ
numbers_in (answered r) = (0, 0)
numbers_in (refused n v) = (n, v)

pub told_unique : (e : Refusal) (t t' : ℕ × ℕ) → TellsRefusal e t → TellsRefusal e t' → t ≡ t'
told_unique e t t' p q = ap numbers_in (unique (sym p) (sym q))

-- `replies::done`
pub done_unique : (s : Station) (b : Words) (o : Offer) (d : Doing) (r r' : Reply) → r ≡ done s b o d → r' ≡ done s b o d → r ≡ r'
done_unique s b o d r r' p q = unique p q

-- `numbers::Reader`
pub new_unique : (r r' : Reader) → r ≡ fresh_reader → r' ≡ fresh_reader → r ≡ r'
new_unique r r' p q = unique p q

pub take_unique : (self : Reader) (byte : ℕ) (r r' : Event) (after after' : Reader) → r ≡ (taking self byte).event → after ≡ (taking self byte).reader → r' ≡ (taking self byte).event → after' ≡ (taking self byte).reader → (r ≡ r') × (after ≡ after')
take_unique self byte r r' after after' p q p' q' = (unique p p', unique q q')

pub end_unique : (self : Reader) (r r' : Option ℕ) → r ≡ end_brings self → r' ≡ end_brings self → r ≡ r'
end_unique self r r' p q = unique p q

-- `numbers::Room`: of what a room is afterwards, the place, its bytes, and that they are lent from the same place
pub record SameRoom (l m : Room) : Type 0 where
  pub at : l.at ≡ m.at
  pub bytes : l.room.now ≡ m.room.now
  pub same_reference : l.room.ghost_name ≡ m.room.ghost_name

pub room_new_unique : (l r r' : Room) → r.room.ghost_name ≡ l.room.ghost_name → r.room.now ≡ l.room.now → r.at ≡ 0 → r'.room.ghost_name ≡ l.room.ghost_name → r'.room.now ≡ l.room.now → r'.at ≡ 0 → SameRoom r r'
room_new_unique l r r' n b a n' b' a' = record { at = unique a a'; bytes = unique b b'; same_reference = unique n n' }

puts_unique : (l : Room) (bytes : List ℕ) (r r' : Room) → PutsOn l bytes r → PutsOn l bytes r' → SameRoom r r'
puts_unique l bytes r r' p q =
    record { at = unique p.puts.ended q.puts.ended; bytes = unique p.puts.holds q.puts.holds; same_reference = unique p.same_reference q.same_reference }

pub bytes_unique : (l : Room) (r r' : List ℕ) → r ≡ take l.at l.room.now → r' ≡ take l.at l.room.now → r ≡ r'
bytes_unique l r r' p q = unique p q

pub put_unique : (l : Room) (byte : ℕ) (r r' : Room) → PutsOn l (byte ∷ []) r → PutsOn l (byte ∷ []) r' → SameRoom r r'
put_unique l byte r r' p q = puts_unique l (byte ∷ []) r r' p q

pub put_all_unique : (l : Room) (bytes : List ℕ) (r r' : Room) → PutsOn l bytes r → PutsOn l bytes r' → SameRoom r r'
put_all_unique l bytes r r' p q = puts_unique l bytes r r' p q

pub put_number_unique : (l : Room) (number : ℕ) (r r' : Room) → PutsOn l (decimal number) r → PutsOn l (decimal number) r' → SameRoom r r'
put_number_unique l number r r' p q = puts_unique l (decimal number) r r' p q

pub put_hex_unique : (l : Room) (byte : ℕ) (r r' : Room) → PutsOn l (hexadecimal byte) r → PutsOn l (hexadecimal byte) r' → SameRoom r r'
put_hex_unique l byte r r' p q = puts_unique l (hexadecimal byte) r r' p q

pub fits_word_unique : (size at : ℕ) (r r' : Bool) → r ≡ fits_word size at → r' ≡ fits_word size at → r ≡ r'
fits_word_unique size at r r' p q = unique p q

pub put_word_unique : (room : List ℕ) (at column word : ℕ) (r r' : Line) (after after' : List ℕ) → PutsWord room at column word r after → PutsWord room at column word r' after' → (r ≡ r') × (after ≡ after')
put_word_unique room at column word r r' after after' p q =
    (λ i. record { at = unique p.0.ended q.0.ended i; column = unique p.1 q.1 i }, unique p.0.holds q.0.holds)

pub put_word_same_room : (l : Room) (column word : ℕ) (r r' : Room) → PutsOn l (word_at column word) r → PutsOn l (word_at column word) r' → SameRoom r r'
put_word_same_room l column word r r' p q = puts_unique l (word_at column word) r r' p q

-- `entries::other`, `entries::same`, `Reader::next_entry`
pub other_role_unique : (role r r' : Role) → r ≡ other_role role → r' ≡ other_role role → r ≡ r'
other_role_unique role r r' p q = unique p q

pub same_role_unique : (one role : Role) (r r' : Bool) → r ≡ same_role one role → r' ≡ same_role one role → r ≡ r'
same_role_unique one role r r' p q = unique p q

-- what a reader answers, and the reader
answer_in : Read → Result (Option Entry) ReadError
answer_in (Ok (Some x)) = Ok (Some x.0)
answer_in (Ok None) = Ok None
answer_in (Err x) = Err x

place_in : ℕ → Read → ℕ
place_in at (Ok (Some x)) = x.1
place_in at (Ok None) = at
place_in at (Err x) = at

answer_back : (r : Result (Option Entry) ReadError) (past : ℕ) → answer_in (read_to r past) ≡ r
unfolding answer_in
answer_back (Ok (Some e)) past = refl
answer_back (Ok None) past = refl
answer_back (Err x) past = refl

place_back : (at : ℕ) (r : Result (Option Entry) ReadError) (past : ℕ) → Stays r at past → place_in at (read_to r past) ≡ past
unfolding place_in
place_back at (Ok (Some e)) past s = refl
place_back at (Ok None) past s = sym s
place_back at (Err x) past s = sym s

pub next_entry_unique : (bytes : List ℕ) (at : ℕ) (r r' : Result (Option Entry) ReadError) (b b' : List ℕ) (past past' : ℕ) → ReadsOn bytes at r b past → ReadsOn bytes at r' b' past' → (r ≡ r') × (b ≡ b') × (past ≡ past')
next_entry_unique bytes at r r' b b' past past' p q =
    let same : read_to r past ≡ read_to r' past' = unique p.0 q.0 in (
      sym (answer_back r past) ∙ ap answer_in same ∙ answer_back r' past',
      unique p.2 q.2,
      sym (place_back at r past p.1) ∙ ap (place_in at) same ∙ place_back at r' past' q.1,
    )

-- `typing::put`: the answer, and the lent room
pub put_signals_unique : (ws : Words) (t : Typed) (write : Bool) (room : List ℕ) (r r' : Typed) (after after' : List ℕ) → Types (signals_in ws) t write room r after → Types (signals_in ws) t write room r' after' → (r ≡ r') × (after ≡ after')
put_signals_unique ws t write room r r' after after' p q = (unique p.0 q.0, unique p.1 q.1)

-- `telling::first`, `hearing`, `offer_to`, `offered`, `says`, `damaged`
pub first_unique : (r r' : Standing) → r ≡ begins.standing → r' ≡ begins.standing → r ≡ r'
first_unique r r' p q = unique p q

pub hearing_unique : (s : Standing) (r r' : Role) → r ≡ hearer_of s → r' ≡ hearer_of s → r ≡ r'
hearing_unique s r r' p q = unique p q

pub offer_to_unique : (s : Standing) (role : Role) (r r' : Offer) → r ≡ offer_to s role → r' ≡ offer_to s role → r ≡ r'
offer_to_unique s role r r' p q = unique p q

pub offered_unique : (s : Standing) (role : Role) (o : Offer) (r r' : Standing) → r ≡ offering s role o → r' ≡ offering s role o → r ≡ r'
offered_unique s role o r r' p q = unique p q

pub says_unique : (e : Entry) (r r' : Told) → r ≡ told_by e → r' ≡ told_by e → r ≡ r'
says_unique e r r' p q = unique p q

pub damaged_unique : (b : Words) (d : ℕ) (r r' : Words) → r ≡ words (arrives (damage_to d 0) b.0) (arrives (damage_to d 1) b.1) (arrives (damage_to d 2) b.2) → r' ≡ words (arrives (damage_to d 0) b.0) (arrives (damage_to d 1) b.1) (arrives (damage_to d 2) b.2) → r ≡ r'
damaged_unique b d r r' p q = unique p q

-- `telling::turned`: it is told of every answer that took the offer or not, and there is one of each
pub turned_unique : (s : Standing) (taken : Bool) (r r' : Standing) → Leaves s taken r → Leaves s taken r' → r ≡ r'
turned_unique s taken r r' p q =
    let x : Reply = record { station = fresh_master; sent = silence; printed = silence; taken = taken } in
    unique (p x refl) (q x refl)

-- `replay::fresh`, `telling::fault_of`
pub fresh_unique : (r r' : State) → r ≡ state_of begins → r' ≡ state_of begins → r ≡ r'
fresh_unique r r' p q = unique p q

abbrev fault_no : ℕ → Result (Unit {0}) Fault
fault_no n =
    if eqb n 12 then Err Fault.BadBurst else if eqb n 13 then Err Fault.StillOffered else if eqb n 3 then Err Fault.BadWord else Ok tt

fault_back : (r : Result (Unit {0}) Fault) → fault_no (number_of r) ≡ r
fault_back (Ok u) = refl
fault_back (Err Fault.BadBurst) = refl
fault_back (Err Fault.StillOffered) = refl
fault_back (Err Fault.BadWord) = refl

pub fault_of_unique : (s : Standing) (e : Entry) (r r' : Result (Unit {0}) Fault) → number_of r ≡ fault_of s e → number_of r' ≡ fault_of s e → r ≡ r'
fault_of_unique s e r r' p q = unique_by number_of fault_no fault_back p q

-- `replay::goes`, of a state that a passage has: the state after it, and the signals that each station prints. Where the zeros stand among
-- the three words, and by whom nothing is printed, is left open.
abbrev pub prints_by : Gone → Role → List ℕ
prints_by r by = if same_role by r.by then signals_in r.printed else []

pub goes_unique : (s : State) (e : Entry) (p : Passage) → s ≡ state_of p → (r r' : Gone) → Goes s (λ q. tells q e) r → Goes s (λ q. tells q e) r' → (r.state ≡ r'.state) × ((by : Role) → prints_by r by ≡ prints_by r' by)
goes_unique s e p stands r r' g g' =
    (unique (g p stands).state_is (g' p stands).state_is, λ by. append_cancel_left (signals_by p by) (prints_by r by) (prints_by r' by) (sym ((g p stands).prints by) ∙ (g' p stands).prints by))

-- `walking::walked`: the answer, and the two lent rooms
pub walked_unique : (write : Bool) (bytes : List ℕ) (from : ℕ) (m s : List ℕ) (r r' : Passed) (m' m'' s' s'' : List ℕ) → Walks write bytes from m s r m' s' → Walks write bytes from m s r' m'' s'' → (r ≡ r') × (m' ≡ m'') × (s' ≡ s'')
walked_unique write bytes from m s r r' m' m'' s' s'' p q =
    (unique_by said_passed passed_from passed_back p.0 q.0, unique p.1 q.1, unique p.2 q.2)
