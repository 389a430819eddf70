-- `walking::walked` meets its contract: at each place the walk stands where the passage so far does. Assumes nothing.
use native.Mathlib.Omega.{arith}
use mathlib.Core.Path.{◌≡◌, refl}
use Rattle.std.specs.Prelude.{Some, None, Ok}
use Rattle.walking.proofs.WalkingLaws.{walking_begins, standing_here, walking_less, walking_tells, walking_ends}
use Rattle.walking.proofs.walked.Goals as goal

pub loop-entry-init : goal.loop-entry-init
loop-entry-init c =
    record {
      same_record = refl;
      walks = walking_begins c.args.write c.args.from.bytes.now c.args.from.at c.args.master.now c.args.slave.now (omega arith) c.begin-walk.result c.begin-walk.ensures;
    }

pub loop-entry-smaller : goal.loop-entry-smaller
loop-entry-smaller c =
    let l = c.loop-entry in
    let f : c.look_at.result ≡ Ok (Some c.in-Some.entry) = rw c.in-Some.is at c.in_ok-entry.was in
    let k = rw (f, l.invariant.same_record) at c.look_at.ensures in
    let w = l.invariant.walks in
    let here = k.1 w.here (standing_here c.args.write c.args.from.bytes.now c.args.from.at c.args.master.now c.args.slave.now l.reader.at l.walk l.master l.slave w) in
    rw (k.0, l.invariant.same_record) (walking_less c.args.write c.args.from.bytes.now c.args.from.at c.args.master.now c.args.slave.now l.reader.at l.walk l.master l.slave w c.in-Some.entry c.look_at.new.reader.at here)

pub loop-entry-preserved : goal.loop-entry-preserved
loop-entry-preserved c =
    let l = c.loop-entry in
    let t = c.tell-walk in
    let f : c.look_at.result ≡ Ok (Some c.in-Some.entry) = rw c.in-Some.is at c.in_ok-entry.was in
    let k = rw (f, l.invariant.same_record) at c.look_at.ensures in
    let w = l.invariant.walks in
    let here = k.1 w.here (standing_here c.args.write c.args.from.bytes.now c.args.from.at c.args.master.now c.args.slave.now l.reader.at l.walk l.master l.slave w) in
    record {
      same_record = k.0;
      walks =
          walking_tells c.args.write c.args.from.bytes.now c.args.from.at c.args.master.now c.args.slave.now l.reader.at l.walk l.master l.slave w c.in-Some.entry c.look_at.new.reader.at here
          (omega arith) t.result t.new.master t.new.slave t.ensures;
    }

pub returns : goal.returns
returns c =
    let l = c.loop-entry in
    let w = l.invariant.walks in
    let f : c.look_at.result ≡ Ok None = rw c.in_default.is at c.in_ok-entry.was in
    let k = rw (f, l.invariant.same_record) at c.look_at.ensures in
    walking_ends c.args.write c.args.from.bytes.now c.args.from.at c.args.master.now c.args.slave.now l.reader.at l.walk l.master l.slave w
    (k.1 w.here (standing_here c.args.write c.args.from.bytes.now c.args.from.at c.args.master.now c.args.slave.now l.reader.at l.walk l.master l.slave w))
