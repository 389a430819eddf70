-- `passing::run` meets its contract: at each answer what the first walk judged, and in the end what the second wrote. Assumes nothing.
use mathlib.Core.Path.{◌≡◌}
use Rattle.std.proofs.Common.{rules}
use Rattle.std.specs.Prelude.{Err}
use Rattle.passing.proofs.PassLaws.{passes_refused, no_master_room, no_slave_room, passes_written}
use Rattle.passing.proofs.run.Goals as goal

pub returns-in_err-needed : goal.returns-in_err-needed
returns-in_err-needed c =
    let a = c.args in
    let j = c.walked.ensures in
    let x = c.in_err-needed.field-0.0 in
    let r : c.from_residual.result ≡ Err x = search rules in
    rw (r, j.1, j.2) (passes_refused a.reader.bytes.now a.reader.at a.master.now a.slave.now x (rw c.in_err-needed.was at j.0))

pub returns-then-master-needed : goal.returns-then-master-needed
returns-then-master-needed c =
    let a = c.args in
    let j = c.walked.ensures in
    rw (j.1, j.2) (no_master_room a.reader.bytes.now a.reader.at a.master.now a.slave.now c.in_ok-needed.needed (rw c.in_ok-needed.was at j.0) (rw j.1 at c.if-master-needed.true))

pub returns-then-slave-needed : goal.returns-then-slave-needed
returns-then-slave-needed c =
    let a = c.args in
    let j = c.walked.ensures in
    rw (j.1, j.2) (
    no_slave_room a.reader.bytes.now a.reader.at a.master.now a.slave.now c.in_ok-needed.needed (rw c.in_ok-needed.was at j.0)
    (rw j.1 at c.if-master-needed.false) (rw j.2 at c.if-slave-needed.true)
    )

pub returns : goal.returns
returns c =
    let a = c.args in
    let j = c.walked.ensures in
    let v = c.walked-2 in
    passes_written a.reader.bytes.now a.reader.at a.master.now a.slave.now c.in_ok-needed.needed (rw c.in_ok-needed.was at j.0)
    (rw j.1 at c.if-master-needed.false) (rw j.2 at c.if-slave-needed.false) v.result v.new.master v.new.slave (rw (j.1, j.2) at v.ensures)
