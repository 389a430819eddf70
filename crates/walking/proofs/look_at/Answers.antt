-- `walking::look_at` meets its contract: at each answer what was read there and how it was judged. Assumes nothing.
use mathlib.Core.Path.{◌≡◌}
use Rattle.std.proofs.Common.{rules}
use Rattle.std.specs.Prelude.{Err}
use Rattle.entries.specs.Entries.{told_as}
use Rattle.walking.proofs.LookLaws.{ends_none, ends_unread, ends_judged}
use Rattle.walking.proofs.look_at.Goals as goal

pub returns-in_err-entry : goal.returns-in_err-entry
returns-in_err-entry c =
    let x = c.in_err-entry.field-0.0 in
    let r : c.from_residual.result ≡ Err (told_as x) = search rules in
    let e = c.in_err-entry.ensures in
    rw r (e.2, λ p s. ends_unread c.args.reader.now.bytes.now c.args.reader.now.at p x e.0)

pub returns-in_default : goal.returns-in_default
returns-in_default c =
    let e = rw c.in_default.is at c.in_ok-entry.ensures in
    (e.2, λ p s. ends_none c.args.reader.now.bytes.now c.args.reader.now.at p e.0)

pub returns-in_err-judge : goal.returns-in_err-judge
returns-in_err-judge c =
    let y = c.in_err-judge.field-0.0 in
    let r : c.from_residual-in_err-judge.result ≡ Err y = search rules in
    let e = rw c.in-Some.is at c.in_ok-entry.ensures in
    rw r (e.2, λ p s. ends_judged c.args.reader.now.bytes.now c.args.reader.now.at p c.in-Some.entry c.next_entry.new.self.at e.0 c.args.standing s y c.in_err-judge.ensures)
