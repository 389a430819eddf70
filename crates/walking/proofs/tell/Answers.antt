-- `walking::tell` meets its contract: what the entry prints is put behind the text of the station that prints it. Assumes nothing.
use Rattle.mode_a.specs.declared.Role.TheVariants.{Master, Slave}
use Rattle.walking.proofs.TellLaws.{put_asks, told_by_master, told_by_slave}
use Rattle.walking.proofs.tell.Goals as goal

pub put-requires : goal.put-requires
put-requires c =
    let g = c.goes-gone in
    put_asks c.args.walk c.args.entry c.requires g.result g.ensures Master

pub put-requires-in-Slave : goal.put-requires-in-Slave
put-requires-in-Slave c =
    let g = c.goes-gone in
    put_asks c.args.walk c.args.entry c.requires g.result g.ensures Slave

pub returns-in-Master : goal.returns-in-Master
returns-in-Master c =
    let g = c.goes-gone in
    let t = c.put in
    told_by_master c.args.walk c.args.entry c.args.write c.args.master.now c.args.slave.now g.result g.ensures c.in-Master.is t.result t.new.room t.ensures

pub returns-in-Slave : goal.returns-in-Slave
returns-in-Slave c =
    let g = c.goes-gone in
    let t = c.put-in-Slave in
    told_by_slave c.args.walk c.args.entry c.args.write c.args.master.now c.args.slave.now g.result g.ensures c.in-Slave.is t.result t.new.room t.ensures
