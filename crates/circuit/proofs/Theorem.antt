-- Demand 3, of every run of a fresh master and a fresh slave, and of every run after a call, of stations whose codes pass. Assumes nothing.
use Rattle.runs.specs.Circuit.{Circuit, after}
use Rattle.circuit.specs.Demand.{Demand3, OfEveryRun}
use Rattle.circuit.proofs.Link.{Linked}
use Rattle.circuit.proofs.RunLaws.{linked, carried, hearer_keeps, sender_keeps, never_both, no_cs3_heard}
use Rattle.circuit.proofs.LiveLaws.{one_exchange, two_are_needed, two_exchanges, confirmed_in_time}
use Rattle.circuit.proofs.SoundLaws.{BothSound, answered_if, sound_run}

of_linked : (c : Circuit) → Linked c → BothSound c → Demand3 c
of_linked c l s =
    record {
      from_hearer = carried l.owed_hearer c.from_hearer l.told_hearer;
      from_sender = carried l.owed_sender c.from_sender l.told_sender;
      hearer_keeps = hearer_keeps c l;
      sender_keeps = sender_keeps c l;
      never_both_sending = never_both c l;
      two_exchanges = two_exchanges c l;
      confirmed_in_time = confirmed_in_time c l;
      one_exchange = one_exchange c l;
      two_are_needed = two_are_needed c l;
      opening_hears_no_cs3 = no_cs3_heard c l;
      refuses_only_offers = answered_if c s;
    }

pub demand3 : OfEveryRun
demand3 c y k run a n = of_linked (after c run) (linked c y run a n) (sound_run c y k run)
