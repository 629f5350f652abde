use Rattle.world_safety.proofs.Scripts.{run_safe}
use Rattle.world_safety.proofs.laws.every_run_of_a_script_stays_safe.Goals as goal

pub returns : goal.returns
returns c =
    run_safe (record {
      read = c.read_rosters_are_well_formed.ensures;
      apart = c.platforms_are_apart.ensures;
      safe = c.every_run_stays_safe.ensures.safe;
      sound = c.every_run_stays_safe.ensures.sound;
      closed = c.every_run_stays_safe.ensures.closed;
      steady = c.every_run_is_steady.ensures;
      undisputed = c.no_chain_is_disputed_in_a_run.ensures.answers;
      declined = c.no_chain_is_disputed_in_a_run.ensures.declined;
      ended = c.ended_bill_stays_ended_in_a_run.ensures.ended;
      carrier = c.ended_bill_stays_ended_in_a_run.ensures.carrier;
      nobody = c.ended_bill_stays_ended_in_a_run.ensures.nobody;
      line = c.line_of_a_safe_bill_is_known_at_its_end.ensures.line;
    })
