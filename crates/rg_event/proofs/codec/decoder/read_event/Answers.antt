use Rattle.rg_bytes.proofs.Laws.{agrees_stopped}
use Rattle.rg_event.proofs.Decoding.{event_offset_stops, event_time_stops, event_values_stop, event_read}
use Rattle.rg_event.proofs.codec.decoder.read_event.Goals as goal

pub returns-in_err-read_number-clause-agrees : goal.returns-in_err-read_number-clause-agrees
returns-in_err-read_number-clause-agrees c = agrees_stopped _ _ _ c.from_residual.result _ _ c.from_residual.ensures.1 (event_offset_stops _ _ _ c.in_err-read_number.ensures.agrees)

pub returns-in_err-read_number-2-clause-agrees : goal.returns-in_err-read_number-2-clause-agrees
returns-in_err-read_number-2-clause-agrees c =
    agrees_stopped _ _ _ c.from_residual-in_err-read_number-2.result _ _ c.from_residual-in_err-read_number-2.ensures.1
    (event_time_stops _ _ _ _ _ c.in_ok-read_number.ensures.agrees c.in_err-read_number-2.ensures.agrees)

pub returns-in_err-read_values-clause-agrees : goal.returns-in_err-read_values-clause-agrees
returns-in_err-read_values-clause-agrees c =
    agrees_stopped _ _ _ c.from_residual-in_err-read_values.result _ _ c.from_residual-in_err-read_values.ensures.1
    (event_values_stop _ _ _ _ _ _ _ c.in_ok-read_number.ensures.agrees c.in_ok-read_number-2.ensures.agrees c.in_err-read_values.ensures.agrees)

pub returns-clause-agrees : goal.returns-clause-agrees
returns-clause-agrees c = event_read _ _ _ _ _ _ _ _ c.in_ok-read_number.ensures.agrees c.in_ok-read_number-2.ensures.agrees c.in_ok-read_values.ensures.agrees
