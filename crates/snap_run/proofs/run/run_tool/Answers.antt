use Rattle.std.proofs.Common.{true}
use Rattle.script_text.proofs.Fronts.{accepted_short, first_bytes_decide}
use Rattle.snap_run.proofs.Outcomes.{at_done, at_usage, at_refused, at_unfinished, at_read_fault, at_write_fault, at_no_memory, never, completes, completes_refusal, completes_usage}
use Rattle.snap_run.proofs.run.run_tool.Goals as goal

pub returns-clause-done : goal.returns-clause-done
returns-clause-done g c = at_done _ _ _ c.run.result.end c.run.result.history c.run.ensures.outcome

pub returns-clause-usage : goal.returns-clause-usage
returns-clause-usage g c = at_usage _ _ _ c.run.result.end c.run.result.history c.run.ensures.outcome

pub returns-clause-refused : goal.returns-clause-refused
returns-clause-refused g c = at_refused _ _ _ c.run.result.end c.run.result.history c.run.ensures.outcome

pub returns-clause-unfinished : goal.returns-clause-unfinished
returns-clause-unfinished g c = at_unfinished _ _ _ c.run.result.end c.run.result.history c.run.ensures.outcome

pub returns-clause-read_fault : goal.returns-clause-read_fault
returns-clause-read_fault g c = at_read_fault _ _ _ c.run.result.end c.run.result.history c.run.ensures.outcome

pub returns-clause-write_fault : goal.returns-clause-write_fault
returns-clause-write_fault g c = at_write_fault _ _ _ c.run.result.end c.run.result.history c.run.ensures.outcome

pub returns-clause-no_memory : goal.returns-clause-no_memory
returns-clause-no_memory g c = λ is. (at_no_memory _ _ _ c.run.result.end c.run.result.history c.run.ensures.outcome is, c.run.ensures.unwritten is)

pub returns-clause-never : goal.returns-clause-never
returns-clause-never g c = never _ _ _ c.run.result.end c.run.result.history c.run.ensures.outcome

pub returns-clause-complete : goal.returns-clause-complete
returns-clause-complete g c = completes (λ bytes. first_bytes_decide bytes true) (λ bytes script. accepted_short bytes true script) _ _ _ c.run.result.end c.run.result.history c.run.ensures.outcome

pub returns-clause-complete_refusal : goal.returns-clause-complete_refusal
returns-clause-complete_refusal g c = completes_refusal (λ bytes. first_bytes_decide bytes true) (λ bytes script. accepted_short bytes true script) _ _ _ c.run.result.end c.run.result.history c.run.ensures.outcome

pub returns-clause-complete_usage : goal.returns-clause-complete_usage
returns-clause-complete_usage g c = completes_usage _ _ _ c.run.result.end c.run.result.history c.run.ensures.outcome
