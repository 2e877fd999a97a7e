use Rattle.runs.proofs.Caches.{reads_schedule}
use Rattle.runs.proofs.schedule.reads_schedule_stands.Goals as goal

pub returns : goal.returns
returns c = reads_schedule
