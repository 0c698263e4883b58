-- The bench sheet, A1 to A10: every row of its table holds of the functions that the contracts cite.
use Rattle.std.proofs.Common.{refl}
use Rattle.lists.specs.Each.{Each}
use Rattle.lists.specs.Tab.{tab}
use Rattle.lists.specs.Search.{first_at, count_of, any_of}
use Rattle.lists.specs.Entries.{freed, taken_by}
use Rattle.answers.specs.Run.{replies, left}
use Rattle.model.specs.Model.{free_slot}
use Rattle.model.specs.Steps.{claimed, start_step, start_cpu_step, admitted, admit_step, mark_step, collect_step}
use Rattle.model.specs.Switch.{loot_at, stolen, can_steal, stealing, try_steal_step, leaves, enters, parks, chooses, turn, pulls, switch_on, switch_step}
use Rattle.model.specs.Calls as task
use Rattle.irqwait.specs.Steps as waits
use Rattle.irqwait.specs.Calls as wait
use Rattle.parktime.specs.Steps as deadlines
use Rattle.wake.specs.Steps as tokens
use Rattle.wake.specs.Calls as token
use Rattle.runs.specs.Tables.{step}
use Rattle.runs.specs.Sheet.{Holds, sheet}

pub every_row : Each Holds sheet
unfolding Each sheet replies left step task.step task.tells start_step start_cpu_step claimed admit_step admitted free_slot first_at count_of any_of tab mark_step collect_step try_steal_step can_steal stealing loot_at stolen switch_step switch_on pulls turn leaves chooses enters parks wait.step waits.arm_step waits.arm_by waits.arm_at waits.walk deadlines.arm_step deadlines.place_for deadlines.poll_step deadlines.due_ids freed taken_by token.step tokens.push_step
every_row = (refl, (refl, ((refl, refl), ((refl, refl), (refl, (refl, (refl, (refl, (refl, (refl, tt))))))))))
