-- The four tables, each as a part of them all; the deadlines also with the output that a poll is lent.
use Rattle.std.proofs.Common.{refl}
use Rattle.answers.specs.Contract.{lent}
use Rattle.answers.proofs.Part.{Part}
use Rattle.memory.specs.View as tasks-kind
use Rattle.irqwait.specs.Waits as waits-kind
use Rattle.parktime.specs.Deadlines as deadlines-kind
use Rattle.wake.specs.Queue as wakes-kind
use Rattle.runs.specs.Tables.{with_tasks, with_waits, with_deadlines, with_wakes}
use Rattle.runs.specs.Outcomes.{Memory, view, tables, tasks_to, waits_to, deadlines_to, wakes_to}

module _ (t : Memory) where
  abbrev pub in_tasks : Part tables
  in_tasks = record { kind = tasks-kind.table; to = tasks_to t; paper = with_tasks (view t); views = λ x. refl }

  abbrev pub in_waits : Part tables
  in_waits = record { kind = waits-kind.waits; to = waits_to t; paper = with_waits (view t); views = λ x. refl }

  abbrev pub in_deadlines : Part tables
  in_deadlines = record { kind = deadlines-kind.deadlines; to = λ d. deadlines_to t d t.out; paper = λ d. with_deadlines (view t) d t.out; views = λ x. refl }

  abbrev pub in_lent : Part tables
  in_lent = record { kind = lent deadlines-kind.deadlines; to = λ d. deadlines_to t d.0 d.1; paper = λ d. with_deadlines (view t) d.0 d.1; views = λ x. refl }

  abbrev pub in_wakes : Part tables
  in_wakes = record { kind = wakes-kind.wakes; to = wakes_to t; paper = with_wakes (view t); views = λ x. refl }
