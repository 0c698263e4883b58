-- The tables of a place; between lines no output is kept.
use Rattle.std.specs.Prelude.{[]}
use Rattle.runs.specs.Outcomes.{Memory}
use Rattle.place.specs.declared.Place.{Place}

abbrev pub tables_of : Place → Memory
tables_of p = record { tasks = p.tasks; waits = p.waits; deadlines = p.deadlines; wakes = p.wakes; out = [] }
