-- Document 01, "Task ids": an id is slot and epoch, 16 bits each; raw = epoch x 65,536 + slot.
use Rattle.std.specs.Prelude.{Bool, ◌&&◌, ℕ, ◌+◌, ◌*◌, ◌/◌, ◌%◌, eqb}
use Rattle.ids.specs.declared.TaskId.{TaskId}

-- how many slots a raw id can name
abbrev pub SLOTS : ℕ
SLOTS = 65536

-- how many tenants of a slot have names of their own: after so many exits an old id is known again
abbrev pub EPOCHS : ℕ
EPOCHS = 65536

abbrev pub packed : TaskId → ℕ
packed t = t.epoch * SLOTS + t.slot

abbrev pub unpacked : ℕ → TaskId
unpacked raw = record { slot = raw % SLOTS; epoch = raw / SLOTS }

abbrev pub same_id : TaskId → TaskId → Bool
same_id a b = eqb a.slot b.slot && eqb a.epoch b.epoch

-- 0/0, the idle task of CPU 0; also what stands for no id where a place is not used
abbrev pub idle : TaskId
idle = record { slot = 0; epoch = 0 }
