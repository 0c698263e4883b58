-- A slot with a mark, then the walk, then the lowest free place: each return by its case.
use Rattle.std.proofs.Common.{refl, arith}
use Rattle.irqwait.proofs.Returns.{arms_far, arms_busy, arms_full, arms}
use Rattle.irqwait.proofs.arm_in.Goals as goal

pub returns-then-slot-ge-MAX_TASK_IDS : goal.returns-then-slot-ge-MAX_TASK_IDS
returns-then-slot-ge-MAX_TASK_IDS c = arms_far _ c.requires _ _ (omega arith)

pub returns-in-Err : goal.returns-in-Err
returns-in-Err c = arms_busy _ c.requires _ _ (omega arith) c.busy.result c.busy.ensures _ c.in-Err.is

pub returns-in_default-lowest_free : goal.returns-in_default-lowest_free
returns-in_default-lowest_free c = arms_full _ c.requires _ _ (omega arith) c.busy.result c.busy.ensures c.in_default.is c.in_default-lowest_free.ensures

pub returns : goal.returns
returns c = arms _ c.requires _ _ (omega arith) c.busy.result c.busy.ensures c.in_default.is _ c.in-Some.ensures _ refl
