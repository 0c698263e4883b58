-- Demand 2: packing and unpacking invert each other, both ways, over all ids and all raw values.
use mathlib.Core.Path.{◌≡◌}
use Prim.Native.Nat.{ℕ, ◌+◌, ◌*◌, ◌/◌, ◌%◌, ◌<◌}
use native.Mathlib.Omega.{arith}
use lib.Arith.{digits_div, digits_mod}
use Rattle.ids.specs.declared.TaskId.{TaskId}
use Rattle.ids.specs.Id.{packed, unpacked, SLOTS, EPOCHS}

pub unpack_pack : (t : TaskId) → t.slot < SLOTS → unpacked (packed t) ≡ t
unpack_pack t h =
    let low : (t.epoch * SLOTS + t.slot) % SLOTS ≡ t.slot = digits_mod t.epoch h in
    let high : (t.epoch * SLOTS + t.slot) / SLOTS ≡ t.epoch = digits_div t.epoch h in
    rw (low, high)

pub pack_unpack : (raw : ℕ) → packed (unpacked raw) ≡ raw
pack_unpack raw = omega arith

-- neither leaves its range: an id of 16 and 16 bits packs below 2^32, and such a value unpacks to 16 and 16 bits
pub pack_below : (t : TaskId) → t.slot < SLOTS → t.epoch < EPOCHS → packed t < EPOCHS * SLOTS
pack_below t s e = omega arith

pub unpack_below : (raw : ℕ) → raw < EPOCHS * SLOTS → ((unpacked raw).slot < SLOTS) × ((unpacked raw).epoch < EPOCHS)
unpack_below raw h = omega arith
