-- An id that is printed reads back as the same id.
use Rattle.std.specs.Prelude.{Some}
use mathlib.Core.Path.{◌≡◌}
use Prim.Native.Nat.{◌^◌, ◌<◌}
use native.Mathlib.Omega.{arith}
use Rattle.ids.specs.declared.TaskId.{TaskId}
use Rattle.text.specs.Text.{SLASH}
use Rattle.text.proofs.RoundTrip.{number_back, split_back}
use Rattle.words.specs.Words.{largest, read_id}
use Rattle.print.specs.Texts.{id_text}

pub id_back : (i : TaskId) → i.slot < 2 ^ 16 → i.epoch < 2 ^ 16 → read_id (id_text i) ≡ Some i
unfolding read_id id_text
id_back i s e =
    rw (
      split_back SLASH i.slot i.epoch (omega arith) (omega arith) (omega arith),
      number_back (largest 16) i.slot (omega arith) (omega arith),
      number_back (largest 16) i.epoch (omega arith) (omega arith),
    )
