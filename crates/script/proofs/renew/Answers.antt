-- A size that is not listed leaves all as it was, and a listed one makes all afresh.
use Rattle.std.proofs.Common.{refl}
use Rattle.output.proofs.Arms.{plays-new_made, plays-new_kept}
use Rattle.script.proofs.renew.Goals as goal

pub returns-in-Err : goal.returns-in-Err
returns-in-Err c =
    let e = c.in-Err.ensures in
    (record { at = refl; number = refl; used = refl }, plays-new_kept _ _ _ _ c.requires.sound _ _ _ _ _ _ _ _ e.1 c.line.ensures)

pub returns : goal.returns
returns c =
    let e = c.in_default.ensures in (
      record { at = refl; number = refl; used = refl },
      plays-new_made _ _ _ _ c.requires.sound _ _ _ _ _ _ _ _ _ _ _ e.1 c.new-here.ensures c.new-here-2.ensures c.new.ensures c.line-2.ensures,
    )
