-- A line more each turn, until the script ends or the buffer is full.
use Rattle.script.proofs.Laws.{goes}
use Rattle.script.proofs.chunk.Goals as goal

pub loop-here-preserved : goal.loop-here-preserved
loop-here-preserved c =
    let s = c.play-here.ensures.0 in
    rw (s.at, s.number) (goes _ _ _ _ _ _ _ _ _ _ c.loop-here.invariant _ _ _ _ _ c.next_line-ahead.ensures c.play-here.ensures.1)
