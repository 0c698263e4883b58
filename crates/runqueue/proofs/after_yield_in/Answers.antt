-- By who goes on, and by whether there was room.
use Rattle.std.proofs.lemmas.Result.{err_from_is_err_and}
use Rattle.runqueue.proofs.Laws.{after_none, after-full, after-put}
use Rattle.runqueue.proofs.after_yield_in.Goals as goal

pub returns-in_default : goal.returns-in_default
returns-in_default c = rw c.in_default.is (after_none _ _ _ c.dequeue_in.ensures)

pub returns-in_err-enqueue_in : goal.returns-in_err-enqueue_in
returns-in_err-enqueue_in c =
    let p = err_from_is_err_and c.from_residual.result c.from_residual.ensures.1 in
    rw (c.in-Some.is, p.1, p.2) (after-full _ _ _ _ (c.in_err-enqueue_in.ensures))

pub returns : goal.returns
returns c = rw c.in-Some.is (after-put _ _ _ _ _ (c.in_ok-enqueue_in.ensures) c.dequeue_in-2.ensures)
