-- Calls on the deadlines that compute: a row for each rule on arming and polling. The bench sheet's row on deadlines stands in
-- the crate `runs`.
use Rattle.std.specs.Prelude.{Some, None}
use mathlib.Core.Path.{◌≡◌, refl}
use mathlib.Core.List.{List, [], ◌∷◌}
use Prim.Native.Nat.{ℕ, suc}
use lib.ListN.{replicate}
use Rattle.lists.specs.Search.{first_at}
use Rattle.lists.specs.Entries.{freed, taken_by}
use Rattle.lists.specs.Tab.{tab}
use Rattle.ids.specs.declared.TaskId.{TaskId}
use Rattle.answers.specs.Reply.{refused, done, number}
use Rattle.answers.specs.Run.{replies, left}
use Rattle.parktime.specs.Deadlines.{Deadlines, PLACES}
use Rattle.parktime.specs.Steps.{fresh, place_for, arm_step, disarm_step, due_ids, poll_step}
use Rattle.parktime.specs.Calls.{arm, disarm, poll, step}

-- the first tenant of a slot
abbrev tenant : ℕ → TaskId
tenant s = record { slot = s; epoch = 0 }

abbrev output : List ℕ
output = replicate PLACES 0

-- the tenants of slots 1 to 16, armed for 50
abbrev sixteen : Deadlines
sixteen = tab PLACES (λ k. Some (record { id = tenant (suc k); at = 50 }))

-- sixteen tasks, armed one after the other, stand in that order
pub filled : left step fresh (tab PLACES (λ k. arm (tenant (suc k)) 50)) ≡ sixteen
unfolding tab left step arm_step place_for first_at
filled = refl

-- a deadline is replaced, also where every place is taken: of the sixteen one comes later
pub replaced : replies step sixteen (arm (tenant 5) 60 ∷ poll 50 output ∷ poll 60 output ∷ []) ≡ done ∷ number 15 ∷ number 1 ∷ []
unfolding tab replies step arm_step place_for first_at poll_step due_ids taken_by freed
replaced = refl

-- a seventeenth task is refused with 11, and the sixteen are as they were
pub seventeenth : (replies step sixteen (arm (tenant 17) 60 ∷ []) ≡ refused 11 ∷ []) × (left step sixteen (arm (tenant 17) 60 ∷ []) ≡ sixteen)
unfolding tab left replies step arm_step place_for first_at
seventeenth = (refl, refl)

-- an output of fifteen places is refused with 7, also where one would do, and the deadline stays for the next poll
pub short : replies step fresh (arm (tenant 1) 100 ∷ poll 100 (replicate 15 0) ∷ poll 100 output ∷ []) ≡ done ∷ refused 7 ∷ number 1 ∷ []
unfolding replies step arm_step place_for first_at poll_step due_ids taken_by freed
short = refl

-- now may go back
pub back : replies step fresh (arm (tenant 1) 100 ∷ arm (tenant 2) 90 ∷ poll 95 output ∷ poll 50 output ∷ poll 100 output ∷ []) ≡ done ∷ done ∷ number 1 ∷ number 0 ∷ number 1 ∷ []
unfolding replies step arm_step place_for first_at poll_step due_ids taken_by freed
back = refl

-- the lowest free place is taken again, and to disarm a task that is not armed changes nothing
pub reused : left step fresh (arm (tenant 1) 10 ∷ arm (tenant 2) 20 ∷ disarm (tenant 1) ∷ disarm (tenant 9) ∷ arm (tenant 3) 30 ∷ [])
    ≡ Some (record { id = tenant 3; at = 30 }) ∷ Some (record { id = tenant 2; at = 20 }) ∷ replicate 14 None
unfolding left step arm_step place_for first_at disarm_step freed
reused = refl

-- the raw ids stand in entry order from place 0 on, the later places of the output are as they were, and a deadline
-- that has not come stays in its place
pub written : poll_step (Some (record { id = record { slot = 3; epoch = 2 }; at = 100 }) ∷ None ∷ Some (record { id = tenant 8; at = 101 }) ∷ Some (record { id = tenant 5; at = 7 }) ∷ replicate 12 None, replicate 17 9) 100
    ≡ record {
      reply = number 2;
      after = (None ∷ None ∷ Some (record { id = tenant 8; at = 101 }) ∷ None ∷ replicate 12 None, 131075 ∷ 5 ∷ replicate 15 9);
    }
unfolding poll_step due_ids taken_by freed
written = refl
