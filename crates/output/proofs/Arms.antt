-- What each kind of line does: the table that it is about changes, and its answer is written.
use mathlib.Core.Path.{◌≡◌, refl, sym, ◌∙◌, ap, subst}
use mathlib.Core.Bool.{◌&&◌, cond}
use mathlib.Core.List.{List, []}
use Prim.Native.Nat.{ℕ}
use lib.ListN.{replicate}
use lib.Dec.{leb}
use Rattle.answers.specs.Reply.{Reply, refused, done}
use Rattle.answers.specs.Contract.{Kind, Step, Makes, MakesAt, Does, lent, refusing}
use Rattle.answers.proofs.Returns.{listed_by, unlisted_by}
use Rattle.model.specs.Model.{MOST}
use Rattle.model.specs.Model as tasks
use Rattle.model.specs.Steps as tasks-steps
use Rattle.model.specs.Calls as task
use Rattle.memory.specs.declared.Tasks.{Tasks}
use Rattle.memory.specs.View as tasks-kind
use Rattle.irqwait.specs.declared.WaitTable.{WaitTable}
use Rattle.irqwait.specs.Waits as waits-kind
use Rattle.irqwait.specs.Steps as waits
use Rattle.irqwait.specs.Calls as wait
use Rattle.parktime.specs.declared.Table.{Table}
use Rattle.parktime.specs.Deadlines as deadlines-kind
use Rattle.parktime.specs.Steps as deadlines
use Rattle.parktime.specs.Calls as deadline
use Rattle.wake.specs.declared.WakeQueue.{WakeQueue}
use Rattle.wake.specs.Queue as wakes-kind
use Rattle.wake.specs.Steps as tokens
use Rattle.wake.specs.Calls as token
use Rattle.runs.specs.Tables.{on_tasks, on_waits, on_deadlines, on_wakes, with_tasks, with_waits, with_deadlines, with_wakes, step}
use Rattle.runs.specs.Outcomes.{Memory, AllSound, view}
use Rattle.text.specs.Print.{Wrote}
use Rattle.lines.specs.declared.DeadlineCall.{DeadlineCall}
use Rattle.lines.specs.declared.DeadlineCall.TheVariants as deadline-of
use Rattle.lines.specs.Asked.{Asked, afresh, calls, unreadable, poll_at, deadline_call}
use Rattle.print.specs.Texts.{line_text}
use Rattle.output.specs.Output.{TOKENS, plays}
use Rattle.output.specs.Places.{Played, Plays}

-- four tables, and no output kept
abbrev pub here : Tasks → WaitTable → Table → WakeQueue → Memory
here a b c d = record { tasks = a; waits = b; deadlines = c; wakes = d; out = [] }

-- a call that did what its contract says, and whose answer is written
pub played : (k : Kind) (want : Step k.Plain) (t u : k.Memory) (got : Reply) (n : ℕ) (o : List ℕ) (used used' : ℕ) (o' : List ℕ) → Does k t u got want → Wrote o used (line_text n got []) used' o' → Played k want u n o used used' o'
played k want t u got n o used used' o' d w = record { sound = d.makes.sound; after = d.makes.after; said = subst (λ g. Wrote o used (line_text n g []) used' o') d.makes.reply w }

module _ (a : Tasks) (b : WaitTable) (c : Table) (d : WakeQueue) (s : AllSound (here a b c d)) (n used used' : ℕ) (out out' : List ℕ) where
  abbrev After : Asked → Memory → Type 0
  After asked u = Plays (here a b c d) asked u n out used used' out'

  abbrev Said : Reply → List ℕ → Type 0
  Said g o = Wrote out used (line_text n g o) used' out'

  pub plays-tasks : (u : Tasks) (k : task.Call) → Played tasks-kind.table (task.step (tasks-kind.view a) k) u n out used used' out' → After (calls (on_tasks k)) (here u b c d)
  unfolding plays step
  plays-tasks u k m =
      record {
        sound = record { tasks = m.sound; waits = s.waits; deadlines = s.deadlines; wakes = s.wakes };
        after = ap (with_tasks (view (here a b c d))) m.after;
        said = m.said;
      }

  pub plays-waits : (u : WaitTable) (k : wait.Call) → Played waits-kind.waits (wait.step (waits-kind.view b) k) u n out used used' out' → After (calls (on_waits k)) (here a u c d)
  unfolding plays step
  plays-waits u k m =
      record {
        sound = record { tasks = s.tasks; waits = m.sound; deadlines = s.deadlines; wakes = s.wakes };
        after = ap (with_waits (view (here a b c d))) m.after;
        said = m.said;
      }

  pub plays-wakes : (u : WakeQueue) (k : token.Call) → Played wakes-kind.wakes (token.step (wakes-kind.view d) k) u n out used used' out' → After (calls (on_wakes k)) (here a b c u)
  unfolding plays step
  plays-wakes u k m =
      record {
        sound = record { tasks = s.tasks; waits = s.waits; deadlines = s.deadlines; wakes = m.sound };
        after = ap (with_wakes (view (here a b c d))) m.after;
        said = m.said;
      }

  pub plays-deadlines : (u : Table) (k : DeadlineCall) → Played deadlines-kind.deadlines (deadline.step (deadlines-kind.view c) (deadline_call k)) u n out used used' out' → After (calls (on_deadlines (deadline_call k))) (here a b u d)
  unfolding plays step deadline.step
  plays-deadlines u (deadline-of.Arm id when) m =
      record {
        sound = record { tasks = s.tasks; waits = s.waits; deadlines = m.sound; wakes = s.wakes };
        after = ap (λ y. with_deadlines (view (here a b c d)) y []) m.after;
        said = m.said;
      }
  plays-deadlines u (deadline-of.Disarm id) m =
      record {
        sound = record { tasks = s.tasks; waits = s.waits; deadlines = m.sound; wakes = s.wakes };
        after = ap (λ y. with_deadlines (view (here a b c d)) y []) m.after;
        said = m.said;
      }

  -- a poll is lent sixteen places
  pub plays-poll : (u : Table) (now : ℕ) (raws raws' : List ℕ) (got : Reply) → raws ≡ replicate deadlines-kind.PLACES 0 → Does (lent deadlines-kind.deadlines) (c, raws) (u, raws') got (deadlines.poll_step (deadlines-kind.view c, raws) now) → Said got raws' → After (calls (on_deadlines (poll_at now))) (here a b u d)
  unfolding plays step
  plays-poll u now raws raws' got e m w =
      let p = deadlines.poll_step (deadlines-kind.view c, replicate deadlines-kind.PLACES 0) now in
      let reply : got ≡ p.reply = m.makes.reply ∙ ap (λ o. (deadlines.poll_step (deadlines-kind.view c, o) now).reply) e in
      let after : (deadlines-kind.view u, raws') ≡ p.after = m.makes.after ∙ ap (λ o. (deadlines.poll_step (deadlines-kind.view c, o) now).after) e in
      record {
        sound = record { tasks = s.tasks; waits = s.waits; deadlines = m.makes.sound; wakes = s.wakes };
        after = ap (λ y. with_deadlines (view (here a b c d)) y.0 []) after;
        said = subst (λ o. Said p.reply o) (ap (λ y. y.1) after) (subst (λ g. Said g raws') reply w);
      }

  -- what can't be read
  pub plays_unread : Said (refused 12) [] → After unreadable (here a b c d)
  unfolding plays
  plays_unread w = record { sound = s; after = refl; said = w }

  -- tables afresh, or 2 and the tables as they were
  pub plays-new : (m : ℕ) (u : Tasks) (v : WaitTable) (x : Table) (y : WakeQueue) → Makes tasks-kind.table u done (tasks-steps.new_step m) → Makes waits-kind.waits v done waits.new_step → Makes deadlines-kind.deadlines x done deadlines.new_step → Makes wakes-kind.wakes y done (tokens.new_step TOKENS) → Said done [] → After (afresh m) (here u v x y)
  unfolding plays tasks-steps.new_step tokens.new_step wakes-kind.listed
  plays-new m u v x y mu mv mx my w =
      let yes = listed_by (tasks.fresh m) (tasks.fresh 1) (leb 1 m && leb m MOST) mu.reply in
      record {
        sound = record { tasks = mu.sound; waits = mv.sound; deadlines = mx.sound; wakes = my.sound };
        after = rw yes (rw (mu.after ∙ ap (λ t. (cond t (record { reply = done; after = tasks.fresh m }) (refusing 2 (tasks.fresh 1))).after) yes, mv.after, mx.after, my.after));
        said = rw yes w;
      }

  pub plays-new_refused : (m k : ℕ) → refused k ≡ (tasks-steps.new_step m).reply → Said (refused k) [] → After (afresh m) (here a b c d)
  unfolding plays tasks-steps.new_step
  plays-new_refused m k e w =
      let (not, two) = unlisted_by (tasks.fresh m) (tasks.fresh 1) (leb 1 m && leb m MOST) k e in
      record { sound = s; after = rw not; said = rw not (subst (λ g. Said (refused g) []) two w) }

  pub plays-new_kept : (m k : ℕ) (u : Tasks) → MakesAt tasks-kind.table a u (refused k) (tasks-steps.new_step m) → Said (refused k) [] → After (afresh m) (here u b c d)
  plays-new_kept m k u e w = subst (λ y. After (afresh m) (here y b c d)) (sym (e.kept tt)) (plays-new_refused m k e.reply w)

  pub plays-new_made : (m : ℕ) (u : Tasks) (v : WaitTable) (x : Table) (y : WakeQueue) (gave : Reply) → MakesAt tasks-kind.table a u done (tasks-steps.new_step m) → Makes waits-kind.waits v done waits.new_step → Makes deadlines-kind.deadlines x done deadlines.new_step → Makes wakes-kind.wakes y gave (tokens.new_step TOKENS) → Said done [] → After (afresh m) (here u v x y)
  unfolding tokens.new_step wakes-kind.listed
  plays-new_made m u v x y gave mu mv mx my w = plays-new m u v x y (mu.made (λ r. r)) mv mx (record { reply = refl; after = my.after; sound = my.sound }) w
