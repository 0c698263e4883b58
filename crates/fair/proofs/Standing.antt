-- In a sound table the tasks that wait on a CPU are those that stand in its queue.
use mathlib.Core.Path.{◌≡◌, refl, sym, ◌∙◌, ap, subst}
use mathlib.Core.Bool.{true, false, ◌&&◌}
use mathlib.Core.Logic.{⊎_elim}
use mathlib.Core.List.{List, [], ◌∷◌}
use Prim.Native.Nat.{ℕ, ◌<◌}
use native.Mathlib.Omega.{arith}
use lib.ListN.{length, get_or}
use lib.Dec.{eqb}
use borrow.Author.Tests.{eq-eqb, eqb-true}
use Rattle.lists.proofs.Basics.{true_or_false, both_true, get_or-all}
use Rattle.lists.proofs.SearchLaws.{first_is}
use Rattle.ids.specs.declared.TaskId.{TaskId}
use Rattle.ids.specs.Id.{same_id, idle}
use Rattle.ids.proofs.IdLaws.{same_eq, same_self}
use Rattle.model.specs.Model.{Model, CPUS, EMPTY, READY, state_of, home_of, queue_of, known, started, no_cpu, Cpu}
use Rattle.model.specs.Sound.{Known, Live, Sound}
use Rattle.model.proofs.Facts.{known_is, known_true, known_one, live, unstarted, queue-known, home-cpu}
use Rattle.model.proofs.Literal.{queue_written}
use Rattle.fair.specs.Fair.{waits, ahead}
use Rattle.fair.proofs.Places.{first-most}
use Rattle.fair.proofs.Moves.{Waiting}

abbrev pub Stands : Model → ℕ → TaskId → Type 0
Stands m c x = ahead m c x < length (queue_of m c)

pub record Ready (m : Model) (c : ℕ) (x : TaskId) : Type 0 where
  pub id : Known m x
  pub state : state_of m x.slot ≡ READY
  pub home : home_of m x.slot ≡ c

module _ (m : Model) (c : ℕ) (x : TaskId) where
  pub ready_is : waits m c x ≡ true → Ready m c x
  ready_is e =
      let a = both_true (known m x) (eqb (state_of m x.slot) READY && eqb (home_of m x.slot) c) e in
      let b = both_true (eqb (state_of m x.slot) READY) (eqb (home_of m x.slot) c) a.1 in
      record { id = known_is m x a.0; state = eqb-true _ _ b.0; home = eqb-true _ _ b.1 }

  -- nobody is Ready before the start
  pub ready-live : Sound m → Ready m c x → Live m
  ready-live s r =
      ⊎_elim
      (λ (e : started m ≡ true). live m s e)
      (λ (e : started m ≡ false).
      let z : state_of m x.slot ≡ EMPTY = ap (λ w. state_of w x.slot) (unstarted m s e) ∙ get_or-all m.n x.slot EMPTY in
      absurd (omega (arith, r.state)))
      (true_or_false (started m))

module _ (m : Model) (c : ℕ) (x : TaskId) (v : Live m) where
  pub ready-cpu : Ready m c x → c < CPUS
  ready-cpu r = subst (λ d. d < CPUS) r.home (home-cpu m v x.slot r.id.slot)

  pub ready_stands : Ready m c x → Stands m c x
  ready_stands r =
      let hc = ready-cpu r in
      let (k, below, slot) = (queue_written m v c hc).all x.slot r.id.slot r.state r.home in
      let is : get_or (queue_of m c) k idle ≡ x = known_one m (get_or (queue_of m c) k idle) x (queue-known m v c k hc below) r.id slot in
      omega (arith, first-most (same_id x) (queue_of m c) k idle below (ap (same_id x) is ∙ same_self x))

  pub stands_waits : c < CPUS → Stands m c x → waits m c x ≡ true
  stands_waits hc st =
      let is : x ≡ get_or (queue_of m c) (ahead m c x) idle = same_eq x (get_or (queue_of m c) (ahead m c x) idle) (first_is (same_id x) (queue_of m c) idle st) in
      let q = queue_written m v c hc in
      let k : Known m x = subst (λ y. Known m y) (sym is) (q.known (ahead m c x) st) in
      let r = q.ready (ahead m c x) st in
      rw (known_true m x k, eq-eqb (state_of m x.slot) READY (ap (λ (y : TaskId). state_of m y.slot) is ∙ r.0), eq-eqb (home_of m x.slot) c (ap (λ (y : TaskId). home_of m y.slot) is ∙ r.1))

-- where one stands the queue has a head, and the table is started
module _ (m : Model) (c : ℕ) (x : TaskId) (s : Sound m) (hc : c < CPUS) (st : Stands m c x) where
  pub standing_live : Live m
  standing_live =
      ⊎_elim
      (λ (e : started m ≡ true). live m s e)
      (λ (e : started m ≡ false).
      let z : queue_of m c ≡ [] = ap (λ w. queue_of w c) (unstarted m s e) ∙ ap (λ (k : Cpu). k.queue) (get_or-all CPUS c no_cpu) in
      let l : length (queue_of m c) ≡ 0 = ap length z in
      absurd (omega arith))
      (true_or_false (started m))

  pub waiting : Waiting m c
  waiting = go (queue_of m c) refl
    where
      go : (q : List TaskId) → queue_of m c ≡ q → Waiting m c
      go [] e = let l : length (queue_of m c) ≡ 0 = ap length e in absurd (omega arith)
      go (y ∷ q) e = record { shape = s.shape; live = standing_live; cpu = hc; head = y; rest = q; queue = e }
