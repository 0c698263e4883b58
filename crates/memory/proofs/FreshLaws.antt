-- A table that has just been made is the model's.
use mathlib.Core.Path.{◌≡◌, refl, ◌∙◌, ap}
use mathlib.Core.Bool.{true, false}
use mathlib.Core.List.{◌∷◌}
use Prim.Native.Nat.{ℕ, zero, suc, ◌≤◌, ◌<◌, ◌*◌}
use native.Mathlib.Omega.{arith}
use lib.ListN.{length, take, replicate, length-replicate}
use Rattle.lists.specs.Flags.{is_set}
use Rattle.lists.specs.Tab.{tab}
use Rattle.lists.proofs.Basics.{get_or-all, map-replicate}
use Rattle.lists.proofs.TabLaws.{tab_ext}
use Rattle.ids.specs.Id.{idle}
use Rattle.answers.specs.Reply.{refused, done}
use Rattle.answers.specs.Sizes.{listed}
use Rattle.answers.specs.Contract.{Makes, MakesAt}
use Rattle.answers.proofs.Returns.{leaves_at, makes-at}
use Rattle.runqueue.specs.Ring.{id_at}
use Rattle.runqueue.proofs.RingLaws.{around-none}
use Rattle.runqueue.proofs.Laws.{listed-both}
use Rattle.model.specs.Model.{MOST, CPUS, no_cpu, fresh}
use Rattle.model.specs.Steps.{new_step}
use Rattle.model.proofs.Claims.{fresh-sound}
use Rattle.memory.specs.declared.Small.{Small}
use Rattle.memory.specs.declared.Tasks.{Tasks}
use Rattle.memory.specs.View.{SPAN, cpu_at, view, Rep, Sound, table}
use Rattle.memory.specs.Blank.{BlankSmall, Blank, cleared}

take-replicate : {A : Type 0} (n m : ℕ) (a : A) → n ≤ m → take n (replicate m a) ≡ replicate n a
take-replicate zero m a h = refl
take-replicate (suc n) zero a h = absurd (omega arith)
take-replicate (suc n) (suc m) a h = ap (λ l. a ∷ l) (take-replicate n m a (omega arith))

tab_const : {A : Type 0} (n : ℕ) (a : A) → tab n (λ j. a) ≡ replicate n a
unfolding tab
tab_const zero a = refl
tab_const (suc n) a = ap (λ l. a ∷ l) (tab_const n a)

module _ (n : ℕ) (s : Small) (b : BlankSmall n s) (some : 1 ≤ n) (most : n ≤ MOST) where
  no-cpu : (c : ℕ) → c < CPUS → cpu_at (cleared s) c ≡ no_cpu
  unfolding cpu_at
  no-cpu c h =
      rw (b.heads, b.lens, b.currents, b.idles, get_or-all {A = ℕ} CPUS c 0, get_or-all CPUS c idle, around-none (id_at (replicate (CPUS * SPAN) 0) (replicate (CPUS * SPAN) 0)) s.n (c * SPAN) 0)

  fresh-view : view (cleared s) ≡ fresh n
  unfolding view
  fresh-view =
      rw (tab_ext CPUS (cpu_at (cleared s)) (λ _. no_cpu) no-cpu, tab_const CPUS no_cpu, b.n_is, b.parked, b.overwrites, b.events, b.peak, take-replicate {A = ℕ} n MOST 0 most, map-replicate is_set n 0)

  fresh-rep : Rep (cleared s)
  fresh-rep =
      record {
        some = rw b.n_is some;
        most = rw b.n_is most;
        states = length-replicate {A = ℕ} MOST 0;
        epochs = length-replicate {A = ℕ} MOST 0;
        homes = length-replicate {A = ℕ} MOST 0;
        marks = length-replicate {A = ℕ} MOST 0;
        slots = length-replicate {A = ℕ} (CPUS * SPAN) 0;
        tenures = length-replicate {A = ℕ} (CPUS * SPAN) 0;
        heads = ap length b.heads ∙ length-replicate {A = ℕ} CPUS 0;
        lens = ap length b.lens ∙ length-replicate {A = ℕ} CPUS 0;
        currents = ap length b.currents ∙ length-replicate CPUS idle;
        idles = ap length b.idles ∙ length-replicate CPUS idle;
        rings = λ c h. record { head = rw (b.heads, get_or-all {A = ℕ} CPUS c 0, b.n_is) some; len = rw (b.lens, get_or-all {A = ℕ} CPUS c 0) (omega arith) };
        flags = λ i h. rw (get_or-all {A = ℕ} MOST i 0) (omega arith);
        flag = rw b.parked (omega arith);
      }

  blank-sound : Sound (cleared s)
  blank-sound = record { rep = fresh-rep; model = rw fresh-view (fresh-sound n some most) }

-- THE RETURNS OF `new` AND OF `new_at`

made-bad : (n : ℕ) (s : Small) → listed n ≡ false → BlankSmall 1 s → Makes table (cleared s) (refused 2) (new_step n)
unfolding new_step
made-bad n s l b =
    record { reply = rw l; after = rw l (fresh-view 1 s b (omega arith) (omega arith)); sound = blank-sound 1 s b (omega arith) (omega arith) }

made-done : (n : ℕ) (s : Small) → listed n ≡ true → BlankSmall n s → Makes table (cleared s) done (new_step n)
unfolding new_step
made-done n s l b =
    let h = listed-both n l in
    record { reply = rw l; after = rw l (fresh-view n s b h.0 h.1); sound = blank-sound n s b h.0 h.1 }

pub new-bad : (n : ℕ) (t : Tasks) → listed n ≡ false → Blank 1 t → Makes table t (refused 2) (new_step n)
new-bad n t l b = rw b.arrays (made-bad n t.small l b.small)

pub new-done : (n : ℕ) (t : Tasks) → listed n ≡ true → Blank n t → Makes table t done (new_step n)
new-done n t l b = rw b.arrays (made-done n t.small l b.small)

-- over a place: a size that will not do leaves what lay there
pub new-left : (n : ℕ) (t : Tasks) → listed n ≡ false → MakesAt table t t (refused 2) (new_step n)
unfolding new_step
new-left n t l = leaves_at table t 2 _ (rw l)

pub new-there : (n : ℕ) (t : Tasks) (s : Small) → listed n ≡ true → BlankSmall n s → MakesAt table t (cleared s) done (new_step n)
new-there n t s l b = makes-at table t (cleared s) _ (made-done n s l b)
