-- Reading through the view, and what a store into what slots have, into what CPUs have and into the rest is in the model.
use Rattle.std.specs.Prelude.{Some, None}
use mathlib.Core.Path.{◌≡◌, refl, sym, ◌∙◌, ap}
use mathlib.Core.Bool.{cond}
use mathlib.Core.List.{List}
use Prim.Native.Nat.{ℕ, ◌*◌, ◌<◌}
use native.Mathlib.Omega.{arith}
use native.Mathlib.Decide.{ℕ_discrete}
use lib.ListN.{length, get_or, set, take, length-set, get_or-map}
use lib.Seq.{take-set-lt, get_or-take, get_or-set_same, get_or-set_other}
use Rattle.lists.specs.Flags.{FLAGS, is_set}
use Rattle.lists.specs.Tab.{tab}
use Rattle.lists.proofs.Basics.{map-set}
use Rattle.lists.proofs.TabLaws.{length-tab, get_or-tab, tab-set}
use Rattle.ids.specs.declared.TaskId.{TaskId}
use Rattle.ids.specs.Id.{idle}
use Rattle.runqueue.proofs.RingLaws.{around-length}
use Rattle.runqueue.specs.Ring.{id_at}
use Rattle.model.specs.Model.{Cpu, MOST, CPUS, no_cpu, state_of, epoch_of, home_of, mark_of, cpu_of, queue_of, current_of, idle_of, with_state, with_epoch, with_home, with_mark, with_cpu, rest_to}
use Rattle.memory.specs.declared.Tasks.{Tasks}
use Rattle.memory.specs.View.{SPAN, head_of, len_of, cpu_at, view, Rep}
use Rattle.memory.proofs.Puts.{put_slots, put_cpus, put_rest, put_state, put_epoch, put_home, put_mark, put_current, put_owner}

-- READING

module _ (t : Tasks) where
  pub view_n : (view t).n ≡ t.small.n
  unfolding view
  view_n = refl

  pub view_ncpus : length (view t).cpus ≡ CPUS
  unfolding view
  view_ncpus = length-tab CPUS (cpu_at t)

  pub view-cpu : (c : ℕ) → c < CPUS → cpu_of (view t) c ≡ cpu_at t c
  unfolding view
  view-cpu c h = get_or-tab CPUS (cpu_at t) c no_cpu h

  pub view-state : (s : ℕ) → s < t.small.n → state_of (view t) s ≡ get_or t.states s 0
  unfolding view
  view-state s h = get_or-take t.small.n t.states s 0 h

  pub view-epoch : (s : ℕ) → s < t.small.n → epoch_of (view t) s ≡ get_or t.epochs s 0
  unfolding view
  view-epoch s h = get_or-take t.small.n t.epochs s 0 h

  pub view-home : (s : ℕ) → s < t.small.n → home_of (view t) s ≡ get_or t.homes s 0
  unfolding view
  view-home s h = get_or-take t.small.n t.homes s 0 h

  pub view-mark : (s : ℕ) → s < t.small.n → mark_of (view t) s ≡ is_set (get_or t.marks s 0)
  unfolding view
  view-mark s h = get_or-map is_set (take t.small.n t.marks) s 0 ∙ ap is_set (get_or-take t.small.n t.marks s 0 h)

  pub view-current : (c : ℕ) → c < CPUS → current_of (view t) c ≡ get_or t.small.currents c idle
  unfolding cpu_at
  view-current c h = ap (λ (k : Cpu). k.current) (view-cpu c h)

  pub view-idle : (c : ℕ) → c < CPUS → idle_of (view t) c ≡ get_or t.small.idles c idle
  unfolding cpu_at
  view-idle c h = ap (λ (k : Cpu). k.idle) (view-cpu c h)

  pub view-len : (c : ℕ) → c < CPUS → length (queue_of (view t) c) ≡ len_of t c
  unfolding cpu_at
  view-len c h =
      ap (λ (k : Cpu). length k.queue) (view-cpu c h)
      ∙ around-length (id_at t.ring_slots t.ring_epochs) t.small.n (c * SPAN) (head_of t c) (len_of t c)

  pub view-parked : (view t).parked ≡ cond (is_set t.small.parked) (Some t.small.parked_id) None
  unfolding view
  view-parked = refl

  pub view-overwrites : (view t).overwrites ≡ t.small.overwrites
  unfolding view
  view-overwrites = refl

  pub view-events : (view t).block_events ≡ t.small.block_events
  unfolding view
  view-events = refl

  pub view-peak : (view t).peak ≡ t.small.peak
  unfolding view
  view-peak = refl

-- SLOTS

module _ (t : Tasks) (i : ℕ) (h : i < t.small.n) where
  pub store_state : (v : ℕ) → view (put_state t i v) ≡ with_state (view t) i v
  unfolding view cpu_at
  store_state v = rw (take-set-lt t.small.n t.states i v h)

  pub store_epoch : (v : ℕ) → view (put_epoch t i v) ≡ with_epoch (view t) i v
  unfolding view cpu_at
  store_epoch v = rw (take-set-lt t.small.n t.epochs i v h)

  pub store_home : (v : ℕ) → view (put_home t i v) ≡ with_home (view t) i v
  unfolding view cpu_at
  store_home v = rw (take-set-lt t.small.n t.homes i v h)

  pub store_mark : (v : ℕ) → view (put_mark t i v) ≡ with_mark (view t) i (is_set v)
  unfolding view cpu_at
  store_mark v = rw (take-set-lt t.small.n t.marks i v h, map-set is_set (take t.small.n t.marks) i v)

pub rep-slots : (t : Tasks) (s e h k : List ℕ) → Rep t → length s ≡ MOST → length e ≡ MOST → length h ≡ MOST → length k ≡ MOST → ((i : ℕ) → i < t.small.n → get_or k i 0 < FLAGS) → Rep (put_slots t s e h k)
rep-slots t s e h k r ls le lh lk fk =
    record {
      some = r.some;
      most = r.most;
      states = ls;
      epochs = le;
      homes = lh;
      marks = lk;
      slots = r.slots;
      tenures = r.tenures;
      heads = r.heads;
      lens = r.lens;
      currents = r.currents;
      idles = r.idles;
      rings = λ c p. record { head = (r.rings c p).head; len = (r.rings c p).len };
      flags = fk;
      flag = r.flag;
    }

module _ (t : Tasks) (i : ℕ) (r : Rep t) where
  pub rep-state : (v : ℕ) → Rep (put_state t i v)
  rep-state v = rep-slots t _ _ _ _ r (length-set t.states i v ∙ r.states) r.epochs r.homes r.marks r.flags

  pub rep-epoch : (v : ℕ) → Rep (put_epoch t i v)
  rep-epoch v = rep-slots t _ _ _ _ r r.states (length-set t.epochs i v ∙ r.epochs) r.homes r.marks r.flags

  pub rep-home : (v : ℕ) → Rep (put_home t i v)
  rep-home v = rep-slots t _ _ _ _ r r.states r.epochs (length-set t.homes i v ∙ r.homes) r.marks r.flags

  pub rep-mark : i < t.small.n → (v : ℕ) → v < FLAGS → Rep (put_mark t i v)
  rep-mark near v f =
      rep-slots t _ _ _ _ r r.states r.epochs r.homes (length-set t.marks i v ∙ r.marks)
      (λ j h. go j h (ℕ_discrete j i))
    where
      go : (j : ℕ) → j < t.small.n → Dec (j ≡ i) → get_or (set t.marks i v) j 0 < FLAGS
      go j h (yes e) = rw (e, get_or-set_same t.marks i v 0 (omega (arith, r.marks, r.most))) f
      go j h (no e) = rw (get_or-set_other t.marks i j v 0 e) (r.flags j h)

-- CURRENTS AND IDLES

-- stores into what CPU c has: the view changes at c alone
pub store_at : (t u : Tasks) (c : ℕ) → c < CPUS → view u ≡ record { n = (view t).n; states = (view t).states; epochs = (view t).epochs; homes = (view t).homes; marks = (view t).marks; cpus = tab CPUS (cpu_at u); parked = (view t).parked; overwrites = (view t).overwrites; block_events = (view t).block_events; peak = (view t).peak } → ((d : ℕ) → (d ≡ c → ⊥) → cpu_at u d ≡ cpu_at t d) → view u ≡ with_cpu (view t) c (cpu_at u c)
unfolding view
store_at t u c hc same else = same ∙ rw (tab-set CPUS (cpu_at t) (cpu_at u) c else hc)

module _ (t : Tasks) (c : ℕ) (r : Rep t) (hc : c < CPUS) (x : TaskId) where
  current-at : (d : ℕ) → (d ≡ c → ⊥) → cpu_at (put_current t c x) d ≡ cpu_at t d
  unfolding cpu_at
  current-at d ne = rw (get_or-set_other t.small.currents c d x idle ne)

  current_here : cpu_at (put_current t c x) c ≡ record { queue = (cpu_at t c).queue; current = x; idle = (cpu_at t c).idle }
  unfolding cpu_at
  current_here = rw (get_or-set_same t.small.currents c x idle (omega (arith, r.currents)))

  pub store_current : view (put_current t c x) ≡ with_cpu (view t) c (record { queue = queue_of (view t) c; current = x; idle = idle_of (view t) c })
  unfolding view
  store_current =
      store_at t (put_current t c x) c hc refl current-at
      ∙ ap (with_cpu (view t) c) current_here
      ∙ ap (λ (k : Cpu). with_cpu (view t) c (record { queue = k.queue; current = x; idle = k.idle })) (sym (view-cpu t c hc))

  owner_at : (d : ℕ) → (d ≡ c → ⊥) → cpu_at (put_owner t c x) d ≡ cpu_at t d
  unfolding cpu_at
  owner_at d ne = rw (get_or-set_other t.small.currents c d x idle ne, get_or-set_other t.small.idles c d x idle ne)

  owner_here : cpu_at (put_owner t c x) c ≡ record { queue = (cpu_at t c).queue; current = x; idle = x }
  unfolding cpu_at
  owner_here = rw (get_or-set_same t.small.currents c x idle (omega (arith, r.currents)), get_or-set_same t.small.idles c x idle (omega (arith, r.idles)))

  pub store_owner : view (put_owner t c x) ≡ with_cpu (view t) c (record { queue = queue_of (view t) c; current = x; idle = x })
  unfolding view
  store_owner =
      store_at t (put_owner t c x) c hc refl owner_at
      ∙ ap (with_cpu (view t) c) owner_here
      ∙ ap (λ (k : Cpu). with_cpu (view t) c (record { queue = k.queue; current = x; idle = x })) (sym (view-cpu t c hc))

  rep-cpus : (k i : List TaskId) → length k ≡ CPUS → length i ≡ CPUS → Rep (put_cpus t k i)
  rep-cpus k i lk li =
      record {
        some = r.some;
        most = r.most;
        states = r.states;
        epochs = r.epochs;
        homes = r.homes;
        marks = r.marks;
        slots = r.slots;
        tenures = r.tenures;
        heads = r.heads;
        lens = r.lens;
        currents = lk;
        idles = li;
        rings = λ c p. record { head = (r.rings c p).head; len = (r.rings c p).len };
        flags = r.flags;
        flag = r.flag;
      }

  pub rep-current : Rep (put_current t c x)
  rep-current = rep-cpus _ _ (length-set t.small.currents c x ∙ r.currents) r.idles

  pub rep_owner : Rep (put_owner t c x)
  rep_owner = rep-cpus _ _ (length-set t.small.currents c x ∙ r.currents) (length-set t.small.idles c x ∙ r.idles)

-- THE REST

pub store_rest : (t : Tasks) (p : ℕ) (x : TaskId) (o b k : ℕ) → view (put_rest t p x o b k) ≡ rest_to (view t) (cond (is_set p) (Some x) None) o b k
unfolding view cpu_at
store_rest t p x o b k = refl

pub rep-rest : (t : Tasks) (p : ℕ) (x : TaskId) (o b k : ℕ) → p < FLAGS → Rep t → Rep (put_rest t p x o b k)
rep-rest t p x o b k f r =
    record {
      some = r.some;
      most = r.most;
      states = r.states;
      epochs = r.epochs;
      homes = r.homes;
      marks = r.marks;
      slots = r.slots;
      tenures = r.tenures;
      heads = r.heads;
      lens = r.lens;
      currents = r.currents;
      idles = r.idles;
      rings = λ c p. record { head = (r.rings c p).head; len = (r.rings c p).len };
      flags = r.flags;
      flag = f;
    }
