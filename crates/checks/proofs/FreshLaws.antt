-- A table whose parts are blank is one just made, as the model says it.
use Rattle.std.specs.Prelude.{Some, None}
use Rattle.std.proofs.Common.{◌≡◌, ℕ, ◌*◌, ◌<◌, ◌≤◌, Bool, true, false, cond, List, length, get_or, take, replicate, sym, refl, ap, ◌∙◌, arith, length-take-le, get_or-take, ext_get_or}
use lib.ListN.{length-replicate, get_or-replicate}
use Rattle.lists.specs.Tab.{tab}
use Rattle.lists.proofs.Basics.{get_or-all, map-replicate}
use Rattle.lists.proofs.TabLaws.{length-tab, get_or-tab}
use Rattle.lists.specs.Flags.{is_set}
use Rattle.lists.proofs.FlagLaws.{off_set}
use Rattle.runqueue.specs.Ring.{id_at}
use Rattle.runqueue.proofs.RingLaws.{around-none}
use Rattle.model.specs.Model.{Model, Cpu, CPUS, EMPTY, no_cpu, state_of, epoch_of, home_of, mark_of, cpu_of, fresh}
use Rattle.memory.specs.declared.Tasks.{Tasks}
use Rattle.memory.specs.View.{SPAN, head_of, cpu_at, view}
use Rattle.memory.proofs.ViewLaws.{view-state, view-epoch, view-home, view-mark, view-len, view-current, view-idle, view-parked, view-overwrites, view-events, view-peak}
use Rattle.checks.specs.Parts.{CpuBlank, FreshFits}

-- the same value at each place that counts
blank_list : {A : Type 0} (d : A) (n : ℕ) (l : List A) → n ≤ length l → ((i : ℕ) → i < n → get_or l i d ≡ d) → take n l ≡ replicate n d
blank_list d n l h same =
    let k = length-take-le n l h in
    ext_get_or d (take n l) (replicate n d) (k ∙ sym (length-replicate n d))
    (λ i p. let q : i < n = rw k at p in get_or-take n l i d q ∙ same i q ∙ sym (get_or-replicate n i d d q))

blank-tab : {A : Type 0} (d : A) (n : ℕ) (f : ℕ → A) → ((i : ℕ) → i < n → f i ≡ d) → tab n f ≡ replicate n d
blank-tab d n f same =
    ext_get_or d (tab n f) (replicate n d) (length-tab n f ∙ sym (length-replicate n d))
    (λ i p. let q : i < n = rw (length-tab n f) at p in get_or-tab n f i d q ∙ same i q ∙ sym (get_or-replicate n i d d q))

not_parked : {A : Type 0} (b : Bool) (x : A) → cond b (Some x) None ≡ None → b ≡ false
not_parked true x e = let z : ◌≡◌ {A = ℕ} 0 1 = cc in absurd (omega arith)
not_parked false x e = refl

module _ (t : Tasks) where
  blank-cpu : (c : ℕ) → CpuBlank t.small.lens t.small.currents t.small.idles c → cpu_at t c ≡ no_cpu
  unfolding cpu_at
  blank-cpu c b =
      rw (b.len, b.current, b.idle, around-none (id_at t.ring_slots t.ring_epochs) t.small.n (c * SPAN) (head_of t c))

  pub fits_fresh : t.small.n ≤ length t.states → t.small.n ≤ length t.epochs → t.small.n ≤ length t.homes → t.small.n ≤ length t.marks → FreshFits t.states t.epochs t.homes t.marks t.small → view t ≡ fresh t.small.n
  unfolding view
  fits_fresh ls le lh lm f =
      rw (blank_list EMPTY t.small.n t.states ls (λ i h. (f.slots i h).state), blank_list 0 t.small.n t.epochs le (λ i h. (f.slots i h).epoch), blank_list 0 t.small.n t.homes lh (λ i h. (f.slots i h).home), blank_list 0 t.small.n t.marks lm (λ i h. (f.slots i h).mark), map-replicate is_set t.small.n 0, blank-tab no_cpu CPUS (cpu_at t) (λ c h. blank-cpu c (f.cpus c h)), f.parked, f.overwrites, f.events, f.peak)

  pub fresh-fits : view t ≡ fresh t.small.n → FreshFits t.states t.epochs t.homes t.marks t.small
  fresh-fits e =
      record {
        slots =
            λ i h.
            record {
              state = sym (view-state t i h) ∙ ap (λ m. state_of m i) e ∙ get_or-all {A = ℕ} t.small.n i 0;
              epoch = sym (view-epoch t i h) ∙ ap (λ m. epoch_of m i) e ∙ get_or-all {A = ℕ} t.small.n i 0;
              home = sym (view-home t i h) ∙ ap (λ m. home_of m i) e ∙ get_or-all {A = ℕ} t.small.n i 0;
              mark = off_set (get_or t.marks i 0) (sym (view-mark t i h) ∙ ap (λ m. mark_of m i) e ∙ get_or-all t.small.n i false);
            };
        cpus =
            λ c h.
            let k : cpu_of (view t) c ≡ no_cpu = ap (λ m. cpu_of m c) e ∙ get_or-all CPUS c no_cpu in
            record {
              len = sym (view-len t c h) ∙ ap (λ (x : Cpu). length x.queue) k;
              current = sym (view-current t c h) ∙ ap (λ (x : Cpu). x.current) k;
              idle = sym (view-idle t c h) ∙ ap (λ (x : Cpu). x.idle) k;
            };
        parked = off_set t.small.parked (not_parked (is_set t.small.parked) t.small.parked_id (sym (view-parked t) ∙ ap (λ (m : Model). m.parked) e));
        overwrites = sym (view-overwrites t) ∙ ap (λ (m : Model). m.overwrites) e;
        events = sym (view-events t) ∙ ap (λ (m : Model). m.block_events) e;
        peak = sym (view-peak t) ∙ ap (λ (m : Model). m.peak) e;
      }
