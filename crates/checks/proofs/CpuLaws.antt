-- What the walk along the CPUs notes: Running for the currents of started CPUs, and nothing else. Each CPU can be tested on
-- the notes of the queues alone, since currents have different homes.
use Rattle.std.proofs.Common.{◌≡◌, ℕ, zero, suc, ◌<◌, ◌≤◌, true, false, List, length, get_or, set, sym, refl, ap, ◌∙◌, ⊎_elim, arith, length-set, get_or-set_other, get_or-set_same}
use native.Mathlib.Decide.{ℕ_discrete}
use Rattle.lists.proofs.Basics.{true_or_false}
use Rattle.ids.specs.declared.TaskId.{TaskId}
use Rattle.ids.specs.Id.{idle}
use Rattle.model.specs.Model.{RUNNING}
use Rattle.checks.specs.Walk.{notes_at, Passes}
use Rattle.checks.specs.Parts.{noted, is_on, CpuFits, cpu_notes, CpusFit, cpus_notes}
use Rattle.checks.proofs.WalkLaws.{passes_at, passes_first}

-- slot i is the current of CPU c, which is started
pub record Runs (currents idles : List TaskId) (c i : ℕ) : Type 0 where
  pub on : is_on c (get_or idles c idle) ≡ true
  pub slot : (get_or currents c idle).slot ≡ i

module _ (currents idles : List TaskId) where
  on_step : (k : ℕ) (w : List ℕ) → is_on k (get_or idles k idle) ≡ true → cpus_notes currents idles (suc k) w ≡ noted RUNNING (get_or currents k idle) (cpus_notes currents idles k w)
  unfolding notes_at
  on_step k w e = rw e

  off-step : (k : ℕ) (w : List ℕ) → is_on k (get_or idles k idle) ≡ false → cpus_notes currents idles (suc k) w ≡ cpus_notes currents idles k w
  unfolding notes_at
  off-step k w e = rw e

module _ (states epochs homes marks : List ℕ) (n : ℕ) (currents idles : List TaskId) (w : List ℕ) (fit : n ≤ length w) where
  abbrev at : ℕ → List ℕ
  at k = cpus_notes currents idles k w

  abbrev Fit : ℕ → Type 0
  Fit k = CpusFit states epochs homes marks n currents idles k w

  abbrev Own : ℕ → List ℕ → Type 0
  Own c v = CpuFits states epochs homes marks n c (get_or currents c idle) (get_or idles c idle) v

  cpus-long : (k : ℕ) → length (at k) ≡ length w
  unfolding notes_at
  cpus-long zero = refl
  cpus-long (suc k) =
      ⊎_elim (λ e. ap length (on_step currents idles k w e) ∙ length-set (at k) (get_or currents k idle).slot RUNNING ∙ cpus-long k)
      (λ e. ap length (off-step currents idles k w e) ∙ cpus-long k)
      (true_or_false (is_on k (get_or idles k idle)))

  fit_at : (k c : ℕ) → c < k → Fit k → Own c (at c)
  fit_at k c h p = passes_at (λ c. CpuFits states epochs homes marks n c (get_or currents c idle) (get_or idles c idle)) (λ c. cpu_notes c (get_or currents c idle) (get_or idles c idle)) k c w h p

  fit_first : (k c : ℕ) → c ≤ k → Fit k → Fit c
  fit_first k c h p = passes_first (λ c. CpuFits states epochs homes marks n c (get_or currents c idle) (get_or idles c idle)) (λ c. cpu_notes c (get_or currents c idle) (get_or idles c idle)) k c w h p

  -- a CPU changes no note but its current's
  step_else : (k i : ℕ) → (is_on k (get_or idles k idle) ≡ true → i ≡ (get_or currents k idle).slot → ⊥) → get_or (at (suc k)) i 0 ≡ get_or (at k) i 0
  step_else k i far =
      ⊎_elim
      (λ e. ap (λ v. get_or v i 0) (on_step currents idles k w e) ∙ get_or-set_other (at k) (get_or currents k idle).slot i RUNNING 0 (far e))
      (λ e. ap (λ v. get_or v i 0) (off-step currents idles k w e))
      (true_or_false (is_on k (get_or idles k idle)))

  pub cpus_else : (k : ℕ) → CpusFit states epochs homes marks n currents idles k w → (i : ℕ) → (get_or homes i 0 < k → Runs currents idles (get_or homes i 0) i → ⊥) → get_or (cpus_notes currents idles k w) i 0 ≡ get_or w i 0
  unfolding notes_at Passes
  cpus_else zero p i out = refl
  cpus_else (suc k) p i out =
      step_else k i (λ e z. let h : get_or homes i 0 ≡ k = ap (λ s. get_or homes s 0) z ∙ (p.1.on e).current.homed.home in out (omega arith) (rw h (record { on = e; slot = sym z })))
      ∙ cpus_else k p.0 i (λ l. out (omega arith))

  -- what a CPU finds is what the first of them found
  same-note : (k : ℕ) → Fit k → get_or homes (get_or currents k idle).slot 0 ≡ k → get_or (at k) (get_or currents k idle).slot 0 ≡ get_or w (get_or currents k idle).slot 0
  same-note k p h = cpus_else k p (get_or currents k idle).slot (λ l _. omega arith)

  own_by : (k : ℕ) (v u : List ℕ) → (get_or homes (get_or currents k idle).slot 0 ≡ k → get_or u (get_or currents k idle).slot 0 ≡ get_or v (get_or currents k idle).slot 0) → Own k v → Own k u
  own_by k v u same o =
      record {
        first = o.first;
        on =
            λ e.
            let f = o.on e in
            record { current = record { homed = f.current.homed; free = same f.current.homed.home ∙ f.current.free }; idle = f.idle };
        off = o.off;
      }

  pub cpus_one : (k c : ℕ) → c < k → CpusFit states epochs homes marks n currents idles k w → CpuFits states epochs homes marks n c (get_or currents c idle) (get_or idles c idle) w
  cpus_one k c h p = own_by c (at c) w (λ e. sym (same-note c (fit_first k c (omega arith) p) e)) (fit_at k c h p)

  pub cpus-fit : (k : ℕ) → ((c : ℕ) → c < k → CpuFits states epochs homes marks n c (get_or currents c idle) (get_or idles c idle) w) → CpusFit states epochs homes marks n currents idles k w
  unfolding Passes
  cpus-fit zero o = tt
  cpus-fit (suc k) o = let p = cpus-fit k (λ c h. o c (omega arith)) in (p, own_by k w (at k) (same-note k p) (o k (omega arith)))

  -- the note of a current is Running
  pub cpus-at : (k : ℕ) → CpusFit states epochs homes marks n currents idles k w → (i : ℕ) → i < n → get_or homes i 0 < k → Runs currents idles (get_or homes i 0) i → get_or (cpus_notes currents idles k w) i 0 ≡ RUNNING
  unfolding notes_at Passes
  cpus-at zero p i hi h r = absurd (omega arith)
  cpus-at (suc k) p i hi h r =
      elim (ℕ_discrete (get_or homes i 0) k) [
        | yes e ↦
            let s = rw e at r in
            ap (λ v. get_or v i 0) (on_step currents idles k w s.on)
            ∙ ap (λ j. get_or (set (at k) j RUNNING) i 0) s.slot
            ∙ get_or-set_same (at k) i RUNNING 0 (omega (arith, cpus-long k))
        | no e ↦
            step_else k i (λ o z. e (ap (λ s. get_or homes s 0) z ∙ (p.1.on o).current.homed.home))
            ∙ cpus-at k p.0 i hi (omega arith) r
      ]
