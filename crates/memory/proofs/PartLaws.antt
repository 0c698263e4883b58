-- What the code reads off the arrays is what the model reads off the view.
use Rattle.std.specs.Prelude.{Some, None}
use mathlib.Core.Path.{◌≡◌, refl, sym, ◌∙◌, ap, ap₂}
use mathlib.Core.Logic.{⊎_elim}
use mathlib.Core.Bool.{Bool, true, false, ◌&&◌, ◌||◌, not, cond}
use mathlib.Core.List.{List}
use Prim.Native.Nat.{ℕ, zero, suc, ◌≤◌, ◌<◌, max, suc-le-suc, zero-le}
use native.Mathlib.Omega.{arith}
use borrow.Author.Tests.{le-ltb}
use lib.Dec.{eqb, ltb}
use lib.ListN.{length, get_or}
use lib.Seq.{ext_get_or}
use Rattle.lists.specs.Flags.{is_set}
use Rattle.lists.specs.Tab.{tab}
use Rattle.lists.specs.Search.{first_at, any_of}
use Rattle.lists.specs.Entries.{taken}
use Rattle.lists.proofs.Basics.{lt_or_ge}
use Rattle.lists.proofs.TabLaws.{length-tab, get_or-tab}
use Rattle.ids.specs.declared.TaskId.{TaskId}
use Rattle.ids.specs.Id.{same_id, idle}
use Rattle.model.specs.Model.{Cpu, CPUS, EMPTY, known, is_idle, vacant, free_slot, occupied, blocked, rest_to, noted}
use Rattle.model.specs.Switch.{stealeable}
use Rattle.memory.specs.declared.Tasks.{Tasks}
use Rattle.memory.specs.View.{cpu_at, view, Rep}
use Rattle.memory.specs.Parts.{known_in, idle_in, stealeable_in, vacant_in, free_in, occupied_in, blocked_in}
use Rattle.memory.proofs.Puts.{put_rest}
use Rattle.memory.proofs.ViewLaws.{view-state, view-epoch, view-mark, view-parked}

-- two tests that agree along two lists
any_tab : {A B : Type 0} (p : A → Bool) (q : B → Bool) (k : ℕ) (f : ℕ → A) (g : ℕ → B) → ((j : ℕ) → j < k → p (f j) ≡ q (g j)) → any_of p (tab k f) ≡ any_of q (tab k g)
unfolding any_of tab
any_tab p q zero f g h = refl
any_tab p q (suc k) f g h = ap₂ (λ a b. a || b) (h zero (suc-le-suc zero-le)) (any_tab p q k (λ j. f (suc j)) (λ j. g (suc j)) (λ j l. h (suc j) (suc-le-suc l)))

first-tab : {A : Type 0} (p q : A → Bool) (k : ℕ) (f : ℕ → A) → ((j : ℕ) → j < k → p (f j) ≡ q (f j)) → first_at p (tab k f) ≡ first_at q (tab k f)
unfolding first_at tab
first-tab p q zero f h = refl
first-tab p q (suc k) f h = ap₂ (λ a b. cond a 0 (suc b)) (h zero (suc-le-suc zero-le)) (first-tab p q k (λ j. f (suc j)) (λ j l. h (suc j) (suc-le-suc l)))

-- a list by its elements
tab-all : {A : Type 0} (k : ℕ) (l : List A) (d : A) → length l ≡ k → tab k (λ j. get_or l j d) ≡ l
tab-all k l d e =
    ext_get_or d (tab k (λ j. get_or l j d)) l (length-tab k (λ j. get_or l j d) ∙ sym e)
    (λ i h. get_or-tab k (λ j. get_or l j d) i d (omega (arith, length-tab k (λ j. get_or l j d))))

module _ (t : Tasks) where
  pub view_known : (id : TaskId) → known (view t) id ≡ known_in t.epochs t.small.n id
  unfolding view
  view_known id =
      ⊎_elim (λ (h : id.slot < t.small.n). ap (λ e. ltb id.slot t.small.n && eqb e id.epoch) (view-epoch t id.slot h))
      (λ (h : t.small.n ≤ id.slot). rw (le-ltb id.slot t.small.n h))
      (lt_or_ge id.slot t.small.n)

  pub view-idles : Rep t → (id : TaskId) → is_idle (view t) id ≡ idle_in t.small.idles id
  unfolding view cpu_at idle_in
  view-idles r id =
      any_tab (λ (k : Cpu). same_id id k.idle) (λ i. same_id id i) CPUS (cpu_at t) (λ c. get_or t.small.idles c idle) (λ j h. refl)
      ∙ ap (any_of (λ i. same_id id i)) (tab-all CPUS t.small.idles idle r.idles)

  pub view-stealeable : Rep t → (id : TaskId) → stealeable (view t) id ≡ stealeable_in t.epochs t.marks t.small.n t.small.idles id
  view-stealeable r id =
      ⊎_elim
      (λ (h : id.slot < t.small.n).
      rw (view-idles r id)
      (ap₂ (λ a b. a && b && not (idle_in t.small.idles id)) (view_known id) (view-mark t id.slot h)))
      (λ (h : t.small.n ≤ id.slot). rw (view_known id, le-ltb id.slot t.small.n h))
      (lt_or_ge id.slot t.small.n)

  view-vacant : (s : ℕ) → s < t.small.n → vacant (view t) s ≡ vacant_in t.states t.small.parked t.small.parked_id.slot s
  view-vacant s h = rw (view-parked t) (ap₂ (λ a b. eqb a EMPTY && not b) (view-state t s h) (go (is_set t.small.parked)))
    where
      go : (b : Bool) → taken (λ (p : TaskId). eqb p.slot s) (cond b (Some t.small.parked_id) None) ≡ (b && eqb t.small.parked_id.slot s)
      go true = refl
      go false = refl

  pub view-free : free_slot (view t) ≡ free_in t.states t.small.parked t.small.parked_id.slot t.small.n
  unfolding free_slot free_in view
  view-free = first-tab (vacant (view t)) (vacant_in t.states t.small.parked t.small.parked_id.slot) t.small.n (λ s. s) view-vacant

  pub view-occupied : occupied (view t) ≡ occupied_in t.states t.small.n
  unfolding view occupied_in
  view-occupied = refl

  pub view-blocked : blocked (view t) ≡ blocked_in t.states t.small.n
  unfolding view blocked_in
  view-blocked = refl

-- the peak raised to what is occupied now
pub store_noted : (t : Tasks) (k : ℕ) → k ≡ max t.small.peak (occupied_in t.states t.small.n) → view (put_rest t t.small.parked t.small.parked_id t.small.overwrites t.small.block_events k) ≡ noted (view t)
unfolding view occupied_in cpu_at
store_noted t k e = ap (λ p. rest_to (view t) (view t).parked (view t).overwrites (view t).block_events p) e
