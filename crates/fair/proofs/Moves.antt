-- What a call does to the queue of a CPU where somebody waits: entries join its tail, or its head is chosen, or one entry
-- is stolen. Nothing else moves it.
use Rattle.std.specs.Prelude.{Option, Some, None}
use mathlib.Core.Path.{◌≡◌, refl, sym, ◌∙◌, ap, subst}
use mathlib.Core.Bool.{Bool, true, false, ◌&&◌, ◌||◌, not, cond}
use mathlib.Core.Logic.{⊎_elim}
use mathlib.Core.List.{List, [], ◌∷◌, ◌++◌, append-nil}
use Prim.Native.Nat.{ℕ, ◌<◌}
use native.Mathlib.Omega.{arith}
use native.Mathlib.Decide.{ℕ_discrete}
use lib.ListN.{length, get_or}
use lib.Seq.{get_or-set_same, get_or-set_other}
use lib.Dec.{eqb, ltb}
use borrow.Author.Tests.{eq-eqb, ne_eqb, lt-ltb}
use Rattle.lists.proofs.Basics.{not_both, true_or_false}
use Rattle.ids.specs.declared.TaskId.{TaskId}
use Rattle.ids.specs.Id.{same_id, idle}
use Rattle.answers.specs.Reply.{Reply, stays, switched, is_refused}
use Rattle.answers.specs.Contract.{Step, refusing}
use Rattle.model.specs.Model.{Model, Cpu, CPUS, no_cpu, cpu_of, queue_of, current_of, idle_of, with_cpu, started, started_on, known, is_idle, state_of, home_of, free_slot, tenant, set_queue, with_state, with_home, with_mark, pushed, READY, BLOCKED}
use Rattle.model.specs.Sound.{Shape, Live}
use Rattle.model.specs.Steps.{when_started, start_step, start_cpu_step, claimed, admit_step, admitted, mark_step, wake_step, woken, collect_step}
use Rattle.model.specs.Switch.{Kind, yield, preempt, block, exit, is_yield, is_nil, idles, peer_of, loot_at, robbed, can_steal, stealing, try_steal_step, leaves, enters, released, parks, chooses, turn, pulls, switch_on, switch_step}
use Rattle.model.specs.Calls.{Call, start, start1, admit, switch, mark, steal, wake, collect, read, step}
use Rattle.model.proofs.Counting.{get_or-set-kept}
use Rattle.model.proofs.Facts.{live-started, by_test}
use Rattle.model.proofs.Steals.{can-steal}
use Rattle.model.proofs.StealLaws.{steals-nothing, peer-queue, other-queue}
use Rattle.model.proofs.SwitchLaws.{handed, slept, exited, turn-yield, turn-preempt, turn-block, turn-exit}
use Rattle.fair.specs.Fair.{Event, nothing, event, loot_of}

pub record Joins (q r : List TaskId) (e : Event) (loot : Option TaskId) : Type 0 where
  pub back : List TaskId
  pub is : r ≡ q ++ back
  pub turn : e.turn ≡ false
  pub chosen : e.chosen ≡ []
  pub none_lost : loot ≡ None

pub record Chooses (q r : List TaskId) (e : Event) (loot : Option TaskId) : Type 0 where
  pub head : TaskId
  pub rest : List TaskId
  pub back : List TaskId
  pub was : q ≡ head ∷ rest
  pub is : r ≡ rest ++ back
  pub turn : e.turn ≡ true
  pub chosen : e.chosen ≡ head ∷ []
  pub none_lost : loot ≡ None

pub record Robs (q r : List TaskId) (e : Event) (loot : Option TaskId) : Type 0 where
  pub place : ℕ
  pub below : place < length q
  pub is : r ≡ robbed place q
  pub turn : e.turn ≡ false
  pub chosen : e.chosen ≡ []
  pub lost : loot ≡ Some (get_or q place idle)

pub data Move (q r : List TaskId) (e : Event) (loot : Option TaskId) : Type 0 where
  joins : Joins q r e loot → Move q r e loot
  turns : Chooses q r e loot → Move q r e loot
  robs : Robs q r e loot → Move q r e loot

-- what a call is to those who wait on c, given what it answers and leaves
abbrev Moved : Model → ℕ → Call → Step Model → Type 0
Moved m c k s = Move (queue_of m c) (queue_of s.after c) (event m c k s.reply) (loot_of m c (event m c k s.reply).thief)

and_last : (a b k : Bool) → (a && b) ≡ true → (a && b && k) ≡ k
and_last true true k e = refl
and_last true false k e = absurd (not_both e refl)
and_last false b k e = absurd (not_both e refl)

and_none : (a b k : Bool) → (a && b) ≡ false → (a && b && k) ≡ false
and_none true true k e = absurd (not_both refl e)
and_none true false k e = refl
and_none false b k e = refl

and_second : (a k : Bool) → (a && false && k) ≡ false
and_second true k = refl
and_second false k = refl

and_fourth : (a b : Bool) → (true && a && b && false) ≡ false
and_fourth true true = refl
and_fourth true false = refl
and_fourth false b = refl

and_third : (a b k : Bool) → (a && b && false && k) ≡ false
and_third true true k = refl
and_third true false k = refl
and_third false b k = refl

and_false : (a : Bool) → (a && false) ≡ false
and_false true = refl
and_false false = refl

cond_same : {A : Type 0} {x : A} (b : Bool) → cond b x x ≡ x
cond_same true = refl
cond_same false = refl

-- by whether idle runs, and whether it is a yield
no_turn : (i y : Bool) → (i && not y) ≡ true → (y || not i) ≡ false
no_turn true true e = absurd (not_both e refl)
no_turn true false e = refl
no_turn false y e = absurd (not_both e refl)

is_turn : (i y : Bool) → (i && not y) ≡ false → (y || not i) ≡ true
is_turn true true e = refl
is_turn true false e = absurd (not_both refl e)
is_turn false true e = refl
is_turn false false e = refl

pub record Waiting (m : Model) (c : ℕ) : Type 0 where
  pub shape : Shape m
  pub live : Live m
  pub cpu : c < CPUS
  pub head : TaskId
  pub rest : List TaskId
  pub queue : queue_of m c ≡ head ∷ rest

-- nothing but that entries join the tail
pub record Keeps (m : Model) (c : ℕ) (x : Model) : Type 0 where
  pub back : List TaskId
  pub is : queue_of x c ≡ queue_of m c ++ back

module _ (m : Model) (c : ℕ) where
  keeps_by : (x : Model) → queue_of x c ≡ queue_of m c → Keeps m c x
  keeps_by x q = record { back = []; is = q ∙ sym (append-nil (queue_of m c)) }

  keeps_same : Keeps m c m
  keeps_same = keeps_by m refl

  keeps_if : (b : Bool) (x y : Step Model) → (b ≡ true → Keeps m c x.after) → (b ≡ false → Keeps m c y.after) → Keeps m c (cond b x y).after
  keeps_if true x y f g = f refl
  keeps_if false x y f g = g refl

  -- one more at the tail of a queue, this one or another
  keeps_pushed : (x : Model) → x.cpus ≡ m.cpus → c < length m.cpus → (d : ℕ) (id : TaskId) → Keeps m c (pushed x d id)
  keeps_pushed x e h d id =
      elim (ℕ_discrete d c) [
        | yes p ↦ record { back = id ∷ []; is = rw (p, e) (ap (λ (k : Cpu). k.queue) (get_or-set_same m.cpus c (set_queue (cpu_of m c) (queue_of m c ++ (id ∷ []))) no_cpu h)) }
        | no ne ↦ keeps_by (pushed x d id) (rw e (ap (λ (k : Cpu). k.queue) (get_or-set_other m.cpus d c (set_queue (cpu_of m d) (queue_of m d ++ (id ∷ []))) no_cpu (λ p. ne (sym p)))))
      ]

  keeps_as : (x y : Model) → y.cpus ≡ x.cpus → Keeps m c x → Keeps m c y
  keeps_as x y e k = record { back = k.back; is = rw e k.is }

  -- a call that is nothing to those who wait there
  quiet : (x : Model) → Keeps m c x → Move (queue_of m c) (queue_of x c) nothing None
  quiet x k = joins (record { back = k.back; is = k.is; turn = refl; chosen = refl; none_lost = refl })

module _ (m : Model) (c : ℕ) (w : Waiting m c) where
  on : started m ≡ true
  on = live-started m w.live

  within : c < length m.cpus
  within = omega (arith, w.shape.cpus)

  keeps_started : (x : Step Model) → Keeps m c x.after → Keeps m c (when_started m x).after
  keeps_started x k = rw on k

  keeps_start : Keeps m c (start_step m).after
  unfolding start_step
  keeps_start = rw on (keeps_same m c)

  keeps_start_cpu : (d : ℕ) → Keeps m c (start_cpu_step m d).after
  unfolding start_cpu_step claimed
  keeps_start_cpu d =
      keeps_started _ (keeps_if m c (started_on m d) _ _ (λ _. keeps_same m c)
      (λ _. keeps_if m c (ltb (free_slot m) m.n) _ _ (λ _. keeps_by m c _ (get_or-set-kept (λ (k : Cpu). k.queue) m.cpus d (record { queue = queue_of m d; current = tenant m (free_slot m); idle = tenant m (free_slot m) }) no_cpu refl c)) (λ _. keeps_same m c)))

  keeps_admit : (d : ℕ) → Keeps m c (admit_step m d).after
  unfolding admit_step admitted
  keeps_admit d =
      keeps_started _ (keeps_if m c (ltb d (length m.cpus) && ltb (free_slot m) m.n) _ _
      (λ _.
      let housed = with_mark (with_home (with_state m (free_slot m) READY) (free_slot m) d) (free_slot m) false in
      keeps_as m c (pushed housed d (tenant m (free_slot m))) (admitted m d (free_slot m)) refl (keeps_pushed m c housed refl within d (tenant m (free_slot m))))
      (λ _. keeps_same m c))

  keeps_mark : (id : TaskId) (b : Bool) → Keeps m c (mark_step m id b).after
  unfolding mark_step
  keeps_mark id b = keeps_started _ (keeps_if m c (known m id && not (is_idle m id)) _ _ (λ _. keeps_by m c _ refl) (λ _. keeps_same m c))

  keeps_wake : (id : TaskId) → Keeps m c (wake_step m id).after
  unfolding wake_step woken
  keeps_wake id =
      keeps_started _ (keeps_if m c (known m id && eqb (state_of m id.slot) BLOCKED) _ _
      (λ _. keeps_pushed m c (with_state m id.slot READY) refl within (home_of m id.slot) id)
      (λ _. keeps_same m c))

  keeps_collect : Keeps m c (collect_step m).after
  unfolding collect_step
  keeps_collect = keeps_started _ (keeps_by m c _ refl)

  -- STEALS

  -- a thief's queue is empty, so it is not the one where somebody waits
  not_thief : (t : ℕ) → can_steal m t ≡ true → t ≡ c → ⊥
  not_thief t can e = let z = ap length (sym w.queue ∙ subst (λ d. queue_of m d ≡ []) e (can-steal m t can).empty) in omega arith

  -- what a try leaves of the queue, by whose it looks into
  pub stolen_here : (t : ℕ) → can_steal m t ≡ true → peer_of m t ≡ c → queue_of (stealing m t) c ≡ robbed (loot_at m (queue_of m c)) (queue_of m c)
  stolen_here t can e = subst (λ d. queue_of (stealing m t) d ≡ robbed (loot_at m (queue_of m d)) (queue_of m d)) e (peer-queue m w.shape t can)

  found_here : (t : ℕ) → can_steal m t ≡ true → peer_of m t ≡ c → loot_at m (queue_of m c) < length (queue_of m c)
  found_here t can e = subst (λ d. loot_at m (queue_of m d) < length (queue_of m d)) e (can-steal m t can).found

  stolen_else : (t : ℕ) → (can_steal m t ≡ true → peer_of m t ≡ c → ⊥) → queue_of (stealing m t) c ≡ queue_of m c
  stolen_else t f =
      ⊎_elim
      (λ (can : can_steal m t ≡ true). other-queue m w.shape t can c (λ e. not_thief t can (sym e)) (λ e. f can (sym e)))
      (λ (can : can_steal m t ≡ false). ap (λ x. queue_of x c) (steals-nothing m t can))
      (true_or_false (can_steal m t))

  -- a steal, or none, of a call that is no turn on c
  robbing : (e : Event) (t : ℕ) (x : Model) → e.turn ≡ false → e.chosen ≡ [] → e.thief ≡ cond (can_steal m t) (Some t) None → queue_of x c ≡ queue_of (stealing m t) c → Move (queue_of m c) (queue_of x c) e (loot_of m c e.thief)
  robbing e t x turn chosen thief q =
      ⊎_elim
      (λ (can : can_steal m t ≡ true).
      elim (ℕ_discrete (peer_of m t) c) [
        | yes p ↦ robs (record { place = loot_at m (queue_of m c); below = found_here t can p; is = q ∙ stolen_here t can p; turn = turn; chosen = chosen; lost = rw (thief, can, eq-eqb (peer_of m t) c p) })
        | no p ↦ joins (record { back = []; is = q ∙ stolen_else t (λ _ e. p e) ∙ sym (append-nil (queue_of m c)); turn = turn; chosen = chosen; none_lost = rw (thief, can, ne_eqb (peer_of m t) c p) })
      ])
      (λ (can : can_steal m t ≡ false).
      joins (record { back = []; is = q ∙ stolen_else t (λ e _. absurd (not_both e can)) ∙ sym (append-nil (queue_of m c)); turn = turn; chosen = chosen; none_lost = rw (thief, can) }))
      (true_or_false (can_steal m t))

  moved-steal : (t : ℕ) → Moved m c (steal t) (try_steal_step m t)
  unfolding try_steal_step
  moved-steal t = rw on (robbing (record { turn = false; chosen = []; thief = cond (can_steal m t) (Some t) None }) t (stealing m t) refl refl refl refl)

  -- SWITCHES

  -- what an unrefused switch is to those who wait on another CPU: no turn, and a steal where an idle CPU with an empty
  -- queue finds one
  elsewhere : (d : ℕ) (kind : Kind) (r : Reply) (x : Model) → (d ≡ c → ⊥) → is_refused r ≡ false → queue_of x c ≡ queue_of (pulls m d) c → Move (queue_of m c) (queue_of x c) (event m c (switch d kind) r) (loot_of m c (event m c (switch d kind) r).thief)
  unfolding pulls
  elsewhere d kind r x ne fine q = go (idles m d && is_nil (queue_of m d)) refl
    where
      go : (b : Bool) → (idles m d && is_nil (queue_of m d)) ≡ b → Move (queue_of m c) (queue_of x c) (event m c (switch d kind) r) (loot_of m c (event m c (switch d kind) r).thief)
      go true p = robbing (event m c (switch d kind) r) d x (rw (ne_eqb d c ne)) (rw (ne_eqb d c ne)) (rw fine (ap (λ b. cond b (Some d) None) (and_last (idles m d) (is_nil (queue_of m d)) (can_steal m d) p))) (q ∙ rw p)
      go false p = joins (record { back = []; is = q ∙ rw p (sym (append-nil (queue_of m c))); turn = rw (ne_eqb d c ne); chosen = rw (ne_eqb d c ne); none_lost = rw fine (ap (λ b. loot_of m c (cond b (Some d) None)) (and_none (idles m d) (is_nil (queue_of m d)) (can_steal m d) p)) })

  -- a switch on c: its queue is not empty, so it steals nothing
  not_nil : is_nil (queue_of m c) ≡ false
  not_nil = rw w.queue

  no_thief : (kind : Kind) (r : Reply) → (event m c (switch c kind) r).thief ≡ None
  no_thief kind r = rw not_nil (ap (λ b. cond b (Some c) None) (and_third (not (is_refused r)) (idles m c) (can_steal m c)))

  module _ (start : started_on m c ≡ true) where
    -- one that stays is no turn ..
    stays_here : (kind : Kind) → (idles m c && not (is_yield kind)) ≡ true → Moved m c (switch c kind) (record { reply = stays; after = m })
    stays_here kind e =
        joins (record {
          back = [];
          is = sym (append-nil (queue_of m c));
          turn = rw (eq-eqb c c refl, no_turn (idles m c) (is_yield kind) e);
          chosen = rw (eq-eqb c c refl);
          none_lost = ap (loot_of m c) (no_thief kind stays);
        })

    -- .. and one that is a turn chooses the head
    chooses-head : (kind : Kind) (release : Option TaskId) (x : Model) (back : List TaskId) → (idles m c && not (is_yield kind)) ≡ false → queue_of x c ≡ w.rest ++ back → Moved m c (switch c kind) (record { reply = switched (current_of m c) w.head release; after = x })
    chooses-head kind release x back e q =
        turns (record {
          head = w.head;
          rest = w.rest;
          back = back;
          was = w.queue;
          is = q;
          turn = rw (eq-eqb c c refl, is_turn (idles m c) (is_yield kind) e);
          chosen = rw (eq-eqb c c refl);
          none_lost = ap (loot_of m c) (no_thief kind (switched (current_of m c) w.head release));
        })

    -- the queue of c where the head has taken over
    entered : (q : List TaskId) → queue_of (with_cpu m c (record { queue = q; current = w.head; idle = idle_of m c })) c ≡ q
    entered q = ap (λ (k : Cpu). k.queue) (get_or-set_same m.cpus c (record { queue = q; current = w.head; idle = idle_of m c }) no_cpu within)

    -- with the task that ran behind it
    abbrev behind : List TaskId
    behind = w.rest ++ (current_of m c ∷ [])

    turns_here : (kind : Kind) → (idles m c && not (is_yield kind)) ≡ false → Moved m c (switch c kind) (turn m c kind)
    turns_here yield e =
        subst (λ s. Moved m c (switch c yield) s) (sym (turn-yield m w.shape w.live c w.cpu start w.head w.rest w.queue))
        (chooses-head yield None (handed m c READY w.head behind) (current_of m c ∷ []) e (entered behind))
    turns_here preempt e =
        subst (λ s. Moved m c (switch c preempt) s) (sym (turn-preempt m w.shape w.live c w.cpu start w.head w.rest w.queue))
        (chooses-head preempt None (handed m c READY w.head behind) (current_of m c ∷ []) e (entered behind))
    turns_here block e =
        subst (λ s. Moved m c (switch c block) s) (sym (turn-block m w.shape w.live c w.cpu start w.head w.rest w.queue))
        (chooses-head block None (slept m c w.head w.rest) [] e (entered w.rest ∙ sym (append-nil w.rest)))
    turns_here exit e =
        subst (λ s. Moved m c (switch c exit) s) (sym (turn-exit m w.shape w.live c w.cpu start w.head w.rest w.queue))
        (chooses-head exit m.parked (exited m c w.head w.rest) [] e (entered w.rest ∙ sym (append-nil w.rest)))

module _ (x : Model) (c d : ℕ) (ne : d ≡ c → ⊥) where
  else_set : (k : Cpu) → queue_of (with_cpu x d k) c ≡ queue_of x c
  else_set k = ap (λ (k : Cpu). k.queue) (get_or-set_other x.cpus d c k no_cpu (λ e. ne (sym e)))

  leaves_else : (kind : Kind) → queue_of (leaves x d kind) c ≡ queue_of x c
  unfolding leaves
  leaves_else yield = else_set _
  leaves_else preempt = else_set _
  leaves_else block = refl
  leaves_else exit = refl

  enters_else : (kind : Kind) (from y : TaskId) (l : List TaskId) → queue_of (parks (enters x d y l) kind from) c ≡ queue_of x c
  unfolding enters parks
  enters_else yield from y l = else_set _
  enters_else preempt from y l = else_set _
  enters_else block from y l = else_set _
  enters_else exit from y l = else_set _

  chooses_else : (kind : Kind) (from : TaskId) (q : List TaskId) → queue_of (chooses x d kind from q).after c ≡ queue_of x c
  unfolding chooses enters
  chooses_else kind from [] = refl
  chooses_else kind from (y ∷ l) = go (same_id y from)
    where
      go : (b : Bool) → queue_of (cond {A = Step Model} b (record { reply = stays; after = enters x d y l }) (record { reply = switched from y (released x kind); after = parks (enters x d y l) kind from })).after c ≡ queue_of x c
      go true = else_set _
      go false = enters_else kind from y l

-- a turn on one CPU leaves the queue of another
turn_else : (x : Model) (c d : ℕ) → (d ≡ c → ⊥) → (kind : Kind) → queue_of (turn x d kind).after c ≡ queue_of x c
unfolding turn
turn_else x c d ne kind = chooses_else (leaves x d kind) c d ne kind (current_of x d) (queue_of (leaves x d kind) d) ∙ leaves_else x c d ne kind

-- no answer of a switch on a started CPU refuses
chooses-fine : (x : Model) (d : ℕ) (kind : Kind) (from : TaskId) (q : List TaskId) → is_refused (chooses x d kind from q).reply ≡ false
unfolding chooses
chooses-fine x d kind from [] = refl
chooses-fine x d kind from (y ∷ l) = go (same_id y from)
  where
    go : (b : Bool) → is_refused (cond {A = Step Model} b (record { reply = stays; after = enters x d y l }) (record { reply = switched from y (released x kind); after = parks (enters x d y l) kind from })).reply ≡ false
    go true = refl
    go false = refl

turn-fine : (x : Model) (d : ℕ) (kind : Kind) → is_refused (turn x d kind).reply ≡ false
unfolding turn
turn-fine x d kind = chooses-fine (leaves x d kind) d kind (current_of x d) (queue_of (leaves x d kind) d)

module _ (m : Model) (c : ℕ) (w : Waiting m c) where
  on_fine : (d : ℕ) (kind : Kind) → is_refused (switch_on m d kind).reply ≡ false
  unfolding switch_on
  on_fine d kind = by_test (λ (s : Step Model). is_refused s.reply ≡ false) (idles m d && not (is_yield kind)) _ _ (λ _. refl) (λ _. turn-fine (pulls m d) d kind)

  on_else : (d : ℕ) (kind : Kind) → (d ≡ c → ⊥) → queue_of (switch_on m d kind).after c ≡ queue_of (pulls m d) c
  unfolding switch_on
  on_else d kind ne = by_test (λ (s : Step Model). queue_of s.after c ≡ queue_of (pulls m d) c) (idles m d && not (is_yield kind)) _ _ (λ _. refl) (λ _. turn_else (pulls m d) c d ne kind)

  switched_else : (d : ℕ) (kind : Kind) → (d ≡ c → ⊥) → Moved m c (switch d kind) (switch_on m d kind)
  switched_else d kind ne = elsewhere m c w d kind (switch_on m d kind).reply (switch_on m d kind).after ne (on_fine d kind) (on_else d kind ne)

  pulls-none : pulls m c ≡ m
  unfolding pulls
  pulls-none = rw (not_nil m c w) (ap (λ b. cond b (stealing m c) m) (and_false (idles m c)))

  switched_here : (on-c : started_on m c ≡ true) (kind : Kind) → Moved m c (switch c kind) (switch_on m c kind)
  unfolding switch_on
  switched_here on-c kind =
      rw pulls-none (by_test (λ s. Moved m c (switch c kind) s) (idles m c && not (is_yield kind)) _ _ (stays_here m c w on-c kind) (turns_here m c w on-c kind))

  no-cpu : (d : ℕ) → ltb d (length m.cpus) ≡ false → can_steal m d ≡ false
  unfolding can_steal
  no-cpu d e = rw e

  moved-switch : (d : ℕ) (kind : Kind) → Moved m c (switch d kind) (switch_step m d kind)
  unfolding switch_step
  moved-switch d kind =
      let s : Step Model = cond (ltb d (length m.cpus)) (cond (started_on m d) (switch_on m d kind) (refusing 6 m)) (record { reply = stays; after = m }) in
      subst (λ (x : Step Model). Moved m c (switch d kind) x) (sym (ap (λ b. cond b s (refusing 3 m)) (on m c w))) (go (ltb d (length m.cpus)) refl (started_on m d) refl)
    where
      go : (b : Bool) → ltb d (length m.cpus) ≡ b → (o : Bool) → started_on m d ≡ o → Moved m c (switch d kind) (cond b (cond o (switch_on m d kind) (refusing 6 m)) (record { reply = stays; after = m }))
      go true e true o =
          elim (ℕ_discrete d c) [
            | yes p ↦ subst (λ x. Moved m c (switch x kind) (switch_on m x kind)) (sym p) (switched_here (rw p at o) kind)
            | no p ↦ switched_else d kind p
          ]
      go true e false o = joins (record { back = []; is = sym (append-nil (queue_of m c)); turn = and_second (eqb d c) (is_yield kind || not (idles m d)); chosen = cond_same (eqb d c); none_lost = refl })
      go false e o p =
          let ne = ne_eqb d c (λ q. not_both (lt-ltb d (length m.cpus) (rw q (within m c w))) e) in
          joins (record {
            back = [];
            is = sym (append-nil (queue_of m c));
            turn = rw ne;
            chosen = rw ne;
            none_lost = rw (no-cpu d e) (ap (λ b. loot_of m c (cond b (Some d) None)) (and_fourth (idles m d) (is_nil (queue_of m d))));
          })

  pub moves : (k : Call) → Moved m c k (step m k)
  unfolding step
  moves start = quiet m c _ (keeps_start m c w)
  moves start1 = quiet m c _ (keeps_start_cpu m c w 1)
  moves (admit d) = quiet m c _ (keeps_admit m c w d)
  moves (switch d kind) = moved-switch d kind
  moves (mark id b) = quiet m c _ (keeps_mark m c w id b)
  moves (steal t) = moved-steal m c w t
  moves (wake id) = quiet m c _ (keeps_wake m c w id)
  moves collect = quiet m c _ (keeps_collect m c w)
  moves (read q) = quiet m c m (keeps_same m c)
