-- The table as a whole: what its types tell, and that it is sound exactly when its rings fit and it is fresh or live.
use Rattle.std.proofs.Common.{◌≡◌, ℕ, ◌<◌, ◌≤◌, Bool, length, get_or, take, sym, ap, ◌∙◌, inl, inr, ⊎_elim, arith, length-take-le}
use lib.ListN.{length-map}
use Rattle.lists.specs.Flags.{FLAGS, is_set}
use Rattle.lists.specs.Tells.{Tells}
use Rattle.lists.proofs.Basics.{get_or-all}
use Rattle.model.specs.Model.{EMPTY, state_of, fresh}
use Rattle.model.specs.Sound as plain
use Rattle.memory.specs.declared.Tasks.{Tasks}
use Rattle.memory.specs.View.{view, Rep, Sound}
use Rattle.memory.proofs.ViewLaws.{view_n, view_ncpus, view-state}
use Rattle.checks.specs.Parts.{RingsFit, LiveFits, FreshFits, Typed}
use Rattle.checks.proofs.LiveLaws.{fits-live, live-fits}
use Rattle.checks.proofs.FreshLaws.{fits_fresh, fresh-fits}

-- two statements that hold together
pub tells_as : {P Q : Type 0} {r : Bool} → (P → Q) → (Q → P) → Tells r P → Tells r Q
tells_as to from g = record { true_is = λ e. to (g.true_is e); false_is = λ e q. g.false_is e (from q) }

module _ (t : Tasks) where
  module _ (ty : Typed t) (f : RingsFit t.small.n t.small.heads t.small.lens) where
    rep_of : ((i : ℕ) → i < t.small.n → get_or t.marks i 0 < FLAGS) → t.small.parked < FLAGS → Rep t
    rep_of marks parked =
        record {
          some = f.some;
          most = f.most;
          states = ty.states;
          epochs = ty.epochs;
          homes = ty.homes;
          marks = ty.marks;
          slots = ty.slots;
          tenures = ty.tenures;
          heads = ty.heads;
          lens = ty.lens;
          currents = ty.currents;
          idles = ty.idles;
          rings = λ c h. record { head = f.head c h; len = f.len c h };
          flags = marks;
          flag = parked;
        }

    full : t.small.n ≤ length t.states
    full = omega (arith, ty.states, f.most)

    shape_of : plain.Shape (view t)
    unfolding view
    shape_of =
        record {
          some = f.some;
          most = f.most;
          states = length-take-le t.small.n t.states full;
          epochs = length-take-le t.small.n t.epochs (omega (arith, ty.epochs, f.most));
          homes = length-take-le t.small.n t.homes (omega (arith, ty.homes, f.most));
          marks = length-map (take t.small.n t.marks) is_set ∙ length-take-le t.small.n t.marks (omega (arith, ty.marks, f.most));
          cpus = view_ncpus t;
        }

    -- where slot 0 is Empty the table has to be fresh, else live
    pub sound-fresh : {r : Bool} → get_or t.states 0 0 ≡ EMPTY → Tells r (FreshFits t.states t.epochs t.homes t.marks t.small) → Tells r (Sound t)
    sound-fresh e g =
        tells_as
        (λ p.
        record {
          rep = rep_of (λ i h. omega (arith, (p.slots i h).mark)) (omega (arith, p.parked));
          model =
              record {
                shape = shape_of;
                either =
                    inl
                    (fits_fresh t full (omega (arith, ty.epochs, f.most)) (omega (arith, ty.homes, f.most)) (omega (arith, ty.marks, f.most)) p
                    ∙ ap fresh (sym (view_n t)));
              };
        })
        (λ s.
        ⊎_elim (λ v. fresh-fits t (v ∙ ap fresh (view_n t))) (λ l. absurd (l.on (view-state t 0 f.some ∙ e))) s.model.either)
        g

    pub sound-live : {r : Bool} → (get_or t.states 0 0 ≡ EMPTY → ⊥) → Tells r (LiveFits t.states t.epochs t.homes t.marks t.ring_slots t.ring_epochs t.small) → Tells r (Sound t)
    sound-live ne g =
        tells_as
        (λ p. record { rep = rep_of (λ i h. (p.each i h).mark) p.parked.flag; model = record { shape = shape_of; either = inr (fits-live t f.some f.most full ne ty.epoch ty.last p) } })
        (λ s.
        ⊎_elim
        (λ v. absurd (ne (sym (view-state t 0 f.some) ∙ ap (λ m. state_of m 0) v ∙ get_or-all (view t).n 0 EMPTY)))
        (λ l. live-fits t f.some f.most full ne s.rep.flags s.rep.flag l)
        s.model.either)
        g
