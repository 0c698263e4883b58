-- A table that is part of another: what a call does to the part, it does to the whole, whose rest is as it was.
use mathlib.Core.Path.{◌≡◌, sym, ◌∙◌, ap, subst}
use Rattle.answers.specs.Reply.{Reply}
use Rattle.answers.specs.Contract.{Kind, Step, Makes, Meets, put}
use Rattle.answers.proofs.Coincide.{Same, meets_does, coincide}

pub record Part (w : Kind) : Type 1 where
  pub kind : Kind
  -- the whole with the part changed, in memory and on paper
  pub to : kind.Memory → w.Memory
  pub paper : kind.Plain → w.Plain
  pub views : (x : kind.Memory) → w.view (to x) ≡ paper (kind.view x)

module _ (w : Kind) (p : Part w) (t : p.kind.Memory) (want : Step p.kind.Plain) where
  pub makes-whole : (x : p.kind.Memory) (u : w.Memory) (got : Reply) → p.kind.Sound t → (p.kind.Sound x → w.Sound (p.to x)) → Meets p.kind t x got want → u ≡ p.to x → Makes w u got (put p.paper want)
  makes-whole x u got s keeps m e =
      let d = (meets_does p.kind t x got want s m).makes in
      record { reply = d.reply; after = ap w.view e ∙ p.views x ∙ ap p.paper d.after; sound = subst w.Sound (sym e) (keeps d.sound) }

  pub whole-once : (x y : p.kind.Memory) (u v : w.Memory) (a b : Reply) → Meets p.kind t x a want → Meets p.kind t y b want → u ≡ p.to x → v ≡ p.to y → Same w u v a b
  whole-once x y u v a b m n d e =
      let s = coincide p.kind t x y a b want m n in
      record {
        reply = s.reply;
        after = ap w.view d ∙ p.views x ∙ ap p.paper s.after ∙ sym (ap w.view e ∙ p.views y);
        whole = λ r. d ∙ ap p.to (s.whole r) ∙ sym e;
      }
