-- Tables of equal parts are equal: what a function that joins two paths asks.
use mathlib.Core.Path.{◌≡◌}
use mathlib.Core.List.{List}
use Prim.Native.Nat.{ℕ}
use Rattle.memory.specs.declared.Small.{Small}
use Rattle.memory.specs.Lent.{whole}

pub same_whole : {a a' b b' c c' d d' e e' f f' : List ℕ} {s s' : Small} → a ≡ a' → b ≡ b' → c ≡ c' → d ≡ d' → e ≡ e' → f ≡ f' → s ≡ s' → whole a b c d e f s ≡ whole a' b' c' d' e' f' s'
same_whole ha hb hc hd he hf hs = rw (ha, hb, hc, hd, he, hf, hs)
