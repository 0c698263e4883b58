-- The wrap: all that anything above needs to know of `placed`.
use mathlib.Core.Path.{◌≡◌, ◌∙◌}
use mathlib.Core.Logic.{◌⊎◌, inl, inr, ⊎_elim}
use Prim.Native.Nat.{ℕ, ◌+◌, ◌-◌, ◌≤◌, ◌<◌}
use native.Mathlib.Nat.{mod-eq_of_lt, mod-eq-sub-mod, mod-add-mod, mod-lt}
use native.Mathlib.Omega.{arith}
use Rattle.lists.proofs.Basics.{lt_or_ge}
use Rattle.runqueue.specs.Ring.{placed}

pub placed-low : (n x : ℕ) → x < n → placed n x ≡ x
unfolding placed
placed-low n x h = mod-eq_of_lt h

pub placed-high : (n x : ℕ) → n ≤ x → x < n + n → placed n x ≡ x - n
unfolding placed
placed-high n x g h = mod-eq-sub-mod g ∙ mod-eq_of_lt (omega arith)

pub placed_lt : (n x : ℕ) → 1 ≤ n → placed n x < n
unfolding placed
placed_lt n x h = mod-lt x {m = n} h

-- a place further on from a place
pub placed_on : (n x j : ℕ) → placed n (placed n x + j) ≡ placed n (x + j)
unfolding placed
placed_on n x j = mod-add-mod x n j

-- below twice n there are two cases
pub wrap : (n x : ℕ) → x < n + n → ((x < n) × (placed n x ≡ x)) ⊎ ((n ≤ x) × (placed n x ≡ x - n))
wrap n x h = ⊎_elim (λ (l : x < n). inl (l, placed-low n x l)) (λ (g : n ≤ x). inr (g, placed-high n x g h)) (lt_or_ge x n)

-- different counts from one head lie at different places
pub placed_apart : (n h j k : ℕ) → h < n → j < k → k < n → placed n (h + j) ≡ placed n (h + k) → ⊥
placed_apart n h j k hn jk kn e =
    ⊎_elim
    (λ a. ⊎_elim (λ b. omega arith) (λ b. omega arith) (wrap n (h + k) (omega arith)))
    (λ a. ⊎_elim (λ b. omega arith) (λ b. omega arith) (wrap n (h + k) (omega arith)))
    (wrap n (h + j) (omega arith))
