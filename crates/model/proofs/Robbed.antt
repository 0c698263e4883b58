-- What a steal leaves of a queue: where each entry then stands, and that none is lost.
use mathlib.Core.Path.{◌≡◌, ◌∙◌, ap, subst}
use mathlib.Core.List.{List, ◌∷◌, ◌++◌}
use Prim.Native.Nat.{ℕ, suc, ◌+◌, ◌-◌, ◌<◌}
use native.Mathlib.Omega.{arith}
use lib.ListN.{length, get_or, take, drop, length-append, length-drop, get_or-append}
use lib.Seq.{split_at, get_or-append-add, get_or-take, get_or-drop, length-take-le}
use lib.Dec.{eqb}
use Rattle.lists.specs.Search.{one_if}
use Rattle.ids.specs.declared.TaskId.{TaskId}
use Rattle.ids.specs.Id.{idle}
use Rattle.model.specs.Model.{Model}
use Rattle.model.specs.Sound.{occ, Known, AllKnown}
use Rattle.model.specs.Switch.{robbed}
use Rattle.model.proofs.Counting.{occ-cons, occ-append, known-head, known-tail, known-append, known-left, known_right}

-- with L entries, the one at place j stolen: one at a place k before it stands at L - 1 - j + k, one after it at k - j - 1
module _ (q : List TaskId) (j : ℕ) (hj : j < length q) where
  pub robbed-before : (k : ℕ) (d : TaskId) → k < j → get_or (robbed j q) (length q - 1 - j + k) d ≡ get_or q k d
  robbed-before k d h =
      let at : length q - 1 - j + k ≡ length (drop (suc j) q) + k = omega (arith, length-drop (suc j) q) in
      rw at (get_or-append-add (drop (suc j) q) (take j q) k d ∙ get_or-take j q k d h)

  pub robbed-after : (k : ℕ) (d : TaskId) → j < k → k < length q → get_or (robbed j q) (k - j - 1) d ≡ get_or q k d
  robbed-after k d h l =
      get_or-append (drop (suc j) q) (take j q) d (k - j - 1) (omega (arith, length-drop (suc j) q))
      ∙ get_or-drop (suc j) q (k - j - 1) d
      ∙ ap (λ i. get_or q i d) (omega arith)

  pub robbed-length : length (robbed j q) ≡ length q - 1
  robbed-length =
      length-append (drop (suc j) q) (take j q) ∙ omega (arith, length-drop (suc j) q, length-take-le j q (omega arith))

-- a steal takes its entry and no other
pub occ-robbed : (i : ℕ) (q : List TaskId) (j : ℕ) → j < length q → occ i q ≡ one_if (eqb (get_or q j idle).slot i) + occ i (robbed j q)
occ-robbed i q j h =
    let a = take j q in
    let x = get_or q j idle in
    let b = drop (suc j) q in
    let parts = ap (λ l. occ i l) (split_at q j idle h) ∙ occ-append i a (x ∷ b) in
    omega (arith, parts, occ-cons i x b, occ-append i b a)

-- what a steal takes and what it leaves is known
pub known-robbed : (m : Model) (q : List TaskId) (j : ℕ) → j < length q → AllKnown m q → Known m (get_or q j idle) × AllKnown m (robbed j q)
known-robbed m q j h ks =
    let x = get_or q j idle in
    let b = drop (suc j) q in
    let parts : AllKnown m (take j q ++ x ∷ b) = subst (λ l. AllKnown m l) (split_at q j idle h) ks in
    let right = known_right m (take j q) (x ∷ b) parts in
    (known-head m x b right, known-append m b (take j q) (known-tail m x b right) (known-left m (take j q) (x ∷ b) parts))
