-- The scan of `poll_in`: the deadlines that have come are freed, and their raw ids stand at the start of the output.
use Rattle.std.specs.Prelude.{Option, Some, None}
use mathlib.Core.Path.{◌≡◌, sym, ◌∙◌, ap}
use mathlib.Core.Bool.{true, false}
use mathlib.Core.List.{List, [], ◌∷◌, ◌++◌, map-append, append_assoc, append-nil}
use Prim.Native.Nat.{ℕ, suc, ◌+◌, ◌<◌, ◌≤◌}
use native.Mathlib.Numerals.{add-one}
use native.Mathlib.Omega.{arith}
use lib.ListN.{length, get_or, set, take, drop, length-map, length-append, length-drop}
use lib.Seq.{take-suc, take_all, drop-cons, set_at}
use Rattle.lists.specs.Entries.{taken, freed}
use Rattle.lists.proofs.EntriesLaws.{freeing_all, taken-append, taken_hit, taken_pass, taken-nil}
use Rattle.ids.specs.Id.{packed}
use Rattle.answers.specs.Reply.{refused, number}
use Rattle.answers.specs.Contract.{Does, lent}
use Rattle.answers.proofs.Returns.{does, does_keep}
use Rattle.parktime.specs.declared.Table.{Table}
use Rattle.parktime.specs.Deadlines.{Deadline, Deadlines, PLACES, deadline_of, view, due, Sound, deadlines}
use Rattle.parktime.specs.Steps.{due_ids, raws, poll_step}
use Rattle.parktime.proofs.Cases.{poll_writes, poll-refuses}
use Rattle.parktime.proofs.Keeps.{poll_keeps}
use Rattle.parktime.proofs.Laws.{empty, held, taken-held, Emptying, emptying_start, here, frees, leaves}

module _ (now : ℕ) where
  ids-nil : due_ids now [] ≡ []
  unfolding due_ids
  ids-nil = rw taken-nil

  ids-append : (ds es : Deadlines) → due_ids now (ds ++ es) ≡ due_ids now ds ++ due_ids now es
  unfolding due_ids
  ids-append ds es = rw (taken-append, map-append)

  ids_hit : (d : Deadline) → due now d ≡ true → due_ids now (Some d ∷ []) ≡ d.id ∷ []
  unfolding due_ids
  ids_hit d h = rw (taken_hit (due now) d h)

  ids_pass : (e : Option Deadline) → taken (due now) e ≡ false → due_ids now (e ∷ []) ≡ []
  unfolding due_ids
  ids_pass e h = rw (taken_pass (due now) e h)

-- a scan that has passed the first i, k of which had come
pub record Polling (ds : Deadlines) (now : ℕ) (out₀ : List ℕ) (i k : ℕ) (u : Table) (out : List ℕ) : Type 0 where
  pub table : Emptying (due now) ds i u
  pub count : k ≡ length (due_ids now (take i ds))
  pub most : k ≤ i
  pub written : out ≡ raws (due_ids now (take i ds)) ++ drop k out₀

module _ (now : ℕ) (out₀ : List ℕ) where
  pub polling-start : (t : Table) → Sound t → Polling (view t) now out₀ 0 0 t out₀
  polling-start t s =
      record { table = emptying_start (due now) t s; count = rw ids-nil; most = omega arith; written = rw ids-nil }

  module _ (ds : Deadlines) (i k : ℕ) (u : Table) (out : List ℕ) (s : Polling ds now out₀ i k u out) where
    -- the output keeps its length
    pub polling-wide : k ≤ length out₀ → length out ≡ length out₀
    polling-wide h = ap length s.written ∙ simp (length-append, length-map, length-drop) (omega (arith, s.count))

    module _ (more : i < length ds) where
      pub polling_pass : taken (due now) (deadline_of (get_or u.entries i empty)) ≡ false → Polling ds now out₀ (i + 1) k u out
      polling_pass h =
          let at = here (due now) ds i u s.table more in
          let same : due_ids now (take (suc i) ds) ≡ due_ids now (take i ds) =
          rw (take-suc ds i None, ids-append, ids_pass now (get_or ds i None) (rw at at h), append-nil)
          in
          record {
            table = leaves (due now) ds i u s.table more h;
            count = s.count ∙ rw (add-one, same);
            most = omega (arith, s.most);
            written = s.written ∙ rw (add-one, same);
          }

      pub polling_hit : (raw k' : ℕ) (v : Table) (out' : List ℕ) → k < length out₀ → taken (due now) (deadline_of (get_or u.entries i empty)) ≡ true
          → raw ≡ packed (get_or u.entries i empty).task → out' ≡ set out k raw → v.entries ≡ set u.entries i empty → k' ≡ k + 1
          → Polling ds now out₀ (i + 1) k' v out'
      polling_hit raw k' v out' room h r o e n =
          let at = here (due now) ds i u s.table more in
          let is = taken-held (get_or u.entries i empty) (due now) h in
          let one : due_ids now (take (suc i) ds) ≡ due_ids now (take i ds) ++ ((get_or u.entries i empty).task ∷ []) =
          rw (take-suc ds i None, ids-append, ← at, is.0, ids_hit now (held (get_or u.entries i empty)) is.1)
          in
          let size : length (raws (due_ids now (take i ds))) ≡ k = length-map (due_ids now (take i ds)) packed ∙ sym s.count in
          record {
            table = frees (due now) ds i u s.table more v e h;
            count = n ∙ rw (add-one i, one, length-append, ← s.count);
            most = omega (arith, s.most);
            written =
                o ∙ rw (n, s.written, drop-cons out₀ k 0 room, set_at (raws (due_ids now (take i ds))) (get_or out₀ k 0) (drop (suc k) out₀) raw k size, add-one i, one, map-append, append_assoc, add-one k, r);
          }

module _ (t : Table) (s : Sound t) (now : ℕ) (out : List ℕ) where
  pub poll-short : length out < PLACES → Does (lent deadlines) (t, out) (t, out) (refused 7) (poll_step (view t, out) now)
  poll-short l =
      let w = poll-refuses (view t) out now l in
      does_keep (lent deadlines) (t, out) (refused 7) (poll_step (view t, out) now) s (λ e. let z : ◌≡◌ {A = ℕ} 7 1 = cc in omega arith) (rw w) (rw w)

  pub polled : (i k : ℕ) (u : Table) (out' : List ℕ) → PLACES ≤ length out → PLACES ≤ i → Polling (view t) now out i k u out'
      → Does (lent deadlines) (t, out) (u, out') (number k) (poll_step (view t, out) now)
  polled i k u out' l h p =
      let w = poll_writes (view t) out now l in
      let all : take i (view t) ≡ view t = take_all i (view t) (omega (arith, s.plain.places)) in
      let n : k ≡ length (due_ids now (view t)) = p.count ∙ rw all in
      let table : view u ≡ freed (due now) (view t) = freeing_all (due now) (view t) i (view u) p.table.plain (omega (arith, s.plain.places)) in
      let buffer : out' ≡ raws (due_ids now (view t)) ++ drop (length (due_ids now (view t))) out = p.written ∙ rw (all, n) in
      let after : (view u, out') ≡ (poll_step (view t, out) now).after = rw (w, table, buffer) in
      does (lent deadlines) (t, out) (u, out') (number k) (poll_step (view t, out) now) (λ z. z) (rw (w, n)) after
      (record { plain = rw (ap (λ p. p.0) after) (poll_keeps (view t) s.plain out now); flags = p.table.flags })
