-- Programs that no run admits, told apart by an answer or by a table.
use Rattle.std.specs.Prelude.{Some, None}
use Rattle.std.proofs.Common.{◌≡◌, ℕ, List, [], ◌∷◌, get_or, sym, refl, ap, ◌∙◌, arith}
use Rattle.lists.specs.Tab.{tab}
use Rattle.lists.specs.Search.{first_at, count_of}
use Rattle.ids.specs.declared.TaskId.{TaskId}
use Rattle.answers.specs.Reply.{Reply, refused, done, named, stays, switched}
use Rattle.answers.specs.Run.{replies, trail, Outcome, Admitted, said, seen}
use Rattle.model.specs.Model.{free_slot, occupied}
use Rattle.model.specs.Steps.{claimed, start_step, admitted, admit_step}
use Rattle.model.specs.Switch.{yield, leaves, enters, parks, chooses, turn, pulls, switch_on, switch_step}
use Rattle.model.specs.Calls as task
use Rattle.runs.specs.Tables.{Tables, Call, on_tasks, fresh, step}
use Rattle.runs.specs.Outcomes.{Memory, view, tables, Made, Admits}
use Rattle.runs.specs.Sheet.{id}
use Rattle.runs.proofs.Demand2.{made-fresh, demand2}

-- start, admit one, yield, yield
abbrev two_yields : List Call
two_yields = on_tasks task.start ∷ on_tasks (task.admit 0) ∷ on_tasks (task.switch 0 yield) ∷ on_tasks (task.switch 0 yield) ∷ []

abbrev to_one : Reply
to_one = switched (id 0 0) (id 1 0) None

abbrev to-idle : Reply
to-idle = switched (id 1 0) (id 0 0) None

right_answers : replies step (fresh 4 32) two_yields ≡ done ∷ named (Some (id 1 0)) ∷ to_one ∷ to-idle ∷ []
unfolding replies step task.step start_step claimed admit_step admitted free_slot first_at count_of tab switch_step switch_on pulls turn leaves chooses enters parks
right_answers = refl

module _ (t : Memory) (made : Made 4 32 t) (os : List (Outcome Memory)) (run : Admitted Admits t two_yields os) where
  answers_are : said os ≡ done ∷ named (Some (id 1 0)) ∷ to_one ∷ to-idle ∷ []
  answers_are = (demand2 4 32 t made two_yields os run).replies_are ∙ right_answers

  -- honest on the first switch, then Stay
  pub not_stay_later : said os ≡ done ∷ named (Some (id 1 0)) ∷ to_one ∷ stays ∷ [] → ⊥
  not_stay_later e = let f = sym answers_are ∙ e in let z : ◌≡◌ {A = ℕ} 0 1 = cc in omega arith

  -- one constant decision, whichever, for both switches, after whatever answers
  pub not_constant : (a b d : Reply) → said os ≡ a ∷ b ∷ d ∷ d ∷ [] → ⊥
  not_constant a b d e =
      let f = sym answers_are ∙ e in
      let g : id 1 0 ≡ id 0 0 = cc in
      let z : ◌≡◌ {A = ℕ} 1 0 = ap (λ (i : TaskId). i.slot) g in
      omega arith

  -- refusing everything, by whatever numbers; and refusing all but the first call
  pub not_refusing : (a b c d : ℕ) → said os ≡ refused a ∷ refused b ∷ refused c ∷ refused d ∷ [] → ⊥
  not_refusing a b c d e = let f = sym answers_are ∙ e in let z : ◌≡◌ {A = ℕ} 0 1 = cc in omega arith

  pub not_refusing_later : (b c d : ℕ) → said os ≡ done ∷ refused b ∷ refused c ∷ refused d ∷ [] → ⊥
  not_refusing_later b c d e = let f = sym answers_are ∙ e in let z : ◌≡◌ {A = ℕ} 0 1 = cc in omega arith

  -- tables handed back untouched: after the start a slot is occupied
  pub not_untouched : (o : Outcome Memory) (rest : List (Outcome Memory)) → os ≡ o ∷ rest → o.table ≡ t → ⊥
  unfolding trail step task.step start_step claimed count_of
  not_untouched o rest e same =
      let f = sym (demand2 4 32 t made two_yields os run).tables_are ∙ ap (seen tables) e in
      let g = ap (λ (l : List Tables). occupied (get_or l 0 (fresh 4 32)).tasks) f in
      let z : ◌≡◌ {A = ℕ} 1 0 = g ∙ ap (λ (m : Memory). occupied (view m).tasks) same ∙ ap (λ (p : Tables). occupied p.tasks) (made-fresh 4 32 t made) in
      omega arith
