-- How numbers that crossed are read: what the caller's side does with an answer, on paper.
use Rattle.std.specs.Prelude.{cond, ℕ, eqb, Some, None}
use Rattle.lists.specs.Flags.{is_set}
use Rattle.answers.specs.Reply.{Reply, refused, done, told, number, named, value, stays, switched}
use Rattle.numbers.specs.declared.Answer.{Answer}
use Rattle.numbers.specs.Operands.{id_if}

-- by the kind of an answer that is no refusal
unfoldable pub by_kind : Answer → ℕ → Reply
by_kind a k =
    cond (eqb k 1) (told (is_set a.flag))
    (cond (eqb k 2) (number a.number)
    (cond (eqb k 3) (named (id_if (is_set a.flag) a.first))
    (cond (eqb k 4) (value (cond (is_set a.flag) (Some a.number) None))
    (cond (eqb k 5) stays
    (cond (eqb k 6) (switched a.first a.second (id_if (is_set a.flag) a.third)) done)))))

unfoldable pub reply_of : Answer → Reply
reply_of a = cond (eqb a.refusal 0) (by_kind a a.kind) (refused a.refusal)
