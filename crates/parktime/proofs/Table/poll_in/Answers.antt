-- `Table::poll_in`: one scan frees the deadlines that have come and writes the raw ids of their tasks.
use Rattle.std.proofs.Common.{◌<◌, length, sym, ◌∙◌, arith}
use Rattle.std.proofs.lemmas.List.{set-get_or}
use Rattle.parktime.specs.Deadlines.{view}
use Rattle.parktime.proofs.PollLaws.{polling-start, polling_pass, polling_hit, poll-short, polled}
use Rattle.parktime.proofs.Table.poll_in.Goals as goal
use Rattle.parktime.proofs.Table.poll_in.Goals.{then-is_due, else-is_due}

pub returns-then-out-lt-MAX_ARMED : goal.returns-then-out-lt-MAX_ARMED
returns-then-out-lt-MAX_ARMED c = poll-short _ c.requires _ _ c.if-out-lt-MAX_ARMED.true

pub loop-e-init : goal.loop-e-init
loop-e-init c = polling-start _ _ _ c.requires

pub loop-e-preserved : goal.loop-e-preserved
loop-e-preserved c =
    let more : c.loop-e.e-index < length (view c.args.self.now) = omega (arith, c.requires.plain.places) in
    let room : c.loop-e.count < length c.args.out.now = omega (arith, c.loop-e.invariant.most) in
    elim c.if-is_due.branch [
      | then-is_due w ↦
          polling_hit _ _ _ _ _ _ _ c.loop-e.invariant more _ _ (record { entries = c.if-is_due.e-items }) _ room (sym c.is_due.ensures ∙ w.if-is_due.true) w.to_raw.ensures w.out-is w.e-items-is w.count-is
      | else-is_due w ↦ rw (w.out-is, w.e-items-is, set-get_or, w.count-is) (polling_pass _ _ _ _ _ _ _ c.loop-e.invariant more (sym c.is_due.ensures ∙ w.if-is_due.false))
    ]

pub returns : goal.returns
returns c = polled _ c.requires _ _ _ _ _ _ c.if-out-lt-MAX_ARMED.false c.loop-e-test.false c.loop-e.invariant
