use native.Mathlib.Omega.{arith}
use lib.ListN.{get_or}
use Prim.Native.Nat.{◌-◌, ◌≤◌}
use Rattle.limits.specs.Model.{most_held}
use Rattle.walk.specs.declared.Job.{Job}
use Rattle.walk.specs.Model.{in_order}
use Rattle.walk.specs.View.{jobs_of}
use Rattle.walk.specs.Chunks.{Sendable}
use Rattle.timetable.specs.LinesSteps.{place_within, entry_next, entry_all, named_none}
use Rattle.timetable.specs.BegunSteps.{beginning_raises, beginning_next, beginning_all}
use Rattle.timetable.proofs.begin.begun_by.Goals as goal

pub occupied-requires : goal.occupied-requires
occupied-requires c =
    let a = c.args in
    let k = c.loop-key.key-index in
    let h = c.loop-key-test.true in
    (place_within a.keys.now k h c.requires.1, entry_all a.keys.now k h a.cells.now.nodes a.cells.now.shares a.jobs.now c.told-jobs c.requires.1 (Sendable a.costs) c.requires.2.sends)

pub raise-requires : goal.raise-requires
raise-requires c =
    let a = c.args in
    let l = c.loop-key in
    let h = c.loop-key-test.true in
    let jobs = jobs_of a.cells.now.nodes a.cells.now.shares a.jobs.now in
    let all = entry_all a.keys.now l.key-index h a.cells.now.nodes a.cells.now.shares a.jobs.now c.told-jobs c.requires.1 in
    let r = c.requires.2 in (
      place_within a.keys.now l.key-index h c.requires.1,
      beginning_raises a.costs (in_order jobs a.keys.now) a.times a.held l.begun.times l.begun.held l.key-index _ l.invariant _ (omega (arith, h, c.requires.0))
          (all (Sendable a.costs) r.sends) (all (λ (j : Job). (1 ≤ j.show) × (j.show ≤ 32)) r.shows) (all (λ (j : Job). get_or a.held (j.show - 1) 0 ≤ most_held) r.room),
    )

pub loop-key-preserved : goal.loop-key-preserved
loop-key-preserved c =
    let a = c.args in
    let l = c.loop-key in
    let h = c.loop-key-test.true in
    let ks = a.cells.now.nodes in
    let xs = a.cells.now.shares in
    let sends = entry_all a.keys.now l.key-index h ks xs a.jobs.now c.told-jobs c.requires.1 (Sendable a.costs) c.requires.2.sends in
    let next = entry_next a.keys.now l.key-index h ks xs a.jobs.now c.told-jobs c.requires.1 in
    rw (c.occupied.ensures, c.raise.ensures) (beginning_next a.costs (in_order (jobs_of ks xs a.jobs.now) a.keys.now) a.times a.held l.begun.times l.begun.held l.key-index _ l.invariant _ _ next sends)

pub returns : goal.returns
returns c =
    let a = c.args in
    let l = c.loop-key in
    let jobs = jobs_of a.cells.now.nodes a.cells.now.shares a.jobs.now in
    beginning_all a.costs (in_order jobs a.keys.now) a.times a.held l.begun.times l.begun.held l.key-index _ l.invariant (named_none jobs a.keys.now l.key-index c.loop-key-test.false)
