use mathlib.Core.Path.{refl}
use mathlib.Core.List.{[]}
use native.Mathlib.Omega.{arith}
use lib.ListN.{length}
use Rattle.lists.specs.Laws.{all_nth}
use Rattle.lists.specs.Places.{each_length}
use Rattle.walk.specs.View.{job_at, jobs_of, no_entry, Short, job_there}
use Rattle.timetable.specs.DueSteps.{finding_begins, finding_waits, finding_all}
use Rattle.timetable.proofs.begin.due.Goals as goal
use Rattle.timetable.proofs.begin.due.Goals.{then-job-time, else-job-time}

pub loop-place-init : goal.loop-place-init
loop-place-init c = λ ks xs. record { kept = record { size = refl; front = refl; behind = refl }; sum = omega arith; few = omega arith; most = omega arith }

pub offset_bounds-keys-count : goal.offset_bounds-keys-count
offset_bounds-keys-count c = omega (arith, (c.loop-place.invariant [] []).few)

pub bounds-keys-count : goal.bounds-keys-count
bounds-keys-count c = let x = c.loop-place.invariant [] [] in omega (arith, x.few, x.kept.size)

pub overflow_add-count : goal.overflow_add-count
overflow_add-count c = omega (arith, (c.loop-place.invariant [] []).few)

pub overflow_add-lines : goal.overflow_add-lines
overflow_add-lines c =
    let l = c.loop-place in
    let k = all_nth no_entry Short c.args.jobs.now l.place c.requires.1 c.loop-place-test.true in
    omega (arith, k, (l.invariant [] []).most)

pub loop-place-preserved : goal.loop-place-preserved
loop-place-preserved c =
    let a = c.args in
    let l = c.loop-place in
    let h = c.loop-place-test.true in
    let n = length a.jobs.now in
    let k = all_nth no_entry Short a.jobs.now l.place c.requires.1 h in
    elim c.if-job-time.branch [
      | then-job-time w ↦
          rw (w.keys-is, w.count-is, w.lines-is)
          (λ ks xs. finding_begins (jobs_of ks xs a.jobs.now) n l.place a.time h c.requires.0 (omega (arith, each_length (job_at ks xs) 0 a.jobs.now)) _ (job_there ks xs a.jobs.now l.place h) _ l.keys l.count l.lines (l.invariant ks xs) k w.if-job-time.true)
      | else-job-time w ↦
          rw (w.keys-is, w.count-is, w.lines-is)
          (λ ks xs. finding_waits (jobs_of ks xs a.jobs.now) n l.place a.time h c.requires.0 (omega (arith, each_length (job_at ks xs) 0 a.jobs.now)) _ (job_there ks xs a.jobs.now l.place h) _ l.keys l.count l.lines (l.invariant ks xs) w.if-job-time.false)
    ]

pub returns : goal.returns
returns c =
    let a = c.args in
    let l = c.loop-place in
    λ ks xs. finding_all (jobs_of ks xs a.jobs.now) (length a.jobs.now) l.place a.time _ l.keys c.sorted.result l.count l.lines (omega arith) c.requires.0 (omega (arith, each_length (job_at ks xs) 0 a.jobs.now)) (l.invariant ks xs) c.sorted.ensures
