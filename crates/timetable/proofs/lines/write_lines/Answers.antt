use Rattle.std.proofs.Common.{◌≡◌, ◌∷◌, ◌∙◌, ◌+◌, sym, arith, add-one, get_or, drop, drop-cons, drop_of_length-le}
use Rattle.std.proofs.lemmas.List.{map-id}
use Rattle.lists.specs.Laws.{all_nth}
use Rattle.walk.specs.Model.{no_job}
use Rattle.walk.specs.Chunks.{Sendable}
use Rattle.timetable.specs.Model.{lines_of_all}
use Rattle.timetable.specs.LinesSteps.{writing_room, writing_next, writing_all}
use Rattle.timetable.proofs.lines.write_lines.Goals as goal

pub write_job-requires : goal.write_job-requires
write_job-requires c =
    let a = c.args in
    let l = c.loop-job in
    let jobs = a.jobs.now in
    let h = c.loop-job-test.true in
    let j = get_or jobs l.job-index no_job in
    let s = all_nth no_job (Sendable a.costs) jobs l.job-index c.requires.0 h in
    let next : drop l.job-index jobs ≡ j ∷ drop (l.job-index + 1) jobs = rw (← add-one l.job-index) at (drop-cons jobs l.job-index no_job h) in
    let room = writing_room (λ line. line) a.costs jobs a.out.now l.out l.at _ l.invariant j _ next in
    rw c.chunk_terms.ensures (s.costs, s.compute, s.nodes ∙ sym s.shares, omega (arith, s.nodes, room, c.requires.1, l.auto.out), s.ends)

pub loop-job-preserved : goal.loop-job-preserved
loop-job-preserved c =
    let a = c.args in
    let l = c.loop-job in
    let jobs = a.jobs.now in
    let h = c.loop-job-test.true in
    let j = get_or jobs l.job-index no_job in
    let s = all_nth no_job (Sendable a.costs) jobs l.job-index c.requires.0 h in
    let next : drop l.job-index jobs ≡ j ∷ drop (l.job-index + 1) jobs = rw (← add-one l.job-index) at (drop-cons jobs l.job-index no_job h) in
    rw (c.write_job.ensures, c.chunk_terms.ensures, s.nodes) (writing_next (λ line. line) a.costs jobs a.out.now l.out l.at _ l.invariant j _ next s c.requires.1)

pub returns : goal.returns
returns c =
    let a = c.args in
    let l = c.loop-job in
    let all = writing_all (λ line. line) a.costs a.jobs.now a.out.now l.out l.at _ l.invariant (drop_of_length-le a.jobs.now {i = l.job-index} c.loop-job-test.false) in
    rw (map-id (lines_of_all a.costs a.jobs.now)) at all
