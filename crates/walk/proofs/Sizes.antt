-- The lengths of the arrays that a value of a declared type holds.
use mathlib.Core.Path.{◌≡◌}
use mathlib.Core.List.{List}
use lib.ListN.{length}
use mir.Val.{Val}
use denote.Laws.{Is}
use denote.Struct.Declared.{row}
use Rattle.walk.specs.declared.Job.{Job}
use Rattle.walk.specs.declared.FreeTimes.{FreeTimes}
use Rattle.walk.specs.contracts.Job as job
use Rattle.walk.specs.contracts.FreeTimes as times

pub nodes_length : {vs : List Val} (j : Job) → Is (row job.the_type) j vs → length j.booking.nodes ≡ 64
nodes_length j p = p.1.1.1.1.1.1.1.0.1.1.1.1.0.1.0.1

pub shares_length : {vs : List Val} (j : Job) → Is (row job.the_type) j vs → length j.booking.shares ≡ 64
shares_length j p = p.1.1.1.1.1.1.1.0.1.1.1.1.1.0.1.0.1

pub free_length : {vs : List Val} (b : FreeTimes) → Is (row times.the_type) b vs → length b.free ≡ 64
free_length b p = p.1.1.1.0.1.0.1
