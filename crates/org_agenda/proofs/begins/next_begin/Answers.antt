-- Where there is no occurrence, nothing begins.
use Rattle.org_entry.specs.declared.active.Role.TheVariants.{Deadline, Plain, Scheduled}
use Rattle.org_agenda.proofs.BeginLemmas.{as_role, none_begins}
use Rattle.org_agenda.proofs.begins.next_begin.Goals as goal

pub returns-in-Plain-clause-none : goal.returns-in-Plain-clause-none
returns-in-Plain-clause-none c =
    let s = c.args.source.now in
    as_role c.args.profile s Plain c.args.from c.next_on.result c.in-Plain.is
    (none_begins c.args.profile s.stamp s.stamp.last c.args.from c.next_on.result c.next_on.ensures.none)

pub returns-in-Scheduled-clause-none : goal.returns-in-Scheduled-clause-none
returns-in-Scheduled-clause-none c =
    let s = c.args.source.now in
    as_role c.args.profile s Scheduled c.args.from c.next_delayed.result c.in-Scheduled.is c.next_delayed.ensures.none

pub returns-in-Deadline-clause-none : goal.returns-in-Deadline-clause-none
returns-in-Deadline-clause-none c =
    let s = c.args.source.now in
    as_role c.args.profile s Deadline c.args.from c.next_on-in-Deadline.result c.in-Deadline.is
    (none_begins c.args.profile s.stamp s.stamp.last c.args.from c.next_on-in-Deadline.result c.next_on-in-Deadline.ensures.none)
