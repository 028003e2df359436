use Rattle.std.proofs.Common.{◌∙◌, ap, sym}
use Rattle.std.specs.BTreeSet.{contains}
use Rattle.org_client.specs.Next.{stamp_cmp}
use Rattle.org_client.specs.declared.next.Upcoming.{Upcoming}
use Rattle.org_client.proofs.StampLemmas.{known_more, new_added, new_there}
use Rattle.org_client.proofs.next.push_new.Goals as goal

pub returns-then-contains-clause-value : goal.returns-then-contains-clause-value
returns-then-contains-clause-value c =
    let u : Upcoming = record { day = c.args.day; row = c.args.row.now } in
    let there = ap (contains stamp_cmp c.args.stamps.now) (sym c.stamp_of-stamp.ensures.value) ∙ sym c.contains.ensures ∙ c.if-contains.true in
    new_there c.args.stamps.now c.args.next.now.items u c.requires.known there

pub returns-clause-value : goal.returns-clause-value
returns-clause-value c =
    let u : Upcoming = record { day = c.args.day; row = c.args.row.now } in
    let gone = ap (contains stamp_cmp c.args.stamps.now) (sym c.stamp_of-stamp.ensures.value) ∙ sym c.contains.ensures ∙ c.if-contains.false in
    c.in_ok-push.ensures.items ∙ new_added c.args.stamps.now c.args.next.now.items u c.requires.known gone

pub returns-clause-known : goal.returns-clause-known
returns-clause-known c =
    let u : Upcoming = record { day = c.args.day; row = c.args.row.now } in
    let updates = rw c.stamp_of-stamp.ensures.value at c.in_ok-insert.ensures.updates.0 in
    rw c.in_ok-push.ensures.items (known_more c.args.stamps.now c.insert.new.self c.args.next.now.items u c.requires.known updates)
