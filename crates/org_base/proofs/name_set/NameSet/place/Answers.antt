-- What the map finds are first places.
use Rattle.std.proofs.Common.{◌≡◌, ◌∙◌, ap, map}
use Rattle.std.specs.Prelude.{bytes_eq, position, Some}
use Rattle.org_base.specs.Found.{AreFound}
use Rattle.org_base.proofs.NameLemmas.{found_by_order, first_within}
use Rattle.org_base.proofs.name_set.NameSet.place.Goals as goal

pub returns-in-Some-clause-value : goal.returns-in-Some-clause-value
returns-in-Some-clause-value c =
    let all : AreFound (Some c.in-Some.places.entries) (map (λ v. v.items) c.self.inside.names.items) = rw c.in-Some.is at c.self.invariant in
    c.copied.ensures ∙ c.get.ensures.value ∙ found_by_order c.args.name.now c.in-Some.places.entries ∙ all c.args.name.now
    ∙ ap (position (bytes_eq c.args.name.now)) c.self.view_is

pub returns-in-Some-clause-within : goal.returns-in-Some-clause-within
returns-in-Some-clause-within c =
    let all : AreFound (Some c.in-Some.places.entries) (map (λ v. v.items) c.self.inside.names.items) = rw c.in-Some.is at c.self.invariant in
    let is : c.copied.result ≡ position (bytes_eq c.args.name.now) c.args.self.now =
    c.copied.ensures ∙ c.get.ensures.value ∙ found_by_order c.args.name.now c.in-Some.places.entries ∙ all c.args.name.now
    ∙ ap (position (bytes_eq c.args.name.now)) c.self.view_is in
    rw is (first_within (bytes_eq c.args.name.now) c.args.self.now)
