use Rattle.std.proofs.Common.{rules, ◌≡◌, ◌∙◌, ap}
use Rattle.org_amend.proofs.TagLemmas.{same_by}
use Rattle.org_amend.specs.WantedTags.{parts_in}
use Rattle.org_amend.proofs.head_said.has_tags.Goals as goal

pub returns-clause-value : goal.returns-clause-value
returns-clause-value c =
    let line = c.args.line.now in
    let spans : c.as_slice.result.now ≡ c.args.head.now.tags = search rules in
    same_by line c.args.head.now.tags c.in_ok-own.own c.args.wanted.now c.is_same.result (c.in_ok-own.ensures.value ∙ ap (parts_in line) spans) c.is_same.ensures.value
