use Rattle.std.proofs.Common.{map, ap, ◌∙◌, arith}
use Rattle.org_outline.specs.Levels.{levels}
use Rattle.org_outline.specs.Tree.{end_of}
use Rattle.org_outline.proofs.ByPlace.{end_after, end_inside}
use Rattle.org_outline.proofs.body.Body.end_of.Goals as goal

value : goal.returns-clause-value
value c =
    let seen = c.of.ensures.value ∙ ap (λ v. levels (map (λ e. e.value) v)) c.deref.ensures.value ∙ ap levels c.self.view_is in
    c.end_of.ensures.value ∙ ap (λ v. end_of v c.args.place) seen

pub returns-clause-value : goal.returns-clause-value
returns-clause-value c = value c

pub returns-clause-behind : goal.returns-clause-behind
returns-clause-behind c = omega (arith, value c, end_after c.args.self.now c.args.place c.requires)

pub returns-clause-within : goal.returns-clause-within
returns-clause-within c = omega (arith, value c, end_inside c.args.self.now c.args.place c.requires)
