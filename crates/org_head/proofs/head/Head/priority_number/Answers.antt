-- The head's cookie is a part of the line.
use Rattle.std.proofs.Common.{◌∙◌, ap, rules}
use Rattle.org_head.specs.Cookie.{is_cookie}
use Rattle.org_head.proofs.Ends.{cookie_is}
use Rattle.org_head.proofs.Inside.{cookie_inside}
use Rattle.org_head.proofs.head.Head.priority_number.Goals as goal

pub part-requires : goal.part-requires
part-requires c = record { within = cookie_inside c.args.settings.now c.args.line.now c.args.self.now c.in-Some.cookie c.requires c.in-Some.is }

pub cookie_number-requires : goal.cookie_number-requires
cookie_number-requires c = ap is_cookie c.part.ensures.value ∙ cookie_is c.args.settings.now c.args.line.now c.args.self.now c.in-Some.cookie c.requires c.in-Some.is

pub returns-in-None-clause-value : goal.returns-in-None-clause-value
returns-in-None-clause-value c = search rules
