use Rattle.std.proofs.Common.{rules}
use Rattle.org_agenda.proofs.filter.has_open_keyword.Goals as goal

pub returns-then-is_some : goal.returns-then-is_some
returns-then-is_some c = search rules
