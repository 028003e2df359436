-- Written out, so that an edit that breaks it is refused sooner.
use Rattle.std.proofs.Common.{rules}
use Rattle.org_text.proofs.whole.WholeText.edit.Goals as goal

pub returns-in_err-replace_range-clause-refused : goal.returns-in_err-replace_range-clause-refused
returns-in_err-replace_range-clause-refused c = search rules
