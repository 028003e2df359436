-- What is kept before a stamp is text.
use Rattle.org_complete.proofs.ChangeLemmas.{kept_text}
use Rattle.std.proofs.Common.{sym, subst, Some}
use Rattle.std.specs.Str.{IsUtf8}
use Rattle.org_complete.specs.Written.{IsBehind}
use Rattle.org_complete.proofs.completion.push_shift.Goals as goal

pub push_bytes-requires : goal.push_bytes-requires
push_bytes-requires c =
    let x = c.args.entry.now.text in
    let behind : IsBehind x c.args.from (Some c.in-Some.field-0) = subst (IsBehind x c.args.from) c.in-Some.is c.requires.behind in
    record { utf8 = subst IsUtf8 (sym c.part.ensures.value) (kept_text x c.args.from c.in-Some.field-0.span c.requires.utf8 c.requires.from behind.0 behind.1) }
