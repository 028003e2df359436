use Rattle.std.proofs.Common.{◌∙◌, ◌++◌, ap, map, sym}
use Rattle.std.specs.Char.{to_ascii_lowercase}
use Rattle.org_search.proofs.FoldLemmas.{folded_ascii}
use Rattle.org_search.proofs.fold.put_folded.Goals as goal

pub returns-then-is_ascii : goal.returns-then-is_ascii
returns-then-is_ascii c = record {
  value = c.make_ascii_lowercase.ensures.bytes
      ∙ ap (map to_ascii_lowercase) (c.in_ok-push_str.ensures.bytes ∙ ap (λ b. b ++ c.args.text.now) c.clear.ensures.bytes)
      ∙ sym (folded_ascii c.args.text.now c.if-is_ascii.ensures.cases);
}
