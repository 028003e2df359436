-- What is written so far and the lines of the keywords that are left are the lines of all.
use Rattle.std.proofs.Common.{◌≡◌, ◌++◌, drop}
use Rattle.std.specs.Prelude.{None}
use Rattle.org_engine.specs.KeywordLines.{keyword_lines}
use Rattle.org_engine.proofs.keywords.keyword_lines.Given as goal

abbrev pub invariant-loop-place : goal.invariant-loop-place
invariant-loop-place l = record {
  all : l.out.items ++ keyword_lines l.last (drop l.place l.settings.keywords) ≡ keyword_lines None l.settings.keywords;
}
