use Rattle.std.proofs.Common.{◌≡◌, ◌+◌, ◌≤◌, ℕ, List, map, length}
use Rattle.org_lines.specs.Cuts.{lines}
use Rattle.org_class.specs.Blocks.{ends_block}
use Rattle.org_class.specs.Ends.{place_of, last_where}
use Rattle.org_base.specs.Spans.{bytes_in}
use Rattle.org_class.proofs.EndLemmas.{last_behind}
use Rattle.org_class.proofs.ends.EndPlaces.note_lines.Given as goal

-- the last ends so far, or those among the lines that are left, are the last of all
abbrev pub invariant-loop-line : goal.invariant-loop-line
invariant-loop-line g l = record {
  few : l.number + length l.line-iterator ≤ l.fn.part.len;
  known : (name : List ℕ) → last_behind (place_of l.places name) l.number (ends_block name) (map (λ c. c.bytes) l.line-iterator) ≡ last_where (ends_block name) (lines (bytes_in (g.T.Text.content l.text) l.fn.part));
}
