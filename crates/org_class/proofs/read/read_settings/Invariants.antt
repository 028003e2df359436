use Rattle.std.proofs.Common.{◌≡◌, ◌++◌, map, drop}
use Rattle.std.specs.List.{flat_map}
use Rattle.org_class.specs.Classes.{section_settings, setting_lines}
use Rattle.org_base.specs.Spans.{bytes_in}
use Rattle.org_class.specs.Ticks.{classified}
use Rattle.org_class.proofs.read.read_settings.Given as goal

-- the setting lines so far, and those of the sections left, are all; each section so far was counted
abbrev pub invariant-loop-span : goal.invariant-loop-span
invariant-loop-span g l = record {
  all : l.lines ++ flat_map section_settings (map (bytes_in (g.T.Text.content l.text)) (drop l.span-index l.span-items)) ≡ setting_lines (g.T.Text.content l.text);
  counts : l.meter ≡ classified l.span-index l.fn.meter;
}
