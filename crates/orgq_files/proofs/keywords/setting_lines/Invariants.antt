-- The setting lines so far, and those of the sections left, are all.
use Rattle.std.proofs.Common.{◌≡◌, ◌++◌, map, drop}
use Rattle.std.specs.List.{flat_map}
use Rattle.org_class.specs.Classes.{section_settings, setting_lines}
use Rattle.org_base.specs.Spans.{bytes_in}
use Rattle.orgq_files.proofs.keywords.setting_lines.Given as goal

abbrev pub invariant-loop-span : goal.invariant-loop-span
invariant-loop-span l = l.lines ++ flat_map section_settings (map (bytes_in l.text) (drop l.span-index l.span-items)) ≡ setting_lines l.text
