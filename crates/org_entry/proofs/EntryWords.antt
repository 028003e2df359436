-- Words of the proofs about Entry: parts of its definitions.
use Rattle.std.specs.Prelude.{List, Option, fold}
use Rattle.org_settings.specs.Settings.{FileSettings}
use Rattle.org_head.specs.declared.head.Head.{Head}
use Rattle.org_entry.specs.Entry.{PlacedLine, head_after}

-- the head after lines: that of the last heading line among them, else the one so far
abbrev pub head_from : FileSettings → Option Head → List PlacedLine → Option Head
head_from settings so_far ls = fold (λ found l. head_after settings found l.class l.bytes) so_far ls
