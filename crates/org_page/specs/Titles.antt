-- A title as it is written.
use Rattle.std.specs.Prelude.{ℕ, List}
use Rattle.std.specs.String.{string_bytes}
use Rattle.org_page.specs.Pieces.{title_text}
use Rattle.org_page.specs.declared.piece.Title.{Title}

-- a title with its link, between tags of its own
abbrev pub titled_text : Title → List ℕ
titled_text title = title_text title.is_done (string_bytes title.link) (string_bytes title.words)
