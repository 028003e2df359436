-- The keyword of a heading, and whether it is a done one (Org manual 9.6, "TODO Items").
use Rattle.std.specs.Prelude.{ℕ, Bool, false, not, List, Option}
use Rattle.std.specs.Option.{option_map, option_map_or}
use Rattle.org_base.specs.Spans.{bytes_in}
use Rattle.org_head.specs.declared.head.Head.{Head}
use Rattle.org_settings.specs.Keywords.{keyword_place, keyword_done}
use Rattle.org_settings.specs.Settings.{FileSettings}

-- the keyword of a heading, of its entry's text
abbrev pub keyword_in : List ℕ → Head → Option (List ℕ)
keyword_in text head = option_map (bytes_in text) head.keyword

-- the word is a done keyword of the file
abbrev pub is_done : FileSettings → List ℕ → Bool
is_done settings word = option_map_or (keyword_done settings.keywords) (keyword_place settings.keywords word) false

-- the heading's keyword is there, and is a done one
abbrev pub is_finished : FileSettings → Option (List ℕ) → Bool
is_finished settings found = option_map_or (is_done settings) found false

-- the heading has no done keyword
abbrev pub is_open : FileSettings → List ℕ → Head → Bool
is_open settings text head = not (is_finished settings (keyword_in text head))
