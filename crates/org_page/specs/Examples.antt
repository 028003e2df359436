-- Worked examples: what the definitions say of inputs at which a wrong rule says something else.
use Rattle.std.specs.Prelude.{◌≡◌, ℕ, List, [], ◌∷◌, codes}
use Rattle.org_page.specs.Characters.{part_text}
use Rattle.org_page.specs.Links.{encoded}
use Rattle.org_page.specs.Reader.{read, Marked, Said, Valued}
use Rattle.org_page.specs.Sums.{blocks_from, column_sum, columns_sum}
use Rattle.org_page.specs.Values.{duration_bytes, time_bytes}
use Rattle.org_page.specs.declared.character.Part.TheVariants.{Name, Words}

pub record ExamplesHold : Type 0 where
  -- five characters stand by their names
  pub five : part_text Words (codes "a<b>&\"'") ≡ codes "a&lt;b&gt;&amp;&quot;&#x27;"
  -- a name in a text is text too
  pub named : part_text Words (codes "&lt;") ≡ codes "&amp;lt;"
  -- a control character and what is no character stand as U+FFFD, a line feed as it is
  pub control : part_text Words (27 ∷ 133 ∷ 65535 ∷ 10 ∷ []) ≡ 65533 ∷ 65533 ∷ 65533 ∷ 10 ∷ []
  -- a name of a tag has nothing that ends it
  pub name : part_text Name (codes "li\"><b") ≡ codes "lib"
  -- a reader takes what isn't named for a tag
  pub tag : read (codes "<b>&amp;") ≡ Marked 60 ∷ Marked 98 ∷ Marked 62 ∷ Said 38 ∷ []
  -- within quotation marks nothing ends a tag but they
  pub value : read (codes "<a b=\">&quot;\">") ≡ Marked 60 ∷ Marked 97 ∷ Marked 32 ∷ Marked 98 ∷ Marked 61 ∷ Marked 34 ∷ Valued 62 ∷ Valued 34 ∷ Marked 34 ∷ Marked 62 ∷ []
  -- a path keeps its slashes; a colon, which a scheme ends with, it doesn't keep
  pub path : encoded (codes "/a b%.org") ≡ codes "/a%20b%25.org"
  pub scheme : encoded (codes "javascript:1") ≡ codes "javascript%3A1"
  -- 195 182 is an o with two dots
  pub umlaut : encoded (195 ∷ 182 ∷ []) ≡ codes "%C3%B6"
  -- five past one, and a minute to midnight
  pub early : time_bytes 65 ≡ codes "01:05"
  pub late : time_bytes 1439 ≡ codes "23:59"
  -- five minutes, and a hundred and one hours
  pub short : duration_bytes 5 ≡ codes "0:05"
  pub long : duration_bytes 6060 ≡ codes "101:00"
  -- parts of a bar stand upon one another, one of nothing too
  pub blocks : blocks_from 0 (60 ∷ 0 ∷ 30 ∷ []) ≡ record { below = 0; minutes = 60 } ∷ record { below = 60; minutes = 0 } ∷ record { below = 60; minutes = 30 } ∷ []
  -- the second of two files, and both
  pub column : column_sum (λ (row : List ℕ). row) 1 ((1 ∷ 2 ∷ []) ∷ (3 ∷ 4 ∷ []) ∷ []) ≡ 6
  pub columns : columns_sum (λ (row : List ℕ). row) 2 ((1 ∷ 2 ∷ []) ∷ (3 ∷ 4 ∷ []) ∷ []) ≡ 10
