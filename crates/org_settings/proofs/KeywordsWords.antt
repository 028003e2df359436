-- Words of the proofs about Keywords: parts of its definitions.
use Rattle.std.specs.Prelude.{ℕ, List, fold}
use Rattle.org_settings.specs.Keywords.{Keyword, add_line}

-- keywords with the sequences of lines, one after another
abbrev pub add_lines : List Keyword → List (List ℕ) → List Keyword
add_lines ks lines = fold add_line ks lines
