-- Blocks that say that they open and don't end (Org Syntax, "Blocks").
use Rattle.std.specs.Prelude.{◌≡◌, ◌≢◌, ℕ, true, false, List, [], ◌∷◌}
use Rattle.std.specs.List.{list_any}
use Rattle.org_class.specs.Blocks.{block_name, ends_block}
use Rattle.org_class.specs.Classes.{classes}
use Rattle.org_class.specs.declared.class.Class.{Class}
use Rattle.org_check.specs.Marks.{is_text}

-- where a line of text says that a block opens, none of the later lines ends that block
abbrev pub NoneEnds : List (List ℕ) → List Class → Type 0
NoneEnds [] cs = Unit {0}
NoneEnds (l ∷ ls) [] = Unit {0}
NoneEnds (l ∷ ls) (c ∷ cs) = (is_text c ≡ true → block_name l ≢ [] → list_any (ends_block (block_name l)) ls ≡ false) × NoneEnds ls cs

-- so it is in the lines of each section
abbrev pub UnclosedBlocksDontEnd : Type 0
UnclosedBlocksDontEnd = (section : List (List ℕ)) → NoneEnds section (classes section)
