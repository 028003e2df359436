-- Blocks among the lines of a section (Org Syntax, "Blocks"; that nothing opens inside a block, whatever its name:
-- profile).
use Rattle.std.specs.Prelude.{◌≡◌, ◌≢◌, ◌⊎◌, ℕ, Bool, false, true, ◌&&◌, not, ◌==◌, if◌then◌else◌, List, [], ◌∷◌, ◌++◌, length, take, drop, replicate, codes, Option, Some, None}
use Rattle.std.specs.List.{list_any}
use Rattle.org_base.specs.Words.{trimmed, first_word, same_word}
use Rattle.org_class.specs.LineClass.{line_class}
use Rattle.org_class.specs.declared.class.Class.{Class}
use Rattle.org_class.specs.declared.class.Class.TheVariants.{BlockOpen, Verbatim, BlockEnd}

-- the first text begins with the second, but for the case of ASCII letters
abbrev pub begins_with : List ℕ → List ℕ → Bool
begins_with a b = same_word (take (length b) a) b

-- `#`, with which the marks of blocks begin
abbrev pub is_hash : ℕ → Bool
is_hash b = b == 35

-- the name of the block that the line would open: X of a first word `#+BEGIN_X`, in any case; empty where there is none
abbrev pub block_name : List ℕ → List ℕ
block_name l = let w = first_word l in if begins_with w (codes "#+BEGIN_") then drop 8 w else []

-- the line is `#+END_X` alone, X being the block's name; letter case doesn't count
abbrev pub ends_block : List ℕ → List ℕ → Bool
ends_block name l = let t = trimmed l in begins_with t (codes "#+END_") && same_word (drop 6 t) name

-- the line opens a block, which one of the later lines ends
abbrev pub opens_block : List ℕ → List (List ℕ) → Bool
opens_block l ls = not (length (block_name l) == 0) && list_any (ends_block (block_name l)) ls

-- the classes of the lines after a section's drawer, outside blocks (None) or inside the block of a name
abbrev pub body_classes : Option (List ℕ) → List (List ℕ) → List Class
body_classes name [] = []
body_classes None (l ∷ ls) = if opens_block l ls then BlockOpen ∷ body_classes (Some (block_name l)) ls else line_class l ∷ body_classes None ls
body_classes (Some name) (l ∷ ls) = if ends_block name l then BlockEnd ∷ body_classes None ls else Verbatim ∷ body_classes (Some name) ls

-- no block begins at the line: it has no block's name, or none of the later lines ends that block
abbrev pub OpensNone : List ℕ → List (List ℕ) → Type 0
OpensNone l ls = (block_name l ≡ []) ⊎ (list_any (ends_block (block_name l)) ls ≡ false)

-- the classes of lines by their blocks, from the top: a line alone, or a block up to the first line that ends it
pub data AreBlocks : List (List ℕ) → List Class → Type 0 where
  none : AreBlocks [] []
  alone : (l : List ℕ) (ls : List (List ℕ)) (cs : List Class) → OpensNone l ls → AreBlocks ls cs → AreBlocks (l ∷ ls) (line_class l ∷ cs)
  block : (l : List ℕ) (inside : List (List ℕ)) (e : List ℕ) (ls : List (List ℕ)) (cs : List Class) → block_name l ≢ [] → list_any (ends_block (block_name l)) inside ≡ false → ends_block (block_name l) e ≡ true → AreBlocks ls cs → AreBlocks (l ∷ (inside ++ e ∷ ls)) (BlockOpen ∷ (replicate (length inside) Verbatim ++ BlockEnd ∷ cs))
