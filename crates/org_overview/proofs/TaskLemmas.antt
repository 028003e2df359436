-- Words and groups, one by one.
use Rattle.std.proofs.Common.{◌≡◌, ◌∙◌, ◌+◌, ℕ, true, false, List, [], ◌∷◌, ◌++◌, bytes_eq, drop, map, ap, append_assoc, sym}
use Rattle.std.specs.Prelude.{Some, ◌||◌, slice_get}
use Rattle.std.proofs.lemmas.List.{map-append}
use Rattle.org_overview.proofs.ChartLemmas.{drop_there}
use Rattle.org_overview.specs.Groups.{group_marks, groups_marks}
use Rattle.org_overview.specs.Marks.{Mark}
use Rattle.org_overview.specs.Tasks.{has_word}
use Rattle.org_page.specs.declared.task.TaskGroup.{TaskGroup}

-- a word at a place, and the words behind it
past : (names : List (List ℕ)) (word : List ℕ) (i : ℕ) (name : List ℕ) → slice_get names i ≡ Some name →
    has_word (drop i names) word ≡ (bytes_eq word name || has_word (drop (i + 1) names) word)
past names word i name at = ap (λ rest. has_word rest word) (drop_there names i name at)

pub word_found : (names : List (List ℕ)) (word : List ℕ) (i : ℕ) (name : List ℕ) → has_word (drop i names) word ≡ has_word names word →
    slice_get names i ≡ Some name → bytes_eq word name ≡ true → true ≡ has_word names word
word_found names word i name so at is = sym (ap (λ b. b || has_word (drop (i + 1) names) word) is) ∙ sym (past names word i name at) ∙ so

pub word_missed : (names : List (List ℕ)) (word : List ℕ) (i : ℕ) (name : List ℕ) → has_word (drop i names) word ≡ has_word names word →
    slice_get names i ≡ Some name → bytes_eq word name ≡ false → has_word (drop (i + 1) names) word ≡ has_word names word
word_missed names word i name so at is = sym (ap (λ b. b || has_word (drop (i + 1) names) word) is) ∙ sym (past names word i name at) ∙ so

-- the group of one word more
pub group_more : (f : List ℕ → List Mark) (names : List (List ℕ)) (i : ℕ) (name : List ℕ) (old new : List TaskGroup) (group : TaskGroup) (all : List (List Mark)) →
    slice_get names i ≡ Some name → group_marks group ≡ f name → new ≡ old ++ group ∷ [] →
    groups_marks old ++ map f (drop i names) ≡ all → groups_marks new ++ map f (drop (i + 1) names) ≡ all
group_more f names i name old new group all at is grown so =
    ap (λ (gs : List TaskGroup). map group_marks gs ++ map f (drop (i + 1) names)) grown
    ∙ ap (λ (ms : List (List Mark)). ms ++ map f (drop (i + 1) names)) (map-append group_marks old (group ∷ []))
    ∙ append_assoc (map group_marks old) (group_marks group ∷ []) (map f (drop (i + 1) names))
    ∙ ap (λ (m : List Mark). map group_marks old ++ m ∷ map f (drop (i + 1) names)) is
    ∙ ap (λ (ns : List (List ℕ)). map group_marks old ++ map f ns) (sym (drop_there names i name at))
    ∙ so
