-- The keywords of a file as lines of text (profile).
use Rattle.std.specs.Option.{option_map_or}
use Rattle.std.specs.Prelude.{ℕ, Bool, true, false, ◌==◌, if◌then◌else◌, List, [], ◌∷◌, ◌++◌, Option, None, Some, codes}
use Rattle.org_settings.specs.Keywords.{Keyword}
use Rattle.org_engine.specs.declared.keywords.Kind.{Kind}

-- whether a keyword is a done one, and the place of the first of its sequence
abbrev pub kind_of : Keyword → Kind
kind_of k = record { is_done = k.done; first = k.first }

-- the bar that stands before done keywords where they begin a line
abbrev pub bar_before : Bool → List ℕ
bar_before is_done = if is_done then codes "| " else []

-- what ends a line, by whether its last keyword is a done one: a bar, where none stood before, and the line feed
abbrev pub line_end : Bool → List ℕ
line_end is_done = if is_done then codes "\n" else codes " |\n"

-- what stands between two keywords of one sequence: a bar where the done ones begin
abbrev pub gap_between : Bool → Bool → List ℕ
gap_between false true = codes " | "
gap_between _ _ = codes " "

-- what stands before a keyword, after one of this kind or none
abbrev pub gap_before : Option Kind → Kind → List ℕ
gap_before None next = bar_before next.is_done
gap_before (Some last) next =
    if last.first == next.first then gap_between last.is_done next.is_done else line_end last.is_done ++ bar_before next.is_done

-- what ends the last line, if there is one
abbrev pub last_end : Option Kind → List ℕ
last_end found = option_map_or (λ last. line_end last.is_done) found []

-- the lines of keywords, after one of this kind or none: a line for each sequence, its keywords in their order with a space
-- between, and a bar before the done ones
abbrev pub keyword_lines : Option Kind → List Keyword → List ℕ
keyword_lines last [] = option_map_or (λ kind. line_end kind.is_done) last []
keyword_lines last (k ∷ ks) = gap_before last (kind_of k) ++ (k.word ++ keyword_lines (Some (kind_of k)) ks)
