-- The keywords that a file's setting lines name (Org manual 9.6, "Workflow States"; "Multiple Sets in One File"; "Fast
-- Access to TODO States"; which words stay, and repeats: profile).
-- Characters by their codes: 40 (, 41 ).
use Rattle.std.specs.Prelude.{ℕ, suc, ◌-◌, Bool, true, false, ◌||◌, not, ◌==◌, nat_lt, if◌then◌else◌, List, [], ◌∷◌, ◌++◌, map, length, take, drop, take_while, slice_index, bytes_eq, codes, Option, is_some, position, get_or, fold}
use Rattle.std.specs.List.{prefix_len}
use Rattle.org_settings.specs.SettingLines.{has_key, setting_value}
use Rattle.org_settings.specs.Pieces.{words}

-- a keyword; `first` is the place of the first of its sequence
pub record Keyword : Type 0 where
  pub word : List ℕ
  pub done : Bool
  pub first : ℕ

-- the word `|`
abbrev pub is_bar : List ℕ → Bool
is_bar w = bytes_eq w (codes "|")

-- the word without what stands from its first ( on, if it ends in )
abbrev pub without_parens : List ℕ → List ℕ
without_parens w = if slice_index w (length w - 1) == 41 then take_while (λ b. not (b == 40)) w else w

-- the word names a keyword: what is left of it isn't empty and no bar
abbrev pub is_named : List ℕ → Bool
is_named w = not (length (without_parens w) == 0 || is_bar (without_parens w))

-- how many words stand before the first |
abbrev pub bar_place : List (List ℕ) → ℕ
bar_place ws = prefix_len (λ w. not (is_bar w)) ws

-- how many words there are up to the last one that names a keyword, with it
abbrev pub named_until : List (List ℕ) → ℕ
named_until [] = 0
named_until (w ∷ ws) = let n = named_until ws in if n == 0 then (if is_named w then 1 else 0) else suc n

-- the place from which on keywords are done: the first bar, else the last word that names a keyword
abbrev pub done_from : List (List ℕ) → ℕ
done_from ws = if nat_lt (bar_place ws) (length ws) then bar_place ws else named_until ws - 1

-- the place of a word among keywords
abbrev pub keyword_place : List Keyword → List ℕ → Option ℕ
keyword_place ks w = position (bytes_eq w) (map (λ k. k.word) ks)

-- keywords with one more, unless its word is there
abbrev pub with_new : List Keyword → Keyword → List Keyword
with_new ks k = if is_some (keyword_place ks k.word) then ks else ks ++ k ∷ []

-- keywords with the one that a word names, if it names one
abbrev pub add_word : Bool → ℕ → List Keyword → List ℕ → List Keyword
add_word done first ks w = if is_named w then with_new ks (record { word = without_parens w; done = done; first = first }) else ks

-- keywords with those that words name, one after another
abbrev pub add_words : Bool → ℕ → List Keyword → List (List ℕ) → List Keyword
add_words done first ks ws = fold (add_word done first) ks ws

-- keywords with those of one more line; the first of the line stands after all before
abbrev pub add_sequence : List Keyword → List (List ℕ) → List Keyword
add_sequence ks ws =
    let n = done_from ws in
    add_words true (length ks) (add_words false (length ks) ks (take n ws)) (drop n ws)

-- a line of `#+TODO`, `#+SEQ_TODO` or `#+TYP_TODO`
abbrev pub is_keyword_line : List ℕ → Bool
is_keyword_line line = has_key (codes "TODO") line || (has_key (codes "SEQ_TODO") line || has_key (codes "TYP_TODO") line)

-- keywords with the sequence of a line, if it is a keyword line
abbrev pub add_line : List Keyword → List ℕ → List Keyword
add_line ks line = if is_keyword_line line then add_sequence ks (words (setting_value line)) else ks

-- the keywords of a file that names none: TODO, and DONE as a done one
abbrev pub standard_keywords : List Keyword
standard_keywords = add_sequence [] (codes "TODO" ∷ codes "DONE" ∷ [])

-- the keywords of a file with these setting lines
abbrev pub keywords : List (List ℕ) → List Keyword
keywords lines = let named = fold add_line [] lines in if length named == 0 then standard_keywords else named

-- the keyword at a place is a done one
abbrev pub keyword_done : List Keyword → ℕ → Bool
keyword_done ks place = (get_or ks place (record { word = []; done = false; first = 0 })).done

-- the place of the first keyword of the sequence that holds the one at a place
abbrev pub keyword_first : List Keyword → ℕ → ℕ
keyword_first ks place = (get_or ks place (record { word = []; done = false; first = 0 })).first

-- the word of the keyword at a place; empty where there is none
abbrev pub keyword_word : List Keyword → ℕ → List ℕ
keyword_word ks place = (get_or ks place (record { word = []; done = false; first = 0 })).word
