-- Words of files, one after the other.
use Rattle.std.proofs.Common.{◌≡◌, ◌∙◌, ℕ, ◌+◌, ◌<◌, ◌≤◌, inl, inr, Bool, false, append_assoc, List, [], ◌∷◌, ◌++◌, length, drop, map, refl, sym, ap, arith}
use Rattle.std.specs.Prelude.{Some, slice_get}
use Rattle.std.specs.List.{flat_map}
use Rattle.std.specs.Option.{option_map}
use Rattle.std.proofs.lemmas.List.Sums.{fold-append}
use Rattle.std.proofs.lemmas.Option.{slice_get-map, slice_get-get_or, slice_get_cases}
use Rattle.org_inherit.specs.Scope.{Scope}
use Rattle.org_inherit.specs.Tags.{with_tag, with_tags}
use Rattle.org_inherit.proofs.ListLemmas.{cut_at}
use Rattle.org_settings.specs.Keywords.{Keyword, keyword_word}
use Rattle.org_answer.specs.Words.{entry_tags, file_words, head_tags, tags_from, tags_under, word_line, word_lines}
use Rattle.org_answer.specs.declared.show.Form.{Form}
use Rattle.org_answer.specs.declared.words.WordKind.{WordKind}

-- words after words
pub adds_both : (old a b : List (List ℕ)) → with_tags (with_tags old a) b ≡ with_tags old (a ++ b)
adds_both old a b = sym (fold-append with_tag old a b)

pub keyword_at : (keywords : List Keyword) (place : ℕ) → place < length keywords → slice_get (map (λ keyword. keyword.word) keywords) place ≡ Some (keyword_word keywords place)
keyword_at keywords place within =
    slice_get-map (λ (keyword : Keyword). keyword.word) keywords place
    ∙ ap (option_map (λ (keyword : Keyword). keyword.word)) (slice_get-get_or keywords place (record { word = []; done = false; first = 0 }) within)

tags_more : (scope : Scope) (place : ℕ) → place < length scope.entries →
    tags_from scope place (drop place scope.entries) ≡ tags_under scope place ++ tags_from scope (place + 1) (drop (place + 1) scope.entries)
tags_more scope place within =
    elim (slice_get_cases scope.entries place).1 [
      | inl found ↦
          ap (tags_from scope place) (cut_at scope.entries place found.0 found.2)
          ∙ ap (λ e. entry_tags scope place e ++ tags_from scope (place + 1) (drop (place + 1) scope.entries)) (sym found.2)
      | inr past ↦ absurd (omega (arith, past.0, within))
    ]

-- the tags of a heading more
pub tags_told : (scope : Scope) (place : ℕ) (old new target : List (List ℕ)) → place < length scope.entries → new ≡ with_tags old (tags_under scope place) →
    with_tags old (tags_from scope place (drop place scope.entries)) ≡ target → with_tags new (tags_from scope (place + 1) (drop (place + 1) scope.entries)) ≡ target
tags_told scope place old new target within added told =
    let rest = tags_from scope (place + 1) (drop (place + 1) scope.entries) in
    ap (λ words. with_tags words rest) added ∙ adds_both old (tags_under scope place) rest ∙ ap (with_tags old) (sym (tags_more scope place within)) ∙ told

-- the words of a file more
pub words_told : (kind : WordKind) (scopes : List Scope) (file : ℕ) (scope : Scope) (old new target : List (List ℕ)) → slice_get scopes file ≡ Some scope →
    new ≡ with_tags old (file_words kind scope) → with_tags old (flat_map (file_words kind) (drop file scopes)) ≡ target →
    with_tags new (flat_map (file_words kind) (drop (file + 1) scopes)) ≡ target
words_told kind scopes file scope old new target is added told =
    let rest = flat_map (file_words kind) (drop (file + 1) scopes) in
    ap (λ words. with_tags words rest) added
    ∙ adds_both old (file_words kind scope) rest
    ∙ ap (λ left. with_tags old (flat_map (file_words kind) left)) (sym (cut_at scopes file scope is))
    ∙ told

-- the line of a word more
pub lines_more : (form : Form) (is_seen : Bool) (words : List (List ℕ)) (place : ℕ) (word old new target : List ℕ) → slice_get words place ≡ Some word →
    new ≡ old ++ word_line form is_seen word → old ++ word_lines form is_seen (drop place words) ≡ target → new ++ word_lines form is_seen (drop (place + 1) words) ≡ target
lines_more form is_seen words place word old new target there added told =
    let rest = word_lines form is_seen (drop (place + 1) words) in
    ap (λ lines. lines ++ rest) added
    ∙ append_assoc old (word_line form is_seen word) rest
    ∙ ap (λ lines. old ++ lines) (sym (ap (word_lines form is_seen) (cut_at words place word there)))
    ∙ told
