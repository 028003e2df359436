-- A page is read as it is meant.
use Rattle.std.proofs.Common.{◌≡◌, ◌≢◌, ℕ, ◌<◌, Bool, true, false, cond, ◌==◌, ◌||◌, List, [], ◌∷◌, ◌++◌, Option, Some, None, refl, sym, ap, subst, ◌∙◌, ⊎_elim, map, chars, codes, arith}
use Rattle.std.specs.List.{flat_map}
use Rattle.std.proofs.lemmas.Bool.{cases_eq, ne_eqb, eqb-false, or_parts, and_parts, not_from_true, cond_both, cond-false, cond-true, or_from}
use Rattle.std.proofs.lemmas.List.{append_assoc, append-nil, map-append}
use Rattle.std.proofs.lemmas.List.Elements.{All-nil, All-cons, All-append}
use Rattle.std.specs.List.{All}
use Rattle.std.specs.String.{string_bytes}
use Rattle.org_page.specs.Laws.{attribute_frame, frame, meant, meant_attribute, meant_tag, meant_title, shown, CharactersStand, IsHarmless, NoTextMakesMarkup, PagesReadBack, TextsAreHarmless, TitlesReadBack}
use Rattle.org_page.specs.Pieces.{attribute_text, page_text, piece_text, tag_text, title_begin, title_end, title_middle, title_text}
use Rattle.org_page.specs.declared.piece.Attribute.{Attribute}
use Rattle.org_page.specs.declared.piece.Piece.{Piece}
use Rattle.org_page.specs.declared.piece.Piece.TheVariants.{Tag, Content, Titled}
use Rattle.org_page.specs.Characters.{is_left_out, part_text, char_text, words_char, shown_char, name_char, is_name_char}
use Rattle.org_page.specs.Reader.{Mode, Outside, Inside, Value, Letter, Said, Marked, Valued, read, read_from, letter_of, next_mode, begins_name, marks, values, words}
use Rattle.org_page.specs.declared.character.Part.TheVariants.{Name, Words}

-- what is shown of a character that means nothing means nothing
shown_ne : (c k : ℕ) → k < 65533 → c ≢ k → shown_char c ≢ k
shown_ne c k small ne = cond_both (is_left_out c) 65533 c (λ x. x ≢ k) (λ _ e. omega arith) (λ _. ne)

-- such a character is read as it is, in words and in a value
plain_said : (c : ℕ) (rest : List ℕ) → c ≢ 38 → c ≢ 60 → read_from Outside None (c ∷ rest) ≡ Said c ∷ read_from Outside None rest
plain_said c rest amp less = rw (ne_eqb c 38 amp, ne_eqb c 60 less) refl

plain_valued : (c : ℕ) (rest : List ℕ) → c ≢ 38 → c ≢ 34 → read_from Value None (c ∷ rest) ≡ Valued c ∷ read_from Value None rest
plain_valued c rest amp quote = rw (ne_eqb c 38 amp, ne_eqb c 34 quote) refl

-- a character of words is read as what is shown of it
IsSaid : ℕ → Type 0
IsSaid c = (rest : List ℕ) → read_from Outside None (words_char c ++ rest) ≡ Said (shown_char c) ∷ read_from Outside None rest

other_chars : (c : ℕ) → c ≢ 38 → c ≢ 60 → c ≢ 62 → c ≢ 34 → c ≢ 39 → words_char c ≡ shown_char c ∷ []
other_chars c amp less more quote apostrophe = rw (ne_eqb c 38 amp, ne_eqb c 60 less, ne_eqb c 62 more, ne_eqb c 34 quote, ne_eqb c 39 apostrophe) refl

-- each character is one of the five, or one of the others
by_five : (P : ℕ → Type 0) → P 38 → P 60 → P 62 → P 34 → P 39 → ((c : ℕ) → c ≢ 38 → c ≢ 60 → c ≢ 62 → c ≢ 34 → c ≢ 39 → P c) → (c : ℕ) → P c
by_five P amp less more quote apostrophe other c =
    ⊎_elim (λ e. subst P (sym e) amp) (λ n1.
    ⊎_elim (λ e. subst P (sym e) less) (λ n2.
    ⊎_elim (λ e. subst P (sym e) more) (λ n3.
    ⊎_elim (λ e. subst P (sym e) quote) (λ n4.
    ⊎_elim (λ e. subst P (sym e) apostrophe) (λ n5. other c n1 n2 n3 n4 n5)
    (cases_eq c 39)) (cases_eq c 34)) (cases_eq c 62)) (cases_eq c 60)) (cases_eq c 38)

said_char : (c : ℕ) → IsSaid c
unfolding IsSaid
said_char c = by_five IsSaid (λ rest. refl) (λ rest. refl) (λ rest. refl) (λ rest. refl) (λ rest. refl)
    (λ d n1 n2 n3 n4 n5 rest. ap (λ t. read_from Outside None (t ++ rest)) (other_chars d n1 n2 n3 n4 n5) ∙ plain_said (shown_char d) rest (shown_ne d 38 (omega arith) n1) (shown_ne d 60 (omega arith) n2)) c

IsValued : ℕ → Type 0
IsValued c = (rest : List ℕ) → read_from Value None (words_char c ++ rest) ≡ Valued (shown_char c) ∷ read_from Value None rest

valued_char : (c : ℕ) → IsValued c
unfolding IsValued
valued_char c = by_five IsValued (λ rest. refl) (λ rest. refl) (λ rest. refl) (λ rest. refl) (λ rest. refl)
    (λ d n1 n2 n3 n4 n5 rest. ap (λ t. read_from Value None (t ++ rest)) (other_chars d n1 n2 n3 n4 n5) ∙ plain_valued (shown_char d) rest (shown_ne d 38 (omega arith) n1) (shown_ne d 34 (omega arith) n4)) c

pub said_words : (cs rest : List ℕ) → read_from Outside None (part_text Words cs ++ rest) ≡ map Said (map shown_char cs) ++ read_from Outside None rest
unfolding IsSaid
said_words [] rest = refl
said_words (c ∷ cs) rest =
    ap (read_from Outside None) (append_assoc (words_char c) (part_text Words cs) rest) ∙ said_char c (part_text Words cs ++ rest) ∙ ap (λ t. Said (shown_char c) ∷ t) (said_words cs rest)

pub valued_words : (cs rest : List ℕ) → read_from Value None (part_text Words cs ++ rest) ≡ map Valued (map shown_char cs) ++ read_from Value None rest
unfolding IsValued
valued_words [] rest = refl
valued_words (c ∷ cs) rest =
    ap (read_from Value None) (append_assoc (words_char c) (part_text Words cs) rest) ∙ valued_char c (part_text Words cs ++ rest) ∙ ap (λ t. Valued (shown_char c) ∷ t) (valued_words cs rest)

-- the characters of a name are marks
marked_char : (c : ℕ) (rest : List ℕ) → c ≢ 62 → c ≢ 34 → read_from Inside None (c ∷ rest) ≡ Marked c ∷ read_from Inside None rest
marked_char c rest more quote = rw (ne_eqb c 62 more, ne_eqb c 34 quote) refl

IsMarked : ℕ → Type 0
IsMarked c = (rest : List ℕ) → read_from Inside None (name_char c ++ rest) ≡ map Marked (name_char c) ++ read_from Inside None rest

marked_name_char : (c : ℕ) → IsMarked c
unfolding IsMarked
marked_name_char c =
    ⊎_elim (λ e. subst IsMarked (sym e) (λ rest. refl)) (λ more.
    ⊎_elim (λ e. subst IsMarked (sym e) (λ rest. refl)) (λ quote rest.
    cond_both (is_name_char c) (c ∷ []) [] (λ t. read_from Inside None (t ++ rest) ≡ map Marked t ++ read_from Inside None rest) (λ _. marked_char c rest more quote) (λ _. refl))
    (cases_eq c 34)) (cases_eq c 62)

pub marked_name : (cs rest : List ℕ) → read_from Inside None (part_text Name cs ++ rest) ≡ map Marked (part_text Name cs) ++ read_from Inside None rest
unfolding IsMarked
marked_name [] rest = refl
marked_name (c ∷ cs) rest =
    ap (read_from Inside None) (append_assoc (name_char c) (part_text Name cs) rest)
    ∙ marked_name_char c (part_text Name cs ++ rest)
    ∙ ap (λ t. map Marked (name_char c) ++ t) (marked_name cs rest)
    ∙ sym (append_assoc (map Marked (name_char c)) (map Marked (part_text Name cs)) (read_from Inside None rest))
    ∙ ap (λ t. t ++ read_from Inside None rest) (sym (map-append Marked (name_char c) (part_text Name cs)))

-- ---- attributes and tags

group_attribute : (name : List ℕ) (value rest : List Letter) → (map Marked (32 ∷ (name ++ (61 ∷ 34 ∷ []))) ++ (value ++ Marked 34 ∷ [])) ++ rest ≡ Marked 32 ∷ (map Marked name ++ (Marked 61 ∷ Marked 34 ∷ (value ++ (Marked 34 ∷ rest))))
group_attribute name value rest = simp (map-append, append_assoc)

read_attribute : (attribute : Attribute) (rest : List ℕ) → read_from Inside None (attribute_text attribute ++ rest) ≡ meant_attribute attribute ++ read_from Inside None rest
read_attribute attribute rest =
    let name : List ℕ = chars attribute.name.now in
    let value : List ℕ = chars (string_bytes attribute.value) in
    let inner : List ℕ = part_text Words value ++ 34 ∷ [] in
    ap (λ t. Marked 32 ∷ read_from Inside None t) (append_assoc (part_text Name name) (61 ∷ 34 ∷ inner) rest)
    ∙ ap (λ t. Marked 32 ∷ t) (marked_name name (61 ∷ 34 ∷ (inner ++ rest)))
    ∙ ap (λ t. Marked 32 ∷ (map Marked (part_text Name name) ++ (Marked 61 ∷ Marked 34 ∷ t)))
    (ap (read_from Value None) (append_assoc (part_text Words value) (34 ∷ []) rest) ∙ valued_words value (34 ∷ rest))
    ∙ sym (group_attribute (part_text Name name) (map Valued (map shown_char value)) (read_from Inside None rest))

read_attributes : (attributes : List Attribute) (rest : List ℕ) → read_from Inside None (flat_map attribute_text attributes ++ rest) ≡ flat_map meant_attribute attributes ++ read_from Inside None rest
read_attributes [] rest = refl
read_attributes (attribute ∷ attributes) rest =
    ap (read_from Inside None) (append_assoc (attribute_text attribute) (flat_map attribute_text attributes) rest)
    ∙ read_attribute attribute (flat_map attribute_text attributes ++ rest)
    ∙ ap (λ t. meant_attribute attribute ++ t) (read_attributes attributes rest)
    ∙ sym (append_assoc (meant_attribute attribute) (flat_map meant_attribute attributes) (read_from Inside None rest))

group_tag : (name : List ℕ) (attributes rest : List Letter) → (map Marked (60 ∷ name) ++ (attributes ++ Marked 62 ∷ [])) ++ rest ≡ Marked 60 ∷ (map Marked name ++ (attributes ++ (Marked 62 ∷ rest)))
group_tag name attributes rest = simp append_assoc

read_tag : (name : List ℕ) (attributes : List Attribute) (rest : List ℕ) → read_from Outside None (tag_text name attributes ++ rest) ≡ meant_tag name attributes ++ read_from Outside None rest
read_tag name attributes rest =
    let cs : List ℕ = chars name in
    let inner : List ℕ = flat_map attribute_text attributes ++ 62 ∷ [] in
    ap (λ t. Marked 60 ∷ read_from Inside None t) (append_assoc (part_text Name cs) inner rest)
    ∙ ap (λ t. Marked 60 ∷ t) (marked_name cs (inner ++ rest))
    ∙ ap (λ t. Marked 60 ∷ (map Marked (part_text Name cs) ++ t))
    (ap (read_from Inside None) (append_assoc (flat_map attribute_text attributes) (62 ∷ []) rest) ∙ read_attributes attributes (62 ∷ rest))
    ∙ sym (group_tag (part_text Name cs) (flat_map meant_attribute attributes) (read_from Outside None rest))

-- ---- titles and pages

group_title : (is_done : Bool) (link title rest : List Letter) →
    (map Marked title_begin ++ (link ++ (map Marked (title_middle is_done) ++ (title ++ map Marked (title_end is_done))))) ++ rest
    ≡ map Marked title_begin ++ (link ++ (map Marked (title_middle is_done) ++ (title ++ (map Marked (title_end is_done) ++ rest))))
group_title is_done link title rest = simp append_assoc

group_title_text : (is_done : Bool) (link title rest : List ℕ) →
    (title_begin ++ (link ++ (title_middle is_done ++ (title ++ title_end is_done)))) ++ rest
    ≡ title_begin ++ (link ++ (title_middle is_done ++ (title ++ (title_end is_done ++ rest))))
group_title_text is_done link title rest = simp append_assoc

middle_read : (is_done : Bool) (rest : List ℕ) → read_from Value None (title_middle is_done ++ rest) ≡ map Marked (title_middle is_done) ++ read_from Outside None rest
middle_read false rest = refl
middle_read true rest = refl

end_read : (is_done : Bool) (rest : List ℕ) → read_from Outside None (title_end is_done ++ rest) ≡ map Marked (title_end is_done) ++ read_from Outside None rest
end_read false rest = refl
end_read true rest = refl

read_title : (is_done : Bool) (link title rest : List ℕ) → read_from Outside None (title_text is_done link title ++ rest) ≡ meant_title is_done link title ++ read_from Outside None rest
read_title is_done link title rest =
    let address : List ℕ = chars link in
    let cs : List ℕ = chars title in
    let begin : List Letter = map Marked title_begin in
    let valued : List Letter = map Valued (map shown_char address) in
    let middle : List Letter = map Marked (title_middle is_done) in
    let said : List Letter = map Said (map shown_char cs) in
    ap (read_from Outside None) (group_title_text is_done (part_text Words address) (part_text Words cs) rest)
    ∙ ap (λ t. begin ++ t) (valued_words address (title_middle is_done ++ (part_text Words cs ++ (title_end is_done ++ rest))))
    ∙ ap (λ t. begin ++ (valued ++ t)) (middle_read is_done (part_text Words cs ++ (title_end is_done ++ rest)))
    ∙ ap (λ t. begin ++ (valued ++ (middle ++ t))) (said_words cs (title_end is_done ++ rest))
    ∙ ap (λ t. begin ++ (valued ++ (middle ++ (said ++ t)))) (end_read is_done rest)
    ∙ sym (group_title is_done valued said (read_from Outside None rest))

read_piece : (piece : Piece) (rest : List ℕ) → read_from Outside None (piece_text piece ++ rest) ≡ meant piece ++ read_from Outside None rest
read_piece (Tag name attributes) rest = read_tag name.now attributes.items rest
read_piece (Content text) rest = said_words (chars (string_bytes text)) rest
read_piece (Titled title) rest = read_title title.is_done (string_bytes title.link) (string_bytes title.words) rest

pub pages_read_back : PagesReadBack
pages_read_back [] = refl
pages_read_back (piece ∷ pieces) = read_piece piece (page_text pieces) ∙ ap (λ t. meant piece ++ t) (pages_read_back pieces)

-- ---- marks

marks-append : (xs ys : List Letter) → marks (xs ++ ys) ≡ marks xs ++ marks ys
marks-append [] ys = refl
marks-append (Said c ∷ xs) ys = marks-append xs ys
marks-append (Marked c ∷ xs) ys = ap (λ t. c ∷ t) (marks-append xs ys)
marks-append (Valued c ∷ xs) ys = marks-append xs ys

marks-said : (cs : List ℕ) → marks (map Said cs) ≡ []
marks-said [] = refl
marks-said (c ∷ cs) = marks-said cs

marks-valued : (cs : List ℕ) → marks (map Valued cs) ≡ []
marks-valued [] = refl
marks-valued (c ∷ cs) = marks-valued cs

marks-marked : (cs : List ℕ) → marks (map Marked cs) ≡ cs
marks-marked [] = refl
marks-marked (c ∷ cs) = ap (λ t. c ∷ t) (marks-marked cs)

marks-attribute : (attribute : Attribute) → marks (meant_attribute attribute) ≡ attribute_frame attribute
marks-attribute attribute =
    let name : List ℕ = part_text Name (chars attribute.name.now) in
    let value : List ℕ = map shown_char (chars (string_bytes attribute.value)) in
    marks-append (map Marked (32 ∷ (name ++ (61 ∷ 34 ∷ [])))) (map Valued value ++ Marked 34 ∷ [])
    ∙ ap (λ t. t ++ marks (map Valued value ++ Marked 34 ∷ [])) (marks-marked (32 ∷ (name ++ (61 ∷ 34 ∷ []))))
    ∙ ap (λ t. (32 ∷ (name ++ (61 ∷ 34 ∷ []))) ++ t) (marks-append (map Valued value) (Marked 34 ∷ []) ∙ ap (λ t. t ++ 34 ∷ []) (marks-valued value))
    ∙ ap (λ t. 32 ∷ t) (append_assoc name (61 ∷ 34 ∷ []) (34 ∷ []))

marks-attributes : (attributes : List Attribute) → marks (flat_map meant_attribute attributes) ≡ flat_map attribute_frame attributes
marks-attributes [] = refl
marks-attributes (attribute ∷ attributes) =
    marks-append (meant_attribute attribute) (flat_map meant_attribute attributes)
    ∙ ap (λ t. t ++ marks (flat_map meant_attribute attributes)) (marks-attribute attribute)
    ∙ ap (λ t. attribute_frame attribute ++ t) (marks-attributes attributes)

marks-tag : (name : List ℕ) (attributes : List Attribute) → marks (meant_tag name attributes) ≡ 60 ∷ (part_text Name (chars name) ++ (flat_map attribute_frame attributes ++ 62 ∷ []))
marks-tag name attributes =
    let own : List ℕ = part_text Name (chars name) in
    marks-append (map Marked (60 ∷ own)) (flat_map meant_attribute attributes ++ Marked 62 ∷ [])
    ∙ ap (λ t. t ++ marks (flat_map meant_attribute attributes ++ Marked 62 ∷ [])) (marks-marked (60 ∷ own))
    ∙ ap (λ t. (60 ∷ own) ++ t) (marks-append (flat_map meant_attribute attributes) (Marked 62 ∷ []) ∙ ap (λ t. t ++ 62 ∷ []) (marks-attributes attributes))

marks-title : (is_done : Bool) (link title : List ℕ) → marks (meant_title is_done link title) ≡ title_begin ++ (title_middle is_done ++ title_end is_done)
marks-title is_done link title =
    let valued : List Letter = map Valued (shown link) in
    let said : List Letter = map Said (shown title) in
    let middle : List Letter = map Marked (title_middle is_done) in
    let end : List Letter = map Marked (title_end is_done) in
    ap (λ t. title_begin ++ t)
    (marks-append valued (middle ++ (said ++ end)) ∙ ap (λ t. t ++ marks (middle ++ (said ++ end))) (marks-valued (shown link))
    ∙ marks-append middle (said ++ end) ∙ ap (λ t. t ++ marks (said ++ end)) (marks-marked (title_middle is_done))
    ∙ ap (λ t. title_middle is_done ++ t) (marks-append said end ∙ ap (λ t. t ++ marks end) (marks-said (shown title)) ∙ marks-marked (title_end is_done)))

marks-piece : (piece : Piece) → marks (meant piece) ≡ frame piece
marks-piece (Tag name attributes) = marks-tag name.now attributes.items
marks-piece (Content text) = marks-said (shown (string_bytes text))
marks-piece (Titled title) = marks-title title.is_done (string_bytes title.link) (string_bytes title.words)

marks-pieces : (pieces : List Piece) → marks (flat_map meant pieces) ≡ flat_map frame pieces
marks-pieces [] = refl
marks-pieces (piece ∷ pieces) =
    marks-append (meant piece) (flat_map meant pieces)
    ∙ ap (λ t. t ++ marks (flat_map meant pieces)) (marks-piece piece)
    ∙ ap (λ t. frame piece ++ t) (marks-pieces pieces)

pub no_text_makes_markup : NoTextMakesMarkup
no_text_makes_markup pieces = ap marks (pages_read_back pieces) ∙ marks-pieces pieces

-- ---- words

words-append : (xs ys : List Letter) → words (xs ++ ys) ≡ words xs ++ words ys
words-append [] ys = refl
words-append (Said c ∷ xs) ys = ap (λ t. c ∷ t) (words-append xs ys)
words-append (Marked c ∷ xs) ys = words-append xs ys
words-append (Valued c ∷ xs) ys = words-append xs ys

words-said : (cs : List ℕ) → words (map Said cs) ≡ cs
words-said [] = refl
words-said (c ∷ cs) = ap (λ t. c ∷ t) (words-said cs)

words-marked : (cs : List ℕ) → words (map Marked cs) ≡ []
words-marked [] = refl
words-marked (c ∷ cs) = words-marked cs

words-valued : (cs : List ℕ) → words (map Valued cs) ≡ []
words-valued [] = refl
words-valued (c ∷ cs) = words-valued cs

words-of_title : (is_done : Bool) (link title : List ℕ) → words (meant_title is_done link title) ≡ shown title
words-of_title is_done link title =
    let valued : List Letter = map Valued (shown link) in
    let said : List Letter = map Said (shown title) in
    let middle : List Letter = map Marked (title_middle is_done) in
    let end : List Letter = map Marked (title_end is_done) in
    words-append valued (middle ++ (said ++ end)) ∙ ap (λ t. t ++ words (middle ++ (said ++ end))) (words-valued (shown link))
    ∙ words-append middle (said ++ end) ∙ ap (λ t. t ++ words (said ++ end)) (words-marked (title_middle is_done))
    ∙ words-append said end ∙ ap (λ t. words said ++ t) (words-marked (title_end is_done)) ∙ append-nil _ ∙ words-said (shown title)

values-append : (xs ys : List Letter) → values (xs ++ ys) ≡ values xs ++ values ys
values-append [] ys = refl
values-append (Said c ∷ xs) ys = values-append xs ys
values-append (Marked c ∷ xs) ys = values-append xs ys
values-append (Valued c ∷ xs) ys = ap (λ t. c ∷ t) (values-append xs ys)

values-valued : (cs : List ℕ) → values (map Valued cs) ≡ cs
values-valued [] = refl
values-valued (c ∷ cs) = ap (λ t. c ∷ t) (values-valued cs)

values-said : (cs : List ℕ) → values (map Said cs) ≡ []
values-said [] = refl
values-said (c ∷ cs) = values-said cs

values-marked : (cs : List ℕ) → values (map Marked cs) ≡ []
values-marked [] = refl
values-marked (c ∷ cs) = values-marked cs

values-of_title : (is_done : Bool) (link title : List ℕ) → values (meant_title is_done link title) ≡ shown link
values-of_title is_done link title =
    let valued : List Letter = map Valued (shown link) in
    let said : List Letter = map Said (shown title) in
    let middle : List Letter = map Marked (title_middle is_done) in
    let end : List Letter = map Marked (title_end is_done) in
    values-append valued (middle ++ (said ++ end))
    ∙ ap (λ t. values valued ++ t)
    (values-append middle (said ++ end) ∙ ap (λ t. t ++ values (said ++ end)) (values-marked (title_middle is_done))
    ∙ values-append said end ∙ ap (λ t. t ++ values end) (values-said (shown title)) ∙ values-marked (title_end is_done))
    ∙ append-nil _ ∙ values-valued (shown link)

pub titles_read_back : TitlesReadBack
titles_read_back is_done link title =
    let back = ap read (sym (append-nil (title_text is_done link title))) ∙ read_title is_done link title [] ∙ append-nil (meant_title is_done link title) in
    (ap words back ∙ words-of_title is_done link title, ap values back ∙ values-of_title is_done link title)

-- ---- what a text has

is_safe : ℕ → Bool
is_safe c = (c == 60) || ((c == 62) || ((c == 34) || (c == 39)))

all_safe : List ℕ → Bool
all_safe [] = false
all_safe (c ∷ cs) = is_safe c || all_safe cs

safe_char : (c : ℕ) → is_safe c ≡ false → IsHarmless c
unfolding is_safe
safe_char c e =
    let p = or_parts _ _ e in
    let q = or_parts _ _ p.1 in
    let r = or_parts _ _ q.1 in
    (eqb-false c 60 p.0, eqb-false c 62 q.0, eqb-false c 34 r.0, eqb-false c 39 r.1)

safe_chars : (cs : List ℕ) → all_safe cs ≡ false → All IsHarmless cs
unfolding all_safe
safe_chars [] e = All-nil IsHarmless
safe_chars (c ∷ cs) e = let p = or_parts _ _ e in All-cons IsHarmless c cs (safe_char c p.0) (safe_chars cs p.1)

HasHarmless : ℕ → Type 0
HasHarmless c = All IsHarmless (words_char c)

harmless_char : (c : ℕ) → HasHarmless c
unfolding HasHarmless all_safe is_safe
harmless_char c = by_five HasHarmless
    (safe_chars (codes "&amp;") refl) (safe_chars (codes "&lt;") refl) (safe_chars (codes "&gt;") refl) (safe_chars (codes "&quot;") refl) (safe_chars (codes "&#x27;") refl)
    (λ d n1 n2 n3 n4 n5. subst (λ t. All IsHarmless t) (sym (other_chars d n1 n2 n3 n4 n5))
    (All-cons IsHarmless (shown_char d) [] (shown_ne d 60 (omega arith) n2, shown_ne d 62 (omega arith) n3, shown_ne d 34 (omega arith) n4, shown_ne d 39 (omega arith) n5) (All-nil IsHarmless))) c

pub texts_are_harmless : TextsAreHarmless
unfolding HasHarmless
texts_are_harmless [] = All-nil IsHarmless
texts_are_harmless (c ∷ cs) = All-append IsHarmless (words_char c) (part_text Words cs) (harmless_char c) (texts_are_harmless cs)
