-- A heading line is the spelling of no other parts than those that are read.
use Rattle.std.proofs.Common.{◌≡◌, ℕ, ◌+◌, ◌-◌, ◌<◌, ◌≤◌, suc, Bool, true, false, true≢false, not, inl, inr, ◌⊎◌, List, [], ◌∷◌, ◌++◌, length, take, drop, reverse, get_or, refl, sym, ap, ◌∙◌, subst, arith, length-append, length-drop, append_assoc, Option, Some, None}
use Rattle.std.proofs.lemmas.Bool.{cases_Bool, and_parts, ltb-true}
use Rattle.std.proofs.lemmas.List.{length-take, length-replicate, reverse-append, length-reverse}
use Rattle.std.proofs.lemmas.List.Sums.{suffix_len-le-length}
use Rattle.std.proofs.lemmas.Slice.Eq.{bytes_eq-Decides}
use Rattle.std.proofs.Math.Seq.{take-append_seam, drop-append_seam}
use Rattle.std.specs.Prelude.{replicate, codes}
use Rattle.std.specs.List.{list_all, prefix_len, suffix_len}
use Rattle.org_base.specs.Words.{trim_start, trim_end, first_word, is_letter, is_gap, is_blank}
use Rattle.org_base.specs.declared.span.Span.{Span}
use Rattle.org_head.specs.declared.head.Head.{Head}
use Rattle.org_settings.specs.Settings.{FileSettings}
use Rattle.org_class.specs.Heading.{stars}
use Rattle.org_class.proofs.HeadingWords.{is_star}
use Rattle.org_head.specs.Cookie.{is_cookie}
use Rattle.org_head.specs.Parts.{is_keyword, is_comment_word, is_tag_word, last_word}
use Rattle.org_base.proofs.SpanLemmas.{bytes_taken}
use Rattle.org_base.specs.Spans.{bytes_in, IsInside}
use Rattle.org_head.specs.Head.{first_part, behind, behind_stars, behind_keyword, behind_cookie, title_of, tags_of, head_of}
use Rattle.org_head.proofs.HeadWords.{behind_comment}
use Rattle.org_head.specs.HeadParts.{Begins, StandsAt, MayBegin, MayBeComment, EndsInTags, EndsInTitle, HasParts}
use Rattle.org_head.proofs.Runs.{prefix_is, front_is, end_is, all-reverse}
use Rattle.org_head.proofs.FirstWord.{IsTrimmed, trim_start-trimmed, trimmed-trim_start}
use Rattle.org_head.proofs.TagPieces.{tags_determined}
use Rattle.org_head.proofs.Ends.{end-length, end-comment, trimmed-stars, trimmed-keyword, trimmed-cookie}
use Rattle.org_head.specs.Tags.{spans_from}

trimmed_from : (text : List ℕ) → trim_start text ≡ text → IsTrimmed text
trimmed_from text h = ap (prefix_len is_gap) (sym h) ∙ trimmed-trim_start text

-- what begins with elements that fail passes at none
fails_front : (p : ℕ → Bool) (xs ys : List ℕ) → list_all (λ x. not (p x)) xs ≡ true → 0 < length xs → prefix_len p (xs ++ ys) ≡ 0
fails_front p [] ys h k = absurd (omega (arith, k))
fails_front p (x ∷ xs) ys h k = elim (cases_Bool (p x)) [
  | inl e ↦ let both = and_parts (not (p x)) (list_all (λ y. not (p y)) xs) h in absurd (true≢false (sym both.0 ∙ ap not e))
  | inr e ↦ rw e refl
]

fails_end : (p : ℕ → Bool) (xs ys : List ℕ) → list_all (λ x. not (p x)) ys ≡ true → 0 < length ys → suffix_len p (xs ++ ys) ≡ 0
fails_end p xs ys h k =
    let count = length-reverse ys in
    ap (prefix_len p) (reverse-append xs ys) ∙ fails_front p (reverse ys) (reverse xs) (all-reverse (λ x. not (p x)) ys h) (omega (arith, k, count))

no_letters : (gap : List ℕ) → is_blank gap ≡ true → list_all (λ b. not (is_letter b)) gap ≡ true
no_letters [] h = refl
no_letters (b ∷ bs) h = let both = and_parts (is_gap b) (is_blank bs) h in rw both.0 (no_letters bs both.1)

-- no letter stands at the front of a gap and what is left after it
gap_front : (gap left : List ℕ) → is_blank gap ≡ true → (gap ≡ [] → left ≡ []) → prefix_len is_letter (gap ++ left) ≡ 0
gap_front [] left h whole = ap (prefix_len is_letter) (whole refl)
gap_front (b ∷ bs) left h whole = fails_front is_letter (b ∷ bs) left (no_letters (b ∷ bs) h) (omega arith)

gap_trimmed : (gap left : List ℕ) → is_blank gap ≡ true → trim_start left ≡ left → trim_start (gap ++ left) ≡ left
gap_trimmed gap left h next = ap (λ n. drop n (gap ++ left)) (prefix_is is_gap gap left h (trimmed_from left next)) ∙ drop-append_seam gap left

first_is : (text word left : List ℕ) → IsTrimmed text → Begins text word left → first_word text ≡ word
first_is text word left t b =
    let same = trim_start-trimmed text t ∙ b.spelled in
    let count = prefix_is is_letter word (b.gap ++ left) b.letters (gap_front b.gap left b.blank b.whole) in
    ap (λ l. take (prefix_len is_letter l) l) same ∙ ap (λ n. take n (word ++ (b.gap ++ left))) count ∙ take-append_seam word (b.gap ++ left)

left_is : (text word left : List ℕ) → IsTrimmed text → Begins text word left → left ≡ behind true text
left_is text word left t b =
    let cut : drop (length (first_word text)) text ≡ b.gap ++ left = ap (λ w. drop (length w) text) (first_is text word left t b) ∙ ap (drop (length word)) b.spelled ∙ drop-append_seam word (b.gap ++ left) in
    sym (ap trim_start cut ∙ gap_trimmed b.gap left b.blank b.next)

-- a part of the line is as long as it says
length-bytes_in : (line : List ℕ) (span : Span) → IsInside line span → length (bytes_in line span) ≡ span.len
length-bytes_in line span h =
    let short = length-take span.len (drop span.at line) in
    let rest = length-drop span.at line in
    ap length (bytes_taken line span) ∙ omega (arith, short, rest, h)

span_is : (line text : List ℕ) (span : Span) (word : List ℕ) → StandsAt line text span → bytes_in line span ≡ word → span ≡ record { at = length line - length text; len = length word }
span_is line text span word s e =
    let place = s.place in
    let at : span.at ≡ length line - length text = omega (arith, place) in
    let len : span.len ≡ length word = sym (length-bytes_in line span s.inside) ∙ ap length e in
    λ i. record { at = at i; len = len i }

part_is : (is_one : List ℕ → Bool) (line text : List ℕ) (span : Option Span) (left : List ℕ) → IsTrimmed text → MayBegin is_one line text span left → let b = is_one (first_word text) in (span ≡ first_part b (length line) text) × (left ≡ behind b text)
part_is is_one line text (Some span) left t h =
    let first = first_is text (bytes_in line span) left t h.2 in
    let yes : is_one (first_word text) ≡ true = ap is_one first ∙ h.0 in
    rw yes (ap Some (span_is line text span (first_word text) h.1 (sym first)), left_is text (bytes_in line span) left t h.2)
part_is is_one line text None left t h = rw h.0 (refl, h.1)

comment_is : (text : List ℕ) (b : Bool) (left : List ℕ) → IsTrimmed text → MayBeComment text b left → let c = is_comment_word (first_word text) in (b ≡ c) × (left ≡ behind c text)
comment_is text true left t h =
    let yes : is_comment_word (first_word text) ≡ true = (bytes_eq-Decides (first_word text) (codes "COMMENT")).1 (first_is text (codes "COMMENT") left t h) in
    rw yes (refl, left_is text (codes "COMMENT") left t h)
comment_is text false left t h = rw h.0 (refl, h.1)

-- stars
all_stars : (n : ℕ) → list_all is_star (replicate n 42) ≡ true
all_stars Prim.Native.Nat.zero = refl
all_stars (suc n) = all_stars n

space_front : (gap words : List ℕ) → get_or gap 0 0 ≡ 32 → prefix_len is_star (gap ++ words) ≡ 0
space_front [] words h = absurd (omega (arith, h))
space_front (b ∷ bs) words h = rw h refl

stars_is : (line gap words : List ℕ) (level : ℕ) → line ≡ replicate level 42 ++ (gap ++ words) → get_or gap 0 0 ≡ 32 → level ≡ stars line
stars_is line gap words level e h = sym (ap stars e ∙ prefix_is is_star (replicate level 42) (gap ++ words) (all_stars level) (space_front gap words h) ∙ length-replicate level 42)

words_is : (line gap words : List ℕ) (level : ℕ) → line ≡ replicate level 42 ++ (gap ++ words) → get_or gap 0 0 ≡ 32 → is_blank gap ≡ true → trim_start words ≡ words → words ≡ behind_stars line
words_is line gap words level e h blank next =
    let count : stars line ≡ length (replicate level 42) = sym (stars_is line gap words level e h) ∙ sym (length-replicate level 42) in
    let cut : drop (stars line) line ≡ gap ++ words = ap (λ n. drop n line) count ∙ ap (drop (length (replicate level 42))) e ∙ drop-append_seam (replicate level 42) (gap ++ words) in
    sym (ap trim_start cut ∙ gap_trimmed gap words blank next)

-- what is trimmed doesn't end in a gap
fails_from : (text : List ℕ) → trim_end text ≡ text → suffix_len is_gap text ≡ 0
fails_from text h =
    let short = suffix_len-le-length is_gap text in
    let count : length (trim_end text) ≡ length text = ap length h in
    let taken = length-take (length text - suffix_len is_gap text) text in
    omega (arith, short, count, taken)

-- title and tags of what is left
abbrev are_read : List ℕ → List ℕ → List ℕ → List Span → Type 0
are_read line left title tags = (title ≡ title_of (trim_end left)) × (tags ≡ tags_of (length line - length left) (trim_end left))

title_read : (line left title : List ℕ) (tags : List Span) → trim_end title ≡ title → EndsInTitle left title tags → are_read line left title tags
title_read line left title tags h t =
    let text : trim_end left ≡ title = ap trim_end t.spelled ∙ front_is is_gap title t.rest (fails_from title h) t.end in
    subst (λ x. (title ≡ title_of x) × (tags ≡ tags_of (length line - length left) x)) (sym text) (rw t.no_tags (refl, t.none))

gap_before : (gap title : List ℕ) → is_blank gap ≡ true → (gap ≡ [] → title ≡ []) → suffix_len is_letter (title ++ gap) ≡ 0
gap_before [] title h whole = ap (λ t. suffix_len is_letter (t ++ [])) (whole refl)
gap_before (b ∷ bs) title h whole = fails_end is_letter title (b ∷ bs) (no_letters (b ∷ bs) h) (omega arith)

tags_read : (line left title : List ℕ) (tags : List Span) → trim_end title ≡ title → length left ≤ length line → EndsInTags line left title tags → are_read line left title tags
tags_read line left title tags h short t =
    let front = title ++ t.gap in
    let text = front ++ t.word in
    let some = ltb-true 1 (length t.word) (and_parts _ _ (and_parts _ _ (and_parts _ _ (and_parts _ _ (and_parts _ _ t.are_tags).0).0).0).0).0 in
    let spelled : left ≡ text ++ t.rest =
    t.spelled ∙ sym (append_assoc title t.gap (t.word ++ t.rest)) ∙ sym (append_assoc front t.word t.rest) in
    let trimmed : trim_end left ≡ text = ap trim_end spelled ∙ front_is is_gap text t.rest (fails_end is_gap front t.word t.letters (omega (arith, some))) t.end in
    let word : last_word text ≡ t.word = end_is is_letter front t.word (gap_before t.gap title t.blank t.whole) t.letters in
    let yes : is_tag_word (last_word text) ≡ true = ap is_tag_word word ∙ t.are_tags in
    let sum = length-append front t.word in
    let count : length text - length (last_word text) ≡ length front = let n = ap length word in omega (arith, sum, n) in
    let before : trim_end (take (length text - length (last_word text)) text) ≡ title =
    ap (λ n. trim_end (take n text)) count ∙ ap trim_end (take-append_seam front t.word) ∙ front_is is_gap title t.gap (fails_from title h) t.blank in
    let sums : length left ≡ length text + length t.rest = ap length spelled ∙ length-append text t.rest in
    let place = t.place in
    let tail = length-append t.word t.rest in
    let at : t.at ≡ length line - length left + (length text - length (last_word text)) = omega (arith, sum, sums, place, tail, count, short) in
    let read : tags ≡ spans_from (length line - length left + (length text - length (last_word text))) 0 (last_word text) =
    tags_determined t.at t.word tags t.tags_at ∙ ap (λ n. spans_from n 0 t.word) at ∙ ap (spans_from (length line - length left + (length text - length (last_word text))) 0) (sym word) in
    subst (λ x. (title ≡ title_of x) × (tags ≡ tags_of (length line - length left) x)) (sym trimmed) (rw yes (sym before, read))

-- The law.
pub head_is_determined : (settings : FileSettings) (line : List ℕ) (head : Head) → HasParts settings line head → head ≡ head_of settings line
head_is_determined settings line head h =
    let level = stars_is line h.gap h.words head.level h.spelled h.space in
    let words = words_is line h.gap h.words head.level h.spelled h.space h.blank h.next in
    let keyword = part_is (is_keyword settings.keywords) line (behind_stars line) head.keyword h.from_cookie (trimmed-stars line)
    (subst (λ t. MayBegin (is_keyword settings.keywords) line t head.keyword h.from_cookie) words h.keyword) in
    let cookie = part_is is_cookie line (behind_keyword settings line) head.priority h.from_comment (trimmed-keyword settings line)
    (subst (λ t. MayBegin is_cookie line t head.priority h.from_comment) keyword.1 h.cookie) in
    let comment = comment_is (behind_cookie settings line) head.comment h.text (trimmed-cookie settings line)
    (subst (λ t. MayBeComment t head.comment h.text) cookie.1 h.comment) in
    let left = behind_comment settings line in
    let stands = subst (λ t. StandsAt line t head.title) comment.1 h.title in
    let ends = subst (λ t. EndsInTags line t (bytes_in line head.title) head.tags ⊎ EndsInTitle t (bytes_in line head.title) head.tags) comment.1 h.tags in
    let read : are_read line left (bytes_in line head.title) head.tags = elim ends [
      | inl tags ↦ tags_read line left _ head.tags h.trimmed (end-length line left (end-comment settings line)) tags
      | inr title ↦ title_read line left _ head.tags h.trimmed title
    ] in
    let title = span_is line left head.title _ stands read.0 in
    λ i. record { level = level i; keyword = keyword.0 i; priority = cookie.0 i; comment = comment.0 i; title = title i; tags = read.1 i }
