-- The parts that are read are those of which the line is the spelling.
use Rattle.std.proofs.Common.{◌≡◌, ℕ, ◌+◌, ◌-◌, ◌≤◌, ◌==◌, Bool, true, false, inl, inr, ◌⊎◌, List, [], ◌∷◌, ◌++◌, length, take, drop, get_or, refl, sym, ap, ◌∙◌, subst, arith, length-append, append_assoc, append-nil}
use Rattle.std.proofs.lemmas.Bool.{cases_Bool, and_parts, eqb-true, ltb-true}
use Rattle.std.proofs.lemmas.List.{take-append-drop, get_or-drop}
use Rattle.std.proofs.lemmas.List.Folds.{length-prefix_len}
use Rattle.std.proofs.lemmas.Slice.Eq.{bytes_eq-Decides}
use Rattle.std.proofs.Math.Numerals.{one-add}
use Rattle.std.proofs.Math.Nat.{add-zero}
use Rattle.std.proofs.Math.Seq.{take-append_seam, take-length}
use Rattle.std.specs.Prelude.{replicate, nat_lt, slice_index, codes}
use Rattle.std.specs.List.{prefix_len, suffix_len}
use Rattle.org_base.specs.Words.{trim_start, trim_end, first_word, is_letter, is_gap}
use Rattle.org_base.specs.declared.span.Span.{Span}
use Rattle.org_head.specs.declared.head.Head.{Head}
use Rattle.org_settings.specs.Settings.{FileSettings}
use Rattle.org_class.specs.Heading.{stars, begins_heading}
use Rattle.org_head.specs.Cookie.{is_cookie}
use Rattle.org_head.specs.Parts.{is_keyword, is_comment_word, is_tag_word, last_word}
use Rattle.org_base.proofs.SpanLemmas.{bytes_taken}
use Rattle.org_base.specs.Spans.{bytes_in}
use Rattle.org_head.specs.Tags.{spans_from}
use Rattle.org_head.specs.Head.{first_part, behind, behind_stars, behind_keyword, behind_cookie, title_of, tags_of, head_of}
use Rattle.org_head.proofs.HeadWords.{behind_comment}
use Rattle.org_head.specs.HeadParts.{Begins, MayBegin, MayBeComment, EndsInTags, EndsInTitle, HasParts}
use Rattle.org_head.proofs.Runs.{passes_front, fails_behind, begins_neither, ends_neither, EndRun, end_run}
use Rattle.org_head.proofs.TagPieces.{tags_hold_all}
use Rattle.org_head.proofs.FirstWord.{IsTrimmed, trim_start-trimmed, trimmed-trim_start, first_word-taken, length-first_word_is}
use Rattle.org_head.proofs.Ends.{IsEnd, end-length, end-cut, end-stars, end-keyword, end-comment, trimmed-stars, trimmed-keyword, trimmed-cookie, first_cut}
use Rattle.org_head.proofs.Inside.{length-first_word}

-- a text at whose front no gap stands begins with its first word
begins_first : (text : List ℕ) → IsTrimmed text → Begins text (first_word text) (behind true text)
begins_first text h =
    let word = first_word text in
    let rest = drop (length word) text in
    let n = prefix_len is_gap rest in
    record {
      gap = take n rest;
      spelled = sym (ap (λ r. word ++ r) (take-append-drop n rest) ∙ ap (λ w. w ++ rest) (sym (first_word-taken text h)) ∙ take-append-drop (length word) text);
      letters = passes_front is_letter (trim_start text);
      blank = passes_front is_gap rest;
      whole = λ none.
          let ends : prefix_len is_letter rest ≡ 0 = ap (λ k. prefix_len is_letter (drop k text)) (length-first_word_is text h) ∙ fails_behind is_letter text in
          let nothing : rest ≡ [] = begins_neither is_gap rest (sym (length-prefix_len is_gap rest) ∙ ap length none) ends in
          ap trim_start nothing;
      next = trim_start-trimmed (trim_start rest) (trimmed-trim_start rest);
    }

may_begin : (is_one : List ℕ → Bool) (line text : List ℕ) (b : Bool) → b ≡ is_one (first_word text) → IsEnd line text → IsTrimmed text → MayBegin is_one line text (first_part b (length line) text) (behind b text)
may_begin is_one line text true b e h =
    let cut = first_cut line text e h in
    let short = end-length line text e in
    let shorter = length-first_word text in
    (ap is_one cut ∙ sym b, record { inside = omega (arith, short, shorter); place = omega (arith, short) }, subst (λ w. Begins text w (behind true text)) (sym cut) (begins_first text h))
may_begin is_one line text false b e h = (sym b, refl)

may_be_comment : (text : List ℕ) (b : Bool) → b ≡ is_comment_word (first_word text) → IsTrimmed text → MayBeComment text b (behind b text)
may_be_comment text true b h = subst (λ w. Begins text w (behind true text)) ((bytes_eq-Decides (first_word text) (codes "COMMENT")).0 (sym b)) (begins_first text h)
may_be_comment text false b h = (sym b, refl)

-- stars
stars_are : (line : List ℕ) → take (stars line) line ≡ replicate (stars line) 42
stars_are [] = refl
stars_are (b ∷ bs) = elim (cases_Bool (b == 42)) [
  | inl e ↦ rw (eqb-true b 42 e, one-add) (ap (λ l. 42 ∷ l) (stars_are bs))
  | inr e ↦ rw e refl
]

gap_space : (rest : List ℕ) → get_or rest 0 0 ≡ 32 → get_or (take (prefix_len is_gap rest) rest) 0 0 ≡ 32
gap_space [] h = h
gap_space (b ∷ bs) h = rw (h, one-add) refl

-- a title is cut out of the line at the front of what is left
title_cut : (line left title rest : List ℕ) → IsEnd line left → left ≡ title ++ rest → bytes_in line (record { at = length line - length left; len = length title }) ≡ title
title_cut line left title rest e h = bytes_taken line (record { at = length line - length left; len = length title }) ∙ ap (take (length title)) (end-cut line left e ∙ h) ∙ take-append_seam title rest

keeps_end : (text : List ℕ) → suffix_len is_gap text ≡ 0 → trim_end text ≡ text
keeps_end text h =
    let whole : length text - suffix_len is_gap text ≡ length text = omega (arith, h) in
    ap (λ n. take n text) whole ∙ take-length text

-- what the text that the line ends in is: a title, perhaps tags, and gaps
record EndsIn (line left title : List ℕ) (tags : List Span) : Type 0 where
  rest : List ℕ
  joined : left ≡ title ++ rest
  trimmed : trim_end title ≡ title
  ends : EndsInTags line left title tags ⊎ EndsInTitle left title tags

ends_in_title : (line left text rest : List ℕ) → EndRun is_gap left text rest → is_tag_word (last_word text) ≡ false → EndsIn line left text []
ends_in_title line left text rest run e = record {
  rest = rest;
  joined = run.joined;
  trimmed = keeps_end text run.fails;
  ends = inr (record { rest = rest; spelled = run.joined; no_tags = e; end = run.passes; none = refl });
}

front_taken : (text front word : List ℕ) → text ≡ front ++ word → take (length text - length word) text ≡ front
front_taken text front word e =
    let sum : length text ≡ length front + length word = ap length e ∙ length-append front word in
    let n : length text - length word ≡ length front = omega (arith, sum) in
    ap (λ m. take m text) n ∙ ap (take (length front)) e ∙ take-append_seam front word

ends_in_tags : (line left text rest front word title gap : List ℕ) → length left ≤ length line → EndRun is_gap left text rest → EndRun is_letter text front word → EndRun is_gap front title gap → is_tag_word word ≡ true → EndsIn line left title (spans_from (length line - length left + (length text - length word)) 0 word)
ends_in_tags line left text rest front word title gap short outer middle inner e =
    let at = length line - length left + (length text - length word) in
    let spelled : left ≡ title ++ (gap ++ (word ++ rest)) =
    outer.joined ∙ ap (λ l. l ++ rest) (middle.joined ∙ ap (λ l. l ++ word) inner.joined)
    ∙ append_assoc (title ++ gap) word rest ∙ append_assoc title gap (word ++ rest) in
    let whole : gap ≡ [] → title ≡ [] = λ none.
    let same : front ≡ title = inner.joined ∙ ap (λ g. title ++ g) none ∙ append-nil title in
    ends_neither is_gap title inner.fails (ap (suffix_len is_letter) (sym same) ∙ middle.fails) in
    let sum : length left ≡ length text + length rest = ap length outer.joined ∙ length-append text rest in
    let sums : length text ≡ length front + length word = ap length middle.joined ∙ length-append front word in
    let tail = length-append word rest in
    record {
      rest = gap ++ (word ++ rest);
      joined = spelled;
      trimmed = keeps_end title inner.fails;
      ends = inl (record {
        gap = gap;
        word = word;
        rest = rest;
        at = at;
        spelled = spelled;
        blank = inner.passes;
        whole = whole;
        letters = middle.passes;
        are_tags = e;
        end = outer.passes;
        place = omega (arith, sum, sums, tail, short);
        tags_at = tags_hold_all at word;
      });
    }

ends_in : (line left : List ℕ) → length left ≤ length line → let text = trim_end left in EndsIn line left (title_of text) (tags_of (length line - length left) text)
ends_in line left short =
    let text = trim_end left in
    let word = last_word text in
    elim (cases_Bool (is_tag_word word)) [
      | inl e ↦
          let front = take (length text - suffix_len is_letter text) text in
          let middle = end_run is_letter text in
          let held = ends_in_tags line left text _ front word (trim_end front) _ short (end_run is_gap left) middle (end_run is_gap front) e in
          rw e (subst (λ f. EndsIn line left (trim_end f) (spans_from (length line - length left + (length text - length word)) 0 word)) (sym (front_taken text front word middle.joined)) held)
      | inr e ↦ rw e (ends_in_title line left text _ (end_run is_gap left) e)
    ]

pub has_parts : (settings : FileSettings) (line : List ℕ) → begins_heading line ≡ true → HasParts settings line (head_of settings line)
has_parts settings line h =
    let n = stars line in
    let rest = drop n line in
    let both = and_parts (nat_lt 0 n) (slice_index line n == 32) h in
    let left = behind_comment settings line in
    let at = length line - length left in
    let short = end-length line left (end-comment settings line) in
    let held = ends_in line left short in
    let title = title_of (trim_end left) in
    let cut = title_cut line left title held.rest (end-comment settings line) held.joined in
    let sum : length left ≡ length title + length held.rest = ap length held.joined ∙ length-append title held.rest in
    record {
      gap = take (prefix_len is_gap rest) rest;
      words = behind_stars line;
      from_cookie = behind_keyword settings line;
      from_comment = behind_cookie settings line;
      text = left;
      spelled = sym (ap (λ r. take n line ++ r) (take-append-drop (prefix_len is_gap rest) rest) ∙ take-append-drop n line) ∙ ap (λ s. s ++ (take (prefix_len is_gap rest) rest ++ behind_stars line)) (stars_are line);
      stars = ltb-true 0 n both.0;
      space = gap_space rest (get_or-drop n line 0 0 ∙ ap (λ k. get_or line k 0) (add-zero n) ∙ eqb-true (slice_index line n) 32 both.1);
      blank = passes_front is_gap rest;
      next = trim_start-trimmed (behind_stars line) (trimmed-stars line);
      keyword = may_begin (is_keyword settings.keywords) line (behind_stars line) _ refl (end-stars line) (trimmed-stars line);
      cookie = may_begin is_cookie line (behind_keyword settings line) _ refl (end-keyword settings line) (trimmed-keyword settings line);
      comment = may_be_comment (behind_cookie settings line) _ refl (trimmed-cookie settings line);
      title = record { inside = omega (arith, short, sum); place = omega (arith, short) };
      trimmed = subst (λ t. trim_end t ≡ t) (sym cut) held.trimmed;
      tags = subst (λ t. EndsInTags line left t (tags_of at (trim_end left)) ⊎ EndsInTitle left t (tags_of at (trim_end left))) (sym cut) held.ends;
    }

pub parts_hold : (settings : FileSettings) (line : List ℕ) (head : Head) → begins_heading line ≡ true → head ≡ head_of settings line → HasParts settings line head
parts_hold settings line head h e = subst (HasParts settings line) (sym e) (has_parts settings line h)
