-- Each part of a heading line lies within it.
use Rattle.std.proofs.Common.{◌≡◌, ℕ, ◌+◌, ◌-◌, ◌≤◌, ◌==◌, Bool, true, false, inl, inr, List, [], ◌∷◌, length, take, sym, subst, arith, length-drop, Some}
use Rattle.std.proofs.lemmas.Bool.{cases_Bool}
use Rattle.std.proofs.lemmas.List.{length-take}
use Rattle.std.proofs.lemmas.List.Elements.{All-append, All-nil, All-cons}
use Rattle.std.specs.Prelude.{IfSome}
use Rattle.std.specs.List.{All, prefix_len, suffix_len}
use Rattle.org_base.specs.Words.{trim_start, trim_end, first_word, is_letter, is_gap}
use Rattle.org_base.specs.declared.span.Span.{Span}
use Rattle.org_head.proofs.Ends.{end-length, end-stars, end-keyword, end-comment}
use Rattle.org_head.specs.declared.head.Head.{Head}
use Rattle.org_settings.specs.Settings.{FileSettings}
use Rattle.org_head.specs.Parts.{is_tag_word, is_colon, last_word}
use Rattle.org_base.specs.Spans.{IsInside}
use Rattle.org_head.specs.Tags.{span, spans_from}
use Rattle.org_head.specs.Head.{AreInside, first_part, behind_stars, behind_keyword, title_of, tags_of, head_of}
use Rattle.org_head.proofs.HeadWords.{behind_comment}

pub length-first_word : (text : List ℕ) → length (first_word text) ≤ length text
length-first_word text =
    let rest = trim_start text in
    let short = length-take (prefix_len is_letter rest) rest in
    let shorter = length-drop (prefix_len is_gap text) text in
    omega (arith, short, shorter)

pub length-trim_end : (text : List ℕ) → length (trim_end text) ≤ length text
length-trim_end text = let short = length-take (length text - suffix_len is_gap text) text in omega (arith, short)

pub length-title_of : (text : List ℕ) → length (title_of text) ≤ length text
length-title_of text = elim (cases_Bool (is_tag_word (last_word text))) [
  | inl e ↦
      let front = take (length text - length (last_word text)) text in
      let short = length-take (length text - length (last_word text)) text in
      let shorter = length-trim_end front in
      rw e (omega (arith, short, shorter))
  | inr e ↦ rw e (omega arith)
]

first_inside : (b : Bool) (line text : List ℕ) → length text ≤ length line → IfSome (first_part b (length line) text) (IsInside line)
first_inside true line text h = let short = length-first_word text in omega (arith, short, h)
first_inside false line text h = tt

span_inside : (at len : ℕ) (line : List ℕ) → at + len ≤ length line → All (IsInside line) (span at len)
span_inside at len line h = elim (cases_Bool (len == 0)) [
  | inl e ↦ rw e (All-nil (IsInside line))
  | inr e ↦ rw e (All-cons (IsInside line) (record { at = at; len = len }) [] h (All-nil (IsInside line)))
]

pub spans_inside : (at len : ℕ) (text line : List ℕ) → at + len + length text ≤ length line → All (IsInside line) (spans_from at len text)
spans_inside at len [] line h = span_inside at len line (omega arith)
spans_inside at len (b ∷ bs) line h = elim (cases_Bool (is_colon b)) [
  | inl e ↦ rw e (All-append (IsInside line) (span at len) (spans_from (at + len + 1) 0 bs) (span_inside at len line (omega arith)) (spans_inside (at + len + 1) 0 bs line (omega arith)))
  | inr e ↦ rw e (spans_inside at (len + 1) bs line (omega arith))
]

tags_inside : (at : ℕ) (text line : List ℕ) → at + length text ≤ length line → All (IsInside line) (tags_of at text)
tags_inside at text line h = elim (cases_Bool (is_tag_word (last_word text))) [
  | inl e ↦
      let tail = last_word text in
      let short = length-drop (length text - suffix_len is_letter text) text in
      rw e (spans_inside (at + (length text - length tail)) 0 tail line (omega (arith, short, h)))
  | inr e ↦ rw e (All-nil (IsInside line))
]

pub head_inside : (settings : FileSettings) (line : List ℕ) (head : Head) → head ≡ head_of settings line → AreInside line head
head_inside settings line head e =
    let left = behind_comment settings line in
    let short = end-length line left (end-comment settings line) in
    let trimmed = length-trim_end left in
    let title = length-title_of (trim_end left) in
    subst (AreInside line) (sym e) (record {
      keyword = first_inside _ line (behind_stars line) (end-length line _ (end-stars line));
      priority = first_inside _ line (behind_keyword settings line) (end-length line _ (end-keyword settings line));
      title = omega (arith, short, trimmed, title);
      tags = tags_inside (length line - length left) (trim_end left) line (omega (arith, short, trimmed));
    })

pub cookie_inside : (settings : FileSettings) (line : List ℕ) (head : Head) (cookie : Span) → head ≡ head_of settings line → head.priority ≡ Some cookie → IsInside line cookie
cookie_inside settings line head cookie e is = subst (λ o. IfSome o (IsInside line)) is (head_inside settings line head e).priority
