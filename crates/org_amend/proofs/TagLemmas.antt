-- Tags that are passed through one by one.
use Rattle.std.proofs.Common.{◌≡◌, ◌∙◌, ℕ, zero, suc, ◌+◌, ◌≤◌, Bool, true, false, inl, inr, List, [], ◌∷◌, ◌++◌, length, drop, slice_get, add-one, append_assoc, append-nil, refl, sym, ap, map, true≢false}
use Rattle.std.specs.Prelude.{not, Some, bytes_eq, codes, IsTrue, ◌↔◌}
use Rattle.std.proofs.lemmas.List.{drop_all}
use Rattle.std.proofs.lemmas.Bool.{cases_Bool}
use Rattle.std.proofs.lemmas.Slice.Eq.{bytes_eq-Decides}
use Rattle.org_amend.specs.Heads.{same_parts, tags_text}
use Rattle.org_amend.specs.WantedTags.{has_tag, kept_tags, parts_in, tag_if}
use Rattle.org_amend.proofs.EntryLemmas.{parts_are}
use Rattle.org_base.specs.Spans.{bytes_in}
use Rattle.org_base.specs.declared.span.Span.{Span}

pub cut_at : {X : Type 0} (xs : List X) (i : ℕ) (x : X) → slice_get xs i ≡ Some x → drop i xs ≡ x ∷ drop (i + 1) xs
cut_at [] i x h = absurd cc
cut_at (y ∷ ys) zero x h = let same : y ≡ x = cc in ap (λ z. z ∷ ys) same
cut_at (y ∷ ys) (suc i) x h = rw add-one (rw add-one at (cut_at ys i x h))

-- one more is kept, or isn't
pub kept_more : (removed old before after : List (List ℕ)) (whole : List (List ℕ)) (i : ℕ) (tag : List ℕ) (is_kept : Bool) → slice_get old i ≡ Some tag → is_kept ≡ not (has_tag removed tag) →
    after ≡ before ++ tag_if is_kept tag → before ++ kept_tags removed (drop i old) ≡ whole → after ++ kept_tags removed (drop (i + 1) old) ≡ whole
kept_more removed old before after whole i tag is_kept there kept is all =
    let rest = kept_tags removed (drop (i + 1) old) in
    ap (λ (t : List (List ℕ)). t ++ rest) (is ∙ ap (λ (b : Bool). before ++ tag_if b tag) kept)
    ∙ (append_assoc before (tag_if (not (has_tag removed tag)) tag) rest
    ∙ (ap (λ (t : List (List ℕ)). before ++ kept_tags removed t) (sym (cut_at old i tag there)) ∙ all))

pub kept_end : (removed old tags whole : List (List ℕ)) (i : ℕ) → length old ≤ i → tags ++ kept_tags removed (drop i old) ≡ whole → tags ≡ whole
kept_end removed old tags whole i past all =
    sym (append-nil tags) ∙ (ap (λ (t : List (List ℕ)). tags ++ kept_tags removed t) (sym (drop_all i old past)) ∙ all)

-- a tag is found, or is not the next one
pub tag_here : (tags : List (List ℕ)) (i : ℕ) (one tag : List ℕ) → slice_get tags i ≡ Some one → bytes_eq one tag ≡ true → has_tag (drop i tags) tag ≡ true
tag_here tags i one tag there same = ap (λ (t : List (List ℕ)). has_tag t tag) (cut_at tags i one there) ∙ (rw same refl)

pub tag_behind : (tags : List (List ℕ)) (i : ℕ) (one tag : List ℕ) → slice_get tags i ≡ Some one → bytes_eq one tag ≡ false → has_tag (drop (i + 1) tags) tag ≡ has_tag (drop i tags) tag
tag_behind tags i one tag there other = sym (ap (λ (t : List (List ℕ)). has_tag t tag) (cut_at tags i one there) ∙ (rw other refl))

-- one more is written
pub tag_written : (tags : List (List ℕ)) (before after whole : List ℕ) (i : ℕ) (tag : List ℕ) → slice_get tags i ≡ Some tag → after ≡ before ++ (tag ++ codes ":") → before ++ tags_text (drop i tags) ≡ whole →
    after ++ tags_text (drop (i + 1) tags) ≡ whole
tag_written tags before after whole i tag there is all =
    let rest = tags_text (drop (i + 1) tags) in
    ap (λ (t : List ℕ). t ++ rest) is
    ∙ (append_assoc before (tag ++ codes ":") rest
    ∙ (ap (λ (t : List ℕ). before ++ t) (append_assoc tag (codes ":") rest) ∙ (ap (λ (t : List (List ℕ)). before ++ tags_text t) (sym (cut_at tags i tag there)) ∙ all)))

-- parts are texts, or are not

same_itself : (line : List ℕ) (spans : List Span) → same_parts line spans (map (bytes_in line) spans) ≡ true
same_itself line [] = refl
same_itself line (s ∷ ss) = rw ((bytes_eq-Decides (bytes_in line s) (bytes_in line s)).1 refl) (same_itself line ss)

pub same_by : (line : List ℕ) (spans : List Span) (own wanted : List (List ℕ)) (is_same : Bool) → own ≡ parts_in line spans → IsTrue is_same ↔ (own ≡ wanted) → is_same ≡ same_parts line spans wanted
same_by line spans own wanted true is h =
    sym (ap (same_parts line spans) (sym (sym is ∙ h.0 refl)) ∙ same_itself line spans)
same_by line spans own wanted false is h = elim (cases_Bool (same_parts line spans wanted)) [
  | inl yes' ↦ absurd (true≢false (sym (h.1 (is ∙ parts_are line spans wanted yes'))))
  | inr no' ↦ sym no'
]
