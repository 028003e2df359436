-- Lines that are read by themselves: those of clocks, the ends of drawers and empty ones.
use Rattle.std.proofs.Common.{◌≡◌, ◌∙◌, inl, inr, ℕ, zero, suc, ◌+◌, ◌-◌, ◌==◌, not, true, false, List, [], ◌∷◌, ◌++◌, length, take, drop, refl, sym, ap, arith}
use Rattle.std.specs.Prelude.{Option, Some, None, codes, nat_eq, nat_le, slice_index}
use Rattle.std.specs.List.{prefix_len, starts_with, suffix_len}
use Rattle.std.proofs.lemmas.Bool.{cases_Bool, eqb-true}
use Rattle.std.proofs.lemmas.Bool.Decides.{Decides-eqb}
use Rattle.std.proofs.lemmas.List.{take-append-drop}
use Rattle.std.proofs.lemmas.Slice.Eq.{starts_is}
use Rattle.org_amend.proofs.ReplacedLemmas.{IsQuiet}
use Rattle.org_base.specs.Words.{first_word, is_gap, is_letter, is_space, same_word, trim_end, trim_start}
use Rattle.org_class.specs.Blocks.{begins_with, body_classes, ends_block}
use Rattle.org_class.specs.Drawers.{is_drawer_end, is_drawer_open}
use Rattle.org_class.specs.LineClass.{has_hash, line_class}
use Rattle.org_class.specs.declared.class.Class.TheVariants.{Clock, Plain}
use Rattle.org_class.proofs.HashLemmas.{small_hash}
use Rattle.org_class.proofs.MarkLemmas.{block_has_hash, comment_has_hash, setting_has_hash}
use Rattle.org_drawer.specs.Clock.{clock_of}
use Rattle.org_drawer.specs.Node.{is_node}
use Rattle.org_drawer.specs.declared.clock.ClockLine.{ClockLine}
use Rattle.org_stamp.specs.Pair.{clock_stamp, is_clock, is_empty, is_planning, past_spaces, pairs_from}
use Rattle.org_stamp.specs.Spaced.{IsGap}
use Rattle.org_stamp.specs.declared.stamp.Stamp.{Stamp}
use Rattle.org_stamp.proofs.SpacedLemmas.{drop_front, gap_front}

-- a line whose first word doesn't begin with #

pub body_line : (l : List ℕ) (ls : List (List ℕ)) → has_hash l ≡ false → body_classes None (l ∷ ls) ≡ line_class l ∷ body_classes None ls
body_line l ls no_hash = rw (block_has_hash l no_hash) refl

no_mark : (n : ℕ) (t : List ℕ) → (slice_index t 0 == 35) ≡ false → begins_with (take n t) (codes "#+END_") ≡ false
no_mark zero t e = refl
no_mark (suc n) [] e = refl
no_mark (suc n) (x ∷ t) e = rw (small_hash x e) refl

pub ends_no_block : (name l : List ℕ) → has_hash l ≡ false → ends_block name l ≡ false
ends_no_block name l no_hash = rw (no_mark (length (trim_start l) - suffix_len is_gap (trim_start l)) (trim_start l) no_hash) refl

-- a clock's line: white space, and then its word
pub record IsClockLine (line : List ℕ) : Type 0 where
  pub gap : List ℕ
  pub rest : List ℕ
  pub gap_is : IsGap gap
  pub line_is : line ≡ gap ++ (codes "CLOCK:" ++ rest)

pub clock_line_is : (line : List ℕ) → is_clock line ≡ true → IsClockLine line
clock_line_is line h = elim (cases_Bool (starts_with nat_eq (past_spaces line) (codes "CLOCK:"))) [
  | inr other ↦ absurd (let wrong : false ≡ true = rw other at h in cc)
  | inl starts ↦
      let text = past_spaces line in
      let spelled : text ≡ codes "CLOCK:" ++ drop 6 text = (starts_is Decides-eqb text (codes "CLOCK:") (starts_with nat_eq text (codes "CLOCK:")) refl).0 starts in
      record { gap = take (prefix_len is_space line) line; rest = drop 6 text; gap_is = gap_front line; line_is = sym (take-append-drop (prefix_len is_space line) line) ∙ ap (λ x. take (prefix_len is_space line) line ++ x) spelled }
]

pub clock_read_is : (line : List ℕ) (clock : ClockLine) → clock_of line ≡ Some clock → is_clock line ≡ true
clock_read_is line clock e = by (clock_stamp line) refl e
  where
    by : (o : Option Stamp) → clock_stamp line ≡ o → clock_of line ≡ Some clock → is_clock line ≡ true
    by None was e = absurd (let wrong : ◌≡◌ {A = Option ClockLine} None (Some clock) = rw was at e in cc)
    by (Some s) was e = rw was refl

gap_len : (gap rest : List ℕ) → IsGap gap → prefix_len is_gap (gap ++ (codes "CLOCK:" ++ rest)) ≡ length gap
gap_len [] rest h = refl
gap_len (b ∷ gap) rest h = elim (cases_Bool (is_space b)) [
  | inl space ↦ rw space (let more = gap_len gap rest (rw space at h) in omega (arith, more))
  | inr letter ↦ absurd (let wrong : false ≡ true = rw letter at h in cc)
]

past_gap : (line : List ℕ) (h : IsClockLine line) → trim_start line ≡ codes "CLOCK:" ++ h.rest
past_gap line h =
    ap trim_start h.line_is
    ∙ (ap (λ k. drop k (h.gap ++ (codes "CLOCK:" ++ h.rest))) (gap_len h.gap h.rest h.gap_is) ∙ drop_front h.gap (codes "CLOCK:" ++ h.rest))

no_drawer_word : (n : ℕ) (t : List ℕ) → same_word (take n (67 ∷ t)) (codes ":PROPERTIES:") ≡ false
no_drawer_word zero t = refl
no_drawer_word (suc n) t = refl

no_end_word : (n : ℕ) (t : List ℕ) → same_word (take n (67 ∷ t)) (codes ":END:") ≡ false
no_end_word zero t = refl
no_end_word (suc n) t = refl

no_colon : (n : ℕ) (t : List ℕ) → (slice_index (take n (67 ∷ t)) 0 == 58) ≡ false
no_colon zero t = refl
no_colon (suc n) t = refl

no_pairs : (gap rest : List ℕ) (at : ℕ) → IsGap gap → is_empty (pairs_from (gap ++ (codes "CLOCK:" ++ rest)) at 0) ≡ true
unfolding pairs_from
no_pairs [] rest at h = refl
no_pairs (b ∷ gap) rest at h = elim (cases_Bool (is_space b)) [
  | inl space ↦ rw space (no_pairs gap rest (at + 1) (rw space at h))
  | inr letter ↦ absurd (let wrong : false ≡ true = rw letter at h in cc)
]

pub clock_no_hash : (line : List ℕ) → is_clock line ≡ true → has_hash line ≡ false
clock_no_hash line is = let start = past_gap line (clock_line_is line is) in rw start refl

pub clock_no_end : (line : List ℕ) → is_clock line ≡ true → is_drawer_end line ≡ false
clock_no_end line is =
    let h = clock_line_is line is in
    let t = codes "CLOCK:" ++ h.rest in
    ap (λ x. same_word (trim_end x) (codes ":END:")) (past_gap line h) ∙ no_end_word (length t - suffix_len is_gap t) (drop 1 t)

pub clock_no_open : (line : List ℕ) → is_clock line ≡ true → is_drawer_open line ≡ false
clock_no_open line is =
    let h = clock_line_is line is in
    let t = codes "CLOCK:" ++ h.rest in
    ap (λ x. same_word (trim_end x) (codes ":PROPERTIES:")) (past_gap line h) ∙ no_drawer_word (length t - suffix_len is_gap t) (drop 1 t)

pub clock_no_node : (line : List ℕ) → is_clock line ≡ true → is_node line ≡ false
clock_no_node line is =
    let h = clock_line_is line is in
    let t = codes "CLOCK:" ++ h.rest in
    let byte : (slice_index (first_word line) 0 == 58) ≡ false = ap (λ x. slice_index (take (prefix_len is_letter x) x) 0 == 58) (past_gap line h) ∙ no_colon (prefix_len is_letter t) (drop 1 t) in
    elim (cases_Bool (nat_le 3 (length (first_word line)))) [ inl long ↦ rw (byte, long) refl | inr short ↦ rw (byte, short) refl ]

pub clock_no_planning : (line : List ℕ) → is_clock line ≡ true → is_planning line ≡ false
clock_no_planning line is =
    let h = clock_line_is line is in
    ap is_planning h.line_is ∙ ap not (no_pairs h.gap h.rest 0 h.gap_is)

pub clock_class : (line : List ℕ) → is_clock line ≡ true → line_class line ≡ Clock
clock_class line is = let no_hash = clock_no_hash line is in rw (comment_has_hash line no_hash, setting_has_hash line no_hash, is) refl

pub clock_quiet : (line : List ℕ) (more : List (List ℕ)) → is_clock line ≡ true → IsQuiet (line ∷ more)
clock_quiet line more is = record { plans = clock_no_planning line is; opens = clock_no_open line is; node = clock_no_node line is; ends = clock_no_end line is }

-- the end of a drawer

hash_no_end : (n : ℕ) (t : List ℕ) → same_word (take n (35 ∷ t)) (codes ":END:") ≡ false
hash_no_end zero t = refl
hash_no_end (suc n) t = refl

end_begins : (t : List ℕ) → same_word (trim_end t) (codes ":END:") ≡ true → (slice_index t 0 == 35) ≡ false
end_begins [] h = refl
end_begins (x ∷ t) h = elim (cases_Bool (x == 35)) [
  | inr other ↦ other
  | inl hash ↦
      let is : x ≡ 35 = eqb-true x 35 hash in
      let ends : same_word (trim_end (35 ∷ t)) (codes ":END:") ≡ true = ap (λ (b : ℕ). same_word (trim_end (b ∷ t)) (codes ":END:")) (sym is) ∙ h in
      absurd (let wrong : false ≡ true = sym (hash_no_end (length (35 ∷ t) - suffix_len is_gap (35 ∷ t)) t) ∙ ends in cc)
]

pub end_no_hash : (l : List ℕ) → is_drawer_end l ≡ true → has_hash l ≡ false
end_no_hash l h = end_begins (trim_start l) h

pub end_class : (l : List ℕ) → is_drawer_end l ≡ true → line_class l ≡ Plain
end_class l h =
    let no_hash = end_no_hash l h in
    elim (cases_Bool (is_clock l)) [
      | inl is ↦ absurd (let wrong : true ≡ false = sym h ∙ clock_no_end l is in cc)
      | inr other ↦ rw (comment_has_hash l no_hash, setting_has_hash l no_hash, other) refl
    ]
